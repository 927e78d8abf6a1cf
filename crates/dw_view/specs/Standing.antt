-- The search for the sections of a stripped file for which those of its debug file stand, by the numbers of their names: of each number the
-- first section that is left, and of each section the next of its name.
use Rattle.std.specs.Prelude.{Bool, true, ◌≡◌, ◌≢◌, ℕ, ◌+◌, ◌<◌, ◌≤◌, ◌==◌, ◌&&◌, if◌then◌else◌, nat_eq, List, length, get_or, Option, Some, None}
use Rattle.std.specs.HashMap.{HashMap, get}
use Rattle.dw_base.specs.Elf.{section_count}
use Rattle.dw_view.specs.PairViews.{count_below, is_counted, is_elsewhere, nth_below}

-- none where there is no value
abbrev pub flat : Option (Option ℕ) → Option ℕ
flat None = None
flat (Some o) = o

-- a map from numbers as a function
unfoldable pub heads_of : {S : Type 0} → HashMap ℕ (Option ℕ) S → ℕ → Option ℕ
heads_of m name = flat (get nat_eq m name)

-- the section of a number of a stripped file is one for which one may stand, and its name has this number; and one of a debug file stands for
-- one, and has it
unfoldable pub is_counted_numbered : List ℕ → List ℕ → ℕ → ℕ → Bool
is_counted_numbered stripped numbers name i = is_counted stripped i && get_or numbers i 0 == name

unfoldable pub is_elsewhere_numbered : List ℕ → List ℕ → ℕ → ℕ → Bool
is_elsewhere_numbered debug others name i = is_elsewhere debug i && get_or others i 0 == name

-- the section of a name that stands behind k others that one may stand for
abbrev pub nth_numbered : List ℕ → List ℕ → ℕ → ℕ → Option ℕ
nth_numbered stripped numbers name k = nth_below (is_counted_numbered stripped numbers name) k (section_count stripped)

-- how many of those below a number have a name
abbrev pub counted_before : List ℕ → List ℕ → ℕ → ℕ → ℕ
counted_before stripped numbers name j = count_below (is_counted_numbered stripped numbers name) j

-- the section for which the one of a number of the debug file stands, by the numbers of names
abbrev pub stands_by : List ℕ → List ℕ → List ℕ → List ℕ → ℕ → Option ℕ
stands_by debug stripped numbers others i =
    nth_numbered stripped numbers (get_or others i 0) (count_below (is_elsewhere_numbered debug others (get_or others i 0)) i)

unfoldable pub stand_by : List ℕ → List ℕ → List ℕ → List ℕ → ℕ → Option ℕ
stand_by debug stripped numbers others i = if is_elsewhere debug i then stands_by debug stripped numbers others i else None

-- of each name the first section from a number on, and of each section from there on the next of its name
pub record AreLeft (stripped numbers : List ℕ) (j : ℕ) (heads : ℕ → Option ℕ) (next : List (Option ℕ)) : Type 0 where
  pub heads_are : (name : ℕ) → heads name ≡ nth_numbered stripped numbers name (counted_before stripped numbers name j)
  pub size : length next ≡ section_count stripped
  pub next_are : (i : ℕ) → j ≤ i → i < section_count stripped → is_counted stripped i ≡ true
      → get_or next i None ≡ nth_numbered stripped numbers (get_or numbers i 0) (counted_before stripped numbers (get_or numbers i 0) i + 1)

-- of each section the next of its name
pub record NextAre (stripped numbers : List ℕ) (next : List (Option ℕ)) : Type 0 where
  pub size : length next ≡ section_count stripped
  pub next_are : (i : ℕ) → i < section_count stripped → is_counted stripped i ≡ true
      → get_or next i None ≡ nth_numbered stripped numbers (get_or numbers i 0) (counted_before stripped numbers (get_or numbers i 0) i + 1)

-- of each name the first section that those of the debug file below a number leave
pub record AreTaken (debug stripped numbers others : List ℕ) (i : ℕ) (heads : ℕ → Option ℕ) : Type 0 where
  pub heads_are : (name : ℕ) → heads name ≡ nth_numbered stripped numbers name (count_below (is_elsewhere_numbered debug others name) i)

-- one name has another first section
pub record HeadSet (old new : ℕ → Option ℕ) (name : ℕ) (head : Option ℕ) : Type 0 where
  pub is : (other : ℕ) → new other ≡ (if name == other then head else old other)

-- one place of a list has another value
pub record PlaceSet (old new : List (Option ℕ)) (at : ℕ) (x : Option ℕ) : Type 0 where
  pub size : length new ≡ length old
  pub here : get_or new at None ≡ x
  pub others : (i : ℕ) → i ≢ at → get_or new i None ≡ get_or old i None
