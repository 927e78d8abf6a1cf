-- Searches among paths in byte order: what stands there, what lies below a folder, and what is to be made twice.
use Rattle.std.specs.Prelude.{◌≡◌, ◌≢◌, ◌≤◌, ◌<◌, ◌+◌, ℕ, true, false, List, [], length, get_or, nat_eq, count_by, Contains}
use Rattle.std.specs.Ordering.{nat_cmp, is_lt}
use Rattle.std.specs.Cmp.Lexicographic.{slice_cmp}
use Rattle.std.specs.declared.cmp.Ordering.TheVariants.{Less, Greater}
use Rattle.std.specs.List.{starts_with, All}
use Rattle.root_paths.specs.declared.path_err.PathErr.{PathErr}
use Rattle.root_paths.specs.declared.path_err.PathErr.TheVariants as err
use Rattle.dw_base.specs.Texts.{same_text}
use Rattle.file_tree.specs.Trees.{is_below}
use Rattle.file_tree.specs.Causes.{AreInOrder}
use Rattle.root_paths.specs.NewPaths.{IsTaken, AreFree, IsTooLong}

-- no path is less than one before it
pub record Rise (paths : List (List ℕ)) : Type 0 where
  pub rises : (i j : ℕ) → i ≤ j → j < length paths → is_lt (slice_cmp nat_cmp (get_or paths j []) (get_or paths i [])) ≡ false

-- the place of a path: it stands there; or it would, behind those that are less and before those that are greater
pub data Place (paths : List (List ℕ)) (path : List ℕ) (at : ℕ) : Type 0 where
  here : at < length paths → get_or paths at [] ≡ path → Place paths path at
  between : ((i : ℕ) → i < at → i < length paths → slice_cmp nat_cmp (get_or paths i []) path ≡ Less)
      → ((i : ℕ) → at ≤ i → i < length paths → slice_cmp nat_cmp (get_or paths i []) path ≡ Greater) → Place paths path at

pub record IsPlace (paths : List (List ℕ)) (path : List ℕ) (at : ℕ) : Type 0 where
  pub place : Rise paths → Place paths path at

-- the path doesn't stand among paths in byte order
pub record Lacks (paths : List (List ℕ)) (path : List ℕ) : Type 0 where
  pub lacks : Rise paths → Contains paths path → ⊥

-- whether a path stands at a place and begins with a front
pub record BeginsAt (paths : List (List ℕ)) (front : List ℕ) (at : ℕ) : Type 0 where
  pub there : at < length paths
  pub begins : starts_with nat_eq (get_or paths at []) front ≡ true

pub record BeginsNot (paths : List (List ℕ)) (front : List ℕ) (at : ℕ) : Type 0 where
  pub begins : at < length paths → starts_with nat_eq (get_or paths at []) front ≡ false

-- the path at a place lies below the folder; none of paths in byte order does
pub record IsBelowAt (paths : List (List ℕ)) (folder : List ℕ) (at : ℕ) : Type 0 where
  pub there : at < length paths
  pub below : is_below folder (get_or paths at []) ≡ true

pub record NoneBelow (paths : List (List ℕ)) (folder : List ℕ) : Type 0 where
  pub none : Rise paths → (path : List ℕ) → Contains paths path → is_below folder path ≡ true → ⊥

-- paths in byte order have neither the path nor one below it
pub record IsClear (paths : List (List ℕ)) (path : List ℕ) : Type 0 where
  pub lacks : Lacks paths path
  pub none : NoneBelow paths path

-- a new path is clear of paths that stand, and of new ones below it
pub record IsFree (present news : List (List ℕ)) (path : List ℕ) : Type 0 where
  pub clear : IsClear present path
  pub none : NoneBelow news path

-- all new paths are; none of them lies below one that stands; and none of them is the next one
pub record AllFree (present news : List (List ℕ)) : Type 0 where
  pub free : All (IsFree present news) news

pub record NoneBelowAny (news present : List (List ℕ)) : Type 0 where
  pub none : All (NoneBelow news) present

pub record IsApartAt (paths : List (List ℕ)) (i : ℕ) : Type 0 where
  pub apart : i + 1 < length paths → get_or paths i [] ≢ get_or paths (i + 1) []

pub record AreApart (paths : List (List ℕ)) : Type 0 where
  pub apart : (i : ℕ) → i < length paths → IsApartAt paths i

-- of new paths in byte order, none is taken where paths in byte order stand
pub record FreeInOrder (present news : List (List ℕ)) : Type 0 where
  pub free : Rise news → AreInOrder present → AreFree present news

pub record FreeAmong (present news : List (List ℕ)) : Type 0 where
  pub free : AreInOrder present → AreFree present news

-- ### Ends

-- the path stands, or one below it; or a cut
pub data ClearEnds (paths : List (List ℕ)) (path : List ℕ) : PathErr → Type 0 where
  stands : Contains paths path → ClearEnds paths path (err.Taken path)
  over : {other : List ℕ} → Contains paths other → is_below path other ≡ true → ClearEnds paths path (err.Taken path)
  no_memory : ClearEnds paths path err.NoMemory

-- one of the paths lies below a folder, and is named; or a cut
pub data BelowEnds (paths : List (List ℕ)) (folder : List ℕ) : PathErr → Type 0 where
  lies : {path : List ℕ} → Contains paths path → is_below folder path ≡ true → BelowEnds paths folder (err.Taken path)
  no_memory : BelowEnds paths folder err.NoMemory

-- a new path is taken, and named; or a cut
pub data TakenEnds (present news : List (List ℕ)) : PathErr → Type 0 where
  taken : {path : List ℕ} → IsTaken present news path → TakenEnds present news (err.Taken path)
  no_memory : TakenEnds present news err.NoMemory

-- a path is to be made twice, and named; or a cut
pub data TwiceEnds (paths : List (List ℕ)) : PathErr → Type 0 where
  twice : {path : List ℕ} → 1 < count_by (same_text path) paths → TwiceEnds paths (err.Taken path)
  no_memory : TwiceEnds paths err.NoMemory

-- one of the paths is too long, and named; or a cut
pub data LongEnds (paths : List (List ℕ)) : PathErr → Type 0 where
  too_long : {path : List ℕ} {e : PathErr} → Contains paths path → IsTooLong path e → LongEnds paths e
  no_memory : LongEnds paths err.NoMemory
