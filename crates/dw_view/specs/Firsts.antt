-- For each section the first that says something of it, section by section: that holds its relocations, or the section numbers of its
-- symbols (gABI ch. 4 "Sections", `sh_link` and `sh_info`).
use Rattle.std.specs.Prelude.{Bool, true, false, ◌≡◌, ◌≢◌, ℕ, ◌<◌, List, length, get_or, IsTrue, Option, None}
use Rattle.dw_base.specs.Elf.{contents_of, section_count}
use Rattle.dw_base.specs.Notes.{first_below}
use Rattle.dw_base.specs.RelocationSectionFails.{is_read_section}
use Rattle.dw_base.specs.SectionRelocations.{RelocationSource, relocates, relocation_section, relocation_source}

-- the section of a number says it of another, and of no third
pub record IsTarget (test : ℕ → ℕ → Bool) (i t : ℕ) : Type 0 where
  pub own : test t i ≡ true
  pub others : (k : ℕ) → k ≢ t → test k i ≡ false

-- it says it of none of so many
pub record HasNoTarget (test : ℕ → ℕ → Bool) (count i : ℕ) : Type 0 where
  pub none : (t : ℕ) → t < count → test t i ≡ false

-- of each section the first of the first n that says it of that
pub record AreFirsts (test : ℕ → ℕ → Bool) (count n : ℕ) (firsts : List (Option ℕ)) : Type 0 where
  pub size : length firsts ≡ count
  pub are : (t : ℕ) → t < count → get_or firsts t None ≡ first_below (test t) n

-- no two of the first n sections hold relocations of one section that is read
pub record AreSingle (b : List ℕ) (n : ℕ) : Type 0 where
  pub single : (i j k : ℕ) → IsTrue (is_read_section b i) → j < k → k < n → relocates b i j ≡ true → relocates b i k ≡ true → ⊥

-- of each section of a file that which holds its relocations
pub record HoldersAre (b : List ℕ) (holders : List (Option ℕ)) : Type 0 where
  pub are : (t : ℕ) → t < section_count b → get_or holders t None ≡ relocation_section b t

-- such a section, with what the relocations in it are read from
abbrev pub held_source : List ℕ → ℕ → ℕ × RelocationSource
held_source b k = (k, relocation_source (contents_of b) b k)
