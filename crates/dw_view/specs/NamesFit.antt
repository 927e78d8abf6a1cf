-- What is found of the sections of a file by their names, part by part.
use Rattle.std.specs.Prelude.{false, ◌≡◌, ◌≢◌, ℕ, ◌<◌, List, get_or, IsTrue}
use Rattle.dw_base.specs.DebugSections.{is_listed, listed_number}
use Rattle.dw_base.specs.DebugSectionFails.{NameReads, IsSecond, is_active, may_repeat}
use Rattle.dw_base.specs.Elf.{name_index, nth_section, section_count, section_name}

-- the section of a number is inactive, or has a name and flags that are handled
pub record FitsAt (b : List ℕ) (i : ℕ) : Type 0 where
  pub named : IsTrue (is_active (nth_section b i)) → NameReads (section_name b i) (nth_section b i)

-- all sections are or have
pub record NamesFit (b : List ℕ) : Type 0 where
  pub all : (i : ℕ) → i < section_count b → FitsAt b i

-- the section name table is no section of debug data
pub record NamesApart (b : List ℕ) : Type 0 where
  pub apart : name_index b ≢ 0 → is_listed (section_name b (name_index b)) ≡ false

-- a section, of a number, has a listed name that only one may have
pub record IsSingle (b : List ℕ) (i : ℕ) : Type 0 where
  pub active : IsTrue (is_active (nth_section b i))
  pub listed : IsTrue (is_listed (section_name b i))
  pub single : may_repeat b (section_name b i) ≡ false

-- a section, of a number, stands below another and has the listed name of a number
pub record HasNumber (b : List ℕ) (n k i : ℕ) : Type 0 where
  pub below : i < n
  pub active : IsTrue (is_active (nth_section b i))
  pub number : listed_number (section_name b i) ≡ k

-- of each listed name that only one section may have, the number of the section below `n` that has it, 0 where none has;
-- and no two have the same
pub record IsNoted (b : List ℕ) (n : ℕ) (firsts : List ℕ) : Type 0 where
  pub sound : (k : ℕ) → get_or firsts k 0 ≢ 0 → HasNumber b n k (get_or firsts k 0)
  pub complete : (i : ℕ) → i < n → IsSingle b i → get_or firsts (listed_number (section_name b i)) 0 ≢ 0
  pub once : (i j : ℕ) → j < n → IsSecond b i j → ⊥

-- each listed name that only one section may have is that of one at most
pub record NamesOnce (b : List ℕ) : Type 0 where
  pub once : (i j : ℕ) → j < section_count b → IsSecond b i j → ⊥
