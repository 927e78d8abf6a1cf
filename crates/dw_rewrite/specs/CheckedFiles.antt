-- What is checked of a file before its debug data is read: its records, its relocations and where its sections stand.
use Rattle.std.specs.Prelude.{false, ◌≡◌, ℕ, ◌<◌, List, IsTrue, Some, slice_index}
use Rattle.dw_base.specs.DebugSectionFails.{DebugSectionsRead}
use Rattle.dw_base.specs.DebugSections.{debug_section}
use Rattle.dw_base.specs.Elf.{contents_of, is_empty_kind, nth_section, section_count, section_name}
use Rattle.dw_base.specs.ElfFails.{ElfReads}
use Rattle.dw_base.specs.Layout.{is_alloc}
use Rattle.dw_base.specs.RelocationSectionFails.{RelocationSectionsRead}
use Rattle.dw_base.specs.SectionRelocations.{relocation_section}
use Rattle.dw_base.specs.ViewData.{is_read}
use Rattle.dw_meaning.specs.FileFails.{ReadIsLoaded}

-- the section of a number is read, and has bytes
pub record IsFilled (b : List ℕ) (i : ℕ) : Type 0 where
  pub read : IsTrue (is_read (debug_section (section_name b i)))
  pub bytes : is_empty_kind (nth_section b i) ≡ false

-- the section that holds the relocations of the one of a number isn't loaded
pub record IsHolderUnloaded (b : List ℕ) (i : ℕ) : Type 0 where
  pub unloaded : (k : ℕ) → relocation_section b i ≡ Some k → is_alloc (nth_section b k) ≡ false

-- the section of a number isn't loaded where it is read, and where it has bytes, neither is the one that holds its relocations
pub record IsUnloaded (b : List ℕ) (i : ℕ) : Type 0 where
  pub unloaded : ReadIsLoaded b i → ⊥
  pub holder : IsFilled b i → IsHolderUnloaded b i

-- the same of each section
pub record AreUnloaded (b : List ℕ) : Type 0 where
  pub each : (i : ℕ) → i < section_count b → IsUnloaded b i

-- nothing is wrong with the records of the file, its type, its relocations as far as its sections say, and where its sections stand
pub record IsChecked (b : List ℕ) : Type 0 where
  pub elf : ElfReads b
  pub bytes : (n : ℕ) → slice_index b n < 256
  pub names : DebugSectionsRead b
  pub relocations : RelocationSectionsRead (contents_of b) b
  pub fits : AreUnloaded b
