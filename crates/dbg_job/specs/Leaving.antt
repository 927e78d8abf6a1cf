-- Which files of a build root are left as they are (gABI ch. 4 "ELF Header", "Sections"; GNU debugging information in separate
-- files). The rules and their order are this project's profile.
use Rattle.std.specs.Prelude.{Bool, true, false, ◌≡◌, ℕ, zero, suc, ◌==◌, ◌&&◌, ◌||◌, nat_eq, nat_le, if◌then◌else◌, List, length}
use Rattle.std.specs.List.{starts_with}
use Rattle.dw_base.specs.Elf.{section_count, section_name}
use Rattle.dw_base.specs.ElfFails.{ElfReads}
use Rattle.dw_base.specs.Layout.{is_loaded_kind}
use Rattle.dw_base.specs.LayoutReads.{is_known_kind}
use Rattle.dw_base.specs.Numbers.{spelled}
use Rattle.dw_base.specs.SectionNames.{debug_prefix}
use Rattle.dw_base.specs.declared.elf_numbers.TheConstants.{ELFMAG}
use Rattle.dw_base.specs.declared.shared.Order.TheVariants.{Little}
use Rattle.dbg_split.specs.Droppable.{is_droppable}
use Rattle.dbg_split.specs.SplitFails.{is_link}
use Rattle.job_types.specs.declared.outcome.LeftWhy.{LeftWhy}
use Rattle.job_types.specs.declared.outcome.LeftWhy.TheVariants.{NoElf, OtherType, AlreadyLinked, NothingToStrip}

-- the file begins as an ELF file does (`EI_MAG0` to `EI_MAG3`)
unfoldable pub begins_as_elf : List ℕ → Bool
begins_as_elf b = nat_le 4 (length b) && spelled Little b 0 4 == ELFMAG

-- a number below a bound passes a test
abbrev pub some_below : (ℕ → Bool) → ℕ → Bool
some_below test zero = false
some_below test (suc n) = some_below test n || test n

-- the file has a link to a debug file
unfoldable pub has_link : List ℕ → Bool
has_link b = some_below (is_link b) (section_count b)

-- the section of a number has the name of debug data
unfoldable pub is_debug_named : List ℕ → ℕ → Bool
is_debug_named b i = starts_with nat_eq (section_name b i) debug_prefix

-- the file has something for a job to do: one that is loaded as it stands, a section that a debug file would take; a
-- relocatable one, a section of debug data
unfoldable pub has_work : List ℕ → Bool
has_work b =
    if is_loaded_kind b then some_below (is_droppable b) (section_count b) else some_below (is_debug_named b) (section_count b)

-- the file is left, for this reason: the first rule that applies
pub data IsLeft (b : List ℕ) : LeftWhy → Type 0 where
  no_elf : begins_as_elf b ≡ false → IsLeft b NoElf
  other_type : ElfReads b → is_known_kind b ≡ false → IsLeft b OtherType
  linked : ElfReads b → is_known_kind b ≡ true → has_link b ≡ true → IsLeft b AlreadyLinked
  nothing : ElfReads b → is_known_kind b ≡ true → has_link b ≡ false → has_work b ≡ false → IsLeft b NothingToStrip

-- no rule applies, and its records can be read: the file is one for a job
pub record IsTaken (b : List ℕ) : Type 0 where
  pub reads : ElfReads b
  pub kind : is_known_kind b ≡ true
  pub unlinked : has_link b ≡ false
  pub work : has_work b ≡ true
