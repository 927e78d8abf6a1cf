-- Why a file isn't edited, whatever the map: its records, its sections, and its debug data. Each row names a condition that holds, and its
-- place.
use Rattle.std.specs.Prelude.{true, false, ◌≡◌, ℕ, ◌<◌, List, ◌∷◌, ◌++◌, IsTrue}
use Rattle.dw_meaning.specs.DataFails.{DataFails, TextFails, SlotTextFails, LinesFail, StartsFail}
use Rattle.dw_base.specs.Cells.{CellSection}
use Rattle.dw_base.specs.DebugSectionFails.{DebugSectionsFail}
use Rattle.dw_base.specs.DebugSections.{debug_section}
use Rattle.dw_base.specs.Elf.{nth_section, section_count, section_name, is_empty_kind}
use Rattle.dw_base.specs.ElfFails.{ElfFails, ElfReads}
use Rattle.dw_meaning.specs.FileMeanings.{file_data}
use Rattle.dw_meaning.specs.RelocationFails.{RelocationsAreLoaded, RelocationsFail}
use Rattle.dw_base.specs.FileViews.{view_of}
use Rattle.dw_base.specs.Layout.{is_alloc}
use Rattle.dw_base.specs.MacroFails.{MacroUnitsFail}
use Rattle.dw_base.specs.NameTableFails.{NameTablesFail}
use Rattle.dw_base.specs.Refusals.{at}
use Rattle.dw_base.specs.StringOffsetFails.{ContributionsFail}
use Rattle.dw_base.specs.ViewData.{is_read, string_offsets}
use Rattle.dw_base.specs.declared.debug_sections.DebugSection.TheVariants.{Macro}
use Rattle.dw_base.specs.declared.fault.Kind.TheVariants.{Fixed}
use Rattle.dw_base.specs.declared.fault.Refusal.{Refusal}

-- a section that is read, of a number, is ALLOC and has bytes (gABI ch. 4 "Sections", `sh_flags`)
pub record ReadIsLoaded (b : List ℕ) (i : ℕ) : Type 0 where
  pub read : IsTrue (is_read (debug_section (section_name b i)))
  pub bytes : is_empty_kind (nth_section b i) ≡ false
  pub alloc : is_alloc (nth_section b i) ≡ true

-- every row that doesn't ask for the map
pub data FileFails (b : List ℕ) : Refusal → Type 0 where
  elf : {r : Refusal} → ElfFails b r → FileFails b r
  sections : {r : Refusal} → ElfReads b → DebugSectionsFail b r → FileFails b r
  loaded : (i : ℕ) → ElfReads b → i < section_count b → ReadIsLoaded b i → FileFails b (at Fixed i 0)
  units : {r : Refusal} → ElfReads b → DataFails (file_data b) r → FileFails b r
  texts : {r : Refusal} → ElfReads b → TextFails (file_data b) r → FileFails b r
  string_tables : {r : Refusal} → ElfReads b → ContributionsFail (view_of b).order (string_offsets (view_of b)) r → FileFails b r
  slots : {r : Refusal} → ElfReads b → SlotTextFails (file_data b) r → FileFails b r
  lines : {r : Refusal} → ElfReads b → LinesFail (file_data b) r → FileFails b r
  macros : (z : CellSection) (before behind : List CellSection) {r : Refusal} → ElfReads b → (file_data b).found Macro ≡ before ++ z ∷ behind
      → MacroUnitsFail (view_of b) z.number r → FileFails b r
  starts : {r : Refusal} → ElfReads b → StartsFail (file_data b) r → FileFails b r
  name_tables : {r : Refusal} → ElfReads b → NameTablesFail (view_of b) r → FileFails b r
  relocations : {r : Refusal} → ElfReads b → RelocationsFail b r → FileFails b r
  loaded_relocations : (i : ℕ) → ElfReads b → i < section_count b → RelocationsAreLoaded b i → FileFails b (at Fixed i 0)
