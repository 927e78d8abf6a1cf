-- What can be read where no condition refuses it, without the value that is read: the units of a section, a table of abbreviations, a
-- value, the values of an entry, the entries of a unit, and line tables (DWARF 5, 6.2.4 and 7.5).
use Rattle.std.specs.Prelude.{◌≡◌, ◌<◌, ◌++◌, ◌∷◌, ℕ, List, Some}
use Rattle.dw_base.specs.AbbreviationTables.{Abbreviation, IsTable}
use Rattle.dw_base.specs.Cells.{CellSection, Located}
use Rattle.dw_base.specs.DebugData.{DataReadings, DebugData, ReadsAll, line_source}
use Rattle.dw_base.specs.DebugSectionFails.{DebugSectionsRead}
use Rattle.dw_base.specs.Elf.{contents_of, section_count}
use Rattle.dw_base.specs.ElfFails.{ElfReads}
use Rattle.dw_base.specs.EntryScans.{AreEntries, SpellsValues}
use Rattle.dw_base.specs.FileViews.{View, view_of}
use Rattle.dw_base.specs.LineReadings.{AreTables, LineReading}
use Rattle.dw_base.specs.MacroReadings.{ReadsAllMacros}
use Rattle.dw_base.specs.MacroUnits.{AreMacroUnits}
use Rattle.dw_base.specs.NameOffsets.{AreRead}
use Rattle.dw_base.specs.NamePieces.{ReadsNames}
use Rattle.dw_base.specs.OffsetPieces.{ReadsOffsets}
use Rattle.dw_base.specs.Readings.{Readings}
use Rattle.dw_base.specs.RelocationSectionFails.{RelocationSectionsRead}
use Rattle.dw_base.specs.StringOffsets.{AreContributions}
use Rattle.dw_base.specs.UnitHeaders.{AreUnits, IsUnit, UnitBase, UnitSection}
use Rattle.dw_base.specs.UnitTables.{IsUnitTable}
use Rattle.dw_base.specs.Values.{value_at}
use Rattle.dw_base.specs.ViewData.{string_offsets}
use Rattle.dw_base.specs.declared.debug_sections.DebugSection.TheVariants.{Info, Macro, Names, StrOffsets}
use Rattle.dw_base.specs.declared.macro_units.MacroUnit.{MacroUnit}
use Rattle.dw_base.specs.declared.name_tables.NameTable.{NameTable}
use Rattle.dw_base.specs.declared.shared.Order.{Order}
use Rattle.dw_base.specs.declared.shared.Params.{Params}
use Rattle.dw_base.specs.declared.string_offsets.Contribution.{Contribution}
use Rattle.dw_base.specs.declared.units.Scanned.{Scanned}
use Rattle.dw_base.specs.declared.units.UnitHeader.{UnitHeader}
use Rattle.dw_base.specs.declared.values.Spec.{Spec}
use Rattle.dw_base.specs.declared.values.Value.{Value}
use Rattle.dw_meaning.specs.FileFails.{ReadIsLoaded}
use Rattle.dw_meaning.specs.FileMeanings.{file_data}
use Rattle.dw_meaning.specs.RelocationFails.{RelocationsAreLoaded}

-- a unit starts at a place of a section
pub record HasUnitAt (base : UnitBase) (z : UnitSection) (start : ℕ) : Type 0 where
  pub header : UnitHeader
  pub is : IsUnit base z start header

-- units fill the section
pub record HasUnits (base : UnitBase) (z : UnitSection) : Type 0 where
  pub list : List UnitHeader
  pub are : AreUnits base z list

-- a table of abbreviations stands at a place
pub record HasTableAt (bytes : List ℕ) (start : ℕ) : Type 0 where
  pub list : List Abbreviation
  pub is : IsTable bytes start list

-- and where the header of a unit says
pub record HasUnitTable (base : UnitBase) (h : UnitHeader) : Type 0 where
  pub list : List Abbreviation
  pub is : IsUnitTable base h list

-- a value of an attribute stands at a place
pub record HasValueAt (params : Params) (x : Spec) (bytes : List ℕ) (place : ℕ) : Type 0 where
  pub value : Value
  pub is : value_at params x bytes place ≡ Some value

-- values of attributes stand from a place on
pub record HasValues (params : Params) (bytes : List ℕ) (start : ℕ) (specs : List Spec) : Type 0 where
  pub end : ℕ
  pub are : SpellsValues params bytes start specs end

-- entries fill the unit
pub record HasEntries (h : UnitHeader) (table : List Abbreviation) (bytes : List ℕ) : Type 0 where
  pub items : List Scanned
  pub are : AreEntries h table bytes items

-- the unit sections of debug data are pieces, with their tables and entries
pub record HasUnitReadings (d : DebugData) : Type 0 where
  pub units : Readings
  pub read : ReadsAll d.base 0 (d.found Info) units

-- line tables fill their section
pub record HasLines (d : DebugData) : Type 0 where
  pub lines : List LineReading
  pub are : AreTables (line_source d) lines

-- contributions of string offsets fill their section
pub record HasContributions (order : Order) (z : Located) : Type 0 where
  pub list : List Contribution
  pub are : AreContributions order z list

-- macro units fill a section
pub record HasMacroUnits (v : View) (section : ℕ) : Type 0 where
  pub list : List MacroUnit
  pub are : AreMacroUnits v section list

-- name tables fill their section, with their string offsets
pub record HasNameTables (v : View) : Type 0 where
  pub list : List NameTable
  pub are : AreRead v list

-- the parts of a file can be read, each by itself: its records, its type and sections, the relocations of those that are read, units with
-- their tables and entries, string offsets, line tables and macro units; and nothing that is read is loaded
pub record HasParts (b : List ℕ) : Type 0 where
  pub elf : ElfReads b
  pub names : DebugSectionsRead b
  pub relocations : RelocationSectionsRead (contents_of b) b
  pub unloaded : (i : ℕ) → i < section_count b → ReadIsLoaded b i → ⊥
  pub relocations_unloaded : (i : ℕ) → i < section_count b → RelocationsAreLoaded b i → ⊥
  pub units : HasUnitReadings (file_data b)
  pub offsets : HasContributions (view_of b).order (string_offsets (view_of b))
  pub lines : HasLines (file_data b)
  pub macros : (before behind : List CellSection) (z : CellSection) → (file_data b).found Macro ≡ before ++ z ∷ behind → HasMacroUnits (view_of b) z.number

-- the sections of debug data are these pieces, whatever one says of another
pub record ArePieces (d : DebugData) (r : DataReadings) : Type 0 where
  pub units : ReadsAll d.base 0 (d.found Info) r.units
  pub offsets : ReadsOffsets d.base.order (d.found StrOffsets).contents r.offsets
  pub lines : AreTables (line_source d) r.lines
  pub macros : ReadsAllMacros d.base.order (d.found Macro) r.macros
  pub names : ReadsNames d.base.order (d.found Names).contents r.names
