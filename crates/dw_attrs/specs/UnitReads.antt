-- Units of a view whose entries can be read with their tables of abbreviations (DWARF 5, 7.5.2 and 7.5.3).
use Rattle.std.specs.Prelude.{ℕ, ◌<◌, ◌≤◌, ◌^◌, List, [], ◌∷◌, ◌≡◌, ⊤, length, IsTrue, Some}
use Rattle.dw_base.specs.AbbreviationTables.{Abbreviation}
use Rattle.dw_base.specs.EntryScans.{AreEntries}
use Rattle.dw_base.specs.EntryValues.{HasUnit}
use Rattle.dw_base.specs.FileViews.{View, section_bytes}
use Rattle.dw_base.specs.LineMeanings.{item_at}
use Rattle.dw_base.specs.UnitHeaders.{is_address_size}
use Rattle.dw_base.specs.ViewData.{debug_data}
use Rattle.dw_base.specs.declared.units.Scanned.{Scanned}
use Rattle.dw_base.specs.declared.units.UnitHeader.{UnitHeader}
use Rattle.dw_entries.specs.ViewUnits.{unit_section_at}
use Rattle.dw_starts.specs.LineStarts.{Rises}
use Rattle.dw_units.specs.declared.listed_unit.ListedUnit.{ListedUnit}
use Rattle.dw_attrs.specs.EntryIndexes.{IsIndexed, StandApart}
use Rattle.dw_attrs.specs.UnitValues.{UnitSource, SaidUnit, unit_bytes}

-- a unit of the view, and all its entries
pub record CanRead (v : View) (h : UnitHeader) (table : List Abbreviation) : Type 0 where
  pub unit : HasUnit (debug_data v) (unit_section_at v h.section) h
  pub short : h.end ≤ 2 ^ 31
  pub items : List Scanned
  pub entries : AreEntries h table (unit_bytes v h) items

-- the units can be read with the tables that are kept
pub record EachReads (v : View) (tables : List (List Abbreviation)) (u : ListedUnit) : Type 0 where
  pub unit : HasUnit (debug_data v) (unit_section_at v u.header.section) u.header
  pub short : u.header.end ≤ 2 ^ 31
  pub reads : (table : List Abbreviation) → item_at tables u.table ≡ Some table → CanRead v u.header table

abbrev pub AllCanRead : View → List (List Abbreviation) → List ListedUnit → Type 0
AllCanRead v tables [] = ⊤
AllCanRead v tables (u ∷ us) = EachReads v tables u × AllCanRead v tables us

pub record SourceFits (g : UnitSource) : Type 0 where
  pub units : AllCanRead g.view g.tables g.units
  pub index : IsIndexed g.view g.tables g.units g.index
  pub apart : StandApart g.units
  pub rises : Rises g.starts
  pub keys_rise : Rises g.keys

-- a unit of a section of the view, with its bytes
pub record BytesFit (v : View) (section : ℕ) (bytes : List ℕ) : Type 0 where
  pub there : section < length v.sections
  pub inside : length bytes ≤ length (section_bytes v section)

-- a unit that is printed can be read, with its bytes
pub record UnitFits (u : SaidUnit) : Type 0 where
  pub source : SourceFits u.source
  pub bytes : BytesFit u.source.view u.header.section u.bytes
  pub address : IsTrue (is_address_size u.header.params.address)
  pub small : length u.bytes ≤ 2 ^ 31
