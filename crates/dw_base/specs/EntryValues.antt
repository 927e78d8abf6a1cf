-- The values that stand in a unit, each with its attribute and its entry, and the units of debug data with their tables.
use Rattle.std.specs.Prelude.{◌≡◌, ◌≢◌, ℕ, ◌+◌, List, ◌∷◌, ◌++◌, length, take, Some}
use Rattle.dw_base.specs.AbbreviationTables.{Abbreviation, abbreviation_of}
use Rattle.dw_base.specs.Cells.{bytes_of}
use Rattle.dw_base.specs.DebugData.{DebugData}
use Rattle.dw_base.specs.EntryScans.{SpellsValues, Scans}
use Rattle.dw_base.specs.Lebs.{uleb_at}
use Rattle.dw_base.specs.UnitHeaders.{UnitSection, IsUnit, UnitsUpTo}
use Rattle.dw_base.specs.UnitTables.{IsUnitTable}
use Rattle.dw_base.specs.Values.{value_at}
use Rattle.dw_base.specs.declared.debug_sections.DebugSection.TheVariants.{Info}
use Rattle.dw_base.specs.declared.units.Scanned.{Scanned}
use Rattle.dw_base.specs.declared.units.UnitHeader.{UnitHeader}
use Rattle.dw_base.specs.declared.values.Spec.{Spec}
use Rattle.dw_base.specs.declared.values.Value.{Value}

-- a unit of debug data: the section in which it stands, with units before it that can be read
pub record HasUnit (d : DebugData) (z : UnitSection) (h : UnitHeader) : Type 0 where
  pub before : List UnitSection
  pub behind : List UnitSection
  pub sections : d.found Info ≡ before ++ z ∷ behind
  pub list : List UnitHeader
  pub start : ℕ
  pub units : UnitsUpTo d.base z list start
  pub is : IsUnit d.base z start h

-- and its abbreviations
pub record HasTable (d : DebugData) (z : UnitSection) (h : UnitHeader) (table : List Abbreviation) : Type 0 where
  pub unit : HasUnit d z h
  pub declares : IsUnitTable d.base h table

-- the bytes of a section up to the end of a unit
abbrev pub bytes_up_to : UnitSection → UnitHeader → List ℕ
bytes_up_to z h = take h.end (bytes_of z.contents)

-- a value of an attribute stands at a place of a unit, in entry `number`, whose abbreviation is `a`; what stands before it
-- in the unit can be read
pub record HasValue (h : UnitHeader) (table : List Abbreviation) (bytes : List ℕ) (number : ℕ) (a : Abbreviation) (x : Spec) (place : ℕ) (v : Value) : Type 0 where
  pub items : List Scanned
  pub start : ℕ
  pub depth : ℕ
  pub scans : Scans h table bytes items start depth
  pub nth : length items ≡ number
  pub code : ℕ
  pub size : ℕ
  pub spells : uleb_at bytes start ≡ Some (code, size)
  pub some : code ≢ 0
  pub listed : abbreviation_of table code ≡ Some a
  pub before : List Spec
  pub behind : List Spec
  pub attribute : a.specs ≡ before ++ x ∷ behind
  pub values : SpellsValues h.params bytes (start + size) before place
  pub is : value_at h.params x bytes place ≡ Some v
