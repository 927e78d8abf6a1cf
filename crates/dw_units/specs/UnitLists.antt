-- The units of all sections in one list, each with the number of its table of abbreviations among those of the file; and why they aren't
-- listed (DWARF 5, 7.5.1 and 7.5.3).
use Rattle.std.specs.Prelude.{◌≡◌, ◌==◌, false, if◌then◌else◌, ℕ, ◌≤◌, ◌^◌, List, [], ◌∷◌, ◌++◌, ⊤, Option, Some}
use Rattle.dw_base.specs.AbbreviationTables.{Abbreviation, IsTable}
use Rattle.dw_base.specs.DebugData.{DebugData}
use Rattle.dw_base.specs.EntryValues.{HasUnit}
use Rattle.dw_base.specs.LineMeanings.{item_at}
use Rattle.dw_base.specs.RelocationRows.{HeaderOffsetFails, HeaderOffsetsRead}
use Rattle.dw_base.specs.UnitFails.{UnitFails}
use Rattle.dw_base.specs.UnitHeaders.{UnitSection, AreUnits}
use Rattle.dw_base.specs.UnitTables.{UnitTableFails}
use Rattle.dw_base.specs.declared.debug_sections.DebugSection.TheVariants.{Info}
use Rattle.dw_base.specs.declared.fault.Refusal.{Refusal}
use Rattle.dw_base.specs.declared.units.UnitHeader.{UnitHeader}
use Rattle.dw_units.specs.declared.listed_unit.ListedUnit.{ListedUnit}

-- all units of a file, and all tables of abbreviations that they name
pub record Units : Type 0 where
  pub units : List ListedUnit
  pub tables : List (List Abbreviation)

-- this is the table of the unit of a number
pub record IsTableOf (us : Units) (n : ℕ) (t : List Abbreviation) : Type 0 where
  pub each : (u : ListedUnit) → item_at us.units n ≡ Some u → item_at us.tables u.table ≡ Some t

-- the table of a number is that of an offset
pub record HasTableAt (d : DebugData) (tables : List (List Abbreviation)) (at number : ℕ) : Type 0 where
  pub table : List Abbreviation
  pub there : item_at tables number ≡ Some table
  pub declares : IsTable d.base.abbrevs.bytes at table

-- tables, and more behind them
pub record Grows (old new : List (List Abbreviation)) : Type 0 where
  pub more : List (List Abbreviation)
  pub is : new ≡ old ++ more

-- units of these headers, each with its table
pub record IsListed (d : DebugData) (tables : List (List Abbreviation)) (h : UnitHeader) (u : ListedUnit) : Type 0 where
  pub header_is : u.header ≡ h
  pub short : h.end ≤ 2 ^ 31
  pub here : h.elsewhere ≡ false
  pub table : HasTableAt d tables h.abbrevs u.table

abbrev pub AreListed : DebugData → List (List Abbreviation) → List UnitHeader → List ListedUnit → Type 0
AreListed d tables [] [] = ⊤
AreListed d tables [] (u ∷ us) = ⊥
AreListed d tables (h ∷ hs) [] = ⊥
AreListed d tables (h ∷ hs) (u ∷ us) = IsListed d tables h u × AreListed d tables hs us

-- the units of these sections, one after another
pub data ListsAll (d : DebugData) (tables : List (List Abbreviation)) : List UnitSection → List ListedUnit → Type 0 where
  none_listed : ListsAll d tables [] []
  more_listed : (zs : List UnitSection) (us own : List ListedUnit) (z : UnitSection) (headers : List UnitHeader) → ListsAll d tables zs us → AreUnits d.base z headers
      → HeaderOffsetsRead d.base z → AreListed d tables headers own → ListsAll d tables (zs ++ z ∷ []) (us ++ own)

-- why they aren't listed: a unit, the offset of its abbreviations for a relocation, or its table of abbreviations can't be read
pub data UnitListFails (d : DebugData) : Refusal → Type 0 where
  unit : (z : UnitSection) (before behind : List UnitSection) {r : Refusal} → d.found Info ≡ before ++ z ∷ behind → UnitFails d.base z r → UnitListFails d r
  relocation : (z : UnitSection) (before behind : List UnitSection) {r : Refusal} → d.found Info ≡ before ++ z ∷ behind → HeaderOffsetFails d.base z r
      → UnitListFails d r
  table : (z : UnitSection) (h : UnitHeader) {r : Refusal} → HasUnit d z h → UnitTableFails d.base h r → UnitListFails d r

-- units of these headers were put behind others
pub record Adds (d : DebugData) (tables : List (List Abbreviation)) (headers : List UnitHeader) (old new : List ListedUnit) : Type 0 where
  pub own : List ListedUnit
  pub listed : AreListed d tables headers own
  pub is : new ≡ old ++ own

-- those of a section
pub record AddsSection (d : DebugData) (tables : List (List Abbreviation)) (z : UnitSection) (old new : List ListedUnit) : Type 0 where
  pub headers : List UnitHeader
  pub units : AreUnits d.base z headers
  pub offsets : HeaderOffsetsRead d.base z
  pub adds : Adds d tables headers old new

-- the number of an offset is kept
pub record KeepsNumber (old new : ℕ → Option ℕ) (at number : ℕ) : Type 0 where
  pub each : (o : ℕ) → new o ≡ (if o == at then Some number else old o)
