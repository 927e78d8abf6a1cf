-- A pass over the fields of a unit's entries, while they are scanned.
use Rattle.std.specs.Prelude.{Bool, false, ◌≡◌, ℕ, ◌+◌, ⊤, List, [], ◌∷◌, length, take, drop, Some, Result}
use Rattle.dw_base.specs.AbbreviationTables.{Abbreviation}
use Rattle.dw_base.specs.DebugData.{DebugData}
use Rattle.dw_base.specs.EntryScans.{AreEntries, IsEntry}
use Rattle.dw_base.specs.EntryValues.{bytes_up_to}
use Rattle.dw_base.specs.Forms.{kind_in}
use Rattle.dw_base.specs.RelocationRows.{FieldPlace}
use Rattle.dw_base.specs.UnitHeaders.{IsUnit, UnitBase, UnitSection}
use Rattle.dw_base.specs.UnitTables.{IsUnitTable}
use Rattle.dw_base.specs.Values.{value_at, value_size}
use Rattle.dw_base.specs.declared.fault.Refusal.{Refusal}
use Rattle.dw_base.specs.declared.shared.Params.{Params}
use Rattle.dw_base.specs.declared.units.Scanned.{Scanned}
use Rattle.dw_base.specs.declared.units.UnitHeader.{UnitHeader}
use Rattle.dw_base.specs.declared.values.Spec.{Spec}
use Rattle.dw_entries.specs.ScanStates.{HasGiven, ScanState}
use Rattle.dw_relocs.specs.FieldWalks.{Goes, Ground}
use Rattle.dw_relocs.specs.LeftChecks.{UnitsHold}
use Rattle.dw_relocs.specs.UnitFields.{UnitsFields, entries_fields, fields_of_kind, one_fields}
use Rattle.dw_relocs.specs.declared.marks.Marks.{Marks}

-- the value of an attribute at a place has been passed, up to where it ends
pub record ValuePassed (g : Ground) (params : Params) (x : Spec) (bytes : List ℕ) (start : Bool) (place to : ℕ) (p q : Result Marks Refusal) : Type 0 where
  pub size : ℕ
  pub value : value_size (value_at params x bytes place) ≡ Some size
  pub behind : to ≡ place + size
  pub goes : Goes g place to (fields_of_kind (kind_in params x.form) params bytes start place) p q

-- an entry that a scan gave stands there
pub record IsGiven (params : Params) (table : List Abbreviation) (bytes : List ℕ) (e : Scanned) : Type 0 where
  pub abbreviation : Abbreviation
  pub entry : IsEntry params table bytes e.offset abbreviation e.after

-- where the last of entries ends; the first place, where there is none
abbrev pub end_of : ℕ → List Scanned → ℕ
end_of first [] = first
end_of first (e ∷ es) = end_of e.after es

-- where a scan stands: it gave these entries, whose fields have been passed
pub record EntriesSo (g : Ground) (h : UnitHeader) (table : List Abbreviation) (bytes : List ℕ) (s : ScanState) (number : ℕ) (p q : Result Marks Refusal) : Type 0 where
  pub items : List Scanned
  pub given : HasGiven s items
  pub unit_is : s.unit ≡ h
  pub table_is : s.table ≡ table
  pub bytes_are : s.bytes ≡ bytes
  pub running : s.over ≡ false
  pub count : number ≡ length items
  pub goes : Goes g h.first (end_of h.first items) (entries_fields h.params table bytes 0 items) p q

-- all entries of a unit have been passed
pub record EntriesPassed (g : Ground) (h : UnitHeader) (table : List Abbreviation) (bytes : List ℕ) (p q : Result Marks Refusal) : Type 0 where
  pub items : List Scanned
  pub entries : AreEntries h table bytes items
  pub goes : Goes g h.first h.end (entries_fields h.params table bytes 0 items) p q

-- a unit has been passed: its header's field, and those of its entries
pub record UnitPassed (g : Ground) (base : UnitBase) (z : UnitSection) (h : UnitHeader) (table : List Abbreviation) (p q : Result Marks Refusal) : Type 0 where
  pub items : List Scanned
  pub entries : AreEntries h table (bytes_up_to z h) items
  pub goes : Goes g h.start h.end (one_fields base z h.start h table items) p q

-- units stand one after another from a place on, up to the section's end
abbrev pub UnitsFrom : UnitBase → UnitSection → List UnitHeader → ℕ → Type 0
UnitsFrom base z [] place = place ≡ length z.contents
UnitsFrom base z (h ∷ hs) place = IsUnit base z place h × UnitsFrom base z hs h.end

-- the first of units have been passed, with their fields, and those that are left
pub record UnitsSo (g : Ground) (base : UnitBase) (z : UnitSection) (units : List UnitHeader) (i : ℕ) (p q : Result Marks Refusal) : Type 0 where
  pub place : ℕ
  pub fs : List FieldPlace
  pub fields : UnitsFields base z (take i units) place fs
  pub from : UnitsFrom base z (drop i units) place
  pub goes : Goes g 0 place fs p q

-- all units of a section have been passed
pub record UnitsPassed (g : Ground) (base : UnitBase) (z : UnitSection) (p q : Result Marks Refusal) : Type 0 where
  pub list : List UnitHeader
  pub fs : List FieldPlace
  pub fields : UnitsFields base z list (length z.contents) fs
  pub goes : Goes g 0 (length z.contents) fs p q

-- one of them has been passed, with its table
pub record OnePassed (g : Ground) (base : UnitBase) (z : UnitSection) (h : UnitHeader) (p q : Result Marks Refusal) : Type 0 where
  pub table : List Abbreviation
  pub is : IsUnitTable base h table
  pub passed : UnitPassed g base z h table p q

-- the first unit sections of these numbers have been looked at
abbrev pub SectionsHold : DebugData → List ℕ → List UnitSection → Type 0
SectionsHold d moving [] = ⊤
SectionsHold d moving (z ∷ zs) = UnitsHold d moving z × SectionsHold d moving zs
