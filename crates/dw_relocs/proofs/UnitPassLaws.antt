-- Laws of a pass over the fields of units.
use Rattle.std.proofs.Common.{◌≡◌, ℕ, ◌<◌, ◌≤◌, ◌^◌, true, List, length, Result, Ok, Err, sym, subst, arith}
use Rattle.dw_base.specs.AbbreviationTables.{Abbreviation}
use Rattle.dw_base.specs.EntryScans.{EntryFails}
use Rattle.dw_base.specs.EntryValues.{HasUnit, bytes_up_to}
use Rattle.std.specs.Prelude.{IfErr, IfOk, is_some}
use Rattle.dw_base.specs.FileViews.{View, kind_at, section_bytes}
use Rattle.dw_base.specs.UnitHeaders.{IsUnit, UnitBase, UnitSection}
use Rattle.dw_base.specs.ViewData.{debug_data}
use Rattle.dw_base.specs.declared.fault.Refusal.{Refusal}
use Rattle.dw_base.specs.declared.units.UnitHeader.{UnitHeader}
use Rattle.dw_entries.specs.ViewUnits.{IsUnitSection, unit_section_at}
use Rattle.dw_entries.proofs.HasUnitLaws.{is-unit_section, unit-of-view, unit-section}
use Rattle.dw_entries.proofs.UnitSectionLaws.{is-of-view}
use Rattle.dw_meaning.proofs.ScanSectionLaws.{header-placed}
use Rattle.dw_relocs.specs.FieldWalks.{Goes, Ground}
use Rattle.dw_relocs.specs.UnitFields.{entries_fields, front_fields}
use Rattle.dw_relocs.specs.UnitPasses.{EntriesPassed, UnitPassed}
use Rattle.dw_relocs.specs.declared.marks.Marks.{Marks}
use Rattle.dw_relocs.proofs.FrontFieldLaws.{front-field}
use Rattle.dw_relocs.proofs.WalkLaws.{goes-more}

-- a unit of a view stands where its header says, in its section
pub unit-is : (v : View) (h : UnitHeader) → HasUnit (debug_data v) (unit_section_at v h.section) h
    → IsUnit (debug_data v).base (unit_section_at v h.section) h.start h
unit-is v h u =
    subst (λ (n : ℕ). IsUnit (debug_data v).base (unit_section_at v h.section) n h)
    (sym (header-placed (debug_data v).base (unit_section_at v h.section) u.start h u.is.header).start_is) u.is

pub unit-there : (v : View) (h : UnitHeader) → HasUnit (debug_data v) (unit_section_at v h.section) h → h.section < length v.sections
unit-there v h u = (unit-of-view v h u).there

pub unit-first : (v : View) (h : UnitHeader) → HasUnit (debug_data v) (unit_section_at v h.section) h → h.first ≤ length (section_bytes v h.section)
unit-first v h u =
    let of = unit-of-view v h u in
    let ends = of.ends in
    let within = of.within in
    omega (arith, ends, within)

-- its section is one that is read
pub unit-of : (v : View) (h : UnitHeader) → HasUnit (debug_data v) (unit_section_at v h.section) h → IsUnitSection v h.section
unfolding debug_data
unit-of v h u =
    subst (IsUnitSection v) (sym (unit-section (debug_data v).base (unit_section_at v h.section) u.start h u.is.header))
    (is-unit_section v u.before u.behind (unit_section_at v h.section) u.sections)

pub unit-read : (v : View) (h : UnitHeader) → HasUnit (debug_data v) (unit_section_at v h.section) h → is_some (kind_at v h.section) ≡ true
unit-read v h u = (is-of-view v h.section (unit-of v h u)).read

pub unit-room : (v : View) (h : UnitHeader) → HasUnit (debug_data v) (unit_section_at v h.section) h → length (section_bytes v h.section) ≤ 2 ^ 31 → h.start ≤ 2 ^ 31
unit-room v h u small =
    let f = front-field (debug_data v).base (unit_section_at v h.section) h.start h (unit-is v h u) in
    let room = f.room in
    let first = unit-first v h u in
    omega (arith, room, first, small)

-- the header's field, and those of the entries
pub unit-passed : (g : Ground) (base : UnitBase) (z : UnitSection) (h : UnitHeader) (table : List Abbreviation) (p q r : Result Marks Refusal)
    → Goes g h.start h.first (front_fields base z h.start) p q → EntriesPassed g h table (bytes_up_to z h) q r → UnitPassed g base z h table p r
unit-passed g base z h table p q r front entries = record {
  items = entries.items;
  entries = entries.entries;
  goes = goes-more g h.start h.first h.first h.end (front_fields base z h.start) (entries_fields h.params table (bytes_up_to z h) 0 entries.items) p q r
      (omega arith) front entries.goes;
}

pub all-passed : (g : Ground) (base : UnitBase) (z : UnitSection) (h : UnitHeader) (table : List Abbreviation) (bytes : List ℕ) (p q : Result Marks Refusal)
    (x : Result (Result Marks Refusal) Refusal) → bytes ≡ bytes_up_to z h → Goes g h.start h.first (front_fields base z h.start) p q
    → IfOk x (λ r. EntriesPassed g h table bytes q r) → IfOk x (λ r. UnitPassed g base z h table p r)
all-passed g base z h table bytes p q (Ok r) same front entries =
    unit-passed g base z h table p q r front (subst (λ (bs : List ℕ). EntriesPassed g h table bs q r) same entries)
all-passed g base z h table bytes p q (Err r) same front entries = tt

pub all-refused : (h : UnitHeader) (table : List Abbreviation) (bytes own : List ℕ) (x : Result (Result Marks Refusal) Refusal) → bytes ≡ own
    → IfErr x (EntryFails h table bytes) → IfErr x (EntryFails h table own)
all-refused h table bytes own (Ok r) same fails = tt
all-refused h table bytes own (Err r) same fails = subst (λ (bs : List ℕ). EntryFails h table bs r) same fails
