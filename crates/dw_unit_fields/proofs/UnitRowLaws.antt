-- The units of a view: what is known of one, and its rows.
use Rattle.std.proofs.Common.{true, ◌≡◌, ℕ, ◌+◌, ◌-◌, ◌<◌, ◌≤◌, List, length, get_or, Some, sym, ap, ◌∙◌, subst, arith}
use Rattle.dw_base.specs.AbbreviationTables.{Abbreviation}
use Rattle.dw_meaning.specs.DataFails.DataFails.{unit as unit_fails, table as table_fails}
use Rattle.dw_base.specs.Cells.{Cell}
use Rattle.dw_base.specs.DebugData.{DebugData}
use Rattle.dw_base.specs.EntryValues.{HasUnit, bytes_up_to}
use Rattle.dw_base.specs.FileViews.{View, view_cells}
use Rattle.dw_base.specs.Refusals.{Blames}
use Rattle.dw_base.specs.UnitHeaders.{UnitSection}
use Rattle.dw_base.specs.UnitTables.{IsUnitTable}
use Rattle.dw_base.specs.ViewData.{debug_data, unit_sections}
use Rattle.dw_base.specs.declared.debug_sections.DebugSection.TheVariants.{Info}
use Rattle.dw_base.specs.declared.fault.Fault.{Fault}
use Rattle.dw_base.specs.declared.fault.Refusal.{Refusal}
use Rattle.dw_base.specs.declared.units.UnitHeader.{UnitHeader}
use Rattle.dw_entries.specs.Fronts.{IsOfView}
use Rattle.dw_entries.specs.ViewUnits.{IsUnitSection, numbered, unit_section_at}
use Rattle.dw_entries.proofs.UnitSectionLaws.{is-of-view}
use Rattle.dw_units.specs.UnitLists.{UnitListFails, Units, relocation as list_relocation, table as list_table, unit as list_unit}
use Rattle.dw_units.specs.UnitStretches.{IsStretch, headers_of, stretch_of}
use Rattle.dw_units.specs.declared.listed_unit.ListedUnit.{ListedUnit}
use Rattle.dw_units.proofs.StretchLaws.{stretch-header, stretch-length}
use Rattle.dw_unit_fields.specs.EntryTexts.{Tables, TextTables, FoundTexts, no_paths, none_found}
use Rattle.dw_unit_fields.specs.NamedSlots.{Slots, TakesIndexes}
use Rattle.dw_unit_fields.specs.TextPlaces.{base_source, number_said, said_placed}
use Rattle.dw_unit_fields.specs.UnitTexts.{OneTaken, ScanTaken, SectionIndexed, UnitRefuses, UnitsRefuse, data_fails, header_fails, tables_of, texts_of}
use Rattle.dw_base.proofs.HeaderOfLaws.{header-of}
use Rattle.dw_unit_fields.proofs.RowLaws.{unit-row}
use Rattle.dw_unit_fields.proofs.SectionTextLaws.{SectionPass, section-starts, section-more, section-ends, unit-there}

unit-section : (d : DebugData) (z : UnitSection) (h : UnitHeader) → HasUnit d z h → h.section ≡ z.number
unit-section d z h u = (header-of d.base z u.start h u.is.header).section

-- the section of a unit of a view is the one of its number
data-numbered : (v : View) (i : ℕ) (z : UnitSection) → numbered (unit_sections v) i ≡ Some z → numbered ((debug_data v).found Info) i ≡ Some z
unfolding debug_data
data-numbered v i z e = e

-- the texts of a unit section of a view
pub tables-are : (v : View) (i : ℕ) (t : TextTables) → IsUnitSection v i → t ≡ texts_of (debug_data v)
    → record { order = v.order; number = i; cells = view_cells v i; str = t.str; line_str = t.line_str } ≡ tables_of (debug_data v) (unit_section_at v i)
unfolding debug_data
tables-are v i t there same =
    let of : IsOfView v i (unit_section_at v i) = is-of-view v i there in
    ap (λ (n : ℕ). record { order = v.order; number = n; cells = view_cells v i; str = t.str; line_str = t.line_str }) (sym of.number)
    ∙ ap (λ (cs : List Cell). record { order = v.order; number = (unit_section_at v i).number; cells = cs; str = t.str; line_str = t.line_str }) (sym of.contents)
    ∙ ap (λ (y : TextTables). record { order = v.order; number = (unit_section_at v i).number; cells = (unit_section_at v i).contents; str = y.str; line_str = y.line_str }) same

pub section-within : (v : View) (i : ℕ) → IsUnitSection v i → i < length v.sections
section-within v i there = (is-of-view v i there).there

-- units that aren't listed
pub list-refuses : (d : DebugData) (r : Refusal) → UnitListFails d r → UnitsRefuse d r
list-refuses d r (list_unit z before behind split f) = data_fails (unit_fails z before behind split f)
list-refuses d r (list_relocation z before behind split f) = header_fails before behind z split f
list-refuses d r (list_table z h u f) = data_fails (table_fails z h u f)

-- a unit that can't be taken
pub one-row : (d : DebugData) (z : UnitSection) (h : UnitHeader) (t : Tables) (table : List Abbreviation) (f : Fault) → HasUnit d z h → t ≡ tables_of d z
    → IsUnitTable d.base h table → Blames (UnitRefuses t h table (bytes_up_to z h)) f → Blames (UnitsRefuse d) f
one-row d z h t table f u same declares b =
    unit-row d z h table f (record { unit = u; declares = declares }) (unit-section d z h u)
    (subst (λ (x : Tables). Blames (UnitRefuses x h table (bytes_up_to z h)) f) same b)

pub one-taken : (d : DebugData) (z : UnitSection) (h : UnitHeader) (t : Tables) (table : List Abbreviation) (old found new : FoundTexts) (before now : Slots) → t ≡ tables_of d z
    → IsUnitTable d.base h table → ScanTaken t h table (bytes_up_to z h) old found → said_placed (base_source d) z.contents found.base ≡ true
    → TakesIndexes h.section (number_said (base_source d) z.contents found.base) found.indexes before now → new ≡ none_found found.paths → OneTaken d z h old new before now
one-taken d z h t table old found new before now same declares s placed slots ends = record {
  table = table;
  declares = declares;
  found = found;
  scan = subst (λ (x : Tables). ScanTaken x h table (bytes_up_to z h) old found) same s;
  placed = placed;
  slots = slots;
  ends = ends;
}

pub ruleset one_rules = (one-taken)

-- the next unit of a section of a view, and its section
own-unit : (v : View) (section : ℕ) (list : List UnitHeader) (i : ℕ) (found : FoundTexts) (first now : Slots) (h : UnitHeader) → IsUnitSection v section → i < length list
    → h ≡ get_or list i h → SectionPass (debug_data v) (unit_section_at v section) list i found first now → HasUnit (debug_data v) (unit_section_at v section) h
own-unit v section list i found first now h there lt is p =
    unit-there (debug_data v) (unit_section_at v section) list i section found first now h (data-numbered v section (unit_section_at v section) there) lt is p

own-section : (v : View) (section : ℕ) (h : UnitHeader) → IsUnitSection v section → HasUnit (debug_data v) (unit_section_at v section) h → h.section ≡ section
own-section v section h there u = unit-section (debug_data v) (unit_section_at v section) h u ∙ (is-of-view v section there).number

-- one unit more of a section of a view
pub units-more : (v : View) (section : ℕ) (list : List UnitHeader) (i : ℕ) (old new : FoundTexts) (first now next_slots : Slots) (h : UnitHeader) → IsUnitSection v section
    → i < length list → h ≡ get_or list i h → SectionPass (debug_data v) (unit_section_at v section) list i old first now
    → OneTaken (debug_data v) (unit_section_at v h.section) h old new now next_slots
    → SectionPass (debug_data v) (unit_section_at v section) list (i + 1) new first next_slots
units-more v section list i old new first now next_slots h there lt is p one =
    let z : UnitSection = unit_section_at v section in
    let u : HasUnit (debug_data v) (unit_section_at v section) h = own-unit v section list i old first now h there lt is p in
    let own : OneTaken (debug_data v) (unit_section_at v section) h old new now next_slots =
    subst (λ (n : ℕ). OneTaken (debug_data v) (unit_section_at v n) h old new now next_slots) (own-section v section h there u) one in
    section-more (debug_data v) (unit_section_at v section) list i old new h first now next_slots lt is
    (unit-section (debug_data v) (unit_section_at v section) h u) p own

-- the next unit of a section of a view
pub units-there : (v : View) (section : ℕ) (list : List UnitHeader) (i : ℕ) (found : FoundTexts) (first now : Slots) (h : UnitHeader) → IsUnitSection v section → i < length list
    → h ≡ get_or list i h → SectionPass (debug_data v) (unit_section_at v section) list i found first now → HasUnit (debug_data v) (unit_section_at v h.section) h
units-there v section list i found first now h there lt is p =
    let u : HasUnit (debug_data v) (unit_section_at v section) h = own-unit v section list i found first now h there lt is p in
    subst (λ (n : ℕ). HasUnit (debug_data v) (unit_section_at v n) h) (sym (own-section v section h there u)) u

-- and its texts
pub units-tables : (v : View) (section : ℕ) (list : List UnitHeader) (i : ℕ) (found : FoundTexts) (first now : Slots) (h : UnitHeader) (x : TextTables) (t : Tables) → IsUnitSection v section
    → i < length list → h ≡ get_or list i h → SectionPass (debug_data v) (unit_section_at v section) list i found first now → x ≡ texts_of (debug_data v)
    → t ≡ record { order = v.order; number = section; cells = view_cells v section; str = x.str; line_str = x.line_str }
    → t ≡ tables_of (debug_data v) (unit_section_at v h.section)
units-tables v section list i found first now h x t there lt is p same made =
    let u : HasUnit (debug_data v) (unit_section_at v section) h = own-unit v section list i found first now h there lt is p in
    made ∙ tables-are v section x there same ∙ ap (λ (n : ℕ). tables_of (debug_data v) (unit_section_at v n)) (sym (own-section v section h there u))

-- those of a stretch, by their numbers among all
pub stretch-starts : (v : View) (section : ℕ) (us : Units) (first end : ℕ) (found : FoundTexts) (now : Slots) → IsUnitSection v section
    → IsStretch (debug_data v) us (unit_section_at v section) first end → found ≡ none_found (no_paths section)
    → SectionPass (debug_data v) (unit_section_at v section) (headers_of (stretch_of us.units first end)) (first - first) found now now
stretch-starts v section us first end found now there s is =
    let none : 0 ≡ first - first = omega arith in
    subst (λ (k : ℕ). SectionPass (debug_data v) (unit_section_at v section) (headers_of (stretch_of us.units first end)) k found now now) none
    (section-starts (debug_data v) (unit_section_at v section) (headers_of (stretch_of us.units first end)) found now s.offsets s.units
    (is ∙ ap (λ (n : ℕ). none_found (no_paths n)) (sym (is-of-view v section there).number)))

pub stretch-there : (v : View) (section : ℕ) (us : Units) (first end n : ℕ) (u : ListedUnit) (found : FoundTexts) (old now : Slots) → IsUnitSection v section
    → IsStretch (debug_data v) us (unit_section_at v section) first end → first ≤ n → n < end → u ≡ get_or us.units n u
    → SectionPass (debug_data v) (unit_section_at v section) (headers_of (stretch_of us.units first end)) (n - first) found old now
    → HasUnit (debug_data v) (unit_section_at v u.header.section) u.header
stretch-there v section us first end n u found old now there s from lt is p =
    let size = stretch-length us.units first end s.rises s.inside in
    units-there v section (headers_of (stretch_of us.units first end)) (n - first) found old now u.header there (omega (arith, size, from, lt)) (stretch-header us.units first end n u from lt is) p

pub stretch-tables : (v : View) (section : ℕ) (us : Units) (first end n : ℕ) (u : ListedUnit) (found : FoundTexts) (old now : Slots) (x : TextTables) (t : Tables) → IsUnitSection v section
    → IsStretch (debug_data v) us (unit_section_at v section) first end → first ≤ n → n < end → u ≡ get_or us.units n u
    → SectionPass (debug_data v) (unit_section_at v section) (headers_of (stretch_of us.units first end)) (n - first) found old now → x ≡ texts_of (debug_data v)
    → t ≡ record { order = v.order; number = section; cells = view_cells v section; str = x.str; line_str = x.line_str }
    → t ≡ tables_of (debug_data v) (unit_section_at v u.header.section)
stretch-tables v section us first end n u found old now x t there s from lt is p same made =
    let size = stretch-length us.units first end s.rises s.inside in
    units-tables v section (headers_of (stretch_of us.units first end)) (n - first) found old now u.header x t there (omega (arith, size, from, lt))
    (stretch-header us.units first end n u from lt is) p same made

pub stretch-more : (v : View) (section : ℕ) (us : Units) (first end n : ℕ) (u : ListedUnit) (found new : FoundTexts) (old now next_slots : Slots) → IsUnitSection v section
    → IsStretch (debug_data v) us (unit_section_at v section) first end → first ≤ n → n < end → u ≡ get_or us.units n u
    → SectionPass (debug_data v) (unit_section_at v section) (headers_of (stretch_of us.units first end)) (n - first) found old now
    → OneTaken (debug_data v) (unit_section_at v u.header.section) u.header found new now next_slots
    → SectionPass (debug_data v) (unit_section_at v section) (headers_of (stretch_of us.units first end)) (n + 1 - first) new old next_slots
stretch-more v section us first end n u found new old now next_slots there s from lt is p one =
    let size = stretch-length us.units first end s.rises s.inside in
    let next : (n - first) + 1 ≡ n + 1 - first = omega (arith, from) in
    subst (λ (k : ℕ). SectionPass (debug_data v) (unit_section_at v section) (headers_of (stretch_of us.units first end)) k new old next_slots) next
    (units-more v section (headers_of (stretch_of us.units first end)) (n - first) found new old now next_slots u.header there (omega (arith, size, from, lt))
    (stretch-header us.units first end n u from lt is) p one)

pub stretch-ends : (v : View) (section : ℕ) (us : Units) (first end n : ℕ) (found : FoundTexts) (old now : Slots) → IsStretch (debug_data v) us (unit_section_at v section) first end
    → end ≤ n → SectionPass (debug_data v) (unit_section_at v section) (headers_of (stretch_of us.units first end)) (n - first) found old now
    → SectionIndexed (debug_data v) (unit_section_at v section) found.paths old now
stretch-ends v section us first end n found old now s past p =
    let size = stretch-length us.units first end s.rises s.inside in
    section-ends (debug_data v) (unit_section_at v section) (headers_of (stretch_of us.units first end)) (n - first) found old now (omega (arith, size, past)) p

pub ruleset units_rules = (section-within)
