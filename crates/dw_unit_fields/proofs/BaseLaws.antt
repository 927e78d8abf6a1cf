-- The base of a unit's texts by index: the number that it says, and where a relocation refuses it.
use Rattle.std.proofs.Common.{true, ◌≡◌, ℕ, ◌+◌, ◌≤◌, List, length, Option, Some, None, refl, sym, ap, ◌∙◌, subst}
use Rattle.dw_base.specs.AbbreviationTables.{Abbreviation}
use Rattle.dw_base.specs.Cells.{Cell, Located, bytes_of, cells_at, field_of, is_placed, offset_of}
use Rattle.dw_base.specs.DebugData.{DebugData}
use Rattle.dw_base.specs.EntryValues.{HasUnit, bytes_up_to}
use Rattle.dw_base.specs.FileViews.{View, section_bytes, view_cells}
use Rattle.dw_base.specs.RelocationRows.{OffsetFails, field_place, offset_field}
use Rattle.dw_base.specs.UnitHeaders.{UnitSection}
use Rattle.dw_base.specs.UnitTables.{IsUnitTable}
use Rattle.dw_base.specs.ViewData.{debug_data, located}
use Rattle.dw_base.specs.declared.debug_sections.DebugSection.TheVariants.{StrOffsets}
use Rattle.dw_base.specs.declared.fault.Refusal.{Refusal}
use Rattle.dw_base.specs.declared.shared.Order.{Order}
use Rattle.dw_base.specs.declared.units.UnitHeader.{UnitHeader}
use Rattle.dw_base.proofs.ViewCellLaws.{bytes_of-view_cells, offsets-located}
use Rattle.dw_offsets.specs.declared.fields.OffsetField.{OffsetField}
use Rattle.dw_entries.specs.Fronts.{IsOfView}
use Rattle.dw_entries.specs.ViewUnits.{unit_section_at}
use Rattle.dw_unit_fields.specs.EntryTexts.{Tables, FoundTexts, with_base, with_places}
use Rattle.dw_unit_fields.specs.FieldOffsets.{BaseLies, BaseRefuses}
use Rattle.dw_unit_fields.specs.Fields.{IsStartField}
use Rattle.dw_unit_fields.specs.NamedSlots.{Slots, TakesIndexes}
use Rattle.dw_unit_fields.specs.TextPlaces.{base_in, base_source, entries_places, number_said, said_placed}
use Rattle.dw_unit_fields.specs.UnitTexts.{ScanTaken, UnitsRefuse, relocation_fails}
use Rattle.dw_unit_fields.specs.declared.fields.TextBase.{TextBase}
use Rattle.dw_unit_fields.specs.declared.fields.TextBase.TheVariants.{Field as BaseField, Number as BaseNumber}
use Rattle.dw_unit_fields.specs.declared.fields.TextIndex.{TextIndex}
use Rattle.dw_base.proofs.HeaderOfLaws.{header-of}
use Rattle.dw_unit_fields.proofs.PlaceValueLaws.{StartFacts, base_place, unit-base}
use Rattle.dw_unit_fields.proofs.SectionFactLaws.{own-section}

-- the number that a base says
pub number-none : (v : View) (cells : List Cell) (b : Option TextBase) → b ≡ None → None ≡ number_said (base_source (debug_data v)) cells b
number-none v cells b is = ap (number_said (base_source (debug_data v)) cells) (sym is)

pub number-some : (v : View) (cells : List Cell) (b : Option TextBase) (n : ℕ) → b ≡ Some (BaseNumber n) → Some n ≡ number_said (base_source (debug_data v)) cells b
number-some v cells b n is = ap (number_said (base_source (debug_data v)) cells) (sym is)

pub number-field : (v : View) (cells : List Cell) (b : Option TextBase) (f : OffsetField) (n : ℕ) → b ≡ Some (BaseField f)
    → n ≡ offset_of v.order (located v StrOffsets) (cells_at cells f.at f.size) → Some n ≡ number_said (base_source (debug_data v)) cells b
unfolding debug_data
number-field v cells b f n is read =
    ap Some (read ∙ ap (λ (z : Located). offset_of v.order z (cells_at cells f.at f.size)) (sym (offsets-located v)))
    ∙ ap (number_said (base_source (debug_data v)) cells) (sym is)

pub placed-none : (v : View) (cells : List Cell) (b : Option TextBase) → b ≡ None → said_placed (base_source (debug_data v)) cells b ≡ true
placed-none v cells b is = ap (said_placed (base_source (debug_data v)) cells) is

pub placed-some : (v : View) (cells : List Cell) (b : Option TextBase) (n : ℕ) → b ≡ Some (BaseNumber n) → said_placed (base_source (debug_data v)) cells b ≡ true
placed-some v cells b n is = ap (said_placed (base_source (debug_data v)) cells) is

pub placed-field : (v : View) (cells : List Cell) (b : Option TextBase) (f : OffsetField) → b ≡ Some (BaseField f)
    → is_placed (field_of v.order (cells_at cells f.at f.size)) ≡ true → said_placed (base_source (debug_data v)) cells b ≡ true
unfolding debug_data
placed-field v cells b f is placed = ap (said_placed (base_source (debug_data v)) cells) is ∙ placed

pub field-lies : (info : List ℕ) (b : Option TextBase) (f : OffsetField) → b ≡ Some (BaseField f) → BaseLies info b → IsStartField info f
field-lies info b f is lies = subst (BaseLies info) is lies

pub field-refuses : (order : Order) (section : ℕ) (cells : List Cell) (b : Option TextBase) (f : OffsetField) (r : Refusal) → b ≡ Some (BaseField f)
    → OffsetFails order section cells (field_place f.at f.size offset_field) r → BaseRefuses order section cells b r
field-refuses order section cells b f r is fails = subst (λ (x : Option TextBase). BaseRefuses order section cells x r) (sym is) fails

pub ruleset number_rules = (number-none, number-some, number-field, placed-none, placed-some, placed-field, field-lies, field-refuses)

-- the section of a unit
unit-own : (v : View) (h : UnitHeader) → HasUnit (debug_data v) (unit_section_at v h.section) h → IsOfView v h.section (unit_section_at v h.section)
unit-own v h u =
    let z : UnitSection = unit_section_at v h.section in
    let section : h.section ≡ z.number = (header-of (debug_data v).base (unit_section_at v h.section) u.start h u.is.header).section in
    subst (λ (n : ℕ). IsOfView v n (unit_section_at v h.section)) (sym section) (own-section v u.before u.behind (unit_section_at v h.section) u.sections)

unit-cells : (v : View) (h : UnitHeader) → HasUnit (debug_data v) (unit_section_at v h.section) h → (unit_section_at v h.section).contents ≡ view_cells v h.section
unit-cells v h u = (unit-own v h u).contents

unit-number : (v : View) (h : UnitHeader) → HasUnit (debug_data v) (unit_section_at v h.section) h → (unit_section_at v h.section).number ≡ h.section
unit-number v h u = (unit-own v h u).number

unit-bytes : (v : View) (h : UnitHeader) → HasUnit (debug_data v) (unit_section_at v h.section) h → bytes_of (unit_section_at v h.section).contents ≡ section_bytes v h.section
unit-bytes v h u = ap bytes_of (unit-cells v h u) ∙ bytes_of-view_cells v h.section

-- the base that a unit says, by its places
unit-says : (t : Tables) (h : UnitHeader) (table : List Abbreviation) (bytes : List ℕ) (old found : FoundTexts) → old.base ≡ None → (s : ScanTaken t h table bytes old found)
    → found.base ≡ base_in (entries_places h.params table bytes 0 s.items)
unfolding with_places
unit-says t h table bytes old found none s =
    ap (λ (f : FoundTexts). f.base) s.found ∙ by_none old.base none
  where
    by_none : (b : Option TextBase) → b ≡ None → with_base b (entries_places h.params table bytes 0 s.items) ≡ base_in (entries_places h.params table bytes 0 s.items)
    by_none None e = refl
    by_none (Some x) e = absurd cc

unit-facts : (d : DebugData) (z : UnitSection) (h : UnitHeader) (t : Tables) (table : List Abbreviation) (old found : FoundTexts) (f : OffsetField) → HasUnit d z h → IsUnitTable d.base h table
    → old.base ≡ None → ScanTaken t h table (bytes_up_to z h) old found → found.base ≡ Some (BaseField f)
    → StartFacts d z (base_place f)
unit-facts d z h t table old found f u declares none s is =
    unit-base d z h table s.items f (record { unit = u; declares = declares }) s.entries
    (sym (unit-says t h table (bytes_up_to z h) old found none s) ∙ is)

-- it lies in its section
pub unit-lies : (v : View) (h : UnitHeader) (t : Tables) (table : List Abbreviation) (old found : FoundTexts) → HasUnit (debug_data v) (unit_section_at v h.section) h
    → IsUnitTable (debug_data v).base h table → old.base ≡ None → ScanTaken t h table (bytes_up_to (unit_section_at v h.section) h) old found
    → BaseLies (section_bytes v h.section) found.base
unit-lies v h t table old found u declares none s = by_base found.base refl
  where
    by_base : (b : Option TextBase) → found.base ≡ b → BaseLies (section_bytes v h.section) b
    by_base None is = tt
    by_base (Some (BaseNumber n)) is = tt
    by_base (Some (BaseField f)) is =
        let z : UnitSection = unit_section_at v h.section in
        let facts : StartFacts (debug_data v) (unit_section_at v h.section) (base_place f) =
        unit-facts (debug_data v) (unit_section_at v h.section) h t table old found f u declares none s is in
        record { sized = facts.sized; inside = subst (λ (bs : List ℕ). f.at + f.size ≤ length bs) (unit-bytes v h u) facts.inside }

-- a relocation that refuses it is a row
pub base-row : (v : View) (h : UnitHeader) (t : Tables) (table : List Abbreviation) (old found : FoundTexts) (r : Refusal) → HasUnit (debug_data v) (unit_section_at v h.section) h
    → IsUnitTable (debug_data v).base h table → old.base ≡ None → ScanTaken t h table (bytes_up_to (unit_section_at v h.section) h) old found
    → BaseRefuses v.order h.section (view_cells v h.section) found.base r → UnitsRefuse (debug_data v) r
unfolding debug_data
base-row v h t table old found r u declares none s = by_base found.base refl
  where
    by_base : (b : Option TextBase) → found.base ≡ b → BaseRefuses v.order h.section (view_cells v h.section) b r → UnitsRefuse (debug_data v) r
    by_base None is fails = absurd fails
    by_base (Some (BaseNumber n)) is fails = absurd fails
    by_base (Some (BaseField f)) is fails =
        let facts : StartFacts (debug_data v) (unit_section_at v h.section) (base_place f) =
        unit-facts (debug_data v) (unit_section_at v h.section) h t table old found f u declares none s is in
        relocation_fails (facts.row r
        (subst (λ (n : ℕ). OffsetFails v.order n (unit_section_at v h.section).contents (field_place f.at f.size offset_field) r) (sym (unit-number v h u))
        (subst (λ (cs : List Cell). OffsetFails v.order h.section cs (field_place f.at f.size offset_field) r) (sym (unit-cells v h u)) fails)))

-- it is placed by its cells,
pub base-placed : (v : View) (h : UnitHeader) (base : Option TextBase) → HasUnit (debug_data v) (unit_section_at v h.section) h
    → said_placed (base_source (debug_data v)) (view_cells v h.section) base ≡ true → said_placed (base_source (debug_data v)) (unit_section_at v h.section).contents base ≡ true
base-placed v h base u placed = ap (λ (cs : List Cell). said_placed (base_source (debug_data v)) cs base) (unit-cells v h u) ∙ placed

-- and its number is that of its cells
pub base-taken : (v : View) (h : UnitHeader) (base : Option TextBase) (n : Option ℕ) (xs : List TextIndex) (before now : Slots) → HasUnit (debug_data v) (unit_section_at v h.section) h
    → n ≡ number_said (base_source (debug_data v)) (view_cells v h.section) base → TakesIndexes h.section n xs before now
    → TakesIndexes h.section (number_said (base_source (debug_data v)) (unit_section_at v h.section).contents base) xs before now
base-taken v h base n xs before now u is takes =
    subst (λ (cs : List Cell). TakesIndexes h.section (number_said (base_source (debug_data v)) cs base) xs before now) (sym (unit-cells v h u))
    (subst (λ (m : Option ℕ). TakesIndexes h.section m xs before now) is takes)
