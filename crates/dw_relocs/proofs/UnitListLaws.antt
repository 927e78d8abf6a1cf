-- Laws of a pass over the units of a section, each with its table of abbreviations.
use Rattle.std.proofs.Common.{Bool, true, false, ◌≡◌, ℕ, suc, ◌+◌, ◌-◌, ◌<◌, ◌≤◌, ◌==◌, if◌then◌else◌, List, [], ◌∷◌, ◌++◌, length, take, drop, get_or, Some, Result, refl, sym, ap, ◌∙◌, subst, arith, append_assoc, append-nil, take-suc}
use Rattle.std.proofs.lemmas.List.{drop_all}
use Rattle.dw_base.specs.AbbreviationTables.{Abbreviation}
use Rattle.dw_base.specs.EntryScans.{EntryFails}
use Rattle.dw_base.specs.EntryValues.{HasUnit, bytes_up_to}
use Rattle.dw_base.specs.FileViews.{View, view_cells}
use Rattle.dw_base.specs.UnitHeaders.{AreUnits, IsUnit, UnitBase, UnitSection, UnitsUpTo, more_units, no_units}
use Rattle.dw_base.specs.UnitTables.{IsUnitTable}
use Rattle.dw_base.specs.ViewData.{debug_data, unit_sections}
use Rattle.dw_base.specs.declared.debug_sections.DebugSection.TheVariants.{Info}
use Rattle.dw_base.specs.declared.fault.Refusal.{Refusal}
use Rattle.dw_base.specs.declared.units.UnitHeader.{UnitHeader}
use Rattle.dw_entries.specs.ViewUnits.{IsUnitSection, numbered, unit_section_at}
use Rattle.dw_entries.proofs.HasUnitLaws.{unit-section}
use Rattle.dw_entries.proofs.UnitSectionLaws.{is-of-view}
use Rattle.dw_meaning.proofs.ScanSectionLaws.{header-placed}
use Rattle.dw_units.specs.UnitLists.{Units}
use Rattle.dw_units.specs.UnitStretches.{IsStretch, headers_of, stretch_of}
use Rattle.dw_units.specs.declared.listed_unit.ListedUnit.{ListedUnit}
use Rattle.dw_units.proofs.StretchLaws.{stretch-header, stretch-length}
use Rattle.dw_relocs.specs.FieldRefusals.{FieldsRefuse, entries}
use Rattle.dw_relocs.specs.FieldWalks.{Goes, Ground, StandsAt, ground_of}
use Rattle.dw_relocs.specs.UnitFields.{UnitsFields, more_fields, none_fields, one_fields}
use Rattle.dw_relocs.specs.UnitPasses.{OnePassed, UnitsFrom, UnitsPassed, UnitsSo}
use Rattle.dw_relocs.specs.declared.marks.Marks.{Marks}
use Rattle.dw_relocs.proofs.WalkLaws.{goes-more, goes-none}
use Rattle.dw_relocs.proofs.ListItemLaws.{front-at}

-- why a unit can't be passed
pub entry-row : (v : View) (h : UnitHeader) (own : List Abbreviation) (r : Refusal) → HasUnit (debug_data v) (unit_section_at v h.section) h
    → IsUnitTable (debug_data v).base h own → EntryFails h own (bytes_up_to (unit_section_at v h.section) h) r → FieldsRefuse v r
entry-row v h own r u is f = entries (unit_section_at v h.section) h own (record { unit = u; declares = is }) f

pub ruleset one_rules = (entry-row)

-- units, forward from a place
units-append : (base : UnitBase) (z : UnitSection) (list rest : List UnitHeader) (end : ℕ) → UnitsUpTo base z list end → UnitsFrom base z rest end
    → UnitsFrom base z (list ++ rest) 0
units-append base z list rest end no_units from = from
units-append base z all rest end (more_units list h start up is) from =
    subst (λ (l : List UnitHeader). UnitsFrom base z l 0) (sym (append_assoc list (h ∷ []) rest)) (units-append base z list (h ∷ rest) start up (is, from))

pub units-from : (base : UnitBase) (z : UnitSection) (list : List UnitHeader) → AreUnits base z list → UnitsFrom base z list 0
units-from base z list are = subst (λ (l : List UnitHeader). UnitsFrom base z l 0) (append-nil list) (units-append base z list [] (length z.contents) are refl)

up-to : (base : UnitBase) (z : UnitSection) (list : List UnitHeader) (place : ℕ) (fs : List _) → UnitsFields base z list place fs → UnitsUpTo base z list place
up-to base z list place fs none_fields = no_units
up-to base z all end all_fs (more_fields list h start own items fs units is t e) = more_units list h start (up-to base z list start fs units) is

-- where a section stands among those of the view
pub record StandsIn (zs : List UnitSection) (z : UnitSection) : Type 0 where
  pub before : List UnitSection
  pub behind : List UnitSection
  pub is : zs ≡ before ++ z ∷ behind

stands-in : (zs : List UnitSection) (i : ℕ) (z : UnitSection) → numbered zs i ≡ Some z → StandsIn zs z
stands-in [] i z e = absurd cc
stands-in (y ∷ ys) i z e = by_test (y.number == i) e (λ f. stands-in ys i z f)
  where
    by_test : (b : Bool) → (if b then Some y else numbered ys i) ≡ Some z → (numbered ys i ≡ Some z → StandsIn ys z) → StandsIn (y ∷ ys) z
    by_test true e rest = record { before = []; behind = ys; is = ap (λ (x : UnitSection). x ∷ ys) (once y z e) }
      where
        once : (x w : UnitSection) → Some x ≡ Some w → x ≡ w
        once x w e = cc
    by_test false e rest =
        let s = rest e in
        record { before = y ∷ s.before; behind = s.behind; is = ap (λ (l : List UnitSection). y ∷ l) s.is }

pub stands-view : (v : View) (i : ℕ) → IsUnitSection v i → StandsIn ((debug_data v).found Info) (unit_section_at v i)
unfolding debug_data
stands-view v i there = stands-in (unit_sections v) i (unit_section_at v i) there

-- the units of a section, one after another
pub units-start : (v : View) (i : ℕ) (units : List UnitHeader) (p : Result Marks Refusal) → AreUnits (debug_data v).base (unit_section_at v i) units
    → StandsAt (view_cells v i) 0 p → UnitsSo (ground_of v i) (debug_data v).base (unit_section_at v i) units 0 p p
units-start v i units p are stands = record {
  place = 0;
  fs = [];
  fields = none_fields;
  from = units-from (debug_data v).base (unit_section_at v i) units are;
  goes = goes-none (ground_of v i) 0 0 p (omega arith) stands;
}

next-unit : (g : Ground) (base : UnitBase) (z : UnitSection) (units : List UnitHeader) (h : UnitHeader) (k : ℕ) (p q : Result Marks Refusal) → k < length units
    → h ≡ get_or units k h → (so : UnitsSo g base z units k p q) → IsUnit base z so.place h × UnitsFrom base z (drop (k + 1) units) h.end
next-unit g base z units h k p q lt is so = subst (λ (l : List UnitHeader). UnitsFrom base z l so.place) (front-at units h k lt is) so.from

own-section : (v : View) (i start : ℕ) (h : UnitHeader) → IsUnitSection v i → IsUnit (debug_data v).base (unit_section_at v i) start h → h.section ≡ i
own-section v i start h there u = unit-section (debug_data v).base (unit_section_at v i) start h u.header ∙ (is-of-view v i there).number

pub next-has : (v : View) (i : ℕ) (units : List UnitHeader) (h : UnitHeader) (k : ℕ) (p q : Result Marks Refusal) → IsUnitSection v i → k < length units
    → h ≡ get_or units k h → UnitsSo (ground_of v i) (debug_data v).base (unit_section_at v i) units k p q → HasUnit (debug_data v) (unit_section_at v h.section) h
next-has v i units h k p q there lt is so =
    let n = next-unit (ground_of v i) (debug_data v).base (unit_section_at v i) units h k p q lt is so in
    let s = stands-view v i there in
    subst (λ (m : ℕ). HasUnit (debug_data v) (unit_section_at v m) h) (sym (own-section v i so.place h there n.0)) (record {
      before = s.before;
      behind = s.behind;
      sections = s.is;
      list = take k units;
      start = so.place;
      units = up-to (debug_data v).base (unit_section_at v i) (take k units) so.place so.fs so.fields;
      is = n.0;
    })

start-is : (v : View) (i place : ℕ) (h : UnitHeader) → IsUnit (debug_data v).base (unit_section_at v i) place h → h.start ≡ place
start-is v i place h u = (header-placed (debug_data v).base (unit_section_at v i) place h u.header).start_is

pub next-stands : (v : View) (i : ℕ) (units : List UnitHeader) (h : UnitHeader) (k : ℕ) (p q : Result Marks Refusal) → IsUnitSection v i → k < length units
    → h ≡ get_or units k h → UnitsSo (ground_of v i) (debug_data v).base (unit_section_at v i) units k p q → StandsAt (view_cells v h.section) h.start q
next-stands v i units h k p q there lt is so =
    let n = next-unit (ground_of v i) (debug_data v).base (unit_section_at v i) units h k p q lt is so in
    subst (λ (m : ℕ). StandsAt (view_cells v m) h.start q) (sym (own-section v i so.place h there n.0))
    (subst (λ (m : ℕ). StandsAt (view_cells v i) m q) (sym (start-is v i so.place h n.0)) so.goes.stands)

pub units-more : (v : View) (i : ℕ) (units : List UnitHeader) (h : UnitHeader) (k : ℕ) (p q r : Result Marks Refusal) → IsUnitSection v i → k < length units
    → h ≡ get_or units k h → UnitsSo (ground_of v i) (debug_data v).base (unit_section_at v i) units k p q
    → OnePassed (ground_of v h.section) (debug_data v).base (unit_section_at v h.section) h q r
    → UnitsSo (ground_of v i) (debug_data v).base (unit_section_at v i) units (k + 1) p r
units-more v i units h k p q r there lt is so one =
    let base : UnitBase = (debug_data v).base in
    let n = next-unit (ground_of v i) (debug_data v).base (unit_section_at v i) units h k p q lt is so in
    let own : OnePassed (ground_of v i) (debug_data v).base (unit_section_at v i) h q r =
    subst (λ (m : ℕ). OnePassed (ground_of v m) (debug_data v).base (unit_section_at v m) h q r) (own-section v i so.place h there n.0) one in
    let start = start-is v i so.place h n.0 in
    let next : k + 1 ≡ suc k = omega arith in
    let taken : take (k + 1) units ≡ take k units ++ h ∷ [] =
    ap (λ (m : ℕ). take m units) next ∙ take-suc units k h lt ∙ ap (λ (x : UnitHeader). take k units ++ x ∷ []) (sym is) in
    let goes : Goes (ground_of v i) so.place h.end (one_fields (debug_data v).base (unit_section_at v i) so.place h own.table own.passed.items) q r =
    subst (λ (m : ℕ). Goes (ground_of v i) m h.end (one_fields (debug_data v).base (unit_section_at v i) m h own.table own.passed.items) q r) start own.passed.goes in
    record {
      place = h.end;
      fs = so.fs ++ one_fields (debug_data v).base (unit_section_at v i) so.place h own.table own.passed.items;
      fields =
          subst (λ (l : List UnitHeader). UnitsFields (debug_data v).base (unit_section_at v i) l h.end
          (so.fs ++ one_fields (debug_data v).base (unit_section_at v i) so.place h own.table own.passed.items)) (sym taken)
          (more_fields (take k units) h so.place own.table own.passed.items so.fs so.fields n.0 own.is own.passed.entries);
      from = n.1;
      goes = goes-more (ground_of v i) 0 so.place so.place h.end so.fs (one_fields (debug_data v).base (unit_section_at v i) so.place h own.table own.passed.items) p q r
          (omega arith) so.goes goes;
    }

pub units-end : (v : View) (i : ℕ) (units : List UnitHeader) (k : ℕ) (p q : Result Marks Refusal) → length units ≤ k
    → UnitsSo (ground_of v i) (debug_data v).base (unit_section_at v i) units k p q → UnitsPassed (ground_of v i) (debug_data v).base (unit_section_at v i) p q
units-end v i units k p q end so =
    let over : so.place ≡ length (unit_section_at v i).contents =
    subst (λ (l : List UnitHeader). UnitsFrom (debug_data v).base (unit_section_at v i) l so.place) (drop_all k units end) so.from in
    record {
      list = take k units;
      fs = so.fs;
      fields = subst (λ (n : ℕ). UnitsFields (debug_data v).base (unit_section_at v i) (take k units) n so.fs) over so.fields;
      goes = subst (λ (n : ℕ). Goes (ground_of v i) 0 n so.fs p q) over so.goes;
    }

-- those of a stretch, by their numbers among all
pub stretch-start : (v : View) (i : ℕ) (us : Units) (first end : ℕ) (p : Result Marks Refusal) → IsStretch (debug_data v) us (unit_section_at v i) first end → StandsAt (view_cells v i) 0 p
    → UnitsSo (ground_of v i) (debug_data v).base (unit_section_at v i) (headers_of (stretch_of us.units first end)) (first - first) p p
stretch-start v i us first end p s stands =
    let none : 0 ≡ first - first = omega arith in
    subst (λ (k : ℕ). UnitsSo (ground_of v i) (debug_data v).base (unit_section_at v i) (headers_of (stretch_of us.units first end)) k p p) none
    (units-start v i (headers_of (stretch_of us.units first end)) p s.units stands)

pub stretch-has : (v : View) (i : ℕ) (us : Units) (first end n : ℕ) (u : ListedUnit) (p q : Result Marks Refusal) → IsUnitSection v i
    → IsStretch (debug_data v) us (unit_section_at v i) first end → first ≤ n → n < end → u ≡ get_or us.units n u
    → UnitsSo (ground_of v i) (debug_data v).base (unit_section_at v i) (headers_of (stretch_of us.units first end)) (n - first) p q
    → HasUnit (debug_data v) (unit_section_at v u.header.section) u.header
stretch-has v i us first end n u p q there s from lt is so =
    let size = stretch-length us.units first end s.rises s.inside in
    next-has v i (headers_of (stretch_of us.units first end)) u.header (n - first) p q there (omega (arith, size, from, lt)) (stretch-header us.units first end n u from lt is) so

pub stretch-stands : (v : View) (i : ℕ) (us : Units) (first end n : ℕ) (u : ListedUnit) (p q : Result Marks Refusal) → IsUnitSection v i
    → IsStretch (debug_data v) us (unit_section_at v i) first end → first ≤ n → n < end → u ≡ get_or us.units n u
    → UnitsSo (ground_of v i) (debug_data v).base (unit_section_at v i) (headers_of (stretch_of us.units first end)) (n - first) p q
    → StandsAt (view_cells v u.header.section) u.header.start q
stretch-stands v i us first end n u p q there s from lt is so =
    let size = stretch-length us.units first end s.rises s.inside in
    next-stands v i (headers_of (stretch_of us.units first end)) u.header (n - first) p q there (omega (arith, size, from, lt)) (stretch-header us.units first end n u from lt is) so

pub stretch-more : (v : View) (i : ℕ) (us : Units) (first end n : ℕ) (u : ListedUnit) (p q r : Result Marks Refusal) → IsUnitSection v i
    → IsStretch (debug_data v) us (unit_section_at v i) first end → first ≤ n → n < end → u ≡ get_or us.units n u
    → UnitsSo (ground_of v i) (debug_data v).base (unit_section_at v i) (headers_of (stretch_of us.units first end)) (n - first) p q
    → OnePassed (ground_of v u.header.section) (debug_data v).base (unit_section_at v u.header.section) u.header q r
    → UnitsSo (ground_of v i) (debug_data v).base (unit_section_at v i) (headers_of (stretch_of us.units first end)) (n + 1 - first) p r
stretch-more v i us first end n u p q r there s from lt is so one =
    let size = stretch-length us.units first end s.rises s.inside in
    let next : (n - first) + 1 ≡ n + 1 - first = omega (arith, from) in
    subst (λ (k : ℕ). UnitsSo (ground_of v i) (debug_data v).base (unit_section_at v i) (headers_of (stretch_of us.units first end)) k p r) next
    (units-more v i (headers_of (stretch_of us.units first end)) u.header (n - first) p q r there (omega (arith, size, from, lt)) (stretch-header us.units first end n u from lt is) so one)

pub stretch-over : (v : View) (i : ℕ) (us : Units) (first end n : ℕ) (p q : Result Marks Refusal) → IsStretch (debug_data v) us (unit_section_at v i) first end → end ≤ n
    → UnitsSo (ground_of v i) (debug_data v).base (unit_section_at v i) (headers_of (stretch_of us.units first end)) (n - first) p q
    → UnitsPassed (ground_of v i) (debug_data v).base (unit_section_at v i) p q
stretch-over v i us first end n p q s past so =
    let size = stretch-length us.units first end s.rises s.inside in
    units-end v i (headers_of (stretch_of us.units first end)) (n - first) p q (omega (arith, size, past)) so

pub ruleset list_rules = (stretch-start, stretch-over)
