-- What a pass over the units of a view says of the relocations that stand there.
use Rattle.std.proofs.Common.{◌≡◌, ℕ, ◌+◌, ◌<◌, ◌≤◌, true, List, [], ◌∷◌, ◌++◌, length, map, take, get_or, Result, refl, sym, ap, ◌∙◌, subst}
use Rattle.std.specs.Prelude.{is_some}
use Rattle.dw_base.specs.Cells.{Cell}
use Rattle.dw_base.specs.DebugData.{DebugData}
use Rattle.dw_base.specs.FileViews.{View, kind_at, section_bytes, view_cells}
use Rattle.dw_base.specs.RelocationRows.{FieldPlace, FieldsFail, FieldsRead, moving_sections, unit_fields}
use Rattle.dw_base.specs.UnitHeaders.{UnitSection}
use Rattle.dw_base.specs.ViewData.{debug_data}
use Rattle.dw_base.specs.declared.fault.Refusal.{Refusal}
use Rattle.dw_base.proofs.ViewCellLaws.{length-view_cells}
use Rattle.dw_base.specs.declared.debug_sections.DebugSection.TheVariants.{Info}
use Rattle.dw_entries.specs.Fronts.{IsOfView}
use Rattle.dw_entries.specs.SectionOrder.{AreSections}
use Rattle.dw_entries.specs.ViewUnits.{IsUnitSection, unit_section_at}
use Rattle.dw_entries.proofs.SectionListLaws.{number-there, sections-next, sections-whole}
use Rattle.dw_entries.proofs.UnitSectionLaws.{is-of-view}
use Rattle.dw_meaning.specs.RelocationFails.LeftRelocationsFail.{units}
use Rattle.dw_relocs.specs.FieldRefusals.{FieldsRefuse, left}
use Rattle.dw_relocs.specs.FieldWalks.{AllRead, Goes, HasNone, OneFails, StandsAt, Walked, ground_of}
use Rattle.dw_relocs.specs.LeftChecks.{UnitsHold}
use Rattle.dw_relocs.specs.UnitPasses.{SectionsHold, UnitsPassed}
use Rattle.dw_relocs.specs.declared.marks.Marks.{Marks}
use Rattle.dw_relocs.proofs.QuietLaws.{quiet-reads}
use Rattle.dw_relocs.proofs.SlotFieldLaws.{length-there, small-there}
use Rattle.dw_relocs.proofs.UnitFieldLaws.{fields-one, units-are}
use Rattle.dw_relocs.proofs.UnitListLaws.{stands-view}

-- a unit section of a view
pub section-there : (v : View) (i : ℕ) → IsUnitSection v i → i < length v.sections
section-there v i there = (is-of-view v i there).there

pub section-read : (v : View) (i : ℕ) → IsUnitSection v i → is_some (kind_at v i) ≡ true
section-read v i there = (is-of-view v i there).read

order-is : (v : View) → (debug_data v).base.order ≡ v.order
unfolding debug_data
order-is v = refl

-- where no relocation begins
pub section-quiet : (v : View) (i : ℕ) → IsUnitSection v i → HasNone (view_cells v i) 0 → UnitsHold (debug_data v) (moving_sections v) (unit_section_at v i)
section-quiet v i there h = record {
  units = λ first xs reads.
      subst (λ (cells : List Cell). FieldsRead (debug_data v).base.order cells (moving_sections v) (unit_fields (debug_data v).base.order xs))
      (sym (is-of-view v i there).contents)
      (quiet-reads (debug_data v).base.order (view_cells v i) (moving_sections v) (unit_fields (debug_data v).base.order xs) h);
}

-- what a pass came by
walked-all : (v : View) (i : ℕ) (fs : List FieldPlace) (p q : Result Marks Refusal) → IsUnitSection v i → Walked (ground_of v i) [] 0 p
    → Goes (ground_of v i) 0 (length (unit_section_at v i).contents) fs p q → Walked (ground_of v i) fs (length (view_cells v i)) q
walked-all v i fs p q there start goes =
    subst (λ (n : ℕ). Walked (ground_of v i) fs n q) (ap (λ (cells : List Cell). length cells) (is-of-view v i there).contents) (goes.all [] start)

pub units-behind : (v : View) (i : ℕ) (p q : Result Marks Refusal) → IsUnitSection v i → UnitsPassed (ground_of v i) (debug_data v).base (unit_section_at v i) p q
    → StandsAt (view_cells v i) (length (section_bytes v i)) q
units-behind v i p q there passed =
    subst (λ (n : ℕ). StandsAt (view_cells v i) n q)
    (ap (λ (cells : List Cell). length cells) (is-of-view v i there).contents ∙ length-view_cells v i) passed.goes.stands

pub section-holds : (v : View) (i : ℕ) (p q : Result Marks Refusal) → IsUnitSection v i → Walked (ground_of v i) [] 0 p
    → UnitsPassed (ground_of v i) (debug_data v).base (unit_section_at v i) p q → AllRead (ground_of v i) q
    → UnitsHold (debug_data v) (moving_sections v) (unit_section_at v i)
section-holds v i p q there start passed read = record {
  units = λ first xs reads.
      subst (FieldsRead (debug_data v).base.order (unit_section_at v i).contents (moving_sections v))
      (sym (fields-one (debug_data v).base (unit_section_at v i) first passed.list passed.fs xs passed.fields reads))
      (subst (λ (cells : List Cell). FieldsRead (debug_data v).base.order cells (moving_sections v) passed.fs) (sym (is-of-view v i there).contents)
      (subst (λ (o : _). FieldsRead o (view_cells v i) (moving_sections v) passed.fs) (sym (order-is v))
      (read.all passed.fs (walked-all v i passed.fs p q there start passed.goes))));
}

-- and why it is refused
pub section-fails : (v : View) (i : ℕ) (p q : Result Marks Refusal) (r : Refusal) → IsUnitSection v i → Walked (ground_of v i) [] 0 p
    → UnitsPassed (ground_of v i) (debug_data v).base (unit_section_at v i) p q → OneFails (ground_of v i) q r → FieldsRefuse v r
section-fails v i p q r there start passed fails =
    let of : IsOfView v i (unit_section_at v i) = is-of-view v i there in
    let s = stands-view v i there in
    let are = units-are (debug_data v).base (unit_section_at v i) 0 passed.list passed.fs passed.fields in
    left (units s.before s.behind (unit_section_at v i) 0 are.pieces s.is are.reads
    (subst (λ (fs : List FieldPlace). FieldsFail (debug_data v).base.order (unit_section_at v i).number (unit_section_at v i).contents (moving_sections v) fs r) (sym are.fields)
    (subst (λ (n : ℕ). FieldsFail (debug_data v).base.order n (unit_section_at v i).contents (moving_sections v) passed.fs r) (sym of.number)
    (subst (λ (cells : List Cell). FieldsFail (debug_data v).base.order i cells (moving_sections v) passed.fs r) (sym of.contents)
    (subst (λ (o : _). FieldsFail o i (view_cells v i) (moving_sections v) passed.fs r) (sym (order-is v))
    (fails.all passed.fs (walked-all v i passed.fs p q there start passed.goes)))))))

pub ruleset section_rules = (section-there, section-read, section-quiet, section-holds, section-fails, units-behind, length-there, small-there)

-- section after section
hold-append : (d : DebugData) (moving : List ℕ) (zs : List UnitSection) (z : UnitSection) → SectionsHold d moving zs → UnitsHold d moving z → SectionsHold d moving (zs ++ z ∷ [])
hold-append d moving [] z h own = (own, tt)
hold-append d moving (y ∷ ys) z h own = (h.0, hold-append d moving ys z h.1 own)

-- the first sections of these numbers have been looked at
pub record SectionsSo (v : View) (numbers : List ℕ) (i : ℕ) : Type 0 where
  pub hold : SectionsHold (debug_data v) (moving_sections v) (map (unit_section_at v) (take i numbers))

pub sections-start : (v : View) (numbers : List ℕ) → SectionsSo v numbers 0
sections-start v numbers = record { hold = tt }

pub sections-more : (v : View) (numbers : List ℕ) (i n : ℕ) → i < length numbers → n ≡ get_or numbers i n → SectionsSo v numbers i
    → UnitsHold (debug_data v) (moving_sections v) (unit_section_at v n) → SectionsSo v numbers (i + 1)
sections-more v numbers i n lt is so own = record {
  hold =
      subst (SectionsHold (debug_data v) (moving_sections v)) (sym (sections-next v numbers i n lt is))
      (hold-append (debug_data v) (moving_sections v) (map (unit_section_at v) (take i numbers)) (unit_section_at v n) so.hold own);
}

pub sections-end : (v : View) (numbers : List ℕ) (i : ℕ) → AreSections v numbers → length numbers ≤ i → SectionsSo v numbers i
    → SectionsHold (debug_data v) (moving_sections v) ((debug_data v).found Info)
sections-end v numbers i are past so = subst (SectionsHold (debug_data v) (moving_sections v)) (sections-whole v numbers i are past) so.hold

pub ruleset all_rules = (sections-start, sections-more, sections-end, number-there)
