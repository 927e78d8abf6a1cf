-- The units of the sections that are left, section by section of a view.
use Rattle.std.proofs.Common.{◌≡◌, ℕ, suc, ◌+◌, ◌<◌, List, ◌∷◌, length, map, drop, drop-cons, get_or, sym, ap, ◌∙◌, subst, arith}
use Rattle.dw_base.specs.FileViews.{View}
use Rattle.dw_base.specs.UnitHeaders.{UnitSection}
use Rattle.dw_base.specs.ViewData.{debug_data}
use Rattle.dw_base.specs.declared.debug_sections.DebugSection.TheVariants.{Info}
use Rattle.dw_entries.specs.SectionOrder.{AreSections}
use Rattle.dw_entries.specs.ViewUnits.{IsUnitSection, unit_section_at}
use Rattle.dw_entries.proofs.UnitSectionLaws.{is-of-view}
use Rattle.dw_units.specs.UnitLists.{ListsAll, Units}
use Rattle.dw_units.specs.UnitStretches.{IsStretch, StretchesLeft, front_count}
use Rattle.dw_units.specs.declared.listed_unit.ListedUnit.{ListedUnit}
use Rattle.dw_units.proofs.StretchLaws.{left-next, left-start, left-stretch}

-- where the units of a section end in what is lent
pub lent-end : (list units : List ListedUnit) (section first end : ℕ) → list ≡ units → end ≡ first + front_count section (drop first list) → end ≡ first + front_count section (drop first units)
lent-end list units section first end same is = is ∙ ap (λ (us : List ListedUnit). first + front_count section (drop first us)) same

sections-rest : (v : View) (numbers : List ℕ) (i n : ℕ) → i < length numbers → n ≡ get_or numbers i n
    → map (unit_section_at v) (drop i numbers) ≡ unit_section_at v n ∷ map (unit_section_at v) (drop (i + 1) numbers)
sections-rest v numbers i n lt is =
    let next : suc i ≡ i + 1 = omega arith in
    ap (map (unit_section_at v)) (drop-cons numbers i n lt) ∙ ap (λ (m : ℕ). unit_section_at v m ∷ map (unit_section_at v) (drop (suc i) numbers)) (sym is)
    ∙ ap (λ (k : ℕ). unit_section_at v n ∷ map (unit_section_at v) (drop k numbers)) next

pub rest-start : (v : View) (us : Units) (numbers : List ℕ) → AreSections v numbers → ListsAll (debug_data v) us.tables ((debug_data v).found Info) us.units
    → StretchesLeft (debug_data v) us (map (unit_section_at v) (drop 0 numbers)) 0
rest-start v us numbers are all = subst (λ (zs : List UnitSection). StretchesLeft (debug_data v) us zs 0) are.all (left-start v us all)

own-left : (v : View) (us : Units) (numbers : List ℕ) (i n first : ℕ) → i < length numbers → n ≡ get_or numbers i n
    → StretchesLeft (debug_data v) us (map (unit_section_at v) (drop i numbers)) first
    → StretchesLeft (debug_data v) us (unit_section_at v n ∷ map (unit_section_at v) (drop (i + 1) numbers)) first
own-left v us numbers i n first lt is l = subst (λ (zs : List UnitSection). StretchesLeft (debug_data v) us zs first) (sections-rest v numbers i n lt is) l

own-end : (v : View) (us : Units) (n first end : ℕ) → IsUnitSection v n → end ≡ first + front_count n (drop first us.units)
    → end ≡ first + front_count (unit_section_at v n).number (drop first us.units)
own-end v us n first end there e = e ∙ ap (λ (k : ℕ). first + front_count k (drop first us.units)) (sym (is-of-view v n there).number)

pub rest-stretch : (v : View) (us : Units) (numbers : List ℕ) (i n first end : ℕ) → IsUnitSection v n → i < length numbers → n ≡ get_or numbers i n
    → StretchesLeft (debug_data v) us (map (unit_section_at v) (drop i numbers)) first → end ≡ first + front_count n (drop first us.units)
    → IsStretch (debug_data v) us (unit_section_at v n) first end
rest-stretch v us numbers i n first end there lt is l e =
    left-stretch (debug_data v) us (unit_section_at v n) (map (unit_section_at v) (drop (i + 1) numbers)) first end (own-left v us numbers i n first lt is l)
    (own-end v us n first end there e)

pub rest-next : (v : View) (us : Units) (numbers : List ℕ) (i n first end : ℕ) → IsUnitSection v n → i < length numbers → n ≡ get_or numbers i n
    → StretchesLeft (debug_data v) us (map (unit_section_at v) (drop i numbers)) first → end ≡ first + front_count n (drop first us.units)
    → StretchesLeft (debug_data v) us (map (unit_section_at v) (drop (i + 1) numbers)) end
rest-next v us numbers i n first end there lt is l e =
    left-next (debug_data v) us (unit_section_at v n) (map (unit_section_at v) (drop (i + 1) numbers)) first end (own-left v us numbers i n first lt is l)
    (own-end v us n first end there e)
