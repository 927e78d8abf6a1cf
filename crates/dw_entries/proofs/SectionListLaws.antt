-- What a caller needs that goes over the numbers of all unit sections: each is that of one, and those so far are the sections so far.
use Rattle.std.proofs.Common.{◌≡◌, ℕ, zero, suc, ◌+◌, ◌≤◌, ◌<◌, List, [], ◌∷◌, ◌++◌, map, length, take, get_or, sym, ap, ◌∙◌, subst, arith}
use Rattle.std.proofs.Math.Seq.{take-suc}
use Rattle.std.proofs.lemmas.List.{map-append, take_all}
use Rattle.dw_base.specs.FileViews.{View}
use Rattle.dw_base.specs.ViewData.{debug_data}
use Rattle.dw_base.specs.declared.debug_sections.DebugSection.TheVariants.{Info}
use Rattle.dw_entries.specs.SectionOrder.{AreSections, EachSection}
use Rattle.dw_entries.specs.ViewUnits.{IsUnitSection, unit_section_at}

each-get : (v : View) (ns : List ℕ) (i d : ℕ) → EachSection v ns → i < length ns → IsUnitSection v (get_or ns i d)
each-get v [] i d all lt = absurd (omega (arith, lt))
each-get v (n ∷ ns) zero d all lt = all.0
each-get v (n ∷ ns) (suc i) d all lt = each-get v ns i d all.1 (omega (arith, lt))

pub number-there : (v : View) (ns : List ℕ) (i n : ℕ) → AreSections v ns → i < length ns → n ≡ get_or ns i n → IsUnitSection v n
number-there v ns i n are lt is = subst (IsUnitSection v) (sym is) (each-get v ns i n are.each lt)

pub sections-next : (v : View) (ns : List ℕ) (i n : ℕ) → i < length ns → n ≡ get_or ns i n
    → map (unit_section_at v) (take (i + 1) ns) ≡ map (unit_section_at v) (take i ns) ++ unit_section_at v n ∷ []
sections-next v ns i n lt is =
    let next : i + 1 ≡ suc i = omega arith in
    ap (λ (k : ℕ). map (unit_section_at v) (take k ns)) next ∙ ap (map (unit_section_at v)) (take-suc ns i n lt)
    ∙ ap (λ (m : ℕ). map (unit_section_at v) (take i ns ++ m ∷ [])) (sym is) ∙ map-append (unit_section_at v) (take i ns) (n ∷ [])

pub sections-whole : (v : View) (ns : List ℕ) (i : ℕ) → AreSections v ns → length ns ≤ i → map (unit_section_at v) (take i ns) ≡ (debug_data v).found Info
sections-whole v ns i are past = ap (map (unit_section_at v)) (take_all i ns past) ∙ sym are.all
