-- Which section that is read each is that stands in a view.
use Rattle.std.proofs.Common.{◌≡◌, ℕ, suc, ◌+◌, ◌<◌, List, [], ◌∷◌, ◌++◌, length, get_or, Option, sym, ap, ◌∙◌, arith}
use Rattle.std.specs.Prelude.{slice_index_or}
use Rattle.dw_base.specs.FileViews.{View, kind_at}
use Rattle.dw_base.specs.Lists.{tabulate}
use Rattle.dw_base.specs.declared.debug_sections.DebugSection.{DebugSection}
use Rattle.dw_base.proofs.ListLaws.{get_or-tabulate, length-tabulate}
use Rattle.dw_view.specs.Kept.{KindsAre}

pub kinds-more : (v : View) (i : ℕ) (kinds more : List (Option DebugSection)) (k : Option DebugSection) → kinds ≡ tabulate (kind_at v) i → k ≡ kind_at v i
    → more ≡ kinds ++ k ∷ [] → more ≡ tabulate (kind_at v) (i + 1)
kinds-more v i kinds more k is here m =
    let next : i + 1 ≡ suc i = omega arith in
    m ∙ ap (λ (l : List (Option DebugSection)). l ++ k ∷ []) is ∙ ap (λ (x : Option DebugSection). tabulate (kind_at v) i ++ x ∷ []) here
    ∙ sym (ap (tabulate (kind_at v)) next)

pub kinds-size : (v : View) (kinds : List (Option DebugSection)) (i : ℕ) → KindsAre v kinds → i < length v.sections → i < length kinds
kinds-size v kinds i are lt =
    let size : length kinds ≡ length v.sections = ap (λ (ks : List (Option DebugSection)). length ks) are.are ∙ length-tabulate (kind_at v) (length v.sections) in
    omega (arith, lt, size)

pub kind-kept : (v : View) (kinds : List (Option DebugSection)) (i : ℕ) (d : Option DebugSection) → KindsAre v kinds → i < length v.sections
    → slice_index_or kinds i d ≡ kind_at v i
kind-kept v kinds i d are lt =
    ap (λ (ks : List (Option DebugSection)). get_or ks i d) are.are ∙ get_or-tabulate (kind_at v) (length v.sections) i d lt

pub ruleset kept_laws = (kinds-size, kind-kept)
