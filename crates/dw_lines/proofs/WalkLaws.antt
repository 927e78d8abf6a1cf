-- Walks are determined: what one comes to is one thing, and a walk that comes to something doesn't break.
use Rattle.std.proofs.Common.{◌≡◌, Option, Some, None, sym, ap, ◌∙◌}
use Rattle.dw_base.proofs.ReachLaws.{Reaches, here, reach-more, Determined, Stops, stops-one}
use Rattle.dw_base.specs.Walks.{Step, goes, ends, Walks, no_step, one_more, ComesTo, Breaks}

abbrev pub Next : {S X : Type 0} → (S → Option (Step S X)) → S → S → Type 0
Next step s t = step s ≡ Some (goes t)

abbrev went : {S X : Type 0} → S → Option (Step S X) → S
went d None = d
went d (Some (goes t)) = t
went d (Some (ends x)) = d

abbrev ended : {S X : Type 0} → X → Option (Step S X) → X
ended d None = d
ended d (Some (goes t)) = d
ended d (Some (ends x)) = x

pub determined : {S X : Type 0} (step : S → Option (Step S X)) → Determined (Next step)
determined step s t u e f = ap (went s) (sym e ∙ f)

pub over-stops : {S X : Type 0} (step : S → Option (Step S X)) (s : S) (x : X) → step s ≡ Some (ends x) → Stops (Next step) s
over-stops step s x e t f = by_kind (sym e ∙ f)
  where
    by_kind : Some (ends x) ≡ Some (goes t) → ⊥
    by_kind g = cc

none-some : {Y : Type 0} (y : Y) → None ≡ Some y → ⊥
none-some y e = cc

pub none-stops : {S X : Type 0} (step : S → Option (Step S X)) (s : S) → step s ≡ None → Stops (Next step) s
none-stops step s e t f = none-some (goes t) (sym e ∙ f)

pub reached : {S X : Type 0} (step : S → Option (Step S X)) (s t : S) → Walks step s t → Reaches (Next step) s t
reached step s t no_step = here s
reached step s t (one_more a b w e) = reach-more (Next step) s a b (reached step s a w) e

pub comes-one : {S X : Type 0} (step : S → Option (Step S X)) (s : S) (x y : X) → ComesTo step s x → ComesTo step s y → x ≡ y
comes-one step s x y a b =
    let same : a.last ≡ b.last =
    stops-one (Next step) (determined step) s a.last b.last (reached step s a.last a.walks) (reached step s b.last b.walks)
    (over-stops step a.last x a.over) (over-stops step b.last y b.over) in
    ap (ended x) (sym a.over ∙ ap step same ∙ b.over)

some-none : {Y : Type 0} (y : Y) → Some y ≡ None → ⊥
some-none y e = cc

pub comes-whole : {S X : Type 0} (step : S → Option (Step S X)) (s : S) (x : X) → ComesTo step s x → Breaks step s → ⊥
comes-whole step s x a b =
    let same : a.last ≡ b.last =
    stops-one (Next step) (determined step) s a.last b.last (reached step s a.last a.walks) (reached step s b.last b.walks)
    (over-stops step a.last x a.over) (none-stops step b.last b.none) in
    some-none (ends x) (sym a.over ∙ ap step same ∙ b.none)
