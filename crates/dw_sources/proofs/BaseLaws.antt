-- The width of the contribution of a base, which a search finds.
use Rattle.std.proofs.Common.{◌≡◌, ◌≢◌, ℕ, zero, suc, ◌<◌, List, [], ◌∷◌, length, get_or, Some, None, refl, sym, arith}
use Rattle.std.proofs.lemmas.Bool.{eq-eqb, ne_eqb}
use Rattle.dw_base.specs.declared.string_offsets.Contribution.{Contribution}
use Rattle.dw_offsets.specs.SlotSearch.{base_at, BasesRise, HasBase, IsBaseGap}
use Rattle.dw_sources.specs.UnitPaths.{base_width}

absent-width : (list : List Contribution) (base : ℕ) → ((k : ℕ) → k < length list → base_at list k ≢ base) → base_width list base ≡ None
absent-width [] base none = refl
absent-width (c ∷ cs) base none =
    rw (ne_eqb c.base base (none 0 (omega arith))) (absent-width cs base (λ k lt. none (suc k) (omega arith)))

found-width : (list : List Contribution) (base i : ℕ) (d : Contribution) → i < length list → base_at list i ≡ base
    → ((k : ℕ) → k < i → base_at list k ≢ base) → base_width list base ≡ Some ((get_or list i d).width)
found-width [] base i d lt is none = absurd (omega (arith, lt))
found-width (c ∷ cs) base zero d lt is none = rw (eq-eqb c.base base is) refl
found-width (c ∷ cs) base (suc i) d lt is none =
    rw (ne_eqb c.base base (none 0 (omega arith))) (found-width cs base i d (omega (arith, lt)) is (λ k below. none (suc k) (omega arith)))

pub width-found : (list : List Contribution) (base i : ℕ) (d : Contribution) → BasesRise list → HasBase list base i
    → Some ((get_or list i d).width) ≡ base_width list base
width-found list base i d rising has =
    sym (found-width list base i d has.inside has.base_is (λ k lt same. omega (arith, rising.rise k i lt has.inside, has.base_is, same)))

other-base : (list : List Contribution) (base i k : ℕ) → IsBaseGap list base i → k < length list → base_at list k ≢ base
other-base list base i k gap lt same = grind (arith, gap.before k, gap.behind k)

pub width-absent : (list : List Contribution) (base i : ℕ) → IsBaseGap list base i → None ≡ base_width list base
width-absent list base i gap = sym (absent-width list base (λ k lt. other-base list base i k gap lt))

pub ruleset width_rules = (width-found, width-absent)
