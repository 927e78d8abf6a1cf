-- Attributes up to the last that isn't quiet.
use Rattle.std.proofs.Common.{true, ◌≡◌, ℕ, suc, ◌-◌, ◌≤◌, ◌<◌, List, ◌∷◌, ◌++◌, length, take, drop, get_or, sym, ap, ◌∙◌, subst, arith}
use Rattle.std.proofs.Math.Seq.{drop-cons}
use Rattle.std.proofs.lemmas.List.{drop_all, take-append-drop}
use Rattle.dw_base.specs.declared.values.Spec.{Spec}
use Rattle.dw_abbrev.specs.QuietSpecs.{AllQuiet, HasFront, is_quiet}

pub quiet-all : (specs : List Spec) → AllQuiet (drop (length specs) specs)
quiet-all specs = subst AllQuiet (sym (drop_all (length specs) specs (omega arith))) tt

pub quiet-more : (specs : List Spec) (n : ℕ) (x : Spec) → 0 < n → n ≤ length specs → x ≡ get_or specs (n - 1) x → is_quiet x ≡ true
    → AllQuiet (drop n specs) → AllQuiet (drop (n - 1) specs)
quiet-more specs n x some le here quiet all =
    let next : suc (n - 1) ≡ n = omega (arith, some) in
    let lt : n - 1 < length specs = omega (arith, some, le) in
    let front : drop (n - 1) specs ≡ x ∷ drop n specs =
    drop-cons specs (n - 1) x lt ∙ ap (λ (m : ℕ). get_or specs (n - 1) x ∷ drop m specs) next ∙ ap (λ (y : Spec). y ∷ drop n specs) (sym here) in
    subst AllQuiet (sym front) (quiet, all)

pub ruleset from_rules = (quiet-all, quiet-more)

-- those in front
pub has-front : (specs front : List Spec) (n : ℕ) → AllQuiet (drop n specs) → front ≡ take n specs → HasFront specs front
has-front specs front n quiet is = record {
  rest = drop n specs;
  specs_are = sym (ap (λ (xs : List Spec). xs ++ drop n specs) is ∙ take-append-drop n specs);
  quiet = quiet;
}

pub ruleset front_rules = (has-front)
