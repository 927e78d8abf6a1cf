-- Where the line table that started at a place starts anew.
use Rattle.std.proofs.Common.{Bool, true, false, ◌≡◌, ℕ, ◌+◌, ◌<◌, ◌≤◌, ◌==◌, List, [], ◌∷◌, length, get_or, cond, Option, Some, None, sym, ap, ◌∙◌, arith}
use Rattle.dw_base.specs.DebugData.{start_number}
use Rattle.dw_rewrite.specs.Changes.{new_start}
use Rattle.dw_starts.specs.LineStarts.{Rises}
use Rattle.dw_rewrite.specs.NewStarts.{StartChange, StartsFit, known_starts}

-- a number that was found is one of the starts
number-inside : (first : ℕ) (starts : List ℕ) (start k : ℕ) → start_number first starts start ≡ Some k → (first ≤ k) × (k < first + length starts)
number-inside first [] start k e = absurd cc
number-inside first (s ∷ ss) start k e = by_here (s == start) e (number-inside (first + 1) ss start k)
  where
    some-once : (x y : ℕ) → Some x ≡ Some y → x ≡ y
    some-once x y f = cc

    by_here : (b : Bool) → cond b (Some first) (start_number (first + 1) ss start) ≡ Some k
        → (start_number (first + 1) ss start ≡ Some k → (first + 1 ≤ k) × (k < first + 1 + length ss)) → (first ≤ k) × (k < first + length (s ∷ ss))
    by_here true f rest =
        let same : first ≡ k = some-once first k f in
        (omega (arith, same), omega (arith, same))
    by_here false f rest =
        let both = rest f in
        (omega (arith, both.0), omega (arith, both.1))

-- where a table starts anew
pub fit-rises : (s : StartChange) → StartsFit s → Rises s.old
fit-rises s f = f.rises

pub among-inside : (s : StartChange) (start k : ℕ) (o : Option ℕ) → StartsFit s → o ≡ start_number 0 s.old start → o ≡ Some k → k < length s.new
among-inside s start k o f is e =
    let both = number-inside 0 s.old start k (sym is ∙ e) in
    omega (arith, both.1, f.same)

pub among-some : (s : StartChange) (start k : ℕ) (o : Option ℕ) → o ≡ start_number 0 s.old start → o ≡ Some k → Some (get_or s.new k 0) ≡ known_starts s false start
among-some s start k o is e = sym (ap (new_start s.new) (sym is ∙ e))

pub among-none : (s : StartChange) (start : ℕ) (o : Option ℕ) → o ≡ start_number 0 s.old start → o ≡ None → None ≡ known_starts s false start
among-none s start o is e = sym (ap (new_start s.new) (sym is ∙ e))

pub ruleset among_rules = (fit-rises, among-inside, among-some, among-none)
