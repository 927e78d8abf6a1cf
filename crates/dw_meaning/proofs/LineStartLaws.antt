-- Where line tables start that stand one after another: each start is found as that of its number.
use Rattle.std.proofs.Common.{Bool, true, false, ◌≡◌, ◌≢◌, ℕ, zero, suc, ◌+◌, ◌<◌, ◌≤◌, ◌==◌, List, [], ◌∷◌, length, get_or, Some, refl, ap, ◌∙◌, arith, if◌then◌else◌}
use Rattle.std.specs.Bool.{⊤}
use Rattle.std.proofs.lemmas.Bool.{eq-eqb, ne_eqb}
use Rattle.std.proofs.lemmas.List.{length-append}
use Rattle.dw_base.specs.DebugData.{start_number}
use Rattle.dw_base.specs.LineReadings.{starts_from, all_lines}

-- each table has a byte at least
abbrev pub EachSome : List (List ℕ) → Type 0
EachSome [] = ⊤
EachSome (t ∷ ts) = (0 < length t) × EachSome ts

pub start-from : (n k : ℕ) (ts : List (List ℕ)) → k < length ts → n ≤ get_or (starts_from n ts) k 0
start-from n k [] lt = absurd (omega (arith, lt))
start-from n zero (t ∷ ts) lt = omega arith
start-from n (suc k) (t ∷ ts) lt =
    let rest = start-from (n + length t) k ts (omega (arith, lt)) in
    omega (arith, rest)

pub start-end : (n k : ℕ) (ts : List (List ℕ)) → EachSome ts → k < length ts → get_or (starts_from n ts) k 0 < n + length (all_lines ts)
start-end n k [] some lt = absurd (omega (arith, lt))
start-end n zero (t ∷ ts) some lt =
    let here = some.0 in
    omega (arith, here, length-append t (all_lines ts))
start-end n (suc k) (t ∷ ts) some lt =
    let rest = start-end (n + length t) k ts some.1 (omega (arith, lt)) in
    omega (arith, rest, length-append t (all_lines ts))

pub start-found : (first n k : ℕ) (ts : List (List ℕ)) → EachSome ts → k < length ts → start_number first (starts_from n ts) (get_or (starts_from n ts) k 0) ≡ Some (first + k)
start-found first n k [] some lt = absurd (omega (arith, lt))
start-found first n zero (t ∷ ts) some lt = rw (eq-eqb n n refl) (ap (λ (i : ℕ). Some i) (omega arith))
start-found first n (suc k) (t ∷ ts) some lt =
    let here = some.0 in
    let far = start-from (n + length t) k ts (omega (arith, lt)) in
    let other : n ≢ get_or (starts_from (n + length t) ts) k 0 = λ e. omega (arith, e, here, far) in
    ap (λ (b : Bool). if b then Some first else start_number (first + 1) (starts_from (n + length t) ts) (get_or (starts_from (n + length t) ts) k 0))
    (ne_eqb n (get_or (starts_from (n + length t) ts) k 0) other)
    ∙ start-found (first + 1) (n + length t) k ts some.1 (omega (arith, lt)) ∙ ap (λ (i : ℕ). Some i) (omega arith)

pub number-below : (first : ℕ) (starts : List ℕ) (v k : ℕ) → start_number first starts v ≡ Some k → k < first + length starts
number-below first [] v k e = absurd cc
number-below first (s ∷ ss) v k e = by_here (s == v) e (number-below (first + 1) ss v k)
  where
    by_here : (b : Bool) → (if b then Some first else start_number (first + 1) ss v) ≡ Some k → (start_number (first + 1) ss v ≡ Some k → k < first + 1 + length ss) → k < first + length (s ∷ ss)
    by_here true e rest =
        let same : first ≡ k = some-once first k e in
        omega (arith, same)
      where
        some-once : (x y : ℕ) → Some x ≡ Some y → x ≡ y
        some-once x y f = cc
    by_here false e rest = omega (arith, rest e)
