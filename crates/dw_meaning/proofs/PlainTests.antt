-- Lists of tests that compute, and what they say where they pass: of numbers, of alignments, of all numbers below one. For
-- worked files.
use Rattle.std.proofs.Common.{◌≡◌, ◌≢◌, ℕ, zero, suc, ◌+◌, ◌*◌, ◌^◌, ◌==◌, ◌⊎◌, Bool, true, false, ◌&&◌, ◌||◌, not, List, [], ◌∷◌, sym, ap, ◌∙◌, subst, arith, inl, inr, count_ones, ◌<◌}
use Rattle.std.specs.Prelude.{⊤, nat_le}
use Rattle.std.specs.Int.{is_power_of_two}
use Rattle.std.proofs.lemmas.Bool.{true≢false, and_parts, or_cases, or_left, or_right, eqb-true, eqb-false, not-true, cases_lt, eq-eqb, ne_eqb}
use Rattle.std.proofs.lemmas.Nat.{ones_cat, pow_pos}

-- each test of a list passes
abbrev pub passes : List Bool → Bool
passes [] = true
passes (t ∷ ts) = t && passes ts

-- each test of a list is true
abbrev pub AllTrue : List Bool → Type 0
AllTrue [] = ⊤
AllTrue (t ∷ ts) = (t ≡ true) × AllTrue ts

pub passes-true : (ts : List Bool) → passes ts ≡ true → AllTrue ts
passes-true [] h = tt
passes-true (t ∷ ts) h = let p = and_parts t (passes ts) h in (p.0, passes-true ts p.1)

-- a test passes at each number below one
abbrev pub all_below : (ℕ → Bool) → ℕ → Bool
all_below test zero = true
all_below test (suc n) = all_below test n && test n

-- a number is 2 to a power below k
abbrev pub is_power_below : ℕ → ℕ → Bool
is_power_below zero n = false
is_power_below (suc k) n = n == 2 ^ k || is_power_below k n

-- an alignment is 0 or a power of two; a count of digits would compute on small numbers alone
abbrev pub is_plain_alignment : ℕ → Bool
is_plain_alignment n = n == 0 || (is_power_below 64 n || (nat_le (2 ^ 64) n && is_power_of_two n))

-- a number that isn't another by the test
pub differs : (a b : ℕ) → not (a == b) ≡ true → a ≢ b
differs a b h = eqb-false a b (not-true (a == b) h)

-- what all numbers below one pass, each passes
pub below-true : (test : ℕ → Bool) (n i : ℕ) → all_below test n ≡ true → i < n → test i ≡ true
below-true test zero i h lt = absurd (omega arith)
below-true test (suc n) i h lt =
    let t = and_parts (all_below test n) (test n) h in
    elim (cases_lt i n) [
      | inl before ↦ below-true test n i t.0 before
      | inr after ↦ let same : n ≡ i = omega arith in subst (λ (k : ℕ). test k ≡ true) same t.1
    ]

-- the digits of a power of two
power_ones : (k : ℕ) → count_ones (2 ^ k) ≡ 1
unfolding lib.Count.ones
power_ones k =
    let one : 1 * 2 ^ k + 0 ≡ 2 ^ k = omega arith in
    ap count_ones (sym one) ∙ ones_cat k 1 0 (pow_pos k)

power-sound : (k n : ℕ) → is_power_below k n ≡ true → is_power_of_two n ≡ true
power-sound zero n h = absurd (true≢false (sym h))
power-sound (suc k) n h =
    elim (or_cases (n == 2 ^ k) (is_power_below k n) h) [
      | inl here ↦ eq-eqb (count_ones n) 1 (ap count_ones (eqb-true n (2 ^ k) here) ∙ power_ones k)
      | inr below ↦ power-sound k n below
    ]

pub align-sound : (n : ℕ) → is_plain_alignment n ≡ true → (n == 0 || is_power_of_two n) ≡ true
align-sound n h =
    elim (or_cases (n == 0) (is_power_below 64 n || (nat_le (2 ^ 64) n && is_power_of_two n)) h) [
      | inl none ↦ or_left (n == 0) (is_power_of_two n) none
      | inr some ↦ or_right (n == 0) (is_power_of_two n) (power (or_cases (is_power_below 64 n) (nat_le (2 ^ 64) n && is_power_of_two n) some))
    ]
  where
    power : (is_power_below 64 n ≡ true) ⊎ ((nat_le (2 ^ 64) n && is_power_of_two n) ≡ true) → is_power_of_two n ≡ true
    power (inl below) = power-sound 64 n below
    power (inr above) = (and_parts (nat_le (2 ^ 64) n) (is_power_of_two n) above).1

-- one of two holds, and not the first
pub other-true : (x y : Bool) → (x || y) ≡ true → x ≡ false → y ≡ true
other-true true y h e = absurd (true≢false e)
other-true false y h e = h

-- what is so unless a number is 0
pub unless_zero : (n : ℕ) (y : Bool) → (n == 0 || y) ≡ true → n ≢ 0 → y ≡ true
unless_zero n y h some = other-true (n == 0) y h (ne_eqb n 0 some)

-- what is so where something else is
pub where_true : (x y : Bool) → (not x || y) ≡ true → x ≡ true → y ≡ true
where_true x y h e = other-true (not x) y h (ap not e)
