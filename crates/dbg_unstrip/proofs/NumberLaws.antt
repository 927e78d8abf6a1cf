-- Numbers below a bound that pass a test, in order.
use Rattle.std.proofs.Common.{◌≡◌, ℕ, zero, suc, ◌<◌, ◌≤◌, Bool, true, false, List, [], ◌∷◌, ◌++◌, length, get_or, refl, sym, ap, ◌∙◌, arith, inl, inr, subst}
use Rattle.std.proofs.lemmas.Bool.{cases_lt, cases_Bool}
use Rattle.std.proofs.lemmas.List.{length-append, get_or_append_left, get_or_push}
use Rattle.dbg_unstrip.specs.Matching.{numbers_below}

-- one number more
pub with-one : (test : ℕ → Bool) (n : ℕ) → test n ≡ true → numbers_below test (suc n) ≡ numbers_below test n ++ n ∷ []
with-one test n passes = rw passes refl

pub without-one : (test : ℕ → Bool) (n : ℕ) → test n ≡ false → numbers_below test (suc n) ≡ numbers_below test n
without-one test n fails = rw fails refl

pub length-with : (test : ℕ → Bool) (n : ℕ) → test n ≡ true → length (numbers_below test (suc n)) ≡ suc (length (numbers_below test n))
length-with test n passes =
    ap (λ (xs : List ℕ). length xs) (with-one test n passes) ∙ omega (arith, length-append (numbers_below test n) (n ∷ []))

pub length-without : (test : ℕ → Bool) (n : ℕ) → test n ≡ false → length (numbers_below test (suc n)) ≡ length (numbers_below test n)
length-without test n fails = ap (λ (xs : List ℕ). length xs) (without-one test n fails)

-- below a greater bound there are no fewer
pub length-more : (test : ℕ → Bool) (m n : ℕ) → m ≤ n → length (numbers_below test m) ≤ length (numbers_below test n)
length-more test m zero le = let e : m ≡ zero = omega arith in subst (λ (k : ℕ). length (numbers_below test k) ≤ 0) (sym e) (omega arith)
length-more test m (suc n) le = elim (cases_lt n m) [
  | inl above ↦
      let e : m ≡ suc n = omega arith in
      subst (λ (k : ℕ). length (numbers_below test k) ≤ length (numbers_below test (suc n))) (sym e) (omega arith)
  | inr below ↦
      let before = length-more test m n below in
      elim (cases_Bool (test n)) [
        | inl passes ↦ omega (arith, before, length-with test n passes)
        | inr fails ↦ omega (arith, before, length-without test n fails)
      ]
]

pub length-least : (test : ℕ → Bool) (n : ℕ) → length (numbers_below test n) ≤ n
length-least test zero = omega arith
length-least test (suc n) =
    let before = length-least test n in
    elim (cases_Bool (test n)) [
      | inl passes ↦ omega (arith, before, length-with test n passes)
      | inr fails ↦ omega (arith, before, length-without test n fails)
    ]

-- the place of one is among them
pub place-there : (test : ℕ → Bool) (i n : ℕ) → i < n → test i ≡ true → length (numbers_below test i) < length (numbers_below test n)
place-there test i n lt passes =
    let next = length-with test i passes in
    let more = length-more test (suc i) n (omega arith) in
    omega arith

-- and there it stands
pub number-at : (test : ℕ → Bool) (i n d : ℕ) → i < n → test i ≡ true → get_or (numbers_below test n) (length (numbers_below test i)) d ≡ i
number-at test i zero d lt passes = absurd (omega arith)
number-at test i (suc n) d lt passes = elim (cases_lt i n) [
  | inl below ↦
      let before = number-at test i n d below passes in
      elim (cases_Bool (test n)) [
        | inl also ↦
            ap (λ (xs : List ℕ). get_or xs (length (numbers_below test i)) d) (with-one test n also)
            ∙ get_or_append_left (numbers_below test n) (n ∷ []) d (length (numbers_below test i)) (place-there test i n below passes)
            ∙ before
        | inr fails ↦ ap (λ (xs : List ℕ). get_or xs (length (numbers_below test i)) d) (without-one test n fails) ∙ before
      ]
  | inr above ↦
      let e : n ≡ i = omega arith in
      let here : test n ≡ true = ap test e ∙ passes in
      subst (λ (k : ℕ). get_or (numbers_below test (suc n)) (length (numbers_below test k)) d ≡ k) e
      (ap (λ (xs : List ℕ). get_or xs (length (numbers_below test n)) d) (with-one test n here)
      ∙ get_or_push (numbers_below test n) n d (length (numbers_below test n)) refl)
]

-- what stands at a place is a number that passes, at its place
pub record StandsAt (test : ℕ → Bool) (n k i : ℕ) : Type 0 where
  pub below : i < n
  pub passes : test i ≡ true
  pub place : length (numbers_below test i) ≡ k

pub number-there : (test : ℕ → Bool) (n k d : ℕ) → k < length (numbers_below test n) → StandsAt test n k (get_or (numbers_below test n) k d)
number-there test zero k d lt = absurd (omega arith)
number-there test (suc n) k d lt =
    elim (cases_Bool (test n)) [
      | inl also ↦
          let long = length-append (numbers_below test n) (n ∷ []) in
          let inside : k < length (numbers_below test n ++ n ∷ []) = subst (λ (xs : List ℕ). k < length xs) (with-one test n also) lt in
          subst (λ (xs : List ℕ). StandsAt test (suc n) k (get_or xs k d)) (sym (with-one test n also))
          (elim (cases_lt k (length (numbers_below test n))) [
            | inl below ↦
                subst (StandsAt test (suc n) k) (sym (get_or_append_left (numbers_below test n) (n ∷ []) d k below))
                (further test n k (get_or (numbers_below test n) k d) (number-there test n k d below))
            | inr last ↦
                subst (StandsAt test (suc n) k) (sym (get_or_push (numbers_below test n) n d k (omega arith)))
                (record { below = omega arith; passes = also; place = omega arith })
          ])
      | inr fails ↦
          subst (λ (xs : List ℕ). StandsAt test (suc n) k (get_or xs k d)) (sym (without-one test n fails))
          (further test n k (get_or (numbers_below test n) k d)
          (number-there test n k d (subst (λ (xs : List ℕ). k < length xs) (without-one test n fails) lt)))
    ]
  where
    further : (test : ℕ → Bool) (n k i : ℕ) → StandsAt test n k i → StandsAt test (suc n) k i
    further test n k i s = let below = s.below in record { below = omega arith; passes = s.passes; place = s.place }
