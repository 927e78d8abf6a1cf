-- Numbers that pass a test, counted from 0.
use Rattle.std.proofs.Common.{◌≡◌, ◌≢◌, ℕ, zero, suc, ◌+◌, ◌<◌, ◌≤◌, ◌==◌, ◌&&◌, Bool, true, false, if◌then◌else◌, refl, sym, ap, ◌∙◌, arith, inl, inr, subst}
use Rattle.std.proofs.lemmas.Bool.{cases_lt, cases_Bool}
use Rattle.std.proofs.lemmas.Bool.Decides.{nat_tests}
use Rattle.std.specs.Prelude.{Option, Some, None}
use Rattle.dw_base.specs.Notes.{or_this}
use Rattle.dw_view.specs.PairViews.{count_below, nth_below}

pub or-none : (o : Option ℕ) (n : ℕ) → or_this o n false ≡ o
or-none None n = refl
or-none (Some i) n = refl

-- one more
pub count-next : (test : ℕ → Bool) (n : ℕ) → test n ≡ true → count_below test (suc n) ≡ count_below test n + 1
count-next test n passes = rw passes refl

pub count-same : (test : ℕ → Bool) (n : ℕ) → test n ≡ false → count_below test (suc n) ≡ count_below test n
count-same test n fails = rw fails refl

count-more : (test : ℕ → Bool) (m n : ℕ) → m ≤ n → count_below test m ≤ count_below test n
count-more test m zero le = let e : m ≡ zero = omega arith in subst (λ (k : ℕ). count_below test k ≤ count_below test zero) (sym e) (omega arith)
count-more test m (suc n) le = elim (cases_lt n m) [
  | inl above ↦ let e : m ≡ suc n = omega arith in subst (λ (k : ℕ). count_below test k ≤ count_below test (suc n)) (sym e) (omega arith)
  | inr below ↦
      let before = count-more test m n below in
      elim (cases_Bool (test n)) [
        | inl passes ↦ omega (arith, before, count-next test n passes)
        | inr fails ↦ omega (arith, before, count-same test n fails)
      ]
]

differ : (m n : ℕ) → m ≢ n → (m == n) ≡ false
differ m n h = grind arith

own : (n : ℕ) → (n == n) ≡ true
own n = grind arith

and-none : (x y : Bool) → (x ≡ true → y ≡ false) → (x && y) ≡ false
and-none true y h = h refl
and-none false y h = refl

-- of those before it none has its count
nth-before : (test : ℕ → Bool) (i m : ℕ) → m ≤ i → nth_below test (count_below test i) m ≡ None
nth-before test i zero le = refl
nth-before test i (suc m) le =
    let before = nth-before test i m (omega arith) in
    let none : (test m && count_below test m == count_below test i) ≡ false =
    and-none (test m) (count_below test m == count_below test i)
    (λ passes. differ (count_below test m) (count_below test i)
    (λ e. omega (arith, e, count-next test m passes, count-more test (suc m) i (omega arith)))) in
    ap (λ (t : Bool). or_this (nth_below test (count_below test i) m) m t) none
    ∙ or-none (nth_below test (count_below test i) m) m
    ∙ before

-- so it is the one
pub nth-is : (test : ℕ → Bool) (i n : ℕ) → i < n → test i ≡ true → nth_below test (count_below test i) n ≡ Some i
nth-is test i zero lt passes = absurd (omega arith)
nth-is test i (suc n) lt passes = elim (cases_lt i n) [
  | inl below ↦ ap (λ (o : Option ℕ). or_this o n (test n && count_below test n == count_below test i)) (nth-is test i n below passes)
  | inr above ↦
      let e : n ≡ i = omega arith in
      subst (λ (k : ℕ). nth_below test (count_below test i) (suc k) ≡ Some i) (sym e)
      (ap (λ (o : Option ℕ). or_this o i (test i && count_below test i == count_below test i)) (nth-before test i i (omega arith))
      ∙ ap (λ (t : Bool). or_this None i (t && count_below test i == count_below test i)) passes
      ∙ ap (λ (t : Bool). or_this None i t) (own (count_below test i)))
]

-- where none passes there is none
pub nth-none : (k n : ℕ) → nth_below (λ i. false) k n ≡ None
nth-none k zero = refl
nth-none k (suc n) = ap (λ (o : Option ℕ). or_this o n false) (nth-none k n)

-- what is found passes, and has its count
pub record Passes (test : ℕ → Bool) (k n h : ℕ) : Type 0 where
  pub below : h < n
  pub passes : test h ≡ true
  pub before : count_below test h ≡ k

and-true : (x y : Bool) → (x && y) ≡ true → (x ≡ true) × (y ≡ true)
and-true true true h = (refl, refl)
and-true true false h = let no : false ≡ true = h in cc
and-true false y h = let no : false ≡ true = h in cc

eq-is : (m n : ℕ) → (m == n) ≡ true → m ≡ n
eq-is m n h = grind (arith, nat_tests)

pub nth-found : (test : ℕ → Bool) (k n h : ℕ) → nth_below test k n ≡ Some h → Passes test k n h
nth-found test k zero h e = absurd cc
nth-found test k (suc n) h e = by_before (nth_below test k n) (λ i is. nth-found test k n i is) refl e
  where
    by_here : (t : Bool) → (test n && count_below test n == k) ≡ t → (if t then Some n else None) ≡ Some h → Passes test k (suc n) h
    by_here true is same =
        let here : n ≡ h = cc in
        let both = and-true (test n) (count_below test n == k) is in
        subst (λ (i : ℕ). Passes test k (suc n) i) here
        (record { below = omega arith; passes = both.0; before = eq-is (count_below test n) k both.1 })
    by_here false is same = absurd cc

    by_before : (o : Option ℕ) → ((i : ℕ) → nth_below test k n ≡ Some i → Passes test k n i) → nth_below test k n ≡ o
        → or_this o n (test n && count_below test n == k) ≡ Some h → Passes test k (suc n) h
    by_before None before is same = by_here (test n && count_below test n == k) refl same
    by_before (Some i) before is same =
        let here : i ≡ h = cc in
        let found = before h (is ∙ ap (λ (j : ℕ). Some j) here) in
        let below = found.below in
        record { below = omega arith; passes = found.passes; before = found.before }

-- where none is found there are too few, and where there are too few none is found
pub nth-over : (test : ℕ → Bool) (k n : ℕ) → nth_below test k n ≡ None → count_below test n ≤ k
nth-over test k zero e = omega arith
nth-over test k (suc n) e = by_before (nth_below test k n) (λ is. nth-over test k n is) refl e
  where
    by_here : (t u : Bool) → test n ≡ t → (count_below test n == k) ≡ u → (if t && u then Some n else None) ≡ None → count_below test n ≤ k → count_below test (suc n) ≤ k
    by_here true true passes same none before = absurd cc
    by_here true false passes differs none before =
        let other : count_below test n ≢ k = λ same. (let no : true ≡ false = sym (grind (arith, nat_tests, same)) ∙ differs in cc) in
        omega (arith, count-next test n passes)
    by_here false u fails same none before = omega (arith, count-same test n fails)

    by_before : (o : Option ℕ) → (nth_below test k n ≡ None → count_below test n ≤ k) → nth_below test k n ≡ o
        → or_this o n (test n && count_below test n == k) ≡ None → count_below test (suc n) ≤ k
    by_before None before is none = by_here (test n) (count_below test n == k) refl refl none (before is)
    by_before (Some i) before is none = absurd cc

pub nth-past : (test : ℕ → Bool) (k n : ℕ) → count_below test n ≤ k → nth_below test k n ≡ None
nth-past test k zero few = refl
nth-past test k (suc n) few =
    let before = nth-past test k n (omega (arith, count-more test n (suc n) (omega arith))) in
    let none : (test n && count_below test n == k) ≡ false =
    and-none (test n) (count_below test n == k) (λ passes. differ (count_below test n) k (λ e. omega (arith, e, count-next test n passes))) in
    ap (λ (t : Bool). or_this (nth_below test k n) n t) none ∙ or-none (nth_below test k n) n ∙ before

-- tests that agree below a bound
pub count-alike : (f g : ℕ → Bool) (n : ℕ) → ((i : ℕ) → i < n → f i ≡ g i) → count_below f n ≡ count_below g n
count-alike f g zero same = refl
count-alike f g (suc n) same =
    ap (λ (b : Bool). if b then count_below f n + 1 else count_below f n) (same n (omega arith))
    ∙ ap (λ (k : ℕ). if g n then k + 1 else k) (count-alike f g n (λ i lt. same i (omega (arith, lt))))

pub nth-alike : (f g : ℕ → Bool) (k n : ℕ) → ((i : ℕ) → i < n → f i ≡ g i) → nth_below f k n ≡ nth_below g k n
nth-alike f g k zero same = refl
nth-alike f g k (suc n) same =
    ap (λ (o : Option ℕ). or_this o n (f n && count_below f n == k)) (nth-alike f g k n (λ i lt. same i (omega (arith, lt))))
    ∙ ap (λ (b : Bool). or_this (nth_below g k n) n (b && count_below f n == k)) (same n (omega arith))
    ∙ ap (λ (m : ℕ). or_this (nth_below g k n) n (g n && m == k)) (count-alike f g n (λ i lt. same i (omega (arith, lt))))
