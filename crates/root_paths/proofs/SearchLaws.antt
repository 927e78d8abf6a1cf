-- Paths in byte order: those that begin with a front stand together, from the first that isn't less than the front.
use Rattle.std.proofs.Common.{◌≡◌, ℕ, ◌<◌, Bool, true, false, ◌&&◌, cond, List, [], ◌∷◌, nat_eq, refl, sym, ap, ◌∙◌, subst, arith}
use Rattle.std.specs.Prelude.{◌==◌, nat_lt}
use Rattle.std.specs.declared.cmp.Ordering.{Ordering}
use Rattle.std.specs.declared.cmp.Ordering.TheVariants.{Less, Equal, Greater}
use Rattle.std.specs.Ordering.{nat_cmp, is_lt, ordering_then}
use Rattle.std.specs.Cmp.Lexicographic.{slice_cmp}
use Rattle.std.specs.List.{starts_with}
use Rattle.std.proofs.lemmas.Bool.{eqb-true, eqb-false, eq-eqb, lt-ltb, ltb-true, ltb-false}

-- ### Two numbers

equal-by : (l e : Bool) → cond l Less (cond e Equal Greater) ≡ Equal → e ≡ true
equal-by true e is = cc
equal-by false true is = refl
equal-by false false is = cc

same_number : (a b : ℕ) → nat_cmp a b ≡ Equal → a ≡ b
same_number a b e = eqb-true a b (equal-by (nat_lt a b) (a == b) e)

less-by : (l : Bool) (e : Bool) → l ≡ true → cond l Less (cond e Equal Greater) ≡ Less
less-by true e is = refl
less-by false e is = cc

greater-by : (l e : Bool) → cond l Less (cond e Equal Greater) ≡ Greater → (l ≡ false) × (e ≡ false)
greater-by true e is = cc
greater-by false true is = cc
greater-by false false is = (refl, refl)

turned : (a b : ℕ) → nat_cmp a b ≡ Greater → nat_cmp b a ≡ Less
turned a b e =
    let p = greater-by (nat_lt a b) (a == b) e in
    less-by (nat_lt b a) (b == a) (lt-ltb b a (omega (arith, ltb-false a b p.0, eqb-false a b p.1)))

pub cmp_self : (a : ℕ) → nat_cmp a a ≡ Equal
cmp_self a = by_test (nat_lt a a) (a == a) (not_less a) (eq-eqb a a refl)
  where
    by_test : (l e : Bool) → l ≡ false → e ≡ true → cond l Less (cond e Equal Greater) ≡ Equal
    by_test false true p q = refl
    by_test true e p q = cc
    by_test false false p q = cc

    not_less : (n : ℕ) → nat_lt n n ≡ false
    not_less n = false-by (nat_lt n n) (λ t. absurd (irrefl n (ltb-true n n t)))
      where
        false-by : (b : Bool) → (b ≡ true → ⊥) → b ≡ false
        false-by true f = absurd (f refl)
        false-by false f = refl

        irrefl : (n : ℕ) → n < n → ⊥
        irrefl n l = omega (arith, l)

-- ### Fronts

pub first-same : (a b : ℕ) (r : Bool) → ((a == b) && r) ≡ true → (a ≡ b) × (r ≡ true)
first-same a b r e = by_test (a == b) refl e
  where
    by_test : (t : Bool) → (a == b) ≡ t → (t && r) ≡ true → (a ≡ b) × (r ≡ true)
    by_test true t e = (eqb-true a b t, e)
    by_test false t e = cc

-- what begins with a front isn't less than it
pub not_before : (f q : List ℕ) → starts_with nat_eq q f ≡ true → slice_cmp nat_cmp q f ≡ Less → ⊥
not_before [] [] s e = cc
not_before [] (b ∷ q) s e = cc
not_before (a ∷ f) [] s e = cc
not_before (a ∷ f) (b ∷ q) s e =
    let p = first-same a b (starts_with nat_eq q f) s in
    not_before f q p.1 (sym (ap (λ (o : Ordering). ordering_then o (slice_cmp nat_cmp q f)) (ap (λ (x : ℕ). nat_cmp x a) (sym p.0) ∙ cmp_self a)) ∙ e)

-- what stands between a front and what begins with it begins with it
pub stands_together : (f y q : List ℕ) → slice_cmp nat_cmp y f ≡ Greater → is_lt (slice_cmp nat_cmp q y) ≡ false → starts_with nat_eq q f ≡ true → starts_with nat_eq y f ≡ true
stands_together [] y q g l s = refl
stands_together (a ∷ f) y [] g l s = cc
stands_together (a ∷ f) [] (b ∷ q) g l s = cc
stands_together (a ∷ f) (c ∷ y) (b ∷ q) g l s =
    let p = first-same a b (starts_with nat_eq q f) s in
    by_order (nat_cmp c a) refl g (subst (λ (x : ℕ). is_lt (ordering_then (nat_cmp x c) (slice_cmp nat_cmp q y)) ≡ false) (sym p.0) l) p.1 (λ h k. stands_together f y q h k p.1)
  where
    by_order : (o : Ordering) → nat_cmp c a ≡ o → ordering_then o (slice_cmp nat_cmp y f) ≡ Greater → is_lt (ordering_then (nat_cmp a c) (slice_cmp nat_cmp q y)) ≡ false
        → starts_with nat_eq q f ≡ true → (slice_cmp nat_cmp y f ≡ Greater → is_lt (slice_cmp nat_cmp q y) ≡ false → starts_with nat_eq y f ≡ true)
        → ((a == c) && starts_with nat_eq y f) ≡ true
    by_order Less o g l s rest = cc
    by_order Equal o g l s rest =
        let same : c ≡ a = same_number c a o in
        let e : nat_cmp a c ≡ Equal = ap (nat_cmp a) same ∙ cmp_self a in
        rw (eq-eqb a c (sym same)) (rest g (rw e at l))
    by_order Greater o g l s rest = absurd (apart (rw (turned c a o) at l))
      where
        apart : true ≡ false → ⊥
        apart e = cc

-- a front begins with itself
pub same_begins : (f : List ℕ) → starts_with nat_eq f f ≡ true
same_begins [] = refl
same_begins (a ∷ f) = rw (eq-eqb a a refl) (same_begins f)
