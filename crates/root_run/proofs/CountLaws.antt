-- Items of lists of lists, and texts that rise: where each stands once, two equal ones stand at one place.
use Rattle.std.proofs.Common.{◌≡◌, ℕ, zero, suc, ◌+◌, ◌≤◌, ◌<◌, Bool, true, false, ◌&&◌, cond, List, [], ◌∷◌, ◌++◌, length, map, get_or, nat_lt, Option, Some, None, refl, sym, ap, subst, ◌∙◌, arith}
use Rattle.std.specs.Prelude.{Contains, count_by}
use Rattle.std.specs.List.{flat_map}
use Rattle.std.specs.Ordering.{nat_cmp, is_lt}
use Rattle.std.specs.Cmp.Lexicographic.{slice_cmp}
use Rattle.std.specs.declared.cmp.Ordering.{Ordering}
use Rattle.std.specs.declared.cmp.Ordering.TheVariants.{Less, Equal, Greater}
use Rattle.std.proofs.lemmas.Bool.{ltb-true, ltb-false}
use Rattle.std.proofs.lemmas.Cmp.{nat_list_cmp_total}
use Rattle.std.proofs.lemmas.List.{length-map, get_or-map}
use Rattle.std.proofs.lemmas.List.Elements.{Contains-get_or, Contains-append_left, Contains-append_right}
use Rattle.std.proofs.lemmas.List.Sums.{sum_by-cons, sum_by-append, get_or-le-sum_by}
use Rattle.work_texts.specs.Rules.{comes_after, rise_after}
use Rattle.root_plan.proofs.PlaceLaws.{own_equal}

-- ### Items that pass a test

module _ {A : Type 0} (p : A → Bool) where
  count-cons : (x : A) (xs : List A) → count_by p (x ∷ xs) ≡ cond (p x) 1 0 + count_by p xs
  count-cons x xs = sum_by-cons (λ (a : A). cond (p a) 1 0) x xs

  count-append : (xs ys : List A) → count_by p (xs ++ ys) ≡ count_by p xs + count_by p ys
  count-append xs ys = sum_by-append (λ (a : A). cond (p a) 1 0) xs ys

  has-count : (xs : List A) (k : ℕ) (d : A) → k < length xs → p (get_or xs k d) ≡ true → 0 < count_by p xs
  has-count xs k d l e =
      let most : cond (p (get_or xs k d)) 1 0 ≤ count_by p xs = get_or-le-sum_by (λ (a : A). cond (p a) 1 0) xs k d l in
      let one : ◌≡◌ {A = ℕ} (cond (p (get_or xs k d)) 1 0) 1 = ap (λ (b : Bool). cond b 1 0) e in
      omega (arith, most, one)

  first-more : (x : A) (xs : List A) → count_by p (x ∷ xs) ≤ 1 → p x ≡ true → 0 < count_by p xs → ⊥
  first-more x xs few e some =
      let one : ◌≡◌ {A = ℕ} (cond (p x) 1 0) 1 = ap (λ (b : Bool). cond b 1 0) e in
      let all : cond (p x) 1 0 + count_by p xs ≤ 1 = subst (λ (n : ℕ). n ≤ 1) (count-cons x xs) few in
      omega (arith, all, some, one)

  rest-few : (x : A) (xs : List A) → count_by p (x ∷ xs) ≤ 1 → count_by p xs ≤ 1
  rest-few x xs few =
      let all : cond (p x) 1 0 + count_by p xs ≤ 1 = subst (λ (n : ℕ). n ≤ 1) (count-cons x xs) few in
      omega (arith, all)

  -- where at most one passes, two that pass stand at one place
  one-of : (xs : List A) (d : A) (k l : ℕ) → count_by p xs ≤ 1 → k < length xs → l < length xs → p (get_or xs k d) ≡ true → p (get_or xs l d) ≡ true → k ≡ l
  one-of [] d k l few a b e f = absurd (omega (arith, a))
  one-of (x ∷ xs) d zero zero few a b e f = refl
  one-of (x ∷ xs) d zero (suc l) few a b e f = absurd (first-more x xs few e (has-count xs l d (omega (arith, b)) f))
  one-of (x ∷ xs) d (suc k) zero few a b e f = absurd (first-more x xs few f (has-count xs k d (omega (arith, a)) e))
  one-of (x ∷ xs) d (suc k) (suc l) few a b e f = ap (λ (n : ℕ). suc n) (one-of xs d k l (rest-few x xs few) (omega (arith, a)) (omega (arith, b)) e f)

pub count-map : {A B : Type 0} (p : B → Bool) (f : A → B) (xs : List A) → count_by p (map f xs) ≡ count_by (λ (x : A). p (f x)) xs
count-map p f [] = refl
count-map {A} p f (x ∷ xs) = count-cons p (f x) (map f xs) ∙ ap (λ (n : ℕ). cond (p (f x)) 1 0 + n) (count-map p f xs) ∙ sym (count-cons (λ (y : A). p (f y)) x xs)

-- ### Items of lists of lists

module _ {A B : Type 0} (p : B → Bool) (f : A → List B) (e : A) (d : B) where
  flat-sum : (x : A) (xs : List A) → count_by p (flat_map f (x ∷ xs)) ≡ count_by p (f x) + count_by p (flat_map f xs)
  flat-sum x xs = count-append p (f x) (flat_map f xs)

  some-first : (x : A) (xs : List A) → 0 < count_by p (f x) → 0 < count_by p (flat_map f (x ∷ xs))
  some-first x xs some = subst (λ (n : ℕ). 0 < n) (sym (flat-sum x xs)) (omega (arith, some))

  some-later : (x : A) (xs : List A) → 0 < count_by p (flat_map f xs) → 0 < count_by p (flat_map f (x ∷ xs))
  some-later x xs some = subst (λ (n : ℕ). 0 < n) (sym (flat-sum x xs)) (omega (arith, some))

  flat-count : (xs : List A) (i k : ℕ) → i < length xs → k < length (f (get_or xs i e)) → p (get_or (f (get_or xs i e)) k d) ≡ true → 0 < count_by p (flat_map f xs)
  flat-count [] i k a b h = absurd (omega (arith, a))
  flat-count (x ∷ xs) zero k a b h = some-first x xs (has-count p (f x) k d b h)
  flat-count (x ∷ xs) (suc i) k a b h = some-later x xs (flat-count xs i k (omega (arith, a)) b h)

  first-few : (x : A) (xs : List A) → count_by p (flat_map f (x ∷ xs)) ≤ 1 → count_by p (f x) ≤ 1
  first-few x xs few = let both : count_by p (f x) + count_by p (flat_map f xs) ≤ 1 = subst (λ (n : ℕ). n ≤ 1) (flat-sum x xs) few in omega (arith, both)

  later-few : (x : A) (xs : List A) → count_by p (flat_map f (x ∷ xs)) ≤ 1 → count_by p (flat_map f xs) ≤ 1
  later-few x xs few = let both : count_by p (f x) + count_by p (flat_map f xs) ≤ 1 = subst (λ (n : ℕ). n ≤ 1) (flat-sum x xs) few in omega (arith, both)

  not-twice : (x : A) (xs : List A) → count_by p (flat_map f (x ∷ xs)) ≤ 1 → 0 < count_by p (f x) → 0 < count_by p (flat_map f xs) → ⊥
  not-twice x xs few some more = let both : count_by p (f x) + count_by p (flat_map f xs) ≤ 1 = subst (λ (n : ℕ). n ≤ 1) (flat-sum x xs) few in omega (arith, both, some, more)

  pub flat-one : (xs : List A) (i k j l : ℕ) → count_by p (flat_map f xs) ≤ 1 → i < length xs → k < length (f (get_or xs i e)) → j < length xs → l < length (f (get_or xs j e))
      → p (get_or (f (get_or xs i e)) k d) ≡ true → p (get_or (f (get_or xs j e)) l d) ≡ true → (i ≡ j) × (k ≡ l)
  flat-one [] i k j l few a b c g h m = absurd (omega (arith, a))
  flat-one (x ∷ xs) zero k zero l few a b c g h m = (refl, one-of p (f x) d k l (first-few x xs few) b g h m)
  flat-one (x ∷ xs) zero k (suc j) l few a b c g h m = absurd (not-twice x xs few (has-count p (f x) k d b h) (flat-count xs j l (omega (arith, c)) g m))
  flat-one (x ∷ xs) (suc i) k zero l few a b c g h m = absurd (not-twice x xs few (has-count p (f x) l d g m) (flat-count xs i k (omega (arith, a)) b h))
  flat-one (x ∷ xs) (suc i) k (suc j) l few a b c g h m =
      let same = flat-one xs i k j l (later-few x xs few) (omega (arith, a)) b (omega (arith, c)) g h m in
      (ap (λ (n : ℕ). suc n) same.0, same.1)

  pub flat-contains : (xs : List A) (i k : ℕ) → i < length xs → k < length (f (get_or xs i e)) → Contains (flat_map f xs) (get_or (f (get_or xs i e)) k d)
  flat-contains [] i k a b = absurd (omega (arith, a))
  flat-contains (x ∷ xs) zero k a b = Contains-append_left (f x) (flat_map f xs) (get_or (f x) k d) (Contains-get_or (f x) k d b)
  flat-contains (x ∷ xs) (suc i) k a b = Contains-append_right (f x) (flat_map f xs) (get_or (f (get_or xs i e)) k d) (flat-contains xs i k (omega (arith, a)) b)

pub map-contains : {A B : Type 0} (f : A → B) (xs : List A) (x : A) → Contains xs x → Contains (map f xs) (f x)
map-contains f xs x c = (c.0, subst (λ (n : ℕ). c.0 < n) (sym (length-map xs f)) c.1, get_or-map f xs c.0 x (f x) c.1 ∙ ap f c.2)

-- ### Texts that rise

both-left : (a b : Bool) → (a && b) ≡ true → a ≡ true
both-left true b e = refl
both-left false b e = cc

both-right : (a b : Bool) → (a && b) ≡ true → b ≡ true
both-right true b e = e
both-right false b e = cc

is-less : (o : Ordering) → is_lt o ≡ true → o ≡ Less
is-less Less e = refl
is-less Equal e = cc
is-less Greater e = cc

not-equal : (o : Ordering) → is_lt o ≡ true → o ≡ Equal → ⊥
not-equal Less e f = cc
not-equal Equal e f = cc
not-equal Greater e f = cc

less-then : (a b c : List ℕ) → is_lt (slice_cmp nat_cmp a b) ≡ true → is_lt (slice_cmp nat_cmp b c) ≡ true → is_lt (slice_cmp nat_cmp a c) ≡ true
less-then a b c e f = ap is_lt (nat_list_cmp_total.trans a b c (is-less _ e) (is-less _ f))

rises-above : (last : List ℕ) (xs : List (List ℕ)) (j : ℕ) → rise_after (Some last) xs ≡ true → j < length xs → is_lt (slice_cmp nat_cmp last (get_or xs j [])) ≡ true
rises-above last [] j r l = absurd (omega (arith, l))
rises-above last (t ∷ ts) zero r l = both-left (comes_after (Some last) t) (rise_after (Some t) ts) r
rises-above last (t ∷ ts) (suc j) r l =
    less-then last t (get_or ts j []) (both-left (comes_after (Some last) t) (rise_after (Some t) ts) r)
    (rises-above t ts j (both-right (comes_after (Some last) t) (rise_after (Some t) ts) r) (omega (arith, l)))

rises-differ : (last : Option (List ℕ)) (xs : List (List ℕ)) (i j : ℕ) → rise_after last xs ≡ true → i < j → j < length xs → get_or xs i [] ≡ get_or xs j [] → ⊥
rises-differ last [] i j r a l e = absurd (omega (arith, l))
rises-differ last (x ∷ xs) i zero r a l e = absurd (omega (arith, a))
rises-differ last (x ∷ xs) zero (suc j) r a l e =
    not-equal (slice_cmp nat_cmp x (get_or xs j []))
    (rises-above x xs j (both-right (comes_after last x) (rise_after (Some x) xs) r) (omega (arith, l)))
    (subst (λ (y : List ℕ). slice_cmp nat_cmp x y ≡ Equal) e (own_equal x))
rises-differ last (x ∷ xs) (suc i) (suc j) r a l e = rises-differ (Some x) xs i j (both-right (comes_after last x) (rise_after (Some x) xs) r) (omega (arith, a)) (omega (arith, l)) e

rises-by : (xs : List (List ℕ)) (i j : ℕ) (a b : Bool) → nat_lt i j ≡ a → nat_lt j i ≡ b → rise_after None xs ≡ true → i < length xs → j < length xs → get_or xs i [] ≡ get_or xs j [] → i ≡ j
rises-by xs i j true b e f r k l same = absurd (rises-differ None xs i j r (ltb-true i j e) l same)
rises-by xs i j false true e f r k l same = absurd (rises-differ None xs j i r (ltb-true j i f) k (sym same))
rises-by xs i j false false e f r k l same = omega (arith, ltb-false i j e, ltb-false j i f)

-- two equal texts of those that rise stand at one place
pub rises-one : (xs : List (List ℕ)) (i j : ℕ) → rise_after None xs ≡ true → i < length xs → j < length xs → get_or xs i [] ≡ get_or xs j [] → i ≡ j
rises-one xs i j = rises-by xs i j (nat_lt i j) (nat_lt j i) refl refl
