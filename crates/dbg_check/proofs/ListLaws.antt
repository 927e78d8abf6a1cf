-- Two lists compared item by item, each item by what it is taken for: those so far agree, and one is the first that doesn't.
use Rattle.std.proofs.Common.{true, false, ◌≡◌, ℕ, zero, suc, ◌+◌, ◌<◌, ◌≤◌, inl, inr, List, [], ◌∷◌, length, map, get_or, refl, ap, sym, subst, ◌∙◌, arith}
use Rattle.std.proofs.lemmas.Bool.{cases_lt}
use Rattle.std.specs.Prelude.{◌↔◌, IsTrue}
use Rattle.dbg_check.proofs.PartLaws.{all-at, at-all, length-all}
use Rattle.dbg_check.proofs.ValueLaws.{told-no}
use Rattle.dbg_check.specs.Parts.{AgreeAll, AgreeAt, IsFirstApart}

length-map : {X A : Type 0} (f : X → A) (xs : List X) → length (map f xs) ≡ length xs
length-map f [] = refl
length-map f (x ∷ xs) = ap suc (length-map f xs)

-- items of a number that both lists have agree exactly where what they are taken for does
agree-item : {X A : Type 0} (R : A → A → Type 0) (f h : X → A) (xs ys : List X) (i : ℕ) (x y : X) → i < length xs → length xs ≡ length ys
    → AgreeAt R (map f xs) (map h ys) i ≡ R (f (get_or xs i x)) (h (get_or ys i y))
agree-item R f h [] ys i x y lt long = absurd (omega (arith, lt))
agree-item R f h (u ∷ us) [] i x y lt long = absurd (omega (arith, long))
agree-item R f h (u ∷ us) (w ∷ ws) zero x y lt long = refl
agree-item R f h (u ∷ us) (w ∷ ws) (suc i) x y lt long = agree-item R f h us ws i x y (omega (arith, lt)) (omega (arith, long))

-- a number that the first list hasn't
agree-beyond : {A : Type 0} (R : A → A → Type 0) (xs ys : List A) (n : ℕ) → length xs ≤ n → AgreeAt R xs ys n
agree-beyond R [] ys n beyond = tt
agree-beyond R (x ∷ xs) [] n beyond = tt
agree-beyond R (x ∷ xs) (y ∷ ys) zero beyond = absurd (omega (arith, beyond))
agree-beyond R (x ∷ xs) (y ∷ ys) (suc n) beyond = agree-beyond R xs ys n (omega (arith, beyond))

-- the items before a number agree
pub record SoFar {X A : Type 0} (R : A → A → Type 0) (f h : X → A) (xs ys : List X) (i : ℕ) : Type 0 where
  pub long : length xs ≡ length ys
  pub before : (k : ℕ) → k < i → AgreeAt R (map f xs) (map h ys) k

pub far-start : {X A : Type 0} (R : A → A → Type 0) (f h : X → A) (xs ys : List X) → length xs ≡ length ys → SoFar R f h xs ys 0
far-start R f h xs ys long = record {
  long = long;
  before = λ k lt. absurd (omega (arith, lt));
}

pub far-more : {X A : Type 0} (R : A → A → Type 0) (f h : X → A) (xs ys : List X) (i : ℕ) (d e : X) → SoFar R f h xs ys i → i < length xs
    → R (f (get_or xs i d)) (h (get_or ys i e)) → SoFar R f h xs ys (i + 1)
far-more R f h xs ys i d e far lt agree = record {
  long = far.long;
  before = by;
}
  where
    here : AgreeAt R (map f xs) (map h ys) i
    here = subst (λ (T : Type 0). T) (sym (agree-item R f h xs ys i d e lt far.long)) agree

    by : (k : ℕ) → k < i + 1 → AgreeAt R (map f xs) (map h ys) k
    by k less =
        elim (cases_lt k i) [
          | inl before ↦ far.before k before
          | inr behind ↦
              let is : i ≡ k = omega (arith, behind, less) in
              subst (λ (n : ℕ). AgreeAt R (map f xs) (map h ys) n) is here
        ]

pub far-other : {X A : Type 0} (R : A → A → Type 0) (f h : X → A) (xs ys : List X) (i : ℕ) (d e : X) → SoFar R f h xs ys i → i < length xs
    → (R (f (get_or xs i d)) (h (get_or ys i e)) → ⊥) → IsFirstApart R (map f xs) (map h ys) i
far-other R f h xs ys i d e far lt differs = record {
  within = let size = length-map f xs in omega (arith, size, lt);
  before = far.before;
  differs = λ same. differs (subst (λ (T : Type 0). T) (agree-item R f h xs ys i d e lt far.long) same);
}

pub far-over : {X A : Type 0} (R : A → A → Type 0) (f h : X → A) (xs ys : List X) (i : ℕ) → SoFar R f h xs ys i → length xs ≤ i → AgreeAll R (map f xs) (map h ys)
far-over R f h xs ys i far over =
    all-at R (map f xs) (map h ys) (length-map f xs ∙ far.long ∙ sym (length-map h ys)) by
  where
    by : (n : ℕ) → AgreeAt R (map f xs) (map h ys) n
    by n =
        elim (cases_lt n i) [
          | inl before ↦ far.before n before
          | inr behind ↦ let size = length-map f xs in agree-beyond R (map f xs) (map h ys) n (omega (arith, behind, over, size))
        ]

-- a first one that differs is one
pub apart-all : {A : Type 0} (R : A → A → Type 0) (xs ys : List A) (n : ℕ) → IsFirstApart R xs ys n → AgreeAll R xs ys → ⊥
apart-all R xs ys n apart all = apart.differs (at-all R xs ys all n)

-- the same of whether all agree
pub far-no : {X A : Type 0} (R : A → A → Type 0) (f h : X → A) (xs ys : List X) (i : ℕ) (d e : X) → SoFar R f h xs ys i → i < length xs
    → (R (f (get_or xs i d)) (h (get_or ys i e)) → ⊥) → IsTrue false ↔ AgreeAll R (map f xs) (map h ys)
far-no R f h xs ys i d e far lt differs =
    told-no (AgreeAll R (map f xs) (map h ys)) (λ all. apart-all R (map f xs) (map h ys) i (far-other R f h xs ys i d e far lt differs) all)

pub far-yes : {X A : Type 0} (R : A → A → Type 0) (f h : X → A) (xs ys : List X) (i : ℕ) → SoFar R f h xs ys i → length xs ≤ i
    → IsTrue true ↔ AgreeAll R (map f xs) (map h ys)
far-yes R f h xs ys i far over = ((λ (e : true ≡ true). far-over R f h xs ys i far over), (λ (all : AgreeAll R (map f xs) (map h ys)). refl))

-- lists of two lengths don't agree
pub lists-long : {X A : Type 0} (R : A → A → Type 0) (f h : X → A) (xs ys : List X) → (length xs ≡ length ys → ⊥) → IsTrue false ↔ AgreeAll R (map f xs) (map h ys)
lists-long R f h xs ys other =
    told-no (AgreeAll R (map f xs) (map h ys)) (λ all. other (sym (length-map f xs) ∙ length-all R (map f xs) (map h ys) all ∙ length-map h ys))

pub ruleset long_laws = (lists-long)
