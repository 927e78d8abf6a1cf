-- Whether two values are the same is known: of numbers, pairs, lists, and what is made of these.
use Rattle.std.proofs.Common.{Bool, true, false, ◌≡◌, ℕ, zero, suc, ℤ, pos, negsuc, ◌⊎◌, inl, inr, List, [], ◌∷◌, Option, Some, None, refl, ap, sym, ◌∙◌}
use Rattle.std.proofs.lemmas.Bool.{cases_eq}

-- something holds, or it doesn't
abbrev pub Known : Type 0 → Type 0
Known P = P ⊎ (P → ⊥)

-- of any two values it is known whether they are the same
abbrev pub IsTold : Type 0 → Type 0
IsTold A = (x y : A) → Known (x ≡ y)

pub known-by : {P Q : Type 0} → (P → Q) → (Q → P) → Known P → Known Q
known-by to from (inl holds) = inl (to holds)
known-by {P} {Q} to from (inr fails) = inr (λ (q : Q). fails (from q))

pub known-both : {P Q : Type 0} → Known P → Known Q → Known (P × Q)
known-both {P} {Q} (inl p) (inl q) = inl (p, q)
known-both {P} {Q} (inl p) (inr fails) = inr (λ (both : P × Q). fails both.1)
known-both {P} {Q} (inr fails) q = inr (λ (both : P × Q). fails both.0)

-- values that are told by what they become, which they can be had from
pub told-by : {A B : Type 0} (to : A → B) (from : B → A) → ((x : A) → from (to x) ≡ x) → IsTold B → IsTold A
told-by to from back told x y = known-by (λ (e : to x ≡ to y). sym (back x) ∙ ap from e ∙ back y) (λ (e : x ≡ y). ap to e) (told (to x) (to y))

pub told_ℕ : IsTold ℕ
told_ℕ x y = cases_eq x y

abbrev number_bool : Bool → ℕ
number_bool true = 1
number_bool false = 0

abbrev bool_number : ℕ → Bool
bool_number zero = false
bool_number (suc n) = true

bool-back : (x : Bool) → bool_number (number_bool x) ≡ x
bool-back true = refl
bool-back false = refl

pub told_bool : IsTold Bool
told_bool = told-by number_bool bool_number bool-back told_ℕ

pub told× : {A B : Type 0} → IsTold A → IsTold B → IsTold (A × B)
told× {A} {B} a b x y = known-by to from (known-both (a x.0 y.0) (b x.1 y.1))
  where
    to : (x.0 ≡ y.0) × (x.1 ≡ y.1) → x ≡ y
    to e = λ i. (e.0 i, e.1 i)

    from : x ≡ y → (x.0 ≡ y.0) × (x.1 ≡ y.1)
    from e = (ap (λ (p : A × B). p.0) e, ap (λ (p : A × B). p.1) e)

-- something or nothing: with a value that stands where there is nothing
abbrev option_pair : {A : Type 0} → A → Option A → Bool × A
option_pair some None = (false, some)
option_pair some (Some x) = (true, x)

abbrev pair_option : {A : Type 0} → Bool → A → Option A
pair_option false x = None
pair_option true x = Some x

option-back : {A : Type 0} (some : A) (x : Option A) → pair_option (option_pair some x).0 (option_pair some x).1 ≡ x
option-back some None = refl
option-back some (Some x) = refl

pub told_option : {A : Type 0} → A → IsTold A → IsTold (Option A)
told_option {A} some a = told-by (option_pair some) (λ (p : Bool × A). pair_option p.0 p.1) (option-back some) (told× told_bool a)

-- signed numbers
abbrev signed_pair : ℤ → Bool × ℕ
signed_pair (pos n) = (true, n)
signed_pair (negsuc n) = (false, n)

abbrev pair_signed : Bool → ℕ → ℤ
pair_signed true n = pos n
pair_signed false n = negsuc n

signed-back : (x : ℤ) → pair_signed (signed_pair x).0 (signed_pair x).1 ≡ x
signed-back (pos n) = refl
signed-back (negsuc n) = refl

pub told_ℤ : IsTold ℤ
told_ℤ = told-by signed_pair (λ (p : Bool × ℕ). pair_signed p.0 p.1) signed-back (told× told_bool told_ℕ)

-- lists, item by item
abbrev front_or : {A : Type 0} → A → List A → A
front_or d [] = d
front_or d (x ∷ xs) = x

abbrev behind_front : {A : Type 0} → List A → List A
behind_front [] = []
behind_front (x ∷ xs) = xs

pub told_list : {A : Type 0} → IsTold A → IsTold (List A)
told_list {A} a [] [] = inl refl
told_list {A} a [] (y ∷ ys) = inr (λ (e : [] ≡ y ∷ ys). cc)
told_list {A} a (x ∷ xs) [] = inr (λ (e : x ∷ xs ≡ []). cc)
told_list {A} a (x ∷ xs) (y ∷ ys) = known-by to from (known-both (a x y) (told_list a xs ys))
  where
    to : (x ≡ y) × (xs ≡ ys) → x ∷ xs ≡ y ∷ ys
    to e = λ i. e.0 i ∷ e.1 i

    from : x ∷ xs ≡ y ∷ ys → (x ≡ y) × (xs ≡ ys)
    from e = (ap (λ (zs : List A). front_or x zs) e, ap (λ (zs : List A). behind_front zs) e)
