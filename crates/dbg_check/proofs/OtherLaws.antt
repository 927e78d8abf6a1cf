-- The sections that are meant as they stand agree exactly where they do under each name that one of the two files has.
use Rattle.std.proofs.Common.{Bool, false, ◌≡◌, ℕ, ◌⊎◌, inl, inr, if◌then◌else◌, List, [], ◌∷◌, refl, ap, sym, subst, ◌∙◌}
use Rattle.std.proofs.lemmas.Bool.{cases_Bool}
use Rattle.dw_base.proofs.TextLaws.{same_text-true}
use Rattle.dw_base.specs.Texts.{same_text}
use Rattle.dw_base.specs.ViewData.{NamedBytes, bytes_named}
use Rattle.dbg_check.proofs.KnownLaws.{Known, known-both, told_ℕ, told_list}

-- what stands under a name
abbrev pub Named : Type 0
Named = List ℕ → List (List ℕ)

-- two files have the same under each name of these sections
abbrev pub AgreeUnder : Named → Named → List NamedBytes → Type 0
AgreeUnder f g [] = Unit {0}
AgreeUnder f g (x ∷ xs) = (f x.name ≡ g x.name) × AgreeUnder f g xs

-- so under any name they have, or none of these sections is under it
under-any : (f g : Named) (xs : List NamedBytes) (name : List ℕ) → AgreeUnder f g xs → (f name ≡ g name) ⊎ (bytes_named xs name ≡ [])
under-any f g [] name agree = inr refl
under-any f g (x ∷ xs) name agree = elim (cases_Bool (same_text x.name name)) [
  | inl is ↦ inl (subst (λ (t : List ℕ). f t ≡ g t) (same_text-true x.name name is) agree.0)
  | inr not_ ↦ by (under-any f g xs name agree.1) not_
]
  where
    by : (f name ≡ g name) ⊎ (bytes_named xs name ≡ []) → same_text x.name name ≡ false → (f name ≡ g name) ⊎ (bytes_named (x ∷ xs) name ≡ [])
    by (inl same) not_ = inl same
    by (inr none) not_ = inr (ap (λ (b : Bool). if b then x.bytes ∷ bytes_named xs name else bytes_named xs name) not_ ∙ none)

-- two files have the same under each name of the sections of both: then they have it under all
pub others-agree : (xs ys : List NamedBytes) → AgreeUnder (bytes_named xs) (bytes_named ys) xs → AgreeUnder (bytes_named xs) (bytes_named ys) ys
    → (name : List ℕ) → bytes_named xs name ≡ bytes_named ys name
others-agree xs ys one other name = by (under-any (bytes_named xs) (bytes_named ys) xs name one) (under-any (bytes_named xs) (bytes_named ys) ys name other)
  where
    by : (bytes_named xs name ≡ bytes_named ys name) ⊎ (bytes_named xs name ≡ []) → (bytes_named xs name ≡ bytes_named ys name) ⊎ (bytes_named ys name ≡ [])
        → bytes_named xs name ≡ bytes_named ys name
    by (inl same) rest = same
    by (inr none) (inl same) = same
    by (inr none) (inr empty) = none ∙ sym empty

pub agree-under : (f g : Named) (xs : List NamedBytes) → ((name : List ℕ) → f name ≡ g name) → AgreeUnder f g xs
agree-under f g [] each = tt
agree-under f g (x ∷ xs) each = (each x.name, agree-under f g xs each)

under-known : (f g : Named) (xs : List NamedBytes) → Known (AgreeUnder f g xs)
under-known f g [] = inl tt
under-known f g (x ∷ xs) = known-both (told_list (told_list told_ℕ) (f x.name) (g x.name)) (under-known f g xs)

-- whether they have it under all
pub others-known : (xs ys : List NamedBytes) → Known ((name : List ℕ) → bytes_named xs name ≡ bytes_named ys name)
others-known xs ys = by (under-known (bytes_named xs) (bytes_named ys) xs) (under-known (bytes_named xs) (bytes_named ys) ys)
  where
    by : Known (AgreeUnder (bytes_named xs) (bytes_named ys) xs) → Known (AgreeUnder (bytes_named xs) (bytes_named ys) ys)
        → Known ((name : List ℕ) → bytes_named xs name ≡ bytes_named ys name)
    by (inl one) (inl other) = inl (others-agree xs ys one other)
    by (inl one) (inr fails) = inr (λ (each : (name : List ℕ) → bytes_named xs name ≡ bytes_named ys name). fails (agree-under (bytes_named xs) (bytes_named ys) ys each))
    by (inr fails) other = inr (λ (each : (name : List ℕ) → bytes_named xs name ≡ bytes_named ys name). fails (agree-under (bytes_named xs) (bytes_named ys) xs each))
