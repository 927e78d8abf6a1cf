-- Laws of the words on lists.
use Rattle.std.proofs.Common.{◌≡◌, ℕ, zero, suc, ◌<◌, [], ◌∷◌, ◌++◌, length, get_or, refl, ◌∙◌, arith, inl, inr, subst}
use Rattle.std.proofs.lemmas.List.{length_push, get_or_append_left, get_or_push}
use Rattle.std.proofs.lemmas.Bool.{cases_lt}
use Rattle.dw_base.specs.Lists.{tabulate}

pub length-tabulate : {X : Type 0} (f : ℕ → X) → (n : ℕ) → length (tabulate f n) ≡ n
length-tabulate f zero = refl
length-tabulate f (suc n) =
    let e = length-tabulate f n in
    let p = length_push (tabulate f n) (f n) in
    omega (arith, e, p)

pub get_or-tabulate : {X : Type 0} (f : ℕ → X) → (n i : ℕ) (d : X) → i < n → get_or (tabulate f n) i d ≡ f i
get_or-tabulate f zero i d h = absurd (omega arith)
get_or-tabulate f (suc n) i d h =
    let e = length-tabulate f n in
    elim (cases_lt i n) [
      | inl below ↦ get_or_append_left (tabulate f n) (f n ∷ []) d i (omega arith) ∙ get_or-tabulate f n i d below
      | inr above ↦ let same : n ≡ i = omega arith in subst (λ (k : ℕ). get_or (tabulate f n ++ f n ∷ []) k d ≡ f k) same (get_or_push (tabulate f n) (f n) d n e)
    ]
