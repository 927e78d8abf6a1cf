-- Laws of patches: fields that are set stay apart.
use Rattle.std.proofs.Common.{inl, inr, ◌↔◌, Bool, true, false, ◌≡◌, ℕ, zero, suc, ◌+◌, ◌<◌, ◌≤◌, ◌^◌, List, [], ◌∷◌, ◌++◌, length, refl, sym, subst, arith}
use Rattle.std.proofs.lemmas.Bool.{both_ways, cases_lt}
use Rattle.std.proofs.lemmas.List.{length-append}
use Rattle.dw_base.specs.Refusals.{at}
use Rattle.dw_base.specs.declared.fault.Kind.TheVariants.{TooWide}
use Rattle.elf_layout.specs.Patched.{patch_at, IsApart, PatchesFit}
use Rattle.elf_layout.specs.declared.patch.Patch.{Patch}
use Rattle.dw_patch.specs.Patching.{IsFree, SetFails, too_wide}

-- no field
pub none-fit : (size : ℕ) (list : List Patch) → list ≡ [] → PatchesFit size list
none-fit size list none = rw none (record { each = λ i lt. absurd (omega (arith, lt)); apart = λ i j below lt. absurd (omega (arith, lt)) })

pub ruleset new_laws = (none-fit)

-- one field more
patch-front : (list : List Patch) (p : Patch) (i : ℕ) → i < length list → patch_at (list ++ p ∷ []) i ≡ patch_at list i
patch-front [] p i lt = absurd (omega (arith, lt))
patch-front (x ∷ xs) p zero lt = refl
patch-front (x ∷ xs) p (suc i) lt = patch-front xs p i (omega (arith, lt))

patch-last : (list : List Patch) (p : Patch) → patch_at (list ++ p ∷ []) (length list) ≡ p
patch-last [] p = refl
patch-last (x ∷ xs) p = patch-last xs p

pub more-fit : (size place n value : ℕ) (old new : List Patch) → PatchesFit size old → new ≡ old ++ record { at = place; size = n; value = value } ∷ [] → IsFree old place n
    → 0 < n → n ≤ 8 → place + n ≤ size → value < 256 ^ n → PatchesFit size new
more-fit size place n value old new fit is free some wide inside fits = rw is (all (record { at = place; size = n; value = value }) refl)
  where
    all : (p : Patch) → p ≡ record { at = place; size = n; value = value } → PatchesFit size (old ++ p ∷ [])
    all p p_is = record {
      each = λ i lt. elim (cases_lt i (length old)) [
        | inl front ↦ rw (patch-front old p i front) (fit.each i front)
        | inr last ↦
            let here : i ≡ length old = omega (arith, lt, last, length-append old (p ∷ [])) in
            rw (here, patch-last old p, p_is) (record { some = some; wide = wide; inside = inside; fits = fits })
      ];
      apart = λ i j below lt. elim (cases_lt j (length old)) [
        | inl front ↦
            let first : i < length old = omega (arith, below, front) in
            rw (patch-front old p i first, patch-front old p j front) (fit.apart i j below front)
        | inr last ↦
            let here : j ≡ length old = omega (arith, lt, last, length-append old (p ∷ [])) in
            let first : i < length old = omega (arith, here, below) in
            rw (patch-front old p i first, here, patch-last old p, p_is) (free.apart i first)
      ];
    }

-- a number that doesn't fit
pub at-too_wide : (section place size n : ℕ) (b : Bool) → ((b ≡ true) ↔ (n < 256 ^ size)) → b ≡ false → SetFails section place size n (at TooWide section place)
at-too_wide section place size n b fits not_fits = too_wide (elim (cases_lt n (256 ^ size)) [ inl lt ↦ absurd (both_ways b not_fits (fits.1 lt)) | inr le ↦ le ])

pub ruleset set_laws = (more-fit, at-too_wide)

-- the fields of a section are those of as many bytes
pub fit-here : (size n : ℕ) (list : List Patch) → PatchesFit size list → n ≡ size → PatchesFit n list
fit-here size n list fit same = subst (λ (k : ℕ). PatchesFit k list) (sym same) fit

pub ruleset apply_laws = (fit-here)

-- bytes of no field
pub free-none : (list : List Patch) (place n : ℕ) → list ≡ [] → IsFree list place n
free-none list place n none = rw none (record { apart = λ i lt. absurd (omega (arith, lt)) })

-- and of none of one more that they have no byte in common with
pub free-more : (old : List Patch) (p : Patch) (place n : ℕ) → IsFree old place n → IsApart p place n → IsFree (old ++ p ∷ []) place n
free-more old p place n free apart = record {
  apart = λ i lt. elim (cases_lt i (length old)) [
    | inl front ↦ rw (patch-front old p i front) (free.apart i front)
    | inr last ↦
        let here : i ≡ length old = omega (arith, lt, last, length-append old (p ∷ [])) in
        rw (here, patch-last old p) apart
  ];
}

-- and behind the last that was set
pub free-behind : (old new : List Patch) (place n at size value : ℕ) → new ≡ old ++ record { at = at; size = size; value = value } ∷ [] → at + size ≤ place → IsFree old place n
    → IsFree new place n
free-behind old new place n at size value is behind free =
    rw is (free-more old (record { at = at; size = size; value = value }) place n free (inr behind))

pub ruleset free_laws = (free-none, free-behind)
