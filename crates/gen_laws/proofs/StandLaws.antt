-- Parts of joined bytes, where they stand.
use Rattle.std.proofs.Common.{◌≡◌, ℕ, ◌+◌, ◌<◌, ◌==◌, ◌||◌, Bool, true, false, List, [], ◌∷◌, ◌++◌, length, slice_index, refl, sym, ap, ◌∙◌, arith, subst}
use Rattle.std.proofs.lemmas.List.{append_assoc, drop_at, get_or-drop, get_or_append_left, length-append}
use Rattle.dw_base.specs.Texts.{ends_in, has_nul, text, text_in}
use Rattle.dw_base.proofs.ContributionBackLaws.{StandsAt}
use Rattle.dw_base.proofs.TextLaws.{has_nul-append_true, text-append_nul}
use Rattle.dw_meaning.proofs.LineReadLaws.{stands-behind}

-- a part stands behind what is in front of it
pub stands-in : (front q rest : List ℕ) → StandsAt (front ++ (q ++ rest)) q (length front)
stands-in front q rest = record {
  behind = rest;
  is = drop_at front (q ++ rest) (length front) refl;
  inside = omega (arith, length-append front (q ++ rest), length-append q rest);
}

-- the first part of what stands, and one behind others of it
pub stands-first : (bs q rest : List ℕ) (p : ℕ) → StandsAt bs (q ++ rest) p → StandsAt bs q p
stands-first bs q rest p h =
    let inside = h.inside in
    record {
      behind = rest ++ h.behind;
      is = h.is ∙ append_assoc q rest h.behind;
      inside = omega (arith, inside, length-append q rest);
    }

pub stands-second : (bs a q : List ℕ) (p : ℕ) → StandsAt bs (a ++ q) p → StandsAt bs q (p + length a)
stands-second bs a q p h =
    subst (λ (xs : List ℕ). StandsAt bs xs (p + length a)) (drop_at a q (length a) refl)
    (stands-behind bs (a ++ q) p (length a) h (omega (arith, length-append a q)))

pub stands-at : (bs q : List ℕ) (a b : ℕ) → StandsAt bs q a → a ≡ b → StandsAt bs q b
stands-at bs q a b h e = subst (λ (p : ℕ). StandsAt bs q p) e h

-- a byte of it
pub byte-there : (bs q : List ℕ) (a k : ℕ) → StandsAt bs q a → k < length q → slice_index bs (a + k) ≡ slice_index q k
byte-there bs q a k h lt =
    sym (get_or-drop a bs k 0) ∙ ap (λ (xs : List ℕ). slice_index xs k) h.is ∙ get_or_append_left q h.behind 0 k lt

-- a text with its NUL
pub text-there : (bs t rest : List ℕ) (p : ℕ) → StandsAt bs (t ++ 0 ∷ rest) p → has_nul t ≡ false → (ends_in bs p ≡ true) × (text_in bs p ≡ t)
unfolding ends_in text_in
text-there bs t rest p h bare = (
  ap has_nul h.is ∙ has_nul-append_true (t ++ 0 ∷ rest) h.behind (nul-there t rest),
  ap text h.is ∙ ap text (append_assoc t (0 ∷ rest) h.behind) ∙ text-append_nul t (rest ++ h.behind) bare,
)
  where
    or-true : (t : Bool) → (t || true) ≡ true
    or-true true = refl
    or-true false = refl

    nul-there : (t rest : List ℕ) → has_nul (t ++ 0 ∷ rest) ≡ true
    nul-there [] rest = refl
    nul-there (x ∷ xs) rest = rw (nul-there xs rest) (or-true (x == 0))
