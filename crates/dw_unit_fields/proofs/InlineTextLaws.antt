-- The text that stands in a value.
use Rattle.std.proofs.Common.{Bool, true, false, ◌≡◌, ℕ, ◌≤◌, ◌==◌, List, [], ◌∷◌, length, take, cond, ap, refl, arith}
use Rattle.dw_base.specs.Texts.{text}

-- a text is the front of its bytes
pub text-length : (bs : List ℕ) → length (text bs) ≤ length bs
text-length [] = omega arith
text-length (b ∷ bs) = by_nul (b == 0) (text-length bs)
  where
    by_nul : (z : Bool) → length (text bs) ≤ length bs → length (cond z [] (b ∷ text bs)) ≤ length (b ∷ bs)
    by_nul true h = omega arith
    by_nul false h = omega (arith, h)

pub text-front : (bs : List ℕ) → text bs ≡ take (length (text bs)) bs
text-front [] = refl
text-front (b ∷ bs) = by_nul (b == 0) (text-front bs)
  where
    by_nul : (z : Bool) → text bs ≡ take (length (text bs)) bs → cond z [] (b ∷ text bs) ≡ take (length (cond z [] (b ∷ text bs))) (b ∷ bs)
    by_nul true h = refl
    by_nul false h = ap (λ (r : List ℕ). b ∷ r) h
