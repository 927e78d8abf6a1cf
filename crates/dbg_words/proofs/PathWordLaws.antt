-- Components that are joined.
use Rattle.std.proofs.Common.{◌≡◌, ℕ, List, [], ◌∷◌, ◌++◌, map, refl, ap, append-nil}
use Rattle.std.specs.List.{join_by, join_with_byte}

pub joined_bytes : {X : Type 0} (f : X → List ℕ) (c : ℕ) (xs : List X) → join_by f (c ∷ []) xs ≡ join_with_byte c (map f xs)
joined_bytes f c [] = refl
joined_bytes f c (x ∷ []) = append-nil (f x)
joined_bytes f c (x ∷ y ∷ xs) = ap (λ bs. f x ++ (c ∷ bs)) (joined_bytes f c (y ∷ xs))
