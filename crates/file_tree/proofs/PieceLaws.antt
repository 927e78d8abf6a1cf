-- Bytes that are copied piece by piece.
use Rattle.std.proofs.Common.{◌≡◌, ℕ, ◌+◌, ◌<◌, List, ◌++◌, length, drop, get_or, sym, ap, ◌∙◌, Bor}
use Rattle.std.proofs.lemmas.List.{append_assoc, drop_more}
use Rattle.std.specs.List.{flat_map}

-- of the pieces that are left: the bytes of one, and those of the pieces behind it
pub pieces-next : (ps : List (Bor (List ℕ))) (i : ℕ) (d : Bor (List ℕ)) (so_far now whole : List ℕ) → i < length ps → now ≡ so_far ++ (get_or ps i d).now
    → so_far ++ flat_map (λ piece. piece.now) (drop i ps) ≡ whole → now ++ flat_map (λ piece. piece.now) (drop (i + 1) ps) ≡ whole
pieces-next ps i d so_far now whole lt is same =
    ap (λ (l : List ℕ). l ++ flat_map (λ (piece : Bor (List ℕ)). piece.now) (drop (i + 1) ps)) is
    ∙ append_assoc so_far (get_or ps i d).now (flat_map (λ (piece : Bor (List ℕ)). piece.now) (drop (i + 1) ps))
    ∙ ap (λ (qs : List (Bor (List ℕ))). so_far ++ flat_map (λ (piece : Bor (List ℕ)). piece.now) qs) (sym (drop_more ps i d lt)) ∙ same

pub ruleset piece_laws = (pieces-next)
