-- Laws of bytes in pieces.
use Rattle.std.proofs.Common.{◌≡◌, ℕ, ◌+◌, ◌<◌, List, [], ◌∷◌, ◌++◌, length, take, get_or, sym, ap, ◌∙◌, subst, arith, Bor}
use Rattle.std.proofs.lemmas.List.{append_assoc, append-nil, take_all, take_more}
use Rattle.std.specs.List.{flat_map}
use Rattle.sha1.specs.Sha1.{Holds}
use Rattle.sha1.specs.declared.Sha1.{Sha1}

-- the bytes of pieces
abbrev bytes_of : List (Bor (List ℕ)) → List ℕ
bytes_of ps = flat_map (λ (piece : Bor (List ℕ)). piece.now) ps

bytes-push : (ps : List (Bor (List ℕ))) (p : Bor (List ℕ)) → bytes_of (ps ++ p ∷ []) ≡ bytes_of ps ++ p.now
bytes-push [] p = append-nil p.now
bytes-push (q ∷ qs) p = ap (λ (bs : List ℕ). q.now ++ bs) (bytes-push qs p) ∙ sym (append_assoc q.now (bytes_of qs) p.now)

-- one piece more is held
pub piece-held : (ps : List (Bor (List ℕ))) (i : ℕ) (d : Bor (List ℕ)) (seed : List ℕ) (h : Sha1) → i < length ps
    → Holds h ((seed ++ bytes_of (take i ps)) ++ (get_or ps i d).now) → Holds h (seed ++ bytes_of (take (i + 1) ps))
piece-held ps i d seed h lt held =
    subst (Holds h)
    (append_assoc seed (bytes_of (take i ps)) (get_or ps i d).now
    ∙ ap (λ (bs : List ℕ). seed ++ bs) (sym (bytes-push (take i ps) (get_or ps i d)) ∙ ap bytes_of (sym (take_more ps i d lt)))) held

-- none at first, and all at the end
pub none-held : (ps : List (Bor (List ℕ))) (seed : List ℕ) (h : Sha1) → Holds h seed → Holds h (seed ++ bytes_of (take 0 ps))
none-held ps seed h held = subst (Holds h) (sym (append-nil seed)) held

pub all-held : (ps : List (Bor (List ℕ))) (i : ℕ) (seed : List ℕ) (h : Sha1) → length ps ≡ i → Holds h (seed ++ bytes_of (take i ps)) → Holds h (seed ++ bytes_of ps)
all-held ps i seed h end held = subst (λ (qs : List (Bor (List ℕ))). Holds h (seed ++ bytes_of qs)) (take_all i ps (omega (arith, end))) held

pub ruleset piece_rules = (piece-held, none-held, all-held)
