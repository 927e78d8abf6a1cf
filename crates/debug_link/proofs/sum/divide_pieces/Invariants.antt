use Rattle.std.proofs.Common.{◌≡◌, drop}
use Rattle.std.specs.List.{flat_map}
use Rattle.debug_link.specs.Sums.{with_bytes}
use Rattle.debug_link.proofs.sum.divide_pieces.Given as goal

-- the bytes of the pieces that are left
abbrev pub invariant-pieces : goal.invariant-pieces
invariant-pieces l = with_bytes (flat_map (λ piece. piece.now) (drop l.piece-index l.pieces)) l.rest ≡ with_bytes (flat_map (λ piece. piece.now) l.pieces) l.fn.start
