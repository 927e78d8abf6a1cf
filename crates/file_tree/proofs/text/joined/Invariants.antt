use Rattle.std.proofs.Common.{◌≡◌, ◌++◌, drop}
use Rattle.std.specs.List.{flat_map}
use Rattle.file_tree.proofs.text.joined.Given as goal

-- what is copied so far, with the pieces that are left, is the whole
abbrev pub invariant-pieces : goal.invariant-pieces
invariant-pieces l = l.bytes.items ++ flat_map (λ piece. piece.now) (drop l.piece-index l.pieces) ≡ flat_map (λ piece. piece.now) l.pieces
