-- The seed and the pieces so far are held.
use Rattle.std.proofs.Common.{◌++◌, take}
use Rattle.std.specs.List.{flat_map}
use Rattle.sha1.specs.Sha1.{Holds}
use Rattle.build_ident.proofs.digest.digest_of_pieces.Given as goal

abbrev pub invariant-pieces : goal.invariant-pieces
invariant-pieces l = Holds l.hasher (l.seed ++ flat_map (λ piece. piece.now) (take l.piece-index l.pieces))
