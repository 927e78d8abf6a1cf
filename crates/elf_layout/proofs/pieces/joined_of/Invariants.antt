use Rattle.std.proofs.Common.{◌≡◌, ◌++◌, drop}
use Rattle.std.specs.List.{concat}
use Rattle.elf_layout.proofs.pieces.joined_of.Given as goal

-- what is taken so far, with the pieces that are left, is the whole
abbrev pub invariant-pieces : goal.invariant-pieces
invariant-pieces l = l.bytes.items ++ concat (drop l.piece-index l.pieces) ≡ concat l.pieces
