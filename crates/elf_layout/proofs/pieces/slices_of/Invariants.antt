use Rattle.std.proofs.Common.{◌≡◌, ◌++◌, drop}
use Rattle.std.specs.List.{concat, flat_map}
use Rattle.elf_layout.proofs.pieces.slices_of.Given as goal

-- what is taken so far, with the pieces that are left, is the whole
abbrev pub invariant-pieces : goal.invariant-pieces
invariant-pieces l = flat_map (λ s. s.now) l.slices.items ++ concat (drop l.piece-index l.pieces) ≡ concat l.pieces
