-- The pieces that are left lead from the names so far to all.
use Rattle.std.proofs.Common.{◌≡◌, [], drop, map}
use Rattle.work_texts.specs.Lists.{bytes_of}
use Rattle.src_gather.specs.Listed.{with_pieces}
use Rattle.src_gather.proofs.names.piece_set.Given as goal

abbrev pub invariant-loop-part : goal.invariant-loop-part
invariant-loop-part l = with_pieces (map bytes_of l.names.keys) (map (λ p. p.now) (drop l.part-index l.parts)) ≡ with_pieces [] (map (λ p. p.now) l.parts)
