use Rattle.os_tree.specs.Written.{WroteTo}
use Rattle.os_tree.proofs.sink.write_whole.Given as goal

abbrev pub invariant-loop : goal.invariant-loop
invariant-loop g l = WroteTo l.initial.rest l.rest (g.W.Write.contents l.initial.writer) (g.W.Write.contents l.writer)
