-- The symbol of none so far lies in a section whose places change.
use Rattle.dw_view.specs.Relocations.{NoneMovesUpTo}
use Rattle.dw_view.proofs.relocations.check_moves.Given as goal

abbrev pub invariant-loop-i : goal.invariant-loop-i
invariant-loop-i l = NoneMovesUpTo l.elf.bytes.now l.source l.i l.list
