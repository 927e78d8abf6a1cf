use Rattle.os_tree.proofs.RisingLaws.{RisesBelow}
use Rattle.os_tree.proofs.looks.are_rising.Given as goal

abbrev pub invariant-loop-i : goal.invariant-loop-i
invariant-loop-i l = RisesBelow l.texts l.i
