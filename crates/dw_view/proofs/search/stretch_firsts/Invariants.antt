-- The relocations so far begin in stretches that have a number.
use Rattle.dw_view.specs.Places.{IndexedUpTo}
use Rattle.dw_view.proofs.search.stretch_firsts.Given as goal

abbrev pub invariant-loop-i : goal.invariant-loop-i
invariant-loop-i l = IndexedUpTo l.list l.i l.firsts.items
