-- None of the relocations so far begins at the place or behind it.
use Rattle.dw_view.specs.Places.{BeginBefore}
use Rattle.dw_view.proofs.search.first_among.Given as goal

abbrev pub invariant-loop-i : goal.invariant-loop-i
invariant-loop-i l = BeginBefore l.list l.place l.i
