-- None of the relocations so far lies on the field.
use Rattle.dw_view.specs.Places.{NoneMet}
use Rattle.dw_view.proofs.partly.partly_from.Given as goal

abbrev pub invariant-loop-i : goal.invariant-loop-i
invariant-loop-i l = NoneMet l.source l.list l.place l.size l.i
