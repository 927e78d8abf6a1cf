-- The places so far rise, and lie in the section.
use Rattle.dw_view.specs.Places.{GoodUpTo}
use Rattle.dw_view.proofs.places.check_places.Given as goal

abbrev pub invariant-loop-i : goal.invariant-loop-i
invariant-loop-i l = GoodUpTo l.size l.i l.list
