-- So far none begins before one that stands before it.
use Rattle.std.specs.Prelude.{◌≤◌}
use Rattle.dw_view.specs.Places.{RiseUpTo}
use Rattle.dw_view.proofs.places.rise.Given as goal

abbrev pub invariant-loop-i : goal.invariant-loop-i
invariant-loop-i l = (1 ≤ l.i) × RiseUpTo l.i l.list
