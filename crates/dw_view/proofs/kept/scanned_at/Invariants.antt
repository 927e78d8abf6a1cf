-- The relocation at the place is none of the records so far.
use Rattle.dw_view.specs.Places.{LeftAmong}
use Rattle.dw_view.proofs.kept.scanned_at.Given as goal

abbrev pub invariant-loop-index : goal.invariant-loop-index
invariant-loop-index l = LeftAmong l.source l.place l.index
