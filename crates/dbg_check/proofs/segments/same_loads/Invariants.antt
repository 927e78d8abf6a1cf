-- The segments that are left agree exactly where all do.
use Rattle.dbg_check.proofs.SegmentLaws.{SameLeft}
use Rattle.dbg_check.proofs.segments.same_loads.Given as goal

abbrev pub invariant-segments : goal.invariant-segments
invariant-segments l = SameLeft l.old l.new l.segments l.segment-index
