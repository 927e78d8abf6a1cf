-- The program headers so far are the same.
use Rattle.std.proofs.Common.{◌≡◌, ◌≤◌, ◌-◌, length, take}
use Rattle.dbg_check.proofs.segments.same_segments.Given as goal

abbrev pub invariant-segments : goal.invariant-segments
invariant-segments l = record {
  within : l.at ≤ length l.old;
  long : length l.old ≡ length l.new;
  same : take l.at l.old ≡ take l.at l.new;
}

abbrev pub decreases-segments : goal.decreases-segments
decreases-segments l = length l.old - l.at
