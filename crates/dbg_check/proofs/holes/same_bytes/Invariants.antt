-- The bytes so far are the same.
use Rattle.std.proofs.Common.{◌≤◌, ◌-◌}
use Rattle.dbg_check.specs.Images.{SameIn}
use Rattle.dbg_check.proofs.holes.same_bytes.Given as goal

abbrev pub invariant-runs : goal.invariant-runs
invariant-runs l = record {
  low : l.from ≤ l.at;
  high : l.at ≤ l.end;
  same : SameIn l.old l.new l.holes l.others l.from l.at;
}

abbrev pub decreases-runs : goal.decreases-runs
decreases-runs l = l.end - l.at
