-- The pairs so far are the same.
use Rattle.std.proofs.Common.{◌≡◌, ◌≤◌, ◌-◌, length, take}
use Rattle.work_texts.proofs.compare.are_same.Given as goal

abbrev pub invariant-pairs : goal.invariant-pairs
invariant-pairs l = record {
  within : l.at ≤ length l.a;
  long : length l.a ≡ length l.b;
  same : take l.at l.a ≡ take l.at l.b;
}

abbrev pub decreases-pairs : goal.decreases-pairs
decreases-pairs l = length l.a - l.at
