use Rattle.std.proofs.Common.{◌≡◌, ◌≤◌, length}
use Rattle.dw_base.specs.LineTexts.{skip_lebs}
use Rattle.dw_rows.proofs.reading.skip_lebs.Given as goal

-- the numbers that are left stand from this place on
abbrev pub invariant-numbers : goal.invariant-numbers
invariant-numbers l = record {
  same : skip_lebs l.count l.left l.start ≡ skip_lebs l.more l.left l.place;
  behind : l.start ≤ l.place;
  within : l.place ≤ length l.left;
}

abbrev pub decreases-numbers : goal.decreases-numbers
decreases-numbers l = l.more
