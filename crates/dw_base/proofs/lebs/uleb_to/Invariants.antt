use Rattle.std.proofs.Common.{◌≡◌, ◌+◌, ◌-◌, ◌≤◌, drop, Some}
use Rattle.dw_base.specs.Lebs.{uleb}
use Rattle.dw_base.proofs.lebs.uleb_to.Given as goal

-- what was read so far is the number at its place
abbrev pub invariant-bytes : goal.invariant-bytes
invariant-bytes l = record {
  within : l.i ≤ l.last;
  value : uleb (drop l.i l.front) ≡ Some (l.value, l.last + 1 - l.i);
}

abbrev pub decreases-bytes : goal.decreases-bytes
decreases-bytes l = l.i
