use Rattle.std.proofs.Common.{◌-◌, ◌≤◌, length}
use Rattle.dw_base.specs.StringOffsets.{ContributionsUpTo}
use Rattle.dw_offsets.proofs.string_offsets.contributions_in.Given as goal

-- the contributions so far stand from the section's start up to this place
abbrev pub invariant-contributions : goal.invariant-contributions
invariant-contributions l = record { read : ContributionsUpTo l.order l.bytes l.list.items l.start; within : l.start ≤ length l.bytes }

abbrev pub decreases-contributions : goal.decreases-contributions
decreases-contributions l = length l.bytes - l.start
