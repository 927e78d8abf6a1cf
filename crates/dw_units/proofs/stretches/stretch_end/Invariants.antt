use Rattle.std.proofs.Common.{◌-◌, length}
use Rattle.dw_units.proofs.StretchLaws.{CountsTo}
use Rattle.dw_units.proofs.stretches.stretch_end.Given as goal

-- the units in front of this place lie in the section
abbrev pub invariant-units : goal.invariant-units
invariant-units l = CountsTo l.section l.first l.end l.list

abbrev pub decreases-units : goal.decreases-units
decreases-units l = length l.list - l.end
