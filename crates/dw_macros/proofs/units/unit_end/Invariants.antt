use Rattle.std.proofs.Common.{◌-◌, ◌≤◌, length}
use Rattle.dw_base.specs.FileViews.{section_bytes}
use Rattle.dw_macros.proofs.UnitLaws.{OperationsTo}
use Rattle.dw_macros.proofs.units.unit_end.Given as goal

-- the operations so far stand from the first up to this place
abbrev pub invariant-operations : goal.invariant-operations
invariant-operations l = record {
  read : OperationsTo l.view l.section l.start l.header.width l.header.first l.place;
  behind : l.header.first ≤ l.place;
  within : l.place ≤ length (section_bytes l.view l.section);
}

abbrev pub decreases-operations : goal.decreases-operations
decreases-operations l = length (section_bytes l.view l.section) - l.place
