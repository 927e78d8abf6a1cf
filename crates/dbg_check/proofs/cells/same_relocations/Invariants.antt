-- The same relocations begin so far.
use Rattle.std.proofs.Common.{◌≤◌, ◌-◌}
use Rattle.dw_base.specs.FileViews.{view_cells}
use Rattle.dbg_check.specs.CellRuns.{RelocationsAgree}
use Rattle.dbg_check.proofs.cells.same_relocations.Given as goal

abbrev pub invariant-numbers : goal.invariant-numbers
invariant-numbers l = record {
  within : l.number ≤ l.size;
  agree : RelocationsAgree (view_cells l.old l.here.section) (view_cells l.new l.there.section) l.here.at l.there.at 0 l.number;
}

abbrev pub decreases-numbers : goal.decreases-numbers
decreases-numbers l = l.size - l.number
