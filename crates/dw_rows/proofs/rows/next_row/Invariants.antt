use Rattle.std.proofs.Common.{◌≡◌, ◌≤◌, ◌<◌, length}
use Rattle.dw_rows.specs.ProgramPlaces.{StandsIn, cells_left}
use Rattle.dw_rows.specs.TableRows.{rows_from}
use Rattle.dw_rows.proofs.rows.next_row.Given as goal

-- the rows from here on are those from the start on
abbrev pub invariant-operations : goal.invariant-operations
invariant-operations l = record {
  rows : rows_from l.params l.counts (cells_left l.view l.section l.start l.left) l.fn.registers
      ≡ rows_from l.params l.counts (cells_left l.view l.section l.place l.rest) l.now;
  stands : StandsIn l.view l.section l.place l.rest;
  within : length l.rest ≤ length l.left;
  index : l.now.op_index < l.params.max_ops;
}

abbrev pub decreases-operations : goal.decreases-operations
decreases-operations l = length l.rest
