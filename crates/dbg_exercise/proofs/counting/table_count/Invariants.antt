use Rattle.std.proofs.Common.{◌≡◌, ◌+◌, length}
use Rattle.dw_rows.specs.TableRows.{rows_left, table_rows}
use Rattle.dbg_exercise.proofs.counting.table_count.Given as goal

-- the rows that the iterator has are left
abbrev pub invariant-loop-row : goal.invariant-loop-row
invariant-loop-row l = l.count + length (rows_left l._row-iterator) ≡ length (table_rows l.view l.table)
