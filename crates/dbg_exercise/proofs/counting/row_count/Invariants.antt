use Rattle.std.proofs.Common.{◌≡◌, ◌+◌, drop}
use Rattle.dbg_exercise.specs.ViewCounts.{rows_listed}
use Rattle.dbg_exercise.proofs.counting.row_count.Given as goal

-- those of the tables from here on are left
abbrev pub invariant-loop-table : goal.invariant-loop-table
invariant-loop-table l = l.count + rows_listed l.view (drop l.table-index l.tables) ≡ rows_listed l.view l.tables
