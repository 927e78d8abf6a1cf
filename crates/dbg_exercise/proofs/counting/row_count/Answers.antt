-- The tables one after another.
use Rattle.dbg_exercise.proofs.CountLoopLaws.{table-there}
use Rattle.dbg_exercise.proofs.counting.row_count.Goals as goal

pub table_count-count-requires-clause-table : goal.table_count-count-requires-clause-table
table_count-count-requires-clause-table c =
    table-there c.args.view.now c.args.tables.now c.loop-table.table-index _ _ c.requires.tables c.loop-table-test.true c.table-item.is
