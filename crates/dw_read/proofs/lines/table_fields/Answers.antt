-- The fields of one table more.
use Rattle.std.proofs.Common.{arith}
use Rattle.dw_read.proofs.LineFieldLaws.{tables-more}
use Rattle.dw_read.proofs.lines.table_fields.Goals as goal

pub loop-table-preserved : goal.loop-table-preserved
loop-table-preserved c =
    tables-more c.args.section c.args.str c.args.texts c.args.tables.now c.loop-table.table-index c.table-item.result c.loop-table.fields.items c.push_fields.new.fields.items
    (omega arith) c.table-item.is c.loop-table.invariant c.in_ok-push_fields.ensures
