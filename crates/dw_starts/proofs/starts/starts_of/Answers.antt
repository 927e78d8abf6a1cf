-- One start more.
use Rattle.std.proofs.Common.{arith}
use Rattle.dw_starts.proofs.TableStartLaws.{starts-pushed}
use Rattle.dw_starts.proofs.starts.starts_of.Goals as goal

pub loop-table-preserved : goal.loop-table-preserved
loop-table-preserved c =
    starts-pushed c.args.tables.now c.table-item.result c.loop-table.table-index _ c.loop-table.starts.items c.push.new.self.items (omega arith) c.table-item.is
    c.start_of.ensures c.loop-table.invariant c.in_ok-push.ensures.items
