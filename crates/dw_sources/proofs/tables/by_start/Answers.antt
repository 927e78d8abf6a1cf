-- The next table is kept, and one less is left.
use Rattle.std.proofs.Common.{nat_eq, subst}
use Rattle.std.specs.HashMap.{get}
use Rattle.dw_sources.specs.Sources.{KeepsRest}
use Rattle.dw_sources.proofs.TableLaws.{rest-more}
use Rattle.dw_sources.proofs.tables.by_start.Goals as goal

pub loop-table-preserved : goal.loop-table-preserved
loop-table-preserved c =
    rest-more c.args.tables.items c.next.new.self.rest.items c.in-Some.table c.start_of-start.result (λ at. get nat_eq c.loop-table.kept at) _
    (subst (KeepsRest c.args.tables.items (λ at. get nat_eq c.loop-table.kept at)) c.in-Some.ensures.steps.0 c.loop-table.invariant)
    c.start_of-start.ensures.start c.in_ok-keep_table.ensures.kept
