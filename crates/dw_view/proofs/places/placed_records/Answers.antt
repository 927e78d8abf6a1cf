-- A list that was sorted has the relocations that it had.
use Rattle.std.proofs.Common.{length}
use Rattle.dw_base.specs.SectionRelocations.{records_in}
use Rattle.dw_view.proofs.PlaceLaws.{lists-sorted}
use Rattle.dw_view.proofs.places.placed_records.Goals as goal

pub returns-clause-lists : goal.returns-clause-lists
returns-clause-lists c =
    lists-sorted c.args.source.now (length (records_in c.args.source.now)) c.in_ok-list.list.items c.put_in_order.new.list.items c.put_in_order.ensures.permutation c.in_ok-list.ensures.lists
