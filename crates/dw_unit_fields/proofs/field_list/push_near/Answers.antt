-- One more.
use Rattle.std.proofs.Common.{arith}
use Rattle.dw_unit_fields.proofs.NearFieldLaws.{items-more}
use Rattle.dw_unit_fields.proofs.field_list.push_near.Goals as goal

pub loop-one-preserved : goal.loop-one-preserved
loop-one-preserved c =
    items-more c.args.near.now c.one-item.result c.loop-one.one-index _ c.loop-one.fields.items c.push.new.self.items _ (omega arith) c.one-item.is c.whole.ensures
    c.loop-one.invariant c.in_ok-push.ensures.items
