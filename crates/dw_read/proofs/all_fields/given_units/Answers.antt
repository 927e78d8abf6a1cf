-- One section more.
use Rattle.std.proofs.Common.{arith}
use Rattle.dw_unit_fields.proofs.NearFieldLaws.{items-more}
use Rattle.dw_read.proofs.all_fields.given_units.Goals as goal

pub loop-section-preserved : goal.loop-section-preserved
loop-section-preserved c =
    items-more c.args.found.now c.section-item.result c.loop-section.section-index _ c.loop-section.units.items c.push.new.self.items _ (omega arith) c.section-item.is
    c.in_ok-one.ensures c.loop-section.invariant c.in_ok-push.ensures.items
