-- The first, one more, and the end.
use Rattle.std.proofs.Common.{arith, length}
use Rattle.std.proofs.lemmas.List.{get_or_default}
use Rattle.dw_base.specs.FileViews.{section_bytes}
use Rattle.dw_relocs.specs.FieldWalks.{ground_of}
use Rattle.dw_relocs.proofs.RowListLaws.{slots-more, slots-next, slots-start}
use Rattle.dw_relocs.proofs.rows.pass_slots.Goals as goal

pub loop-item-init : goal.loop-item-init
loop-item-init c = slots-start (ground_of c.args.view.now c.args.section) (length (section_bytes c.args.view.now c.args.section)) c.args.list.now c.args.pass c.requires.from c.requires.stands

pub pass_contribution-now-requires-clause-next : goal.pass_contribution-now-requires-clause-next
pass_contribution-now-requires-clause-next c =
    slots-next (ground_of c.args.view.now c.args.section) (length (section_bytes c.args.view.now c.args.section)) c.args.list.now _ c.loop-item.item-index c.args.pass c.loop-item.now
    (omega arith) (get_or_default c.args.list.now c.loop-item.item-index _ _ (omega arith)) c.loop-item.invariant

pub loop-item-preserved : goal.loop-item-preserved
loop-item-preserved c =
    slots-more (ground_of c.args.view.now c.args.section) (length (section_bytes c.args.view.now c.args.section)) c.args.list.now _ c.loop-item.item-index c.args.pass c.loop-item.now
    c.pass_contribution-now.result (omega arith) (get_or_default c.args.list.now c.loop-item.item-index _ _ (omega arith)) c.loop-item.invariant c.pass_contribution-now.ensures.goes
