-- The first, one more, and the end.
use Rattle.std.proofs.Common.{arith, length}
use Rattle.std.proofs.lemmas.List.{get_or_default}
use Rattle.dw_base.specs.FileViews.{section_bytes}
use Rattle.dw_relocs.specs.FieldWalks.{ground_of}
use Rattle.dw_relocs.proofs.RowListLaws.{names-more, names-next, names-start}
use Rattle.dw_relocs.proofs.rows.pass_names.Goals as goal

pub loop-item-init : goal.loop-item-init
loop-item-init c = names-start (ground_of c.args.view.now c.args.section) (length (section_bytes c.args.view.now c.args.section)) c.args.list.now c.args.pass c.requires.from c.requires.stands

pub pass_table-now-requires-clause-next : goal.pass_table-now-requires-clause-next
pass_table-now-requires-clause-next c =
    names-next (ground_of c.args.view.now c.args.section) (length (section_bytes c.args.view.now c.args.section)) c.args.list.now _ c.loop-item.item-index c.args.pass c.loop-item.now
    (omega arith) (get_or_default c.args.list.now c.loop-item.item-index _ _ (omega arith)) c.loop-item.invariant

pub loop-item-preserved : goal.loop-item-preserved
loop-item-preserved c =
    names-more (ground_of c.args.view.now c.args.section) (length (section_bytes c.args.view.now c.args.section)) c.args.list.now _ c.loop-item.item-index c.args.pass c.loop-item.now
    c.pass_table-now.result (omega arith) (get_or_default c.args.list.now c.loop-item.item-index _ _ (omega arith)) c.loop-item.invariant c.pass_table-now.ensures.goes
