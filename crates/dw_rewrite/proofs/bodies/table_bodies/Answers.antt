-- One body of each table.
use Rattle.dw_base.specs.declared.texts.TextSection.TheVariants.{InStr, InLineStr}
use Rattle.std.proofs.Common.{◌∙◌}
use Rattle.dw_rewrite.proofs.MadeBodyLaws.{table-body, two-pushed}
use Rattle.dw_rewrite.proofs.bodies.table_bodies.Goals as goal

pub returns : goal.returns
returns c = record {
  bodies = two-pushed _ _ _ _ _ _ _ c.new-bodies.ensures.items c.in_ok-push.ensures.items c.in_ok-push-2.ensures.items
      (table-body c.args.view.now InStr _ _ _ c.table_number.ensures (c.whole.ensures.bytes ∙ c.in_ok-into_bytes.ensures.value))
      (table-body c.args.view.now InLineStr _ _ _ c.table_number-2.ensures (c.whole-2.ensures.bytes ∙ c.in_ok-into_bytes-2.ensures.value));
}
