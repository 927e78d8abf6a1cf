-- One value more.
use Rattle.std.proofs.Common.{arith, ◌∙◌}
use Rattle.std.proofs.lemmas.List.{get_or_default}
use Rattle.dw_unit_fields.proofs.SlotRunLaws.{indexes-step}
use Rattle.dw_unit_fields.proofs.slots.take_all.Goals as goal

pub loop-index-preserved : goal.loop-index-preserved
loop-index-preserved c = record {
  size = c.take_one.ensures.size ∙ c.loop-index.invariant.size;
  taken = indexes-step c.args.section c.args.base c.args.indexes.now c.loop-index.index-index _ _ _ _ (omega arith)
      (get_or_default c.args.indexes.now c.loop-index.index-index _ _ (omega arith)) c.loop-index.invariant.taken c.take_one.ensures.taken;
}
