-- One table more is known, and one less is left.
use Rattle.dw_units.proofs.KeptLaws.{popped-left}
use Rattle.dw_units.proofs.reading.add_tables.Goals as goal

pub loop-one-preserved : goal.loop-one-preserved
loop-one-preserved c = record {
  left = popped-left _ _ _ c.in-Some.one c.loop-one.invariant.left c.in-Some.ensures.items;
  known = c.in_ok-add_table.ensures.known;
}
