-- One unit more.
use Rattle.std.proofs.Common.{◌∙◌, sym}
use Rattle.dw_units.proofs.StretchLaws.{counts-more}
use Rattle.dw_units.proofs.stretches.stretch_end.Goals as goal

pub units-preserved : goal.units-preserved
units-preserved c = counts-more c.args.section c.args.first c.units.end c.args.list.now c.units.invariant (sym c.lies_at.ensures.lies ∙ c.units-test.true)
