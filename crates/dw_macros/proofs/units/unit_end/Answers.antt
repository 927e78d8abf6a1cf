-- One operation more.
use Rattle.std.proofs.Common.{sym, ◌∙◌, arith}
use Rattle.dw_macros.proofs.UnitLaws.{operations-more}
use Rattle.dw_macros.proofs.units.unit_end.Goals as goal

pub operations-preserved : goal.operations-preserved
operations-preserved c = record {
  read = operations-more c.args.view.now c.args.section c.args.start c.args.header.now.width c.args.header.now.first c.operations.place c.in-Ok.read.1 c.in-Ok.read.0
      c.operations.invariant.read c.in-Ok.ensures.operation c.in-Ok.ensures.reads (sym c.if-is_end.false ∙ c.is_end.ensures);
  behind = (let before = c.operations.invariant.behind in
      let after = c.in-Ok.ensures.behind in
      omega (arith, before, after));
  within = c.in-Ok.ensures.within;
}
