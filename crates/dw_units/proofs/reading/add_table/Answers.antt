-- One table more is known.
use Rattle.dw_base.specs.ViewData.{debug_data}
use Rattle.dw_units.proofs.KnownLaws.{known-kept}
use Rattle.dw_units.proofs.reading.add_table.Goals as goal

pub returns : goal.returns
returns c = record {
  known = known-kept (debug_data c.args.view.now) _ _ _ _ c.args.at c.in_ok-number.number c.args.table c.requires.known c.in_ok-number.ensures.number
      c.in_ok-number.ensures.tables c.requires.table c.in_ok-keep_number.ensures.kept;
}
