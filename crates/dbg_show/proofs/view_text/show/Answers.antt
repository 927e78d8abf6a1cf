-- What was read is refused by no row.
use Rattle.dbg_show.proofs.ReadLaws.{none-refuses}
use Rattle.dbg_show.proofs.view_text.show.Goals as goal

pub returns-clause-none : goal.returns-clause-none
returns-clause-none g c = none-refuses c.show_data.result c.args.view.now c.in_ok-units.ensures.none
