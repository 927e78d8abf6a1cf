-- No condition holds where there is a view.
use Rattle.dbg_check.proofs.TakenLaws.{none-refuses}
use Rattle.dbg_check.proofs.reading.pair_of.Goals as goal

pub returns-clause-none : goal.returns-clause-none
returns-clause-none c = none-refuses c.args.stripped.now.bytes.now c.args.debug.now.bytes.now c.args.name.now c.in_ok-view.ensures.none
