-- What was read is refused by no row.
use Rattle.dw_units.proofs.ExcludeLaws.{none-fails}
use Rattle.dw_units.proofs.reading.read_units.Goals as goal

pub returns-clause-none : goal.returns-clause-none
returns-clause-none c = none-fails c.read_listed.result c.args.view.now c.read_listed.ensures.read
