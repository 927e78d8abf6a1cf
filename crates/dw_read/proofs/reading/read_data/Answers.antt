-- What was read excludes each refusal.
use Rattle.dw_read.proofs.ReadDataLaws.{read-excludes}
use Rattle.dw_read.proofs.reading.read_data.Goals as goal

pub returns-clause-none : goal.returns-clause-none
returns-clause-none c r f = read-excludes r c.in_ok-units.ensures.data.read f
