-- What was read excludes each refusal, and what is given of it is what was found.
use Rattle.dw_read.proofs.ReadDataLaws.{given-found, read-excludes}
use Rattle.dw_read.proofs.reading.read_fields.Goals as goal

pub returns-clause-found : goal.returns-clause-found
returns-clause-found c = given-found c.args.view.now c.in_ok-fields.fields c.in_ok-data.found _ _ c.in_ok-fields.ensures c.in_ok-data.ensures.found

pub returns-clause-none : goal.returns-clause-none
returns-clause-none c r f = read-excludes r c.in_ok-data.ensures.data.read f
