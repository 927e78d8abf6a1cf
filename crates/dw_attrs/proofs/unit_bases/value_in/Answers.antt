-- A value lies in the bytes.
use Rattle.dw_attrs.proofs.SayingLaws.{value-there}
use Rattle.dw_attrs.proofs.unit_bases.value_in.Goals as goal

pub returns-in-Ok-clause-within : goal.returns-in-Ok-clause-within
returns-in-Ok-clause-within c = value-there c.args.unit.now.params c.args.spec.now c.args.bytes.now c.args.place _ c.in-Ok.value c.in-Ok.ensures.value
