-- The record of the number is there.
use Rattle.std.proofs.Common.{None}
use Rattle.dw_view.proofs.FieldLaws.{target-absent}
use Rattle.dw_view.proofs.fields.target_by.Goals as goal

pub returns-in-None : goal.returns-in-None
returns-in-None c = target-absent c.args.source.now c.args.index None c.in-None.ensures.value c.requires.there
