-- No contribution has the base.
use Rattle.dw_attrs.proofs.SourceLaws.{size-missing}
use Rattle.dw_attrs.proofs.unit_source.slot_size.Goals as goal

pub returns-in-Err-clause-size : goal.returns-in-Err-clause-size
returns-in-Err-clause-size c = size-missing c.args.list.now c.args.base c.in-Err.field-0 c.in-Err.ensures.absent
