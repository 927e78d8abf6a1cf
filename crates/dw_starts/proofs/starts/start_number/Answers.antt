-- No table starts there.
use Rattle.dw_starts.proofs.StartSearchLaws.{number-absent}
use Rattle.dw_starts.proofs.starts.start_number.Goals as goal

pub returns-in-Err-clause-value : goal.returns-in-Err-clause-value
returns-in-Err-clause-value c = number-absent c.args.starts.now c.args.start _ c.in-Err.ensures.absent
