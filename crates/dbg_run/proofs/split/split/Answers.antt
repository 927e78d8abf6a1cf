-- What the end of the steps says of the whole.
use Rattle.dbg_run.specs.Splits.{SplitEnds as splits}
use Rattle.dbg_run.proofs.SplitEndLaws.{split_answers, split_ended, split_fault, split_kept, split_known, split_others, split_silent}
use Rattle.dbg_run.proofs.split.split.Goals as goal

pub returns-in-Ok-clause-ends : goal.returns-in-Ok-clause-ends
returns-in-Ok-clause-ends g c = splits.done c.in-Ok.ensures.done

pub returns-in-Ok-clause-due : goal.returns-in-Ok-clause-due
returns-in-Ok-clause-due g c = split_answers _ _ _ _ _ _ (splits.done c.in-Ok.ensures.done)

pub returns-in-Ok-clause-not_usage : goal.returns-in-Ok-clause-not_usage
returns-in-Ok-clause-not_usage g c = split_known _ _ _ _ _ _ (splits.done c.in-Ok.ensures.done)

pub returns-in-Ok-clause-not_output : goal.returns-in-Ok-clause-not_output
returns-in-Ok-clause-not_output g c = split_silent _ _ _ _ _ _ (splits.done c.in-Ok.ensures.done)

pub returns-in-Ok-clause-fault : goal.returns-in-Ok-clause-fault
returns-in-Ok-clause-fault g c = split_fault _ _ _ _ _ _ (splits.done c.in-Ok.ensures.done)

pub returns-in-Ok-clause-kept : goal.returns-in-Ok-clause-kept
returns-in-Ok-clause-kept g c = split_kept _ _ _ _ _ _ (splits.done c.in-Ok.ensures.done)

pub returns-in-Ok-clause-others : goal.returns-in-Ok-clause-others
returns-in-Ok-clause-others g c = split_others _ _ _ _ _ _ (splits.done c.in-Ok.ensures.done)

pub returns-in-Err-clause-done : goal.returns-in-Err-clause-done
returns-in-Err-clause-done g c = split_ended _ _ _ _ _ _ c.in-Err.ensures.ends

pub returns-in-Err-clause-due : goal.returns-in-Err-clause-due
returns-in-Err-clause-due g c = split_answers _ _ _ _ _ _ c.in-Err.ensures.ends

pub returns-in-Err-clause-not_usage : goal.returns-in-Err-clause-not_usage
returns-in-Err-clause-not_usage g c = split_known _ _ _ _ _ _ c.in-Err.ensures.ends

pub returns-in-Err-clause-not_output : goal.returns-in-Err-clause-not_output
returns-in-Err-clause-not_output g c = split_silent _ _ _ _ _ _ c.in-Err.ensures.ends

pub returns-in-Err-clause-fault : goal.returns-in-Err-clause-fault
returns-in-Err-clause-fault g c = split_fault _ _ _ _ _ _ c.in-Err.ensures.ends

pub returns-in-Err-clause-kept : goal.returns-in-Err-clause-kept
returns-in-Err-clause-kept g c = split_kept _ _ _ _ _ _ c.in-Err.ensures.ends

pub returns-in-Err-clause-others : goal.returns-in-Err-clause-others
returns-in-Err-clause-others g c = split_others _ _ _ _ _ _ c.in-Err.ensures.ends
