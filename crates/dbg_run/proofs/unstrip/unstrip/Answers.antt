-- What the end of the steps says of the whole.
use Rattle.dbg_run.specs.Unstrips.{UnstripEnds as unstrips}
use Rattle.dbg_run.proofs.UnstripLaws.{unstrip_due, unstrip_ended, unstrip_fault, unstrip_kept, unstrip_known, unstrip_others, unstrip_silent}
use Rattle.dbg_run.proofs.unstrip.unstrip.Goals as goal

pub returns-in-Ok-clause-ends : goal.returns-in-Ok-clause-ends
returns-in-Ok-clause-ends g c = unstrips.done c.in-Ok.ensures.done

pub returns-in-Ok-clause-due : goal.returns-in-Ok-clause-due
returns-in-Ok-clause-due g c = unstrip_due _ _ _ _ _ _ (unstrips.done c.in-Ok.ensures.done)

pub returns-in-Ok-clause-not_usage : goal.returns-in-Ok-clause-not_usage
returns-in-Ok-clause-not_usage g c = unstrip_known _ _ _ _ _ _ (unstrips.done c.in-Ok.ensures.done)

pub returns-in-Ok-clause-not_output : goal.returns-in-Ok-clause-not_output
returns-in-Ok-clause-not_output g c = unstrip_silent _ _ _ _ _ _ (unstrips.done c.in-Ok.ensures.done)

pub returns-in-Ok-clause-fault : goal.returns-in-Ok-clause-fault
returns-in-Ok-clause-fault g c = unstrip_fault _ _ _ _ _ _ (unstrips.done c.in-Ok.ensures.done)

pub returns-in-Ok-clause-kept : goal.returns-in-Ok-clause-kept
returns-in-Ok-clause-kept g c = unstrip_kept _ _ _ _ _ _ (unstrips.done c.in-Ok.ensures.done)

pub returns-in-Ok-clause-others : goal.returns-in-Ok-clause-others
returns-in-Ok-clause-others g c = unstrip_others _ _ _ _ _ _ (unstrips.done c.in-Ok.ensures.done)

pub returns-in-Err-clause-done : goal.returns-in-Err-clause-done
returns-in-Err-clause-done g c = unstrip_ended _ _ _ _ _ _ c.in-Err.ensures.ends

pub returns-in-Err-clause-due : goal.returns-in-Err-clause-due
returns-in-Err-clause-due g c = unstrip_due _ _ _ _ _ _ c.in-Err.ensures.ends

pub returns-in-Err-clause-not_usage : goal.returns-in-Err-clause-not_usage
returns-in-Err-clause-not_usage g c = unstrip_known _ _ _ _ _ _ c.in-Err.ensures.ends

pub returns-in-Err-clause-not_output : goal.returns-in-Err-clause-not_output
returns-in-Err-clause-not_output g c = unstrip_silent _ _ _ _ _ _ c.in-Err.ensures.ends

pub returns-in-Err-clause-fault : goal.returns-in-Err-clause-fault
returns-in-Err-clause-fault g c = unstrip_fault _ _ _ _ _ _ c.in-Err.ensures.ends

pub returns-in-Err-clause-kept : goal.returns-in-Err-clause-kept
returns-in-Err-clause-kept g c = unstrip_kept _ _ _ _ _ _ c.in-Err.ensures.ends

pub returns-in-Err-clause-others : goal.returns-in-Err-clause-others
returns-in-Err-clause-others g c = unstrip_others _ _ _ _ _ _ c.in-Err.ensures.ends
