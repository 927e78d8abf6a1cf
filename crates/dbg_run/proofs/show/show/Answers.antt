-- What the end of the steps says of the whole.
use Rattle.dbg_run.specs.Shows.{ShowEnds as shows}
use Rattle.dbg_run.proofs.ShowLaws.{show_calm, show_due, show_ended, show_fault, show_known, show_output, show_silent}
use Rattle.dbg_run.proofs.show.show.Goals as goal

pub returns-in-Ok-clause-ends : goal.returns-in-Ok-clause-ends
returns-in-Ok-clause-ends g c = shows.done c.in-Ok.ensures.done

pub returns-in-Ok-clause-due : goal.returns-in-Ok-clause-due
returns-in-Ok-clause-due g c = show_due _ _ _ _ _ _ _ (shows.done c.in-Ok.ensures.done)

pub returns-in-Ok-clause-not_usage : goal.returns-in-Ok-clause-not_usage
returns-in-Ok-clause-not_usage g c = show_known _ _ _ _ _ _ _ (shows.done c.in-Ok.ensures.done)

pub returns-in-Ok-clause-fault : goal.returns-in-Ok-clause-fault
returns-in-Ok-clause-fault g c = show_fault _ _ _ _ _ _ _ (shows.done c.in-Ok.ensures.done)

pub returns-in-Ok-clause-output_fault : goal.returns-in-Ok-clause-output_fault
returns-in-Ok-clause-output_fault g c = show_output _ _ _ _ _ _ _ (shows.done c.in-Ok.ensures.done)

pub returns-in-Ok-clause-silent : goal.returns-in-Ok-clause-silent
returns-in-Ok-clause-silent g c = show_silent _ _ _ _ _ _ _ (shows.done c.in-Ok.ensures.done)

pub returns-in-Ok-clause-kept : goal.returns-in-Ok-clause-kept
returns-in-Ok-clause-kept g c = show_calm _ _ _ _ _ _ _ (shows.done c.in-Ok.ensures.done)

pub returns-in-Err-clause-done : goal.returns-in-Err-clause-done
returns-in-Err-clause-done g c = show_ended _ _ _ _ _ _ _ c.in-Err.ensures.ends

pub returns-in-Err-clause-due : goal.returns-in-Err-clause-due
returns-in-Err-clause-due g c = show_due _ _ _ _ _ _ _ c.in-Err.ensures.ends

pub returns-in-Err-clause-not_usage : goal.returns-in-Err-clause-not_usage
returns-in-Err-clause-not_usage g c = show_known _ _ _ _ _ _ _ c.in-Err.ensures.ends

pub returns-in-Err-clause-fault : goal.returns-in-Err-clause-fault
returns-in-Err-clause-fault g c = show_fault _ _ _ _ _ _ _ c.in-Err.ensures.ends

pub returns-in-Err-clause-output_fault : goal.returns-in-Err-clause-output_fault
returns-in-Err-clause-output_fault g c = show_output _ _ _ _ _ _ _ c.in-Err.ensures.ends

pub returns-in-Err-clause-silent : goal.returns-in-Err-clause-silent
returns-in-Err-clause-silent g c = show_silent _ _ _ _ _ _ _ c.in-Err.ensures.ends

pub returns-in-Err-clause-kept : goal.returns-in-Err-clause-kept
returns-in-Err-clause-kept g c = show_calm _ _ _ _ _ _ _ c.in-Err.ensures.ends
