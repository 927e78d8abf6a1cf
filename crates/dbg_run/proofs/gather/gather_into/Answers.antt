-- What the end of a gather and what its start does say of its status.
use Rattle.dbg_run.proofs.GatherLaws.{gather_ended, gather_kept, gather_known, gather_output, gather_silent}
use Rattle.dbg_run.proofs.gather.gather_into.Goals as goal

pub returns-clause-done : goal.returns-clause-done
returns-clause-done g c = gather_ended _ _ _ _ _ _ _ _ c.gathered_end.ensures.ends

pub returns-clause-due : goal.returns-clause-due
returns-clause-due g c = c.gathered_end.ensures.starts.due

pub returns-clause-not_usage : goal.returns-clause-not_usage
returns-clause-not_usage g c = gather_known _ _ _ _ _ _ _ _ c.gathered_end.ensures.ends

pub returns-clause-output_fault : goal.returns-clause-output_fault
returns-clause-output_fault g c = gather_output _ _ _ _ _ _ _ _ c.gathered_end.ensures.ends

pub returns-clause-silent : goal.returns-clause-silent
returns-clause-silent g c = gather_silent _ _ _ _ _ _ _ _ c.gathered_end.ensures.ends

pub returns-clause-kept : goal.returns-clause-kept
returns-clause-kept g c = gather_kept _ _ _ _ _ _ _ _ c.gathered_end.ensures.ends
