-- What the end of a run and what its start does say of its status.
use Rattle.dbg_run.proofs.RootLaws.{root_ended, root_kept, root_known, root_output, root_silent}
use Rattle.dbg_run.proofs.run_root.run_over.Goals as goal

pub returns-clause-done : goal.returns-clause-done
returns-clause-done g c = root_ended _ _ _ _ _ _ _ c.root_end.ensures.ends

pub returns-clause-due : goal.returns-clause-due
returns-clause-due g c = c.root_end.ensures.starts.due

pub returns-clause-not_usage : goal.returns-clause-not_usage
returns-clause-not_usage g c = root_known _ _ _ _ _ _ _ c.root_end.ensures.ends

pub returns-clause-output_fault : goal.returns-clause-output_fault
returns-clause-output_fault g c = root_output _ _ _ _ _ _ _ c.root_end.ensures.ends

pub returns-clause-silent : goal.returns-clause-silent
returns-clause-silent g c = root_silent _ _ _ _ _ _ _ c.root_end.ensures.ends

pub returns-clause-kept : goal.returns-clause-kept
returns-clause-kept g c = root_kept _ _ _ _ _ _ _ c.root_end.ensures.ends
