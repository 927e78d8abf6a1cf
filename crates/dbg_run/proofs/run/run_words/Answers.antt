-- A command that nothing is against is done, a status comes where it is due, and a run that may be stopped is what its starts say.
use Rattle.dbg_run.proofs.RunLaws.{completed, due_exact}
use Rattle.dbg_run.proofs.StartLaws.{starts_end, starts_leave, starts_mild, starts_pass, starts_settle, starts_step}
use Rattle.dbg_run.proofs.run.run_words.Goals as goal

pub returns-clause-completes : goal.returns-clause-completes
returns-clause-completes g c = λ t tells is calm well.
    completed _ _ _ _ _ t tells is calm well _ _ _ c.run_told.ensures.ended c.run_told.ensures.starts c.run_told.ensures.fault c.run_told.ensures.output_fault

pub returns-clause-exact : goal.returns-clause-exact
returns-clause-exact g c = λ t tells n. due_exact _ _ _ _ _ t _ n tells (c.run_told.ensures.due t tells) c.run_told.ensures.starts

pub returns-clause-images : goal.returns-clause-images
returns-clause-images g c = starts_leave _ _ _ _ _ _ c.run_told.ensures.starts

pub returns-clause-undisturbed : goal.returns-clause-undisturbed
returns-clause-undisturbed g c = starts_end _ _ _ _ _ _ c.run_told.ensures.starts

pub returns-clause-steps : goal.returns-clause-steps
returns-clause-steps g c = starts_step _ _ _ _ _ _ c.run_told.ensures.starts

pub returns-clause-settles : goal.returns-clause-settles
returns-clause-settles g c = starts_settle _ _ _ _ _ _ c.run_told.ensures.starts

pub returns-clause-mild : goal.returns-clause-mild
returns-clause-mild g c = starts_mild _ _ _ _ _ _ c.run_told.ensures.starts

pub returns-clause-passed : goal.returns-clause-passed
returns-clause-passed g c = starts_pass _ _ _ _ _ _ c.run_told.ensures.starts
