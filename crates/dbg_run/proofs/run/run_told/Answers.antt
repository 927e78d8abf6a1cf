-- The end of the command, told.
use Rattle.dbg_run.proofs.RunLaws.{kept_told, silent_told, starts_told, told_run}
use Rattle.dbg_run.proofs.run.run_told.Goals as goal

pub returns-clause-ended : goal.returns-clause-ended
returns-clause-ended g c = told_run _ _ _ _ _ c.run_command-end.result _ _ _ c.run_command-end.ensures.ends c.tell.ensures.told

pub returns-clause-kept : goal.returns-clause-kept
returns-clause-kept g c = λ kept. c.run_command-end.ensures.kept (kept_told _ _ _ c.tell.ensures.status kept)

pub returns-clause-silent : goal.returns-clause-silent
returns-clause-silent g c = λ un. c.run_command-end.ensures.silent (silent_told _ c.run_command-end.result _ _ _ c.tell.ensures.told un)

pub returns-clause-starts : goal.returns-clause-starts
returns-clause-starts g c = starts_told _ _ _ _ _ c.run_command-end.result _ _ _ c.tell.ensures.told c.run_command-end.ensures.starts
