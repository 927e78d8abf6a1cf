-- The new paths of so many jobs were looked at.
use Rattle.root_plan.proofs.NewLookLaws.{JobsLooked}
use Rattle.root_plan.proofs.planning.look_at_new.Given as goal

abbrev pub invariant-loop-job : goal.invariant-loop-job
invariant-loop-job g l = JobsLooked l.root l.jobs (g.T.Tree.seen l.initial.tree) (g.T.Tree.seen l.tree) l.job-index
