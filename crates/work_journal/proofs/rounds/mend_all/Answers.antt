use Rattle.std.proofs.Common.{◌∙◌, refl, arith}
use Rattle.file_tree.specs.declared.node.TreeErr.TheVariants.{Failed}
use Rattle.work_journal.proofs.GoesLaws.{came_still, came_passed, came_well, came_next, came_hits}
use Rattle.work_journal.proofs.SpareLaws.{more_hit}
use Rattle.work_journal.proofs.RoundLaws.{mending_begins, mending_ends, calm_same, calm_then, calm_moving}
use Rattle.work_journal.proofs.rounds.mend_all.Goals as goal

pub loop-job-init : goal.loop-job-init
loop-job-init g c = record {
  same_tree = refl;
  mending = mending_begins _ _ c.requires.begun;
  calm = calm_same _ _ refl;
  came = came_still Failed _ _ _ _ _ (λ h. cc);
}

pub returns-in_err-mend_job-clause-came : goal.returns-in_err-mend_job-clause-came
returns-in_err-mend_job-clause-came g c = came_passed Failed _ _ _ _ _ _ _ _ _ _ (c.in_err-mend_job.was) c.from_residual.ensures.1
    (came_next _ _ _ _ _ _ _ _ _ _ (λ w made. made) c.loop-job.invariant.came (came_hits (more_hit _ _ _ _ (calm_moving _ _ c.loop-job.invariant.calm)) c.mend_job.ensures.came))

pub loop-job-preserved : goal.loop-job-preserved
loop-job-preserved g c = record {
  same_tree = c.mend_job.ensures.same_tree ∙ c.loop-job.invariant.same_tree;
  mending = c.in_ok-mend_job.ensures.mending;
  calm = calm_then _ _ _ c.loop-job.invariant.calm c.in_ok-mend_job.ensures.calm;
  came = came_well _ _ _ _ _ _ _ _ (c.in_ok-mend_job.was) (came_next _ _ _ _ _ _ _ _ _ _ (λ w made. made) c.loop-job.invariant.came (came_hits (more_hit _ _ _ _ (calm_moving _ _ c.loop-job.invariant.calm)) c.mend_job.ensures.came));
}

pub returns-clause-group : goal.returns-clause-group
returns-clause-group g c = mending_ends _ _ _ (omega arith) c.loop-job.invariant.mending

pub returns-clause-came : goal.returns-clause-came
returns-clause-came g c = c.loop-job.invariant.came
