use Rattle.file_tree.specs.declared.node.TreeErr.TheVariants.{Failed}
use Rattle.work_journal.proofs.GoesLaws.{came_still, came_passed, came_well, came_next, came_hits, came_only}
use Rattle.work_journal.proofs.SpareLaws.{work_hit}
use Rattle.work_journal.proofs.GroupLaws.{flushed_core}
use Rattle.work_journal.proofs.groups.flush_job.Goals as goal

pub returns-then-not-is_ready-clause-came : goal.returns-then-not-is_ready-clause-came
returns-then-not-is_ready-clause-came g c = came_still Failed _ _ _ _ _ (λ h. cc)

pub returns-in_err-move_job-clause-came : goal.returns-in_err-move_job-clause-came
returns-in_err-move_job-clause-came g c = came_passed Failed _ _ _ _ _ _ _ _ _ _ (c.in_err-move_job.was) c.from_residual-in_err-move_job.ensures.1
    (came_next _ _ _ _ _ _ _ _ _ _ (λ w made. made.outputs c.args.job c.requires.there)
    (came_well _ _ _ _ _ _ _ _ (c.in_ok-commit_step.was) (came_only _ _ _ _ _ _ _ _ (λ w made. made.marks c.args.job) (came_hits (work_hit _ _ _) c.commit_step.ensures.came))) c.move_job.ensures.came)

pub returns-clause-core : goal.returns-clause-core
returns-clause-core g c = flushed_core _ _ _ _ c.in_ok-commit_step.ensures.core c.in_ok-move_job.ensures.core

pub returns-clause-came : goal.returns-clause-came
returns-clause-came g c = came_well _ _ _ _ _ _ _ _ (c.in_ok-move_job.was)
    (came_next _ _ _ _ _ _ _ _ _ _ (λ w made. made.outputs c.args.job c.requires.there)
    (came_well _ _ _ _ _ _ _ _ (c.in_ok-commit_step.was) (came_only _ _ _ _ _ _ _ _ (λ w made. made.marks c.args.job) (came_hits (work_hit _ _ _) c.commit_step.ensures.came))) c.move_job.ensures.came)
