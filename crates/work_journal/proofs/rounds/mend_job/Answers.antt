use Rattle.std.proofs.Common.{◌∙◌, sym, refl, ap, arith}
use Rattle.file_tree.specs.declared.node.TreeErr.TheVariants.{Failed}
use Rattle.journal_core.specs.Cores.{core_of}
use Rattle.journal_core.specs.Table.{CoreState, state_of}
use Rattle.work_journal.proofs.GoesLaws.{came_still, came_passed, came_well, came_hits, came_only}
use Rattle.work_journal.proofs.SpareLaws.{more_hit}
use Rattle.work_journal.proofs.RoundLaws.{mending_skips, calm_same, calm_moved, moving_at}
use Rattle.work_journal.proofs.rounds.mend_job.Goals as goal

pub returns-in_default : goal.returns-in_default
returns-in_default g c = record {
  same_tree = refl;
  mending = mending_skips _ _ _ _ (omega arith) c.requires.there c.requires.mending (λ k e. c.in_default.not-Going k (c.job.ensures.state ∙ ap (λ (x : CoreState). state_of x c.args.job) c.core.ensures.core ∙ e));
  calm = calm_same _ _ refl;
  came = came_still Failed _ _ _ _ _ (λ h. cc);
}

pub returns-in_err-move_job-in-Going-clause-came : goal.returns-in_err-move_job-in-Going-clause-came
returns-in_err-move_job-in-Going-clause-came g c = came_hits (more_hit _ _ _ _ (λ j e. moving_at (core_of c.args.desk.now.core) c.args.job _ j (sym (c.job.ensures.state ∙ ap (λ (x : CoreState). state_of x c.args.job) c.core.ensures.core) ∙ c.in-Going.is) e))
    (came_passed Failed _ _ _ _ _ _ _ _ _ _ (c.in_err-move_job-in-Going.was) c.from_residual.ensures.1 (came_only _ _ _ _ _ _ _ _ (λ w made. made.outputs c.args.job c.requires.there) c.move_job.ensures.came))

pub returns-in_ok-move_job-in-Going-clause-calm : goal.returns-in_ok-move_job-in-Going-clause-calm
returns-in_ok-move_job-in-Going-clause-calm g c = calm_moved _ _ c.args.job _ (sym (c.job.ensures.state ∙ ap (λ (x : CoreState). state_of x c.args.job) c.core.ensures.core) ∙ c.in-Going.is) c.in_ok-move_job-in-Going.ensures.core

pub returns-in_ok-move_job-in-Going-clause-came : goal.returns-in_ok-move_job-in-Going-clause-came
returns-in_ok-move_job-in-Going-clause-came g c = came_hits (more_hit _ _ _ _ (λ j e. moving_at (core_of c.args.desk.now.core) c.args.job _ j (sym (c.job.ensures.state ∙ ap (λ (x : CoreState). state_of x c.args.job) c.core.ensures.core) ∙ c.in-Going.is) e))
    (came_well _ _ _ _ _ _ _ _ (c.in_ok-move_job-in-Going.was) (came_only _ _ _ _ _ _ _ _ (λ w made. made.outputs c.args.job c.requires.there) c.move_job.ensures.came))
