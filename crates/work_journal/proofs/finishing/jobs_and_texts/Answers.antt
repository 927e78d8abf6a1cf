use Rattle.std.proofs.Common.{IsTrue}
use Rattle.work_texts.specs.declared.journal_err.JournalErr.TheVariants as run
use Rattle.work_journal.specs.Blames.{is_mild_run}
use Rattle.work_journal.proofs.GoesLaws.{came_passed, came_given, came_then, came_hits, came_more}
use Rattle.work_journal.proofs.SpareLaws.{work_hit}
use Rattle.work_journal.proofs.JobErrLaws.{ok_by}
use Rattle.work_journal.proofs.BlameLaws.{err_passed}
use Rattle.work_journal.proofs.FinishLaws.{came_done, came_stopped, stopped_blames, stopped_mild, done_ends}
use Rattle.file_tree.specs.declared.node.TreeErr.TheVariants.{Failed}
use Rattle.work_journal.proofs.finishing.jobs_and_texts.Goals as goal

pub returns-in_err-run_jobs-clause-blame : goal.returns-in_err-run_jobs-clause-blame
returns-in_err-run_jobs-clause-blame g c = err_passed _ _ _ _ (c.in_err-run_jobs.was) c.from_residual.ensures.1 c.run_jobs.ensures.blame

pub returns-in_err-run_jobs-clause-mild : goal.returns-in_err-run_jobs-clause-mild
returns-in_err-run_jobs-clause-mild g c = λ w given wants tells k. err_passed _ _ _ (λ e. IsTrue (is_mild_run e)) (c.in_err-run_jobs.was) c.from_residual.ensures.1 (c.run_jobs.ensures.mild w given wants.files tells k)

pub returns-in_err-run_jobs-clause-came : goal.returns-in_err-run_jobs-clause-came
returns-in_err-run_jobs-clause-came g c = came_more 1 (came_passed run.Tree _ _ _ _ _ _ _ _ _ _ (c.in_err-run_jobs.was) c.from_residual.ensures.1
    (came_given run.Tree _ _ _ _ _ _ _ _ (λ w given tells wants k. wants.files) c.run_jobs.ensures.came))

pub close_run-requires : goal.close_run-requires
close_run-requires g c = record { ending = done_ends _ _ c.in_ok-run_jobs.ensures.done }

pub returns-in-Ok-clause-came : goal.returns-in-Ok-clause-came
returns-in-Ok-clause-came g c = came_then run.Tree run.Tree _ _ _ _ _ _ _ _ _ _ (ok_by _ _ (c.in_ok-run_jobs.was))
    (came_given run.Tree _ _ _ _ _ _ _ _ (λ w given tells wants k. wants.files) c.run_jobs.ensures.came)
    (came_done _ _ _ _ _ _ _ (ok_by _ _ c.in-Ok.is) (came_given Failed _ _ _ _ _ _ _ _ (λ w given tells wants k. wants.ends) (came_hits (work_hit _ _ _) c.close_run.ensures.came)))

pub returns-in-Err-clause-blame : goal.returns-in-Err-clause-blame
returns-in-Err-clause-blame g c = stopped_blames _ _ _ c.in-Err.e _ c.stopped.ensures.value

pub returns-in-Err-clause-mild : goal.returns-in-Err-clause-mild
returns-in-Err-clause-mild g c = λ w given wants tells k. stopped_mild c.in-Err.e _ c.stopped.ensures.value

pub returns-in-Err-clause-came : goal.returns-in-Err-clause-came
returns-in-Err-clause-came g c = came_then run.Tree run.Tree _ _ _ _ _ _ _ _ _ _ (ok_by _ _ (c.in_ok-run_jobs.was))
    (came_given run.Tree _ _ _ _ _ _ _ _ (λ w given tells wants k. wants.files) c.run_jobs.ensures.came)
    (came_stopped _ _ _ _ _ _ _ c.in-Err.e _ c.in-Err.is c.stopped.ensures.value (came_given Failed _ _ _ _ _ _ _ _ (λ w given tells wants k. wants.ends) (came_hits (work_hit _ _ _) c.close_run.ensures.came)))

pub returns-in_err-run_jobs-clause-stays : goal.returns-in_err-run_jobs-clause-stays
returns-in_err-run_jobs-clause-stays g c = λ apart. err_passed _ _ _ _ (c.in_err-run_jobs.was) c.from_residual.ensures.1 (c.run_jobs.ensures.stays apart)

pub returns-in-Err-clause-stays : goal.returns-in-Err-clause-stays
returns-in-Err-clause-stays g c = λ apart. stopped_blames _ _ _ c.in-Err.e _ c.stopped.ensures.value
