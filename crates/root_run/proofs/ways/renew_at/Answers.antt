-- The finished text is put anew, and then the work folder is cleared.
use Rattle.std.proofs.Common.{IsTrue, arith}
use Rattle.work_texts.specs.declared.journal_err.JournalErr.TheVariants as run
use Rattle.work_journal.specs.Blames.{is_mild_run}
use Rattle.work_journal.proofs.BlameLaws.{err_passed}
use Rattle.work_journal.proofs.FinishLaws.{came_value}
use Rattle.work_journal.proofs.GoesLaws.{came_given, came_most, came_passed, came_then}
use Rattle.work_journal.proofs.JobErrLaws.{ok_by}
use Rattle.root_run.proofs.ways.renew_at.Goals as goal

pub returns-in_err-renew-clause-mild : goal.returns-in_err-renew-clause-mild
returns-in_err-renew-clause-mild g c = err_passed _ _ _ (λ e. IsTrue (is_mild_run e)) (c.in_err-renew.was) c.from_residual.ensures.1 c.renew.ensures.mild

pub returns-in_err-renew-clause-came : goal.returns-in_err-renew-clause-came
returns-in_err-renew-clause-came g c = came_most (omega arith) (came_passed run.Tree _ _ _ _ _ _ _ _ _ _ (c.in_err-renew.was) c.from_residual.ensures.1 c.renew.ensures.came)

pub returns-in_err-clear-clause-mild : goal.returns-in_err-clear-clause-mild
returns-in_err-clear-clause-mild g c = err_passed _ _ _ (λ e. IsTrue (is_mild_run e)) (c.in_err-clear.was) c.from_residual-in_err-clear.ensures.1 c.clear.ensures.mild

pub returns-in_err-clear-clause-came : goal.returns-in_err-clear-clause-came
returns-in_err-clear-clause-came g c = came_then run.Tree run.Tree _ _ _ _ _ _ _ _ _ _ (ok_by _ _ (c.in_ok-renew.was)) c.renew.ensures.came
    (came_passed run.Tree _ _ _ _ _ _ _ _ _ _ (c.in_err-clear.was) c.from_residual-in_err-clear.ensures.1
    (came_given run.Tree _ _ _ _ _ _ _ _ (λ w given tells wants k. tt) c.clear.ensures.came))

pub returns-clause-came : goal.returns-clause-came
returns-clause-came g c = came_then run.Tree run.Tree _ _ _ _ _ _ _ _ _ _ (ok_by _ _ (c.in_ok-renew.was)) c.renew.ensures.came
    (came_value _ _ _ _ _ _ _ _ _ (c.in_ok-clear.was)
    (came_given run.Tree _ _ _ _ _ _ _ _ (λ w given tells wants k. tt) c.clear.ensures.came))
