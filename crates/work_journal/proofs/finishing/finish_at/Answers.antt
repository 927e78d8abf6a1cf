use Rattle.std.proofs.Common.{◌∙◌, length, IsTrue}
use Rattle.work_texts.specs.declared.journal_err.JournalErr.TheVariants as run
use Rattle.work_journal.specs.Blames.{is_mild_run}
use Rattle.work_journal.proofs.GoesLaws.{came_passed, came_given, came_then, came_hits, came_most}
use Rattle.work_journal.proofs.SpareLaws.{work_hit}
use Rattle.work_journal.specs.Rounds.{rounds_of}
use Rattle.work_journal.proofs.JobErrLaws.{ok_by, keeps_then}
use Rattle.work_journal.proofs.BlameLaws.{err_passed}
use Rattle.work_journal.proofs.PlannedLaws.{run_first}
use Rattle.work_journal.proofs.FinishLaws.{told_of, mild_blames, came_value, first_of_three, two_of_three, all_of_three}
use Rattle.work_journal.proofs.ClearLaws.{since_ran, since_then}
use Rattle.work_journal.proofs.finishing.finish_at.Goals as goal

pub returns-in_err-told_first-clause-blame : goal.returns-in_err-told_first-clause-blame
returns-in_err-told_first-clause-blame g c = err_passed _ _ _ _ (c.in_err-told_first.was) c.from_residual.ensures.1 c.told_first.ensures.blame

pub returns-in_err-told_first-clause-mild : goal.returns-in_err-told_first-clause-mild
returns-in_err-told_first-clause-mild g c = λ w given wants tells k. err_passed _ _ _ (λ e. IsTrue (is_mild_run e)) (c.in_err-told_first.was) c.from_residual.ensures.1 c.told_first.ensures.mild

pub returns-in_err-told_first-clause-came : goal.returns-in_err-told_first-clause-came
returns-in_err-told_first-clause-came g c = came_most (first_of_three (rounds_of (length (g.M.Maker.view c.args.maker.now).steps) c.args.in_flight))
    (came_passed run.Tree _ _ _ _ _ _ _ _ _ _ (c.in_err-told_first.was) c.from_residual.ensures.1
    (came_given run.Tree _ _ _ _ _ _ _ _ (λ w given tells wants k. told_of _ _ _ _ _ wants) (came_hits (work_hit _ _ _) c.told_first.ensures.came)))

pub returns-in_err-jobs_next-clause-blame : goal.returns-in_err-jobs_next-clause-blame
returns-in_err-jobs_next-clause-blame g c = err_passed _ _ _ _ (c.in_err-jobs_next.was) c.from_residual-in_err-jobs_next.ensures.1 c.jobs_next.ensures.blame

pub returns-in_err-jobs_next-clause-mild : goal.returns-in_err-jobs_next-clause-mild
returns-in_err-jobs_next-clause-mild g c = λ w given wants tells k. err_passed _ _ _ (λ e. IsTrue (is_mild_run e)) (c.in_err-jobs_next.was) c.from_residual-in_err-jobs_next.ensures.1
    (c.jobs_next.ensures.mild w given wants.jobs (c.told_first.ensures.came.tells ∙ tells)
    (keeps_then run.Tree _ _ _ _ _ _ _ _ w (c.in_ok-told_first.was) given tells (told_of _ _ _ _ _ wants) k c.told_first.ensures.came))

pub returns-in_err-jobs_next-clause-came : goal.returns-in_err-jobs_next-clause-came
returns-in_err-jobs_next-clause-came g c = came_most (two_of_three (rounds_of (length (g.M.Maker.view c.args.maker.now).steps) c.args.in_flight))
    (came_then run.Tree run.Tree _ _ _ _ _ _ _ _ _ _ (ok_by _ _ (c.in_ok-told_first.was))
    (came_given run.Tree _ _ _ _ _ _ _ _ (λ w given tells wants k. told_of _ _ _ _ _ wants) (came_hits (work_hit _ _ _) c.told_first.ensures.came))
    (came_passed run.Tree _ _ _ _ _ _ _ _ _ _ (c.in_err-jobs_next.was) c.from_residual-in_err-jobs_next.ensures.1
    (came_given run.Tree _ _ _ _ _ _ _ _ (λ w given tells wants k. wants.jobs) c.jobs_next.ensures.came)))

pub returns-in_err-clear-clause-blame : goal.returns-in_err-clear-clause-blame
returns-in_err-clear-clause-blame g c = err_passed _ _ _ _ (c.in_err-clear.was) c.from_residual-in_err-clear.ensures.1
    (mild_blames _ _ _ _ c.clear.ensures.mild)

pub returns-in_err-clear-clause-mild : goal.returns-in_err-clear-clause-mild
returns-in_err-clear-clause-mild g c = λ w given wants tells k. err_passed _ _ _ (λ e. IsTrue (is_mild_run e)) (c.in_err-clear.was) c.from_residual-in_err-clear.ensures.1 c.clear.ensures.mild

pub returns-in_err-clear-clause-came : goal.returns-in_err-clear-clause-came
returns-in_err-clear-clause-came g c = came_most (all_of_three (rounds_of (length (g.M.Maker.view c.args.maker.now).steps) c.args.in_flight))
    (came_then run.Tree run.Tree _ _ _ _ _ _ _ _ _ _ (ok_by _ _ (c.in_ok-told_first.was))
    (came_given run.Tree _ _ _ _ _ _ _ _ (λ w given tells wants k. told_of _ _ _ _ _ wants) (came_hits (work_hit _ _ _) c.told_first.ensures.came))
    (came_then run.Tree run.Tree _ _ _ _ _ _ _ _ _ _ (ok_by _ _ (c.in_ok-jobs_next.was))
    (came_given run.Tree _ _ _ _ _ _ _ _ (λ w given tells wants k. wants.jobs) c.jobs_next.ensures.came)
    (came_passed run.Tree _ _ _ _ _ _ _ _ _ _ (c.in_err-clear.was) c.from_residual-in_err-clear.ensures.1
    (came_given run.Tree _ _ _ _ _ _ _ _ (λ w given tells wants k. tt) (came_hits (work_hit _ _ _) c.clear.ensures.came)))))

pub returns-clause-came : goal.returns-clause-came
returns-clause-came g c = came_most (all_of_three (rounds_of (length (g.M.Maker.view c.args.maker.now).steps) c.args.in_flight))
    (came_then run.Tree run.Tree _ _ _ _ _ _ _ _ _ _ (ok_by _ _ (c.in_ok-told_first.was))
    (came_given run.Tree _ _ _ _ _ _ _ _ (λ w given tells wants k. told_of _ _ _ _ _ wants) (came_hits (work_hit _ _ _) c.told_first.ensures.came))
    (came_then run.Tree run.Tree _ _ _ _ _ _ _ _ _ _ (ok_by _ _ (c.in_ok-jobs_next.was))
    (came_given run.Tree _ _ _ _ _ _ _ _ (λ w given tells wants k. wants.jobs) c.jobs_next.ensures.came)
    (came_value _ _ _ _ _ _ _ _ _ (c.in_ok-clear.was)
    (came_given run.Tree _ _ _ _ _ _ _ _ (λ w given tells wants k. tt) (came_hits (work_hit _ _ _) c.clear.ensures.came)))))

pub returns-clause-alone : goal.returns-clause-alone
returns-clause-alone g c = λ phase tells all.
    let first = c.told_first.ensures.came.tells ∙ tells in
    let second = c.jobs_next.ensures.came.tells ∙ first in
    record {
      mid = g.T.Tree.seen c.told_first.new.desk.tree.now;
      tells = c.told_first.ensures.came.tells;
      before = since_ran _ _ _ _ _ _ (c.told_first.ensures.came.goes tells).ran;
      after = since_then _ _ _ (since_ran _ _ _ _ _ _ (c.jobs_next.ensures.came.goes first).ran) (since_ran _ _ _ _ _ _ (c.clear.ensures.came.goes second).ran);
      alone = c.in_ok-told_first.ensures.alone phase all;
    }

pub returns-in_err-told_first-clause-stays : goal.returns-in_err-told_first-clause-stays
returns-in_err-told_first-clause-stays g c = λ apart. err_passed _ _ _ _ (c.in_err-told_first.was) c.from_residual.ensures.1
    (run_first c.args.work.now _ _ _ _ _ _ apart c.told_first.ensures.came.tells c.told_first.ensures.came.spares c.told_first.ensures.blame)

pub returns-in_err-jobs_next-clause-stays : goal.returns-in_err-jobs_next-clause-stays
returns-in_err-jobs_next-clause-stays g c = λ apart. err_passed _ _ _ _ (c.in_err-jobs_next.was) c.from_residual-in_err-jobs_next.ensures.1
    (run_first c.args.work.now _ _ _ _ _ _ apart c.told_first.ensures.came.tells c.told_first.ensures.came.spares (c.jobs_next.ensures.stays apart))

pub returns-in_err-clear-clause-stays : goal.returns-in_err-clear-clause-stays
returns-in_err-clear-clause-stays g c = λ apart. err_passed _ _ _ _ (c.in_err-clear.was) c.from_residual-in_err-clear.ensures.1
    (mild_blames _ _ _ _ c.clear.ensures.mild)
