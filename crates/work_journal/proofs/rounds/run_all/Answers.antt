use Rattle.std.proofs.Common.{◌∙◌, length, sym, refl, subst, IsTrue}
use Rattle.file_tree.specs.declared.node.TreeErr.TheVariants.{Failed}
use Rattle.work_journal.specs.declared.job_err.JobErr.TheVariants as job
use Rattle.journal_core.specs.Cores.{core_of}
use Rattle.work_journal.specs.Views.{MakerView}
use Rattle.work_journal.specs.Groups.{IsMade}
use Rattle.work_journal.proofs.GoesLaws.{came_then, came_given, came_passed, came_hits, came_least, came_most}
use Rattle.work_journal.proofs.SpareLaws.{more_hit, since_hit}
use Rattle.work_journal.proofs.JobErrLaws.{came_turned, came_fine, came_took, came_first, came_then_job, ok_by, keeps_then}
use Rattle.work_journal.proofs.RoundLaws.{round_empty, taken_most, settles_failed, settles_last, settles_all}
use Rattle.work_journal.specs.Blames.{is_mild}
use Rattle.work_journal.proofs.BlameLaws.{err_passed, tree_blames, tree_mild, tree_stood}
use Rattle.work_journal.proofs.PlannedLaws.{planned_first, stood_calm}
use Rattle.work_journal.proofs.rounds.run_all.Goals as goal

pub returns-in_err-mend_all-clause-came : goal.returns-in_err-mend_all-clause-came
returns-in_err-mend_all-clause-came g c = came_least (came_turned _ _ _ _ _ _ _ _ _ _ (c.in_err-mend_all.was) c.from_residual.ensures.1
    (came_given Failed _ _ _ _ _ _ _ _ (λ w given tells wanted k. wanted.made) (came_hits (more_hit _ _ _ _ (λ j m. tt)) c.mend_all.ensures.came)))

pub returns-in_err-round-clause-came : goal.returns-in_err-round-clause-came
returns-in_err-round-clause-came g c = came_most (settles_failed _ c.take_all.result (length (g.M.Maker.view c.args.maker.now).steps) c.args.in_flight (c.in_err-round.was))
    (came_passed job.Tree _ _ _ _ _ _ _ _ _ _ (c.in_err-round.was) c.from_residual-in_err-round.ensures.1
    (came_then_job _ _ _ _ _ _ _ _ _ _ (λ w wanted. wanted)
    (came_first _ _ _ _ _ _ _ _ (c.in_ok-mend_all.was) (came_given Failed _ _ _ _ _ _ _ _ (λ w given tells wanted k. wanted.made) (came_hits (more_hit _ _ _ _ (λ j m. tt)) c.mend_all.ensures.came)))
    c.take_all.ensures.came))

pub returns-in_err-flush_group-clause-came : goal.returns-in_err-flush_group-clause-came
returns-in_err-flush_group-clause-came g c = came_most (settles_last c.in_ok-round.round c.take_all.result (length (g.M.Maker.view c.args.maker.now).steps) c.args.in_flight c.requires.some (c.in_ok-round.was) c.if-round-eq0.false (taken_most _ _ _ _ _ c.in_ok-round.ensures.round))
    (came_then job.Tree job.Tree _ _ _ _ _ _ _ _ _ _ (ok_by _ _ (c.in_ok-round.was))
    (came_then_job _ _ _ _ _ _ _ _ _ _ (λ w wanted. wanted)
    (came_first _ _ _ _ _ _ _ _ (c.in_ok-mend_all.was) (came_given Failed _ _ _ _ _ _ _ _ (λ w given tells wanted k. wanted.made) (came_hits (more_hit _ _ _ _ (λ j m. tt)) c.mend_all.ensures.came)))
    c.take_all.ensures.came)
    (came_turned _ _ _ _ _ _ _ _ _ _ (c.in_err-flush_group.was) c.from_residual-in_err-flush_group.ensures.1
    (came_given Failed _ _ _ _ _ _ _ _ (λ w given tells wanted k. subst (λ (v : MakerView). IsMade w v) (sym c.take_all.ensures.same_view) wanted.made) (came_hits (since_hit _ _ _ _ _ c.take_all.ensures.same_view (λ j l. tt)) c.flush_group.ensures.came))))

pub returns-clause-came : goal.returns-clause-came
returns-clause-came g c = came_most (settles_last c.in_ok-round.round c.take_all.result (length (g.M.Maker.view c.args.maker.now).steps) c.args.in_flight c.requires.some (c.in_ok-round.was) c.if-round-eq0.false (taken_most _ _ _ _ _ c.in_ok-round.ensures.round))
    (came_then job.Tree job.Tree _ _ _ _ _ _ _ _ _ _ (ok_by _ _ (c.in_ok-round.was))
    (came_then_job _ _ _ _ _ _ _ _ _ _ (λ w wanted. wanted)
    (came_first _ _ _ _ _ _ _ _ (c.in_ok-mend_all.was) (came_given Failed _ _ _ _ _ _ _ _ (λ w given tells wanted k. wanted.made) (came_hits (more_hit _ _ _ _ (λ j m. tt)) c.mend_all.ensures.came)))
    c.take_all.ensures.came)
    (came_fine _ _ _ _ _ _ _ _ _ (c.in_ok-flush_group.was)
    (came_given Failed _ _ _ _ _ _ _ _ (λ w given tells wanted k. subst (λ (v : MakerView). IsMade w v) (sym c.take_all.ensures.same_view) wanted.made) (came_hits (since_hit _ _ _ _ _ c.take_all.ensures.same_view (λ j l. tt)) c.flush_group.ensures.came))))

pub returns-then-round-eq0-clause-done : goal.returns-then-round-eq0-clause-done
returns-then-round-eq0-clause-done g c = round_empty _ _ c.in_ok-round.round _ _ refl c.if-round-eq0.true c.in_ok-round.ensures.round

pub returns-then-round-eq0-clause-came : goal.returns-then-round-eq0-clause-came
returns-then-round-eq0-clause-came g c = came_most (settles_all c.in_ok-round.round c.take_all.result (length (g.M.Maker.view c.args.maker.now).steps) c.args.in_flight c.requires.some (c.in_ok-round.was))
    (came_took _ _ _ _ _ _ _ _ _ (c.in_ok-round.was)
    (came_then_job _ _ _ _ _ _ _ _ _ _ (λ w wanted. wanted)
    (came_first _ _ _ _ _ _ _ _ (c.in_ok-mend_all.was) (came_given Failed _ _ _ _ _ _ _ _ (λ w given tells wanted k. wanted.made) (came_hits (more_hit _ _ _ _ (λ j m. tt)) c.mend_all.ensures.came)))
    c.take_all.ensures.came))

pub returns-in_err-mend_all-clause-blame : goal.returns-in_err-mend_all-clause-blame
returns-in_err-mend_all-clause-blame g c = tree_blames _ _ _ _ _ c.from_residual.ensures.1

pub returns-in_err-mend_all-clause-mild : goal.returns-in_err-mend_all-clause-mild
returns-in_err-mend_all-clause-mild g c = λ w given wanted tells k. tree_mild _ _ c.from_residual.ensures.1

pub returns-in_err-round-clause-blame : goal.returns-in_err-round-clause-blame
returns-in_err-round-clause-blame g c = err_passed _ _ _ _ (c.in_err-round.was) c.from_residual-in_err-round.ensures.1 c.take_all.ensures.blame

pub returns-in_err-round-clause-mild : goal.returns-in_err-round-clause-mild
returns-in_err-round-clause-mild g c = λ w given wanted tells k. err_passed _ _ _ (λ e. IsTrue (is_mild e)) (c.in_err-round.was) c.from_residual-in_err-round.ensures.1
    (c.take_all.ensures.mild w given wanted (c.mend_all.ensures.came.tells ∙ tells)
    (keeps_then Failed _ _ _ _ _ _ _ _ w (c.in_ok-mend_all.was) given tells wanted.made k c.mend_all.ensures.came))

pub returns-in_err-flush_group-clause-blame : goal.returns-in_err-flush_group-clause-blame
returns-in_err-flush_group-clause-blame g c = tree_blames _ _ _ _ _ c.from_residual-in_err-flush_group.ensures.1

pub returns-in_err-flush_group-clause-mild : goal.returns-in_err-flush_group-clause-mild
returns-in_err-flush_group-clause-mild g c = λ w given wanted tells k. tree_mild _ _ c.from_residual-in_err-flush_group.ensures.1

pub returns-then-round-eq0-clause-met : goal.returns-then-round-eq0-clause-met
returns-then-round-eq0-clause-met g c = λ apart. planned_first c.args.work.now _ _ _ _ _ _ _ refl apart c.in_ok-mend_all.ensures.calm c.mend_all.ensures.came.tells c.mend_all.ensures.came.spares (c.in_ok-round.ensures.met apart)

pub returns-clause-met : goal.returns-clause-met
returns-clause-met g c = λ apart. planned_first c.args.work.now _ _ _ _ _ _ _ refl apart c.in_ok-mend_all.ensures.calm c.mend_all.ensures.came.tells c.mend_all.ensures.came.spares (c.in_ok-round.ensures.met apart)

pub returns-in_err-mend_all-clause-stands : goal.returns-in_err-mend_all-clause-stands
returns-in_err-mend_all-clause-stands g c = λ apart. tree_stood _ _ (core_of c.args.desk.now.core) _ _ _ c.from_residual.ensures.1

pub returns-in_err-round-clause-stands : goal.returns-in_err-round-clause-stands
returns-in_err-round-clause-stands g c = λ apart. err_passed _ _ _ _ (c.in_err-round.was) c.from_residual-in_err-round.ensures.1
    (stood_calm c.args.work.now _ _ _ _ _ _ _ _ apart c.in_ok-mend_all.ensures.calm c.mend_all.ensures.came.tells c.mend_all.ensures.came.spares (c.take_all.ensures.stands apart))

pub returns-in_err-flush_group-clause-stands : goal.returns-in_err-flush_group-clause-stands
returns-in_err-flush_group-clause-stands g c = λ apart. tree_stood _ _ (core_of c.args.desk.now.core) _ _ _ c.from_residual-in_err-flush_group.ensures.1
