use Rattle.std.proofs.Common.{ℕ, ◌∙◌, ◌<◌, ◌+◌, length, sym, refl, subst, arith, IsTrue}
use Rattle.journal_core.specs.Cores.{core_of}
use Rattle.work_journal.specs.declared.job_err.JobErr.TheVariants as job
use Rattle.work_journal.specs.Views.{MakerView}
use Rattle.work_journal.specs.Rounds.{IsRound}
use Rattle.work_journal.proofs.GoesLaws.{came_still, came_passed, came_hits, came_most}
use Rattle.work_journal.proofs.SpareLaws.{more_hit, since_hit}
use Rattle.work_journal.proofs.JobErrLaws.{came_took, came_then_job, keeps_then, taken}
use Rattle.work_journal.proofs.FileLaws.{wanted_since}
use Rattle.work_journal.proofs.RoundLaws.{round_begins, taken_most, settles_next, settles_end, broke_all}
use Rattle.work_journal.specs.Blames.{is_mild}
use Rattle.work_journal.proofs.BlameLaws.{err_passed, blames_since, stood_since}
use Rattle.work_journal.specs.Planned.{HasPlanned, ArePlanned}
use Rattle.work_journal.proofs.PlannedLaws.{stood_first, later_same, later_then, none_planned, planned_next}
use Rattle.work_journal.proofs.rounds.take_all.Goals as goal

pub loop-job-init : goal.loop-job-init
loop-job-init g c = record {
  same_tree = refl;
  same_view = refl;
  kept_nodes = λ j b m ns h. h;
  same_refusals = λ j b r h. h;
  round = round_begins _ _ _ _ refl refl c.requires.some c.requires.group;
  later = later_same _ _ _ refl;
  met = λ apart. none_planned _ _ _;
  came = came_still job.Tree _ _ _ _ _ (λ h. cc);
}

pub take_one-requires-clause-there : goal.take_one-requires-clause-there
take_one-requires-clause-there g c = subst (λ (v : MakerView). c.loop-job.job < length v.steps) (sym c.loop-job.invariant.same_view) (omega arith)

pub take_one-requires-clause-round : goal.take_one-requires-clause-round
take_one-requires-clause-round g c = subst (λ (v : MakerView). IsRound v (core_of c.loop-job.desk.core) c.loop-job.round c.loop-job.job c.args.in_flight) (sym c.loop-job.invariant.same_view) c.loop-job.invariant.round

pub returns-in_err-round-clause-came : goal.returns-in_err-round-clause-came
returns-in_err-round-clause-came g c = came_most (broke_all c.loop-job.round _ _ _ c.loop-job.job (length (g.M.Maker.view c.args.maker.now).steps) c.args.in_flight c.requires.some (omega arith) (c.in_err-round.was) c.from_residual.ensures.1)
    (came_passed job.Tree _ _ _ _ _ _ _ _ _ _ (c.in_err-round.was) c.from_residual.ensures.1
    (came_then_job _ _ _ _ _ _ _ _ _ _ (λ w wanted. wanted_since w _ _ _ _ c.loop-job.invariant.same_view c.loop-job.invariant.kept_nodes wanted)
    (came_hits (more_hit _ _ _ _ (λ j l. tt)) c.loop-job.invariant.came) (came_hits (since_hit _ _ _ _ _ c.loop-job.invariant.same_view (λ j l. tt)) c.take_one.ensures.came)))

pub loop-job-preserved : goal.loop-job-preserved
loop-job-preserved g c = record {
  same_tree = c.take_one.ensures.same_tree ∙ c.loop-job.invariant.same_tree;
  same_view = c.take_one.ensures.same_view ∙ c.loop-job.invariant.same_view;
  kept_nodes = λ j b m ns h. c.take_one.ensures.kept_nodes j b m ns (c.loop-job.invariant.kept_nodes j b m ns h);
  same_refusals = λ j b r h. c.loop-job.invariant.same_refusals j b r (c.take_one.ensures.same_refusals j b r h);
  round = subst (λ (v : MakerView). IsRound v (core_of c.take_one.new.desk.core) c.in_ok-round.round (c.loop-job.job + 1) c.args.in_flight) c.loop-job.invariant.same_view c.in_ok-round.ensures.round;
  later = later_then _ _ _ _ _ (omega arith) c.loop-job.invariant.later c.in_ok-round.ensures.later;
  met = λ apart. planned_next c.args.work.now _ _ _ (core_of c.loop-job.desk.core) _ _ c.loop-job.job _ (omega arith) (omega arith) apart c.loop-job.invariant.later c.loop-job.invariant.came.tells c.loop-job.invariant.came.spares (c.loop-job.invariant.met apart)
      (λ free. subst (λ (v : MakerView). HasPlanned v (g.T.Tree.seen c.loop-job.desk.tree.now) c.loop-job.job) c.loop-job.invariant.same_view (c.in_ok-round.ensures.met free));
  came = came_most (settles_next c.loop-job.round c.in_ok-round.round _ c.loop-job.job _ c.args.in_flight c.requires.some (omega arith) (taken_most _ _ _ _ _ c.loop-job.invariant.round) (c.in_ok-round.was) c.in_ok-round.ensures.counted)
      (came_took _ _ _ _ _ _ _ _ _ (c.in_ok-round.was)
      (came_then_job _ _ _ _ _ _ _ _ _ _ (λ w wanted. wanted_since w _ _ _ _ c.loop-job.invariant.same_view c.loop-job.invariant.kept_nodes wanted)
      (came_hits (more_hit _ _ _ _ (λ j l. omega (arith, l))) c.loop-job.invariant.came) (came_hits (since_hit _ _ _ _ _ c.loop-job.invariant.same_view (λ j l. l)) c.take_one.ensures.came)));
}

pub returns-clause-round : goal.returns-clause-round
returns-clause-round g c = subst (λ (n : ℕ). IsRound (g.M.Maker.view c.args.maker.now) (core_of c.loop-job.desk.core) c.loop-job.round n c.args.in_flight) (omega arith) c.loop-job.invariant.round

pub returns-clause-came : goal.returns-clause-came
returns-clause-came g c = came_most (settles_end c.loop-job.round c.loop-job.round c.loop-job.job _ c.args.in_flight (omega arith) refl) (came_hits (more_hit _ _ _ _ (λ j l. tt)) (came_took _ _ _ _ _ _ _ _ _ refl c.loop-job.invariant.came))

pub returns-in_err-round-clause-blame : goal.returns-in_err-round-clause-blame
returns-in_err-round-clause-blame g c = err_passed _ _ _ _ (c.in_err-round.was) c.from_residual.ensures.1
    (blames_since _ _ _ _ _ _ c.loop-job.invariant.same_view c.loop-job.invariant.same_refusals c.take_one.ensures.blame)

pub returns-in_err-round-clause-mild : goal.returns-in_err-round-clause-mild
returns-in_err-round-clause-mild g c = λ w given wanted tells k. err_passed _ _ _ (λ e. IsTrue (is_mild e)) (c.in_err-round.was) c.from_residual.ensures.1
    (c.take_one.ensures.mild w given (wanted_since w _ _ _ _ c.loop-job.invariant.same_view c.loop-job.invariant.kept_nodes wanted) (c.loop-job.invariant.came.tells ∙ tells)
    (keeps_then job.Tree _ _ _ _ _ _ taken _ w refl given tells wanted k c.loop-job.invariant.came))

pub returns-clause-met : goal.returns-clause-met
returns-clause-met g c = λ apart. subst (λ (n : ℕ). ArePlanned (g.M.Maker.view c.args.maker.now) (core_of c.args.desk.now.core) (g.T.Tree.seen c.args.desk.now.tree.now) n) (omega arith) (c.loop-job.invariant.met apart)

pub returns-in_err-round-clause-stands : goal.returns-in_err-round-clause-stands
returns-in_err-round-clause-stands g c = λ apart. err_passed _ _ _ _ (c.in_err-round.was) c.from_residual.ensures.1
    (stood_first c.args.work.now _ _ _ _ _ _ _ c.loop-job.job _ apart c.loop-job.invariant.later c.loop-job.invariant.came.tells c.loop-job.invariant.came.spares c.take_one.ensures.of_job
    (stood_since _ _ _ _ (core_of c.loop-job.desk.core) _ _ c.loop-job.invariant.same_view c.loop-job.invariant.same_refusals c.take_one.ensures.stands))
