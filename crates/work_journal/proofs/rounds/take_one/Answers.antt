use Rattle.std.proofs.Common.{◌≡◌, rules, sym, refl, subst, arith, ◌+◌, IsTrue}
use Rattle.file_tree.specs.declared.node.TreeErr.TheVariants.{Failed}
use Rattle.journal_core.specs.Cores.{core_of}
use Rattle.work_journal.specs.declared.job_err.JobErr.TheVariants as job
use Rattle.work_journal.specs.Views.{MakerView}
use Rattle.work_journal.specs.Groups.{IsGroup, IsMade}
use Rattle.work_journal.proofs.GoesLaws.{came_still, came_then, came_given, came_passed, came_hits, came_least, came_most}
use Rattle.work_journal.proofs.JobErrLaws.{came_turned, came_fine, came_took, ok_by}
use Rattle.work_journal.proofs.RoundLaws.{round_next, round_anew, counted_same, counted_full, one_if_err, one_if_later}
use Rattle.work_journal.proofs.SpareLaws.{work_hit, since_hit}
use Rattle.work_journal.specs.Blames.{IsOfJob, is_mild}
use Rattle.work_journal.proofs.BlameLaws.{err_passed, tree_blames, tree_mild, tree_of_job, tree_stood}
use Rattle.journal_core.specs.Table.{state_of}
use Rattle.journal_core.specs.declared.event.JobState.TheVariants.{Staged, Done}
use Rattle.work_journal.proofs.PlannedLaws.{later_same, later_set, later_then, done_committed}
use Rattle.work_journal.proofs.rounds.take_one.Goals as goal

pub returns-then-is_done-clause-came : goal.returns-then-is_done-clause-came
returns-then-is_done-clause-came g c = came_still job.Tree _ _ _ _ _ (λ h. cc)

pub returns-then-taken-in_flight-clause-round : goal.returns-then-taken-in_flight-clause-round
returns-then-taken-in_flight-clause-round g c = round_next _ _ _ c.args.round _ _ _ _ (omega arith) c.requires.there refl (omega arith) (omega arith) c.requires.round c.in_ok-take_job.ensures.core

pub returns-in_err-take_job-clause-came : goal.returns-in_err-take_job-clause-came
returns-in_err-take_job-clause-came g c = came_least (came_hits (work_hit _ _ _) (came_passed job.Tree _ _ _ _ _ _ _ _ _ _ (c.in_err-take_job.was) c.from_residual.ensures.1 c.take_job.ensures.came))

pub returns-then-taken-in_flight-clause-came : goal.returns-then-taken-in_flight-clause-came
returns-then-taken-in_flight-clause-came g c = came_least (came_hits (work_hit _ _ _) (came_took _ _ _ _ _ _ _ _ _ (c.in_ok-take_job.was) c.take_job.ensures.came))

pub returns-then-is_done-clause-counted : goal.returns-then-is_done-clause-counted
returns-then-is_done-clause-counted g c = counted_same _ _ _ refl (omega arith)

pub returns-then-taken-in_flight-clause-counted : goal.returns-then-taken-in_flight-clause-counted
returns-then-taken-in_flight-clause-counted g c = counted_same _ _ _ refl (omega arith)

pub returns-clause-counted : goal.returns-clause-counted
returns-clause-counted g c = counted_full c.args.round _ _ (let o = c.requires.round.order in omega (arith, o)) refl (omega arith)

pub returns-in_err-flush_group-clause-came : goal.returns-in_err-flush_group-clause-came
returns-in_err-flush_group-clause-came g c = came_most (one_if_err c.args.round _ _ c.from_residual-in_err-flush_group.ensures.1)
    (came_then job.Tree job.Tree _ _ _ _ _ _ _ _ _ _ (ok_by _ _ (c.in_ok-take_job.was)) (came_hits (work_hit _ _ _) c.take_job.ensures.came)
    (came_turned _ _ _ _ _ _ _ _ _ _ (c.in_err-flush_group.was) c.from_residual-in_err-flush_group.ensures.1
    (came_given Failed _ _ _ _ _ _ _ _ (λ w given tells wanted k. subst (λ (v : MakerView). IsMade w v) (sym c.take_job.ensures.same_view) wanted.made) (came_hits (since_hit _ _ _ _ _ c.take_job.ensures.same_view (λ j l. l)) c.flush_group.ensures.came))))

pub returns-clause-round : goal.returns-clause-round
returns-clause-round g c = round_anew _ _ _ _ _ refl refl (let f = c.requires.round.few in omega (arith, f))
    (subst (λ (v : MakerView). IsGroup v (core_of c.flush_group.new.desk.core) (c.args.job + 1) (c.args.job + 1)) c.take_job.ensures.same_view c.in_ok-flush_group.ensures.group)

pub returns-clause-came : goal.returns-clause-came
returns-clause-came g c = came_most (one_if_later c.args.round (record { first = c.args.job + 1; taken = 0 }) (let o = c.requires.round.order in omega (arith, o)))
    (came_then job.Tree job.Tree _ _ _ _ _ _ _ _ _ _ (ok_by _ _ (c.in_ok-take_job.was)) (came_hits (work_hit _ _ _) c.take_job.ensures.came)
    (came_fine _ _ _ _ _ _ _ _ _ (c.in_ok-flush_group.was)
    (came_given Failed _ _ _ _ _ _ _ _ (λ w given tells wanted k. subst (λ (v : MakerView). IsMade w v) (sym c.take_job.ensures.same_view) wanted.made) (came_hits (since_hit _ _ _ _ _ c.take_job.ensures.same_view (λ j l. l)) c.flush_group.ensures.came))))

pub returns-in_err-take_job-clause-blame : goal.returns-in_err-take_job-clause-blame
returns-in_err-take_job-clause-blame g c = err_passed _ _ _ _ (c.in_err-take_job.was) c.from_residual.ensures.1 c.take_job.ensures.blame

pub returns-in_err-take_job-clause-mild : goal.returns-in_err-take_job-clause-mild
returns-in_err-take_job-clause-mild g c = λ w given wanted tells k. err_passed _ _ _ (λ e. IsTrue (is_mild e)) (c.in_err-take_job.was) c.from_residual.ensures.1 (c.take_job.ensures.mild w given wanted tells k)

pub returns-in_err-flush_group-clause-blame : goal.returns-in_err-flush_group-clause-blame
returns-in_err-flush_group-clause-blame g c = tree_blames _ _ _ _ _ c.from_residual-in_err-flush_group.ensures.1

pub returns-in_err-flush_group-clause-mild : goal.returns-in_err-flush_group-clause-mild
returns-in_err-flush_group-clause-mild g c = λ w given wanted tells k. tree_mild _ _ c.from_residual-in_err-flush_group.ensures.1

pub returns-then-is_done-clause-later : goal.returns-then-is_done-clause-later
returns-then-is_done-clause-later g c = later_same _ _ _ refl

pub returns-then-is_done-clause-met : goal.returns-then-is_done-clause-met
returns-then-is_done-clause-met g c =
    let done : state_of (core_of c.args.desk.now.core) c.args.job ≡ Done = search rules in
    λ free. done_committed _ done free

pub returns-then-taken-in_flight-clause-later : goal.returns-then-taken-in_flight-clause-later
returns-then-taken-in_flight-clause-later g c = later_set _ _ c.args.job _ Staged (omega arith) c.in_ok-take_job.ensures.core

pub returns-then-taken-in_flight-clause-met : goal.returns-then-taken-in_flight-clause-met
returns-then-taken-in_flight-clause-met g c = λ free. c.in_ok-take_job.ensures.met

pub returns-clause-later : goal.returns-clause-later
returns-clause-later g c = later_then _ _ _ _ _ (omega arith) (later_set _ _ c.args.job (c.args.job + 1) Staged (omega arith) c.in_ok-take_job.ensures.core) c.in_ok-flush_group.ensures.later

pub returns-clause-met : goal.returns-clause-met
returns-clause-met g c = λ free. c.in_ok-take_job.ensures.met

pub returns-in_err-take_job-clause-of_job : goal.returns-in_err-take_job-clause-of_job
returns-in_err-take_job-clause-of_job g c = err_passed _ _ _ (IsOfJob c.args.job) (c.in_err-take_job.was) c.from_residual.ensures.1 c.take_job.ensures.of_job

pub returns-in_err-take_job-clause-stands : goal.returns-in_err-take_job-clause-stands
returns-in_err-take_job-clause-stands g c = err_passed _ _ _ _ (c.in_err-take_job.was) c.from_residual.ensures.1 c.take_job.ensures.stands

pub returns-in_err-flush_group-clause-of_job : goal.returns-in_err-flush_group-clause-of_job
returns-in_err-flush_group-clause-of_job g c = tree_of_job _ _ _ c.from_residual-in_err-flush_group.ensures.1

pub returns-in_err-flush_group-clause-stands : goal.returns-in_err-flush_group-clause-stands
returns-in_err-flush_group-clause-stands g c = tree_stood _ _ (core_of c.args.desk.now.core) _ _ _ c.from_residual-in_err-flush_group.ensures.1
