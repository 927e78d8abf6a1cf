use Rattle.std.proofs.Common.{ℕ, ap, sym, ◌∙◌, arith}
use Rattle.journal_core.specs.Names.{temp, commit}
use Rattle.journal_core.specs.Shapes.{none_there}
use Rattle.work_journal.specs.Work.{has_path, there_mark, work_path}
use Rattle.work_journal.proofs.ShownLaws.{has_as, going_shown, done_shown, none_more}
use Rattle.work_journal.proofs.starting.shown_job.Goals as goal

pub returns-then-has : goal.returns-then-has
returns-then-has c = record {
  state = λ present all. sym (going_shown c.args.steps c.loop-step.step (there_mark (has_path present (work_path c.args.work.now (commit c.args.job)))) (λ k. there_mark (has_path present (work_path c.args.work.now (temp c.args.job k)))) (omega arith)
      (ap there_mark (has_as present c.args.paths.now.paths.keys c.as_str.result.now (work_path c.args.work.now (commit c.args.job)) c.has.result _ all c.has.ensures.value (c.as_str.ensures.value ∙ c.in_ok-mark.ensures.path) c.if-not-has.false))
      (ap there_mark (has_as present c.args.paths.now.paths.keys c.as_str-in-loop-step.result.now (work_path c.args.work.now (temp c.args.job c.loop-step.step)) c.has-in-loop-step.result _ all c.has-in-loop-step.ensures.value (c.as_str-in-loop-step.ensures.value ∙ c.in_ok-temp.ensures.path) c.if-has.true))
      (c.loop-step.invariant present all));
}

pub loop-step-preserved : goal.loop-step-preserved
loop-step-preserved c = λ present all. none_more (λ k. there_mark (has_path present (work_path c.args.work.now (temp c.args.job k)))) c.loop-step.step _ (omega arith) (c.loop-step.invariant present all)
    (ap there_mark (has_as present c.args.paths.now.paths.keys c.as_str-in-loop-step.result.now (work_path c.args.work.now (temp c.args.job c.loop-step.step)) c.has-in-loop-step.result _ all c.has-in-loop-step.ensures.value (c.as_str-in-loop-step.ensures.value ∙ c.in_ok-temp.ensures.path) c.if-has.false))

pub returns : goal.returns
returns c = record {
  state = λ present all. sym (done_shown c.args.steps (there_mark (has_path present (work_path c.args.work.now (commit c.args.job)))) (λ k. there_mark (has_path present (work_path c.args.work.now (temp c.args.job k))))
      (ap there_mark (has_as present c.args.paths.now.paths.keys c.as_str.result.now (work_path c.args.work.now (commit c.args.job)) c.has.result _ all c.has.ensures.value (c.as_str.ensures.value ∙ c.in_ok-mark.ensures.path) c.if-not-has.false))
      (ap (λ (k : ℕ). none_there (λ i. there_mark (has_path present (work_path c.args.work.now (temp c.args.job i)))) k) (omega arith) ∙ c.loop-step.invariant present all));
}
