-- The parts of the plan are the survey's.
use Rattle.std.proofs.Common.{sym}
use Rattle.root_plan.proofs.PlanLaws.{planned}
use Rattle.root_plan.proofs.planning.plan_of.Goals as goal

pub returns : goal.returns
returns c = record {
  value = rw (c.new.ensures.value, c.new-2.ensures.value, sym c.survey.view_is)
      (planned c.args.options.now _ _ _ _ _ _ _ c.in_ok-key.ensures.value c.in_ok-names.ensures.value
      (rw (c.deref-2.ensures.value, c.deref-3.ensures.value, c.name_count-count.ensures.value, c.deref.ensures.value) at c.in_ok-report.ensures.text));
}
