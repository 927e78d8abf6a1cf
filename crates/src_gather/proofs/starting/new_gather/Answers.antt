-- A root that has no plan, and one whose plan is carried out.
use Rattle.root_run.proofs.FirstLaws.{err-is}
use Rattle.src_gather.specs.Starts.OpenedWent.{unplanned, planned}
use Rattle.src_gather.proofs.starting.new_gather.Goals as goal

pub returns-in_err-plan : goal.returns-in_err-plan
returns-in_err-plan g c = record { went = unplanned _ c.plan_gather.ensures.looked c.in_err-plan.ensures.ends (err-is _ _ c.from_residual.ensures.1) }

pub run_plan-requires : goal.run_plan-requires
run_plan-requires g c = record { some = c.requires.some; most = c.requires.most; few = c.in_ok-plan.ensures.few }

pub returns : goal.returns
returns g c = record { went = planned _ _ c.plan_gather.ensures.looked c.in_ok-plan.ensures.plan c.run_plan.ensures.went }
