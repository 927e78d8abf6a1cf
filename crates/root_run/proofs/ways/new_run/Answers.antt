-- A root that has no plan, and one whose plan is carried out.
use Rattle.std.proofs.Common.{arith}
use Rattle.root_run.specs.Starts.OpenedWent.{unplanned, planned}
use Rattle.root_run.proofs.FirstLaws.{err-is}
use Rattle.root_run.proofs.ways.new_run.Goals as goal

pub returns-in_err-plan : goal.returns-in_err-plan
returns-in_err-plan g c = record { went = unplanned _ c.make_plan.ensures.looked c.in_err-plan.ensures.ends (err-is _ _ c.from_residual.ensures.1) }

pub run_plan-requires : goal.run_plan-requires
run_plan-requires g c =
    let few = c.in_ok-plan.ensures.serves.few in
    record { some = c.requires.some; most = c.requires.most; few = omega (arith, few) }

pub returns : goal.returns
returns g c = record { went = planned _ _ c.make_plan.ensures.looked c.in_ok-plan.ensures.plan c.in_ok-plan.ensures.serves c.run_plan.ensures.went }
