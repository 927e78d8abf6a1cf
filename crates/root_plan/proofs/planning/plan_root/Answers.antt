-- A plan of all paths is the plan of the root once its checks pass, and why it isn't.
use Rattle.std.proofs.Common.{ap}
use Rattle.std.proofs.lemmas.Result.{err_from_is_err_and}
use Rattle.root_paths.proofs.EachLookLaws.{each_at}
use Rattle.root_paths.proofs.LookLaws.{looked_then}
use Rattle.root_plan.specs.Targets.{new_paths}
use Rattle.root_plan.proofs.MadeLaws.{plan_made, new_ends, text_ends, look_ends}
use Rattle.root_plan.proofs.planning.plan_root.Goals as goal

pub returns-in_err-plan-clause-ends : goal.returns-in_err-plan-clause-ends
returns-in_err-plan-clause-ends g c =
    let p = err_from_is_err_and c.from_residual.result c.from_residual.ensures.1 in
    rw (p.1, p.2) c.in_err-plan.ensures.ends

pub returns-in_err-check_new-clause-ends : goal.returns-in_err-check_new-clause-ends
returns-in_err-check_new-clause-ends g c =
    let p = err_from_is_err_and c.from_residual-in_err-check_new.result c.from_residual-in_err-check_new.ensures.1 in
    rw (p.1, p.2) (new_ends _ _ _ _ _ _ _ _ _ c.in_ok-plan.ensures.plan c.in_err-check_new.ensures.ends)

pub returns-in_err-check_text-clause-ends : goal.returns-in_err-check_text-clause-ends
returns-in_err-check_text-clause-ends g c =
    let p = err_from_is_err_and c.from_residual-in_err-check_text.result c.from_residual-in_err-check_text.ensures.1 in
    rw (p.1, p.2) (text_ends _ _ _ _ _ _ _ _ _ c.in_ok-plan.ensures.plan c.in_ok-check_new.ensures.can c.in_err-check_text.ensures.long)

pub returns-in_err-look_at_new-clause-ends : goal.returns-in_err-look_at_new-clause-ends
returns-in_err-look_at_new-clause-ends g c =
    let p = err_from_is_err_and c.from_residual-in_err-look_at_new.result c.from_residual-in_err-look_at_new.ensures.1 in
    rw (p.1, p.2) (look_ends _ _ _ _ _ _ _ _ _ _ c.tallied_plan.ensures.looked c.in_ok-plan.ensures.plan c.in_ok-check_new.ensures.can c.in_ok-check_text.ensures.within
    c.in_err-look_at_new.ensures.ends)

pub returns-in_err-look_at_new-clause-looked : goal.returns-in_err-look_at_new-clause-looked
returns-in_err-look_at_new-clause-looked g c = looked_then _ _ _ c.tallied_plan.ensures.looked c.look_at_new.ensures.looked

pub returns-clause-plan : goal.returns-clause-plan
returns-clause-plan g c = plan_made _ _ _ _ _ _ _ c.in_ok-plan.ensures.plan c.in_ok-check_new.ensures.can c.in_ok-check_text.ensures.within

pub returns-clause-looked : goal.returns-clause-looked
returns-clause-looked g c = looked_then _ _ _ c.tallied_plan.ensures.looked c.look_at_new.ensures.looked

pub returns-clause-last : goal.returns-clause-last
returns-clause-last g c = record {
  mid = _;
  before = c.tallied_plan.ensures.looked;
  each = each_at _ _ _ _ (ap (new_paths c.args.root.now) c.as_slice.ensures.value) c.in_ok-look_at_new.ensures.each;
}
