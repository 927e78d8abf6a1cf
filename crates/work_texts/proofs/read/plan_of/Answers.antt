use Rattle.std.proofs.Common.{Ok, Err}
use Rattle.std.proofs.lemmas.Result.{err_from_is_err_and}
use Rattle.work_texts.proofs.WholeLaws.{plan_found, plan_whole, plan_only}
use Rattle.work_texts.proofs.read.plan_of.Goals as goal

pub returns-in_err-text-clause-only : goal.returns-in_err-text-clause-only
returns-in_err-text-clause-only c =
    let p = err_from_is_err_and c.from_residual.result c.from_residual.ensures.1 in
    λ plan t. rw (p.1, p.2) (plan_only (Err c.in_err-text.field-0.0) (record { old = t.old; plan = plan }) (c.in_err-text.ensures.only (record { old = t.old; plan = plan }) (plan_whole c.args.bytes.now plan t)))

pub returns-clause-found : goal.returns-clause-found
returns-clause-found c = rw c.into_plan.ensures.value (plan_found c.args.bytes.now c.in_ok-text.text c.requires.within c.in_ok-text.ensures.found)

pub returns-clause-only : goal.returns-clause-only
returns-clause-only c = λ plan t.
    rw c.into_plan.ensures.value (plan_only (Ok c.in_ok-text.text) (record { old = t.old; plan = plan }) (c.in_ok-text.ensures.only (record { old = t.old; plan = plan }) (plan_whole c.args.bytes.now plan t)))
