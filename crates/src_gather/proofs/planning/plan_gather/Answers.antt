-- What was gathered is planned once its checks pass, and why it isn't.
use Rattle.std.proofs.Common.{ap, ◌∙◌}
use Rattle.std.proofs.lemmas.Result.{err_from_is_err_and}
use Rattle.src_gather.specs.Gathering.{Gathering}
use Rattle.src_gather.specs.GatherEnds.{OrStopped as or_stopped}
use Rattle.src_gather.proofs.FitLaws.{few-planned}
use Rattle.src_gather.proofs.TextLaws.{can_of, ends_of, naming_ends, plan_made, taken_ends, text_ends}
use Rattle.src_gather.proofs.planning.plan_gather.Goals as goal

pub returns-in_err-gathered-clause-ends : goal.returns-in_err-gathered-clause-ends
returns-in_err-gathered-clause-ends g c =
    let p = err_from_is_err_and c.from_residual.result c.from_residual.ensures.1 in
    rw (p.1, p.2) (naming_ends _ _ _ _ _ _ _ c.in_err-gathered.ensures.ends)

pub returns-in_err-check_new-clause-ends : goal.returns-in_err-check_new-clause-ends
returns-in_err-check_new-clause-ends g c =
    let p = err_from_is_err_and c.from_residual-in_err-check_new.result c.from_residual-in_err-check_new.ensures.1 in
    rw (p.1, p.2) (taken_ends _ _ _ _ _ _ _ _ c.in_ok-gathered.ensures.gathers
    (ends_of _ c.args.root.now c.args.dest.now _ _ _ (c.deref.ensures.value ∙ ap (λ (x : Gathering). x.jobs) c.gathered.view_is) c.in_err-check_new.ensures.ends))

pub returns-in_err-plan-clause-ends : goal.returns-in_err-plan-clause-ends
returns-in_err-plan-clause-ends g c =
    let p = err_from_is_err_and c.from_residual-in_err-plan.result c.from_residual-in_err-plan.ensures.1 in
    rw (p.1, p.2) or_stopped.no_memory

pub returns-in_err-check_text-clause-ends : goal.returns-in_err-check_text-clause-ends
returns-in_err-check_text-clause-ends g c =
    let p = err_from_is_err_and c.from_residual-in_err-check_text.result c.from_residual-in_err-check_text.ensures.1 in
    rw (p.1, p.2) (text_ends _ _ _ _ _ _ _ _ _ c.in_ok-gathered.ensures.gathers (can_of _ c.args.root.now c.args.dest.now _ _ (c.deref.ensures.value ∙ ap (λ (x : Gathering). x.jobs) c.gathered.view_is) c.in_ok-check_new.ensures.can) c.in_ok-plan.ensures.value c.in_err-check_text.ensures.long)

pub returns-clause-plan : goal.returns-clause-plan
returns-clause-plan g c = plan_made _ _ _ _ _ _ _ c.in_ok-gathered.ensures.gathers (can_of _ c.args.root.now c.args.dest.now _ _ (c.deref.ensures.value ∙ ap (λ (x : Gathering). x.jobs) c.gathered.view_is) c.in_ok-check_new.ensures.can) c.in_ok-plan.ensures.value c.in_ok-check_text.ensures.within

pub returns-clause-few : goal.returns-clause-few
returns-clause-few g c = few-planned c.in_ok-plan.plan c.in_ok-check_text.ensures.within
