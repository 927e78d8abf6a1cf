-- What all paths come to is planned, and why it isn't.
use Rattle.std.proofs.lemmas.Result.{err_from_is_err_and}
use Rattle.root_plan.specs.Plans.{PlanEnds as ends}
use Rattle.root_paths.proofs.LookLaws.{looked_none}
use Rattle.root_plan.proofs.MadeLaws.{tallied_made, many_ends, path_ends}
use Rattle.root_plan.proofs.planning.tallied_plan.Goals as goal

pub returns-in_err-fronts-clause-ends : goal.returns-in_err-fronts-clause-ends
returns-in_err-fronts-clause-ends g c =
    let p = err_from_is_err_and c.from_residual.result c.from_residual.ensures.1 in
    rw (p.1, p.2) ends.no_memory

pub returns-in_err-fronts-clause-looked : goal.returns-in_err-fronts-clause-looked
returns-in_err-fronts-clause-looked g c = looked_none _

pub returns-in_err-check_count-clause-ends : goal.returns-in_err-check_count-clause-ends
returns-in_err-check_count-clause-ends g c =
    let p = err_from_is_err_and c.from_residual-in_err-check_count.result c.from_residual-in_err-check_count.ensures.1 in
    rw (p.1, p.2) (many_ends _ _ _ _ _ _ _ _ _ c.in_ok-fronts.ensures.value c.in_err-check_count.ensures.many)

pub returns-in_err-check_count-clause-looked : goal.returns-in_err-check_count-clause-looked
returns-in_err-check_count-clause-looked g c = looked_none _

pub returns-in_err-survey-clause-ends : goal.returns-in_err-survey-clause-ends
returns-in_err-survey-clause-ends g c =
    let p = err_from_is_err_and c.from_residual-in_err-survey.result c.from_residual-in_err-survey.ensures.1 in
    rw (p.1, p.2) (path_ends _ _ _ _ _ _ _ _ _ c.in_ok-fronts.ensures.value c.in_err-survey.ensures.ends)

pub returns-in_err-plan-clause-ends : goal.returns-in_err-plan-clause-ends
returns-in_err-plan-clause-ends g c =
    let p = err_from_is_err_and c.from_residual-in_err-plan.result c.from_residual-in_err-plan.ensures.1 in
    rw (p.1, p.2) ends.no_memory

pub returns-clause-plan : goal.returns-clause-plan
returns-clause-plan g c = tallied_made _ _ _ _ _ _ _ _ _ c.in_ok-fronts.ensures.value c.in_ok-check_count.ensures.few c.in_ok-survey.ensures.tallies c.in_ok-plan.ensures.value
