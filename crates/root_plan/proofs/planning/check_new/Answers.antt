-- A new path that can't be made, as the end of a plan.
use Rattle.std.proofs.lemmas.Result.{err_from_is_err_and}
use Rattle.root_plan.proofs.MadeLaws.{ends_made}
use Rattle.root_plan.proofs.PathLaws.{new_ends}
use Rattle.root_plan.proofs.planning.check_new.Goals as goal

pub returns-in_err-check_made-clause-ends : goal.returns-in_err-check_made-clause-ends
returns-in_err-check_made-clause-ends c =
    let p = err_from_is_err_and c.from_residual-in_err-check_made.result c.from_residual-in_err-check_made.ensures.1 in
    rw (p.1, p.2) (ends_made _ _ _ _ _ _ (c.as_slice.ensures.value) c.in_ok-news.ensures.value (new_ends _ _ _ c.in_err-check_made.ensures.ends))
