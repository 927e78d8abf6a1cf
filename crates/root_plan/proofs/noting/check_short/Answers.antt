-- A path that is too long, as the end of a plan.
use Rattle.std.proofs.lemmas.Result.{err_from_is_err_and}
use Rattle.root_plan.proofs.PathLaws.{long_ends}
use Rattle.root_plan.proofs.noting.check_short.Goals as goal

pub returns-in_err-check_length-clause-long : goal.returns-in_err-check_length-clause-long
returns-in_err-check_length-clause-long c =
    let p = err_from_is_err_and c.from_residual.result c.from_residual.ensures.1 in
    rw (p.1, p.2) (long_ends _ _ c.in_err-check_length.ensures.long)
