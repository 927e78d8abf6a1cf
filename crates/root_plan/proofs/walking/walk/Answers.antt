-- What is said of the root's paths, as the end of a plan.
use Rattle.std.proofs.lemmas.Result.{err_from_is_err_and}
use Rattle.root_plan.proofs.PathLaws.{walk_ends, only_stopped}
use Rattle.root_plan.proofs.walking.walk.Goals as goal

pub returns-in_err-paths-clause-ends : goal.returns-in_err-paths-clause-ends
returns-in_err-paths-clause-ends g c =
    let p = err_from_is_err_and c.from_residual.result c.from_residual.ensures.1 in
    rw (p.1, p.2) (walk_ends _ _ _ _ c.in_err-paths.ensures.ends)

pub returns-in_err-paths-clause-whole : goal.returns-in_err-paths-clause-whole
returns-in_err-paths-clause-whole g c =
    let p = err_from_is_err_and c.from_residual.result c.from_residual.ensures.1 in
    rw (p.1, p.2) (only_stopped _ _ _ c.in_err-paths.ensures.whole)
