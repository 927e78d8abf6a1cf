-- The copies of the jobs, by their folder.
use Rattle.std.proofs.Common.{refl}
use Rattle.std.proofs.lemmas.Result.{err_from_is_err_and}
use Rattle.src_gather.specs.GatherEnds.{CopyEnds as copy}
use Rattle.src_gather.proofs.TextLaws.{can_made, copy_ends}
use Rattle.std.proofs.Common.{◌∙◌}
use Rattle.src_gather.proofs.planning.check_new.Goals as goal

pub returns-in_err-folder-clause-ends : goal.returns-in_err-folder-clause-ends
returns-in_err-folder-clause-ends c =
    let p = err_from_is_err_and c.from_residual.result c.from_residual.ensures.1 in
    rw (p.1, p.2) copy.no_memory

pub returns-in_err-copies-clause-ends : goal.returns-in_err-copies-clause-ends
returns-in_err-copies-clause-ends c =
    let p = err_from_is_err_and c.from_residual-in_err-copies.result c.from_residual-in_err-copies.ensures.1 in
    rw (p.1, p.2) copy.no_memory

pub returns-in_err-check_copies-clause-ends : goal.returns-in_err-check_copies-clause-ends
returns-in_err-check_copies-clause-ends c =
    let p = err_from_is_err_and c.from_residual-in_err-check_copies.result c.from_residual-in_err-check_copies.ensures.1 in
    rw (p.1, p.2) (copy_ends _ c.args.root.now c.args.dest.now _ c.args.jobs.now _ _ _ (c.as_str.ensures.value ∙ c.in_ok-folder.ensures.value) refl c.in_ok-copies.ensures.value c.in_err-check_copies.ensures.ends)

pub returns-clause-can : goal.returns-clause-can
returns-clause-can c = can_made _ c.args.root.now c.args.dest.now _ c.args.jobs.now _ _ (c.as_str.ensures.value ∙ c.in_ok-folder.ensures.value) refl c.in_ok-copies.ensures.value c.in_ok-check_copies.ensures.can
