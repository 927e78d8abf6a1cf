-- The file is too long only where the two match.
use Rattle.std.proofs.lemmas.Result.{err_from_is_err_and}
use Rattle.dbg_unstrip.proofs.UnstripRows.{are-joinable, long-blames}
use Rattle.dbg_unstrip.proofs.unstripping.unstrip_bytes.Goals as goal

pub returns-clause-joinable : goal.returns-clause-joinable
returns-clause-joinable c =
    are-joinable c.args.stripped.now.bytes.now c.args.debug.now.bytes.now c.args.name.now c.in_ok-file.file c.in_ok-can_match.ensures.can c.in_ok-matched.ensures.none
    c.in_ok-file.ensures.file c.in_ok-file.ensures.small

pub returns-in_err-file-clause-refused : goal.returns-in_err-file-clause-refused
returns-in_err-file-clause-refused c =
    let p = err_from_is_err_and c.from_residual-in_err-file.result c.from_residual-in_err-file.ensures.1 in
    rw (p.1, p.2)
    (long-blames c.args.stripped.now.bytes.now c.args.debug.now.bytes.now c.args.name.now _ c.in_ok-can_match.ensures.can c.in_ok-matched.ensures.none
    c.in_err-file.ensures.refused)
