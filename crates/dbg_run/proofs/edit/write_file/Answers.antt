-- Want of memory for the pieces leaves the tree as it was.
use Rattle.std.proofs.lemmas.Result.{err_from_is_err_and}
use Rattle.dbg_ends.specs.Steps.{OutputEnds as written}
use Rattle.dbg_run.proofs.EditLaws.{same_one}
use Rattle.dbg_run.proofs.edit.write_file.Goals as goal

pub returns-in_err-slices-clause-ends : goal.returns-in_err-slices-clause-ends
returns-in_err-slices-clause-ends g c =
    let p = err_from_is_err_and c.from_residual.result c.from_residual.ensures.1 in
    rw (p.1, p.2) (written.memory (same_one _ _))

pub returns-in_err-write_in_pieces-clause-ends : goal.returns-in_err-write_in_pieces-clause-ends
returns-in_err-write_in_pieces-clause-ends g c =
    let p = err_from_is_err_and c.from_residual-in_err-write_in_pieces.result c.from_residual-in_err-write_in_pieces.ensures.1 in
    rw (p.1, p.2) c.in_err-write_in_pieces.ensures.ends
