-- Want of memory for the pieces leaves the tree as it was.
use Rattle.std.proofs.lemmas.Result.{err_from_is_err_and}
use Rattle.dbg_ends.specs.Steps.{OutputsEnd as both_written}
use Rattle.dbg_run.proofs.SplitLaws.{both_same}
use Rattle.dbg_run.proofs.split.write_pair.Goals as goal

pub returns-in_err-slices-clause-ends : goal.returns-in_err-slices-clause-ends
returns-in_err-slices-clause-ends g c =
    let p = err_from_is_err_and c.from_residual.result c.from_residual.ensures.1 in
    rw (p.1, p.2) (both_written.memory (both_same _ _ _))

pub returns-in_err-write_pieces-clause-ends : goal.returns-in_err-write_pieces-clause-ends
returns-in_err-write_pieces-clause-ends g c =
    let p = err_from_is_err_and c.from_residual-in_err-write_pieces.result c.from_residual-in_err-write_pieces.ensures.1 in
    rw (p.1, p.2) c.in_err-write_pieces.ensures.ends
