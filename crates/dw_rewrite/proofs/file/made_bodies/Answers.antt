-- The new bodies are those of the line tables that were read.
use Rattle.std.proofs.lemmas.Result.{err_from_is_err_and}
use Rattle.dw_base.specs.FileViews.{view_of}
use Rattle.dw_rewrite.proofs.ExitLaws.{slice_paths, slice_starts}
use Rattle.dw_rewrite.proofs.MadeBodyLaws.{found-tables}
use Rattle.dw_rewrite.proofs.file.made_bodies.Goals as goal

pub returns-in_err-tables-clause-refused : goal.returns-in_err-tables-clause-refused
returns-in_err-tables-clause-refused c =
    let p = err_from_is_err_and c.from_residual.result c.from_residual.ensures.1 in
    rw (p.1, p.2) c.in_err-tables.ensures.refused

pub bodies_in-requires-clause-found : goal.bodies_in-requires-clause-found
bodies_in-requires-clause-found c =
    slice_paths c.args.maps.now c.args.elf.now.bytes.now _ _ c.as_slice-lines.result.now c.as_slice-lines.ensures.value c.in_ok-tables.ensures.found

pub bodies_in-requires-clause-starts : goal.bodies_in-requires-clause-starts
bodies_in-requires-clause-starts c =
    slice_starts _ c.as_slice-old.result.now _ c.as_slice-lines.result.now c.as_slice-old.ensures.value c.as_slice-lines.ensures.value c.in_ok-tables.ensures.starts

pub returns-in_err-bodies-clause-refused : goal.returns-in_err-bodies-clause-refused
returns-in_err-bodies-clause-refused c =
    let p = err_from_is_err_and c.from_residual-in_err-bodies.result c.from_residual-in_err-bodies.ensures.1 in
    rw (p.1, p.2) c.in_err-bodies.ensures.refused

pub returns-clause-tables : goal.returns-clause-tables
returns-clause-tables c = found-tables c.args.maps.now (view_of c.args.elf.now.bytes.now) _ _ c.in_ok-tables.ensures.found
