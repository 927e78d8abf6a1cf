-- The file is read, and its text written.
use Rattle.std.proofs.Common.{refl}
use Rattle.std.proofs.lemmas.Result.{err_from_is_err_and}
use Rattle.dbg_run.proofs.ShowLaws.{file_done, file_ends, first_ends}
use Rattle.dbg_run.proofs.show.file_steps.Goals as goal

pub returns-in_err-bytes-clause-ends : goal.returns-in_err-bytes-clause-ends
returns-in_err-bytes-clause-ends g c =
    let p = err_from_is_err_and c.from_residual.result c.from_residual.ensures.1 in
    rw (p.1, p.2) (first_ends _ _ _ _ _ _ _ refl c.read_input.ensures.kept c.in_err-bytes.ensures.ends)

pub returns-in_err-write_file-clause-ends : goal.returns-in_err-write_file-clause-ends
returns-in_err-write_file-clause-ends g c =
    let p = err_from_is_err_and c.from_residual-in_err-write_file.result c.from_residual-in_err-write_file.ensures.1 in
    rw (p.1, p.2) (file_ends _ _ _ _ _ _ _ _ _ c.as_slice.ensures.value c.in_ok-bytes.ensures.done c.read_input.ensures.kept c.in_err-write_file.ensures.ends)

pub returns-clause-done : goal.returns-clause-done
returns-clause-done g c = file_done _ _ _ _ _ _ _ _ c.as_slice.ensures.value c.in_ok-bytes.ensures.done c.read_input.ensures.kept c.in_ok-write_file.ensures.shown
