-- Both files are read, and their text written.
use Rattle.std.proofs.Common.{refl, ◌∙◌}
use Rattle.std.proofs.lemmas.Result.{err_from_is_err_and}
use Rattle.dbg_run.proofs.ShowLaws.{first_ends, pair_done, pair_ends, second_ends}
use Rattle.dbg_run.proofs.show.pair_steps.Goals as goal

pub returns-in_err-bytes-clause-ends : goal.returns-in_err-bytes-clause-ends
returns-in_err-bytes-clause-ends g c =
    let p = err_from_is_err_and c.from_residual.result c.from_residual.ensures.1 in
    rw (p.1, p.2) (first_ends _ _ _ _ _ _ _ refl c.read_input.ensures.kept c.in_err-bytes.ensures.ends)

pub returns-in_err-debug_bytes-clause-ends : goal.returns-in_err-debug_bytes-clause-ends
returns-in_err-debug_bytes-clause-ends g c =
    let p = err_from_is_err_and c.from_residual-in_err-debug_bytes.result c.from_residual-in_err-debug_bytes.ensures.1 in
    rw (p.1, p.2) (second_ends _ _ _ _ _ _ _ _ _ _ refl c.in_ok-bytes.ensures.done c.read_input.ensures.kept c.read_input-2.ensures.kept c.in_err-debug_bytes.ensures.ends)

pub returns-in_err-write_pair-clause-ends : goal.returns-in_err-write_pair-clause-ends
returns-in_err-write_pair-clause-ends g c =
    let p = err_from_is_err_and c.from_residual-in_err-write_pair.result c.from_residual-in_err-write_pair.ensures.1 in
    rw (p.1, p.2) (pair_ends _ _ _ _ _ _ _ _ _ _ _ _ _ _ c.as_slice.ensures.value c.as_slice-2.ensures.value c.in_ok-bytes.ensures.done c.read_input.ensures.kept c.in_ok-debug_bytes.ensures.done c.read_input-2.ensures.kept c.in_err-write_pair.ensures.ends)

pub returns-clause-done : goal.returns-clause-done
returns-clause-done g c = pair_done _ _ _ _ _ _ _ _ _ _ _ _ _ c.as_slice.ensures.value c.as_slice-2.ensures.value c.in_ok-bytes.ensures.done c.read_input.ensures.kept c.in_ok-debug_bytes.ensures.done c.read_input-2.ensures.kept c.in_ok-write_pair.ensures.shown

pub returns-in_err-debug_bytes-clause-tells : goal.returns-in_err-debug_bytes-clause-tells
returns-in_err-debug_bytes-clause-tells g c = c.read_input-2.ensures.tells ∙ c.read_input.ensures.tells

pub returns-in_err-write_pair-clause-tells : goal.returns-in_err-write_pair-clause-tells
returns-in_err-write_pair-clause-tells g c = c.read_input-2.ensures.tells ∙ c.read_input.ensures.tells

pub returns-clause-tells : goal.returns-clause-tells
returns-clause-tells g c = c.read_input-2.ensures.tells ∙ c.read_input.ensures.tells
