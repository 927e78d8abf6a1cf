-- What was found stood there.
use Rattle.std.proofs.lemmas.Result.{IfErr-weaker, IfOk-weaker, err_from_is_err_and}
use Rattle.dbg_ends.proofs.StatusLaws.{file_stood, file_within, input_failed, input_found}
use Rattle.dbg_ends.proofs.input.read_file.Goals as goal

pub returns-in_err-found-clause-ends : goal.returns-in_err-found-clause-ends
returns-in_err-found-clause-ends g c =
    let p = err_from_is_err_and c.from_residual.result c.from_residual.ensures.1 in
    rw (p.1, p.2) (input_failed _ _ _ _ _ _ c.in_err-found.was c.look.ensures.cause)

pub returns-clause-done : goal.returns-clause-done
returns-clause-done g c = IfOk-weaker c.file_found.result _ _ (λ f is. file_stood _ _ _ _ _ _ c.in_ok-found.ensures.told is) c.file_found.ensures.file

pub returns-clause-small : goal.returns-clause-small
returns-clause-small g c = IfOk-weaker c.file_found.result _ _ (λ f is. file_within _ _ _ _ c.in_ok-found.ensures.within is) c.file_found.ensures.file

pub returns-clause-ends : goal.returns-clause-ends
returns-clause-ends g c =
    IfErr-weaker c.file_found.result _ _ (λ e row. input_found _ _ _ _ _ _ c.in_ok-found.ensures.told c.in_ok-found.ensures.within row) c.file_found.ensures.ends
