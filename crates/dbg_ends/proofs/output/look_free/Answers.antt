-- What was found stood there.
use Rattle.std.proofs.lemmas.Result.{IfErr-weaker, err_from_is_err_and, on_ok_weaker}
use Rattle.dbg_ends.proofs.StatusLaws.{taken_failed, taken_found}
use Rattle.dbg_ends.proofs.StepLaws.{output_free}
use Rattle.dbg_ends.proofs.output.look_free.Goals as goal

pub returns-in_err-found-clause-ends : goal.returns-in_err-found-clause-ends
returns-in_err-found-clause-ends g c =
    let p = err_from_is_err_and c.from_residual.result c.from_residual.ensures.1 in
    rw (p.1, p.2) (taken_failed _ _ _ _ _ c.in_err-found.was c.look.ensures.cause)

pub returns-clause-done : goal.returns-clause-done
returns-clause-done g c = on_ok_weaker c.check_free.result (output_free _ _ _ c.in_ok-found.ensures.told) c.check_free.ensures.free

pub returns-clause-ends : goal.returns-clause-ends
returns-clause-ends g c = IfErr-weaker c.check_free.result _ _ (λ e row. taken_found _ _ _ _ _ c.in_ok-found.ensures.told row) c.check_free.ensures.ends
