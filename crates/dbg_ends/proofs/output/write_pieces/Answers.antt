-- One output is put, and then the other.
use Rattle.std.proofs.Common.{[], ◌∷◌, ◌∙◌}
use Rattle.std.specs.Prelude.{flat_map}
use Rattle.std.proofs.lemmas.Result.{err_from_is_err_and}
use Rattle.dbg_ends.specs.Steps.{file_put, all_stored}
use Rattle.dbg_ends.proofs.LookLaws.{calls-then}
use Rattle.dbg_ends.proofs.StepLaws.{one_then_other, then_second}
use Rattle.dbg_ends.proofs.output.write_pieces.Goals as goal

pub returns-in_err-write_output-clause-ends : goal.returns-in_err-write_output-clause-ends
returns-in_err-write_output-clause-ends g c =
    let p = err_from_is_err_and c.from_residual-in_err-write_output.result c.from_residual-in_err-write_output.ensures.1 in
    rw (p.1, p.2) (then_second _ _ _ _ _ _ c.in_ok-put_pieces.ensures.others c.in_ok-put_pieces.ensures.later c.in_err-write_output.ensures.ends)

pub returns-in_err-write_output-clause-others : goal.returns-in_err-write_output-clause-others
returns-in_err-write_output-clause-others g c = one_then_other _ _ _ _ _ c.in_ok-put_pieces.ensures.others c.in_err-write_output.ensures.others

pub returns-clause-calls : goal.returns-clause-calls
returns-clause-calls g c = λ told.
    calls-then _ _ _ (file_put c.args.path.now (flat_map (λ piece. piece.now) c.args.pieces.now) c.args.mode ∷ [])
    (file_put c.args.beside.now c.args.more.items c.args.more_mode ∷ all_stored ∷ [])
    (c.in_ok-put_pieces.ensures.calls told) (c.in_ok-write_output.ensures.calls (c.in_ok-put_pieces.ensures.tells ∙ told))

pub returns-clause-others : goal.returns-clause-others
returns-clause-others g c = one_then_other _ _ _ _ _ c.in_ok-put_pieces.ensures.others c.in_ok-write_output.ensures.others
