-- The file is put, and then all is stored.
use Rattle.std.proofs.Common.{[], ◌∷◌, ◌∙◌}
use Rattle.std.specs.Prelude.{flat_map}
use Rattle.dbg_ends.specs.Steps.{file_put, all_stored}
use Rattle.dbg_ends.proofs.LookLaws.{calls-then}
use Rattle.dbg_ends.proofs.output.write_in_pieces.Goals as goal

pub returns-clause-calls : goal.returns-clause-calls
returns-clause-calls g c = λ told.
    calls-then _ _ _ (file_put c.args.path.now (flat_map (λ piece. piece.now) c.args.pieces.now) c.args.mode ∷ []) (all_stored ∷ [])
    (c.in_ok-put_pieces.ensures.calls told) (c.in_ok-settle.ensures.done (c.in_ok-put_pieces.ensures.tells ∙ told))
