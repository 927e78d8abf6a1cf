-- Nothing was added yet, and at the end all; a table that is too long.
use Rattle.std.proofs.lemmas.Result.{err_from_is_err_and}
use Rattle.dw_read.specs.AllFields.{all_of}
use Rattle.dw_rewrite.proofs.ListGrowthLaws.{growing-none, made-grown, made-refused}
use Rattle.dw_rewrite.proofs.tables.grown_table.Goals as goal

pub note_lists-requires-clause-growing : goal.note_lists-requires-clause-growing
note_lists-requires-clause-growing c = growing-none c.args.maps.now c.args.view.now c.args.texts c.new-pool.result _ c.new-pool.ensures.value c.new-known.ensures.none

pub returns-in_err-note_lists-clause-refused : goal.returns-in_err-note_lists-clause-refused
returns-in_err-note_lists-clause-refused c =
    let p = err_from_is_err_and c.from_residual.result c.from_residual.ensures.1 in
    rw (p.1, p.2) (made-refused c.args.maps.now c.args.view.now c.args.texts (all_of c.args.paths.now) c.new-pool.result c.in_err-note_lists.field-0.0 c.new-pool.ensures.value
    c.in_err-note_lists.ensures.refused)

pub returns-clause-made : goal.returns-clause-made
returns-clause-made c =
    made-grown c.args.maps.now c.args.view.now c.args.texts (all_of c.args.paths.now) c.new-pool.result _ _ _ c.new-pool.ensures.value c.in_ok-note_lists.ensures.grown
