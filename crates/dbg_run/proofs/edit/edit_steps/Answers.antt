-- The steps of an edit, one after another.
use Rattle.std.proofs.Common.{◌∙◌}
use Rattle.std.proofs.lemmas.Result.{err_from_is_err_and}
use Rattle.dbg_run.specs.Edits.{EditEnds as edits}
use Rattle.dbg_run.proofs.EditLaws.{edit_done, edit_rewriting, edit_writing}
use Rattle.dbg_run.proofs.edit.edit_steps.Goals as goal

pub returns-clause-done : goal.returns-clause-done
returns-clause-done g c =
    edit_done c.args.input.now c.args.output.now c.args.options.now c.args.limit (g.T.Tree.seen c.args.tree.now) (g.T.Tree.seen c.read_input.new.tree)
    (g.T.Tree.seen c.free_output.new.tree) (g.T.Tree.seen c.write_file.new.tree) c.in_ok-bytes.bytes.items c.in_ok-out.out.file c.in_ok-bytes.mode
    c.in_ok-bytes.ensures.done c.in_ok-bytes.ensures.kept c.in_ok-bytes.ensures.tells c.in_ok-free_output.ensures.done c.in_ok-free_output.ensures.kept
    c.in_ok-free_output.ensures.tells c.in_ok-out.ensures.accepted c.in_ok-out.ensures.none c.in_ok-out.ensures.output c.in_ok-out.ensures.only c.in_ok-out.ensures.keeps
    c.in_ok-write_file.ensures.done c.in_ok-bytes.ensures.looks c.in_ok-free_output.ensures.looks c.in_ok-write_file.ensures.calls

-- where a step ends the edit, all before it was done
pub returns-in_err-bytes-clause-ends : goal.returns-in_err-bytes-clause-ends
returns-in_err-bytes-clause-ends g c =
    let p = err_from_is_err_and c.from_residual.result c.from_residual.ensures.1 in
    rw (p.1, p.2) (edits.reading c.in_err-bytes.ensures.ends c.read_input.ensures.kept)

pub returns-in_err-free_output-clause-ends : goal.returns-in_err-free_output-clause-ends
returns-in_err-free_output-clause-ends g c =
    let p = err_from_is_err_and c.from_residual-in_err-free_output.result c.from_residual-in_err-free_output.ensures.1 in
    rw (p.1, p.2) (edits.taking c.in_ok-bytes.ensures.done c.read_input.ensures.kept c.in_err-free_output.ensures.ends c.free_output.ensures.kept)

pub returns-in_err-out-clause-ends : goal.returns-in_err-out-clause-ends
returns-in_err-out-clause-ends g c =
    let p = err_from_is_err_and c.from_residual-in_err-out.result c.from_residual-in_err-out.ensures.1 in
    rw (p.1, p.2) (edit_rewriting _ _ _ _ _ _ _ _ _ _ c.in_ok-bytes.ensures.done c.read_input.ensures.kept c.in_ok-free_output.ensures.done
    c.free_output.ensures.kept c.in_err-out.ensures.ends)

pub returns-in_err-write_file-clause-ends : goal.returns-in_err-write_file-clause-ends
returns-in_err-write_file-clause-ends g c =
    let p = err_from_is_err_and c.from_residual-in_err-write_file.result c.from_residual-in_err-write_file.ensures.1 in
    rw (p.1, p.2)
    (edit_writing c.args.input.now c.args.output.now c.args.options.now c.args.limit (g.T.Tree.seen c.args.tree.now) (g.T.Tree.seen c.read_input.new.tree)
    (g.T.Tree.seen c.free_output.new.tree) (g.T.Tree.seen c.write_file.new.tree) c.in_ok-bytes.bytes.items c.in_ok-bytes.mode _ c.in_ok-bytes.ensures.done
    c.in_ok-bytes.ensures.kept c.in_ok-free_output.ensures.done c.in_ok-free_output.ensures.kept c.in_ok-out.ensures.accepted c.in_err-write_file.ensures.ends)

pub returns-in_err-free_output-clause-tells : goal.returns-in_err-free_output-clause-tells
returns-in_err-free_output-clause-tells g c = c.free_output.ensures.tells ∙ c.read_input.ensures.tells

pub returns-in_err-out-clause-tells : goal.returns-in_err-out-clause-tells
returns-in_err-out-clause-tells g c = c.free_output.ensures.tells ∙ c.read_input.ensures.tells

pub returns-in_err-write_file-clause-tells : goal.returns-in_err-write_file-clause-tells
returns-in_err-write_file-clause-tells g c = c.write_file.ensures.tells ∙ c.free_output.ensures.tells ∙ c.read_input.ensures.tells

pub returns-clause-tells : goal.returns-clause-tells
returns-clause-tells g c = c.write_file.ensures.tells ∙ c.free_output.ensures.tells ∙ c.read_input.ensures.tells
