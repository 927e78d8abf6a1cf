-- The steps of an edit with a list, one after another.
use Rattle.std.proofs.Common.{◌∙◌}
use Rattle.std.proofs.lemmas.Result.{err_from_is_err_and}
use Rattle.dbg_run.specs.Edits.{ListedEnds as listed}
use Rattle.dbg_run.proofs.EditLaws.{listed_done, listed_rewriting, listed_taking, listed_writing, rewrite_wants}
use Rattle.dbg_run.proofs.edit.listed_steps.Goals as goal

pub returns-clause-done : goal.returns-clause-done
returns-clause-done g c =
    listed_done c.args.input.now c.args.output.now c.args.list.now c.args.options.now c.args.limit (g.T.Tree.seen c.args.tree.now) (g.T.Tree.seen c.read_input.new.tree)
    (g.T.Tree.seen c.free_output.new.tree) (g.T.Tree.seen c.free_output-2.new.tree) (g.T.Tree.seen c.write_listed.new.tree) c.in_ok-file.file.items
    c.in_ok-rewritten.rewritten.file c.in_ok-names.names.items c.in_ok-file.mode
    c.in_ok-file.ensures.done c.in_ok-file.ensures.kept c.in_ok-file.ensures.tells c.in_ok-free_output.ensures.done c.in_ok-free_output.ensures.kept
    c.in_ok-free_output.ensures.tells c.in_ok-free_output-2.ensures.done c.in_ok-free_output-2.ensures.kept c.in_ok-free_output-2.ensures.tells
    c.in_ok-rewritten.ensures.accepted c.in_ok-rewritten.ensures.none c.in_ok-rewritten.ensures.output c.in_ok-rewritten.ensures.only c.in_ok-rewritten.ensures.keeps c.in_ok-names.ensures.text
    c.in_ok-write_listed.ensures.done c.in_ok-file.ensures.looks c.in_ok-free_output.ensures.looks c.in_ok-free_output-2.ensures.looks
    c.in_ok-write_listed.ensures.calls

-- where a step ends the edit, all before it was done
pub returns-in_err-file-clause-ends : goal.returns-in_err-file-clause-ends
returns-in_err-file-clause-ends g c =
    let p = err_from_is_err_and c.from_residual.result c.from_residual.ensures.1 in
    rw (p.1, p.2) (listed.reading c.in_err-file.ensures.ends c.read_input.ensures.kept)

pub returns-in_err-free_output-clause-ends : goal.returns-in_err-free_output-clause-ends
returns-in_err-free_output-clause-ends g c =
    let p = err_from_is_err_and c.from_residual-in_err-free_output.result c.from_residual-in_err-free_output.ensures.1 in
    rw (p.1, p.2) (listed.taking c.in_ok-file.ensures.done c.read_input.ensures.kept c.in_err-free_output.ensures.ends c.free_output.ensures.kept)

pub returns-in_err-free_output-2-clause-ends : goal.returns-in_err-free_output-2-clause-ends
returns-in_err-free_output-2-clause-ends g c =
    let p = err_from_is_err_and c.from_residual-in_err-free_output-2.result c.from_residual-in_err-free_output-2.ensures.1 in
    rw (p.1, p.2) (listed_taking _ _ _ _ _ _ _ _ _ _ _ _ c.in_ok-file.ensures.done c.read_input.ensures.kept c.in_ok-free_output.ensures.done c.free_output.ensures.kept
    c.in_err-free_output-2.ensures.ends c.free_output-2.ensures.kept)

pub returns-in_err-rewritten-clause-ends : goal.returns-in_err-rewritten-clause-ends
returns-in_err-rewritten-clause-ends g c =
    let p = err_from_is_err_and c.from_residual-in_err-rewritten.result c.from_residual-in_err-rewritten.ensures.1 in
    rw (p.1, p.2) (listed_rewriting _ _ _ _ _ _ _ _ _ _ _ _ c.in_ok-file.ensures.done c.read_input.ensures.kept c.in_ok-free_output.ensures.done c.free_output.ensures.kept
    c.in_ok-free_output-2.ensures.done c.free_output-2.ensures.kept c.in_err-rewritten.ensures.ends)

pub returns-in_err-names-clause-ends : goal.returns-in_err-names-clause-ends
returns-in_err-names-clause-ends g c =
    let p = err_from_is_err_and c.from_residual-in_err-names.result c.from_residual-in_err-names.ensures.1 in
    rw (p.1, p.2) (listed_rewriting _ _ _ _ _ _ _ _ _ _ _ _ c.in_ok-file.ensures.done c.read_input.ensures.kept c.in_ok-free_output.ensures.done c.free_output.ensures.kept
    c.in_ok-free_output-2.ensures.done c.free_output-2.ensures.kept (rewrite_wants _ _ _ _ c.in_err-names.ensures.memory))

pub returns-in_err-write_listed-clause-ends : goal.returns-in_err-write_listed-clause-ends
returns-in_err-write_listed-clause-ends g c =
    let p = err_from_is_err_and c.from_residual-in_err-write_listed.result c.from_residual-in_err-write_listed.ensures.1 in
    rw (p.1, p.2)
    (listed_writing c.args.input.now c.args.output.now c.args.list.now c.args.options.now c.args.limit (g.T.Tree.seen c.args.tree.now)
    (g.T.Tree.seen c.read_input.new.tree) (g.T.Tree.seen c.free_output.new.tree) (g.T.Tree.seen c.free_output-2.new.tree) (g.T.Tree.seen c.write_listed.new.tree)
    c.in_ok-file.file.items c.in_ok-file.mode _ c.in_ok-file.ensures.done c.in_ok-file.ensures.kept c.in_ok-free_output.ensures.done
    c.in_ok-free_output.ensures.kept c.in_ok-free_output-2.ensures.done c.in_ok-free_output-2.ensures.kept c.in_ok-rewritten.ensures.accepted
    c.in_err-write_listed.ensures.ends)

pub returns-in_err-free_output-clause-tells : goal.returns-in_err-free_output-clause-tells
returns-in_err-free_output-clause-tells g c = c.free_output.ensures.tells ∙ c.read_input.ensures.tells

pub returns-in_err-free_output-2-clause-tells : goal.returns-in_err-free_output-2-clause-tells
returns-in_err-free_output-2-clause-tells g c = c.free_output-2.ensures.tells ∙ c.free_output.ensures.tells ∙ c.read_input.ensures.tells

pub returns-in_err-rewritten-clause-tells : goal.returns-in_err-rewritten-clause-tells
returns-in_err-rewritten-clause-tells g c = c.free_output-2.ensures.tells ∙ c.free_output.ensures.tells ∙ c.read_input.ensures.tells

pub returns-in_err-names-clause-tells : goal.returns-in_err-names-clause-tells
returns-in_err-names-clause-tells g c = c.free_output-2.ensures.tells ∙ c.free_output.ensures.tells ∙ c.read_input.ensures.tells

pub returns-in_err-write_listed-clause-tells : goal.returns-in_err-write_listed-clause-tells
returns-in_err-write_listed-clause-tells g c = c.write_listed.ensures.tells ∙ c.free_output-2.ensures.tells ∙ c.free_output.ensures.tells ∙ c.read_input.ensures.tells

pub returns-clause-tells : goal.returns-clause-tells
returns-clause-tells g c = c.write_listed.ensures.tells ∙ c.free_output-2.ensures.tells ∙ c.free_output.ensures.tells ∙ c.read_input.ensures.tells
