-- The steps of a split, one after another.
use Rattle.std.proofs.Common.{◌∙◌}
use Rattle.std.proofs.lemmas.Result.{err_from_is_err_and}
use Rattle.dbg_run.specs.Splits.{SplitEnds as splits}
use Rattle.dbg_run.proofs.SplitLaws.{split_debug_taking, split_done, split_parting, split_writing}
use Rattle.dbg_run.proofs.split.split_steps.Goals as goal

pub returns-clause-done : goal.returns-clause-done
returns-clause-done g c =
    split_done c.args.input.now c.args.stripped.now c.args.debug.now (g.T.Tree.seen c.args.tree.now) (g.T.Tree.seen c.read_input.new.tree)
    (g.T.Tree.seen c.free_output.new.tree) (g.T.Tree.seen c.free_output-2.new.tree) (g.T.Tree.seen c.write_pair.new.tree) c.in_ok-bytes.bytes.items
    c.in_ok-pair.pair.stripped.items c.in_ok-pair.pair.debug c.in_ok-bytes.mode c.not_executable.result
    c.in_ok-bytes.ensures.done c.in_ok-bytes.ensures.kept c.in_ok-bytes.ensures.tells c.in_ok-free_output.ensures.done c.in_ok-free_output.ensures.kept
    c.in_ok-free_output.ensures.tells c.in_ok-free_output-2.ensures.done c.in_ok-free_output-2.ensures.kept c.in_ok-free_output-2.ensures.tells
    c.in_ok-pair.ensures.splittable c.in_ok-pair.ensures.stripped c.in_ok-pair.ensures.debug c.not_executable.ensures.value c.in_ok-pair.ensures.parts
    c.in_ok-write_pair.ensures.done c.in_ok-bytes.ensures.looks c.in_ok-free_output.ensures.looks c.in_ok-free_output-2.ensures.looks
    c.in_ok-write_pair.ensures.calls

-- where a step ends the split, all before it was done
pub returns-in_err-bytes-clause-ends : goal.returns-in_err-bytes-clause-ends
returns-in_err-bytes-clause-ends g c =
    let p = err_from_is_err_and c.from_residual.result c.from_residual.ensures.1 in
    rw (p.1, p.2) (splits.reading c.in_err-bytes.ensures.ends c.read_input.ensures.kept)

pub returns-in_err-free_output-clause-ends : goal.returns-in_err-free_output-clause-ends
returns-in_err-free_output-clause-ends g c =
    let p = err_from_is_err_and c.from_residual-in_err-free_output.result c.from_residual-in_err-free_output.ensures.1 in
    rw (p.1, p.2) (splits.taking c.in_ok-bytes.ensures.done c.read_input.ensures.kept c.in_err-free_output.ensures.ends c.free_output.ensures.kept)

pub returns-in_err-free_output-2-clause-ends : goal.returns-in_err-free_output-2-clause-ends
returns-in_err-free_output-2-clause-ends g c =
    let p = err_from_is_err_and c.from_residual-in_err-free_output-2.result c.from_residual-in_err-free_output-2.ensures.1 in
    rw (p.1, p.2) (split_debug_taking _ _ _ _ _ _ _ _ _ _ c.in_ok-bytes.ensures.done c.read_input.ensures.kept c.in_ok-free_output.ensures.done c.free_output.ensures.kept
    c.in_err-free_output-2.ensures.ends c.free_output-2.ensures.kept)

pub returns-in_err-pair-clause-ends : goal.returns-in_err-pair-clause-ends
returns-in_err-pair-clause-ends g c =
    let p = err_from_is_err_and c.from_residual-in_err-pair.result c.from_residual-in_err-pair.ensures.1 in
    rw (p.1, p.2)
    (split_parting c.args.input.now c.args.stripped.now c.args.debug.now (g.T.Tree.seen c.args.tree.now) (g.T.Tree.seen c.read_input.new.tree)
    (g.T.Tree.seen c.free_output.new.tree) (g.T.Tree.seen c.free_output-2.new.tree) c.in_ok-bytes.bytes.items c.in_ok-bytes.mode _ c.in_ok-bytes.ensures.done
    c.in_ok-bytes.ensures.kept c.in_ok-free_output.ensures.done c.in_ok-free_output.ensures.kept c.in_ok-free_output-2.ensures.done
    c.in_ok-free_output-2.ensures.kept c.in_err-pair.ensures.ends)

pub returns-in_err-write_pair-clause-ends : goal.returns-in_err-write_pair-clause-ends
returns-in_err-write_pair-clause-ends g c =
    let p = err_from_is_err_and c.from_residual-in_err-write_pair.result c.from_residual-in_err-write_pair.ensures.1 in
    rw (p.1, p.2) (split_writing _ _ _ _ _ _ _ _ _ _ _ c.in_ok-bytes.ensures.done c.read_input.ensures.kept c.in_ok-free_output.ensures.done c.free_output.ensures.kept
    c.in_ok-free_output-2.ensures.done c.free_output-2.ensures.kept c.in_ok-pair.ensures.splittable c.in_err-write_pair.ensures.ends)

pub returns-in_err-free_output-clause-tells : goal.returns-in_err-free_output-clause-tells
returns-in_err-free_output-clause-tells g c = c.free_output.ensures.tells ∙ c.read_input.ensures.tells

pub returns-in_err-free_output-2-clause-tells : goal.returns-in_err-free_output-2-clause-tells
returns-in_err-free_output-2-clause-tells g c = c.free_output-2.ensures.tells ∙ c.free_output.ensures.tells ∙ c.read_input.ensures.tells

pub returns-in_err-pair-clause-tells : goal.returns-in_err-pair-clause-tells
returns-in_err-pair-clause-tells g c = c.free_output-2.ensures.tells ∙ c.free_output.ensures.tells ∙ c.read_input.ensures.tells

pub returns-in_err-write_pair-clause-tells : goal.returns-in_err-write_pair-clause-tells
returns-in_err-write_pair-clause-tells g c = c.write_pair.ensures.tells ∙ c.free_output-2.ensures.tells ∙ c.free_output.ensures.tells ∙ c.read_input.ensures.tells

pub returns-clause-tells : goal.returns-clause-tells
returns-clause-tells g c = c.write_pair.ensures.tells ∙ c.free_output-2.ensures.tells ∙ c.free_output.ensures.tells ∙ c.read_input.ensures.tells
