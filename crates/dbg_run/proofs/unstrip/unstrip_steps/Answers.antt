-- The steps of a joining, one after another.
use Rattle.std.proofs.Common.{◌∙◌}
use Rattle.std.proofs.lemmas.Result.{err_from_is_err_and}
use Rattle.dbg_run.specs.Unstrips.{UnstripEnds as unstrips}
use Rattle.dbg_run.proofs.UnstripLaws.{joining_ends, output_taken, unstrip_done}
use Rattle.dbg_run.proofs.unstrip.unstrip_steps.Goals as goal

pub returns-clause-done : goal.returns-clause-done
returns-clause-done g c =
    unstrip_done c.args.stripped.now c.args.debug.now c.args.output.now (g.T.Tree.seen c.args.tree.now) (g.T.Tree.seen c.read_input.new.tree)
    (g.T.Tree.seen c.read_input-2.new.tree) (g.T.Tree.seen c.free_output.new.tree) (g.T.Tree.seen c.write_joined.new.tree) c.in_ok-bytes.bytes.items
    c.in_ok-debug_bytes.debug_bytes.items _ _ c.in_ok-bytes.mode _ c.as_slice.ensures.value c.as_slice-2.ensures.value c.in_ok-bytes.ensures.done
    c.in_ok-bytes.ensures.kept c.in_ok-bytes.ensures.tells c.in_ok-debug_bytes.ensures.done c.in_ok-debug_bytes.ensures.kept c.in_ok-debug_bytes.ensures.tells
    c.in_ok-free_output.ensures.done c.in_ok-free_output.ensures.kept c.in_ok-free_output.ensures.tells c.in_ok-write_joined.ensures.can
    c.in_ok-write_joined.ensures.back c.in_ok-write_joined.ensures.done c.in_ok-bytes.ensures.looks c.in_ok-debug_bytes.ensures.looks
    c.in_ok-free_output.ensures.looks c.in_ok-write_joined.ensures.calls

pub returns-in_err-bytes-clause-ends : goal.returns-in_err-bytes-clause-ends
returns-in_err-bytes-clause-ends g c =
    let p = err_from_is_err_and c.from_residual.result c.from_residual.ensures.1 in
    rw (p.1, p.2) (unstrips.reading c.in_err-bytes.ensures.ends c.read_input.ensures.kept)

pub returns-in_err-debug_bytes-clause-ends : goal.returns-in_err-debug_bytes-clause-ends
returns-in_err-debug_bytes-clause-ends g c =
    let p = err_from_is_err_and c.from_residual-in_err-debug_bytes.result c.from_residual-in_err-debug_bytes.ensures.1 in
    rw (p.1, p.2) (unstrips.debug_reading c.in_ok-bytes.ensures.done c.read_input.ensures.kept c.in_err-debug_bytes.ensures.ends c.read_input-2.ensures.kept)

pub returns-in_err-free_output-clause-ends : goal.returns-in_err-free_output-clause-ends
returns-in_err-free_output-clause-ends g c =
    let p = err_from_is_err_and c.from_residual-in_err-free_output.result c.from_residual-in_err-free_output.ensures.1 in
    rw (p.1, p.2)
    (output_taken c.args.stripped.now c.args.debug.now c.args.output.now (g.T.Tree.seen c.args.tree.now) (g.T.Tree.seen c.read_input.new.tree)
    (g.T.Tree.seen c.read_input-2.new.tree) (g.T.Tree.seen c.free_output.new.tree) c.in_ok-bytes.bytes.items c.in_ok-debug_bytes.debug_bytes.items c.in_ok-bytes.mode _ _
    c.in_ok-bytes.ensures.done c.in_ok-bytes.ensures.kept c.in_ok-debug_bytes.ensures.done c.in_ok-debug_bytes.ensures.kept
    c.in_err-free_output.ensures.ends c.in_err-free_output.ensures.kept)

pub returns-in_err-write_joined-clause-ends : goal.returns-in_err-write_joined-clause-ends
returns-in_err-write_joined-clause-ends g c =
    let p = err_from_is_err_and c.from_residual-in_err-write_joined.result c.from_residual-in_err-write_joined.ensures.1 in
    rw (p.1, p.2)
    (joining_ends c.args.stripped.now c.args.debug.now c.args.output.now (g.T.Tree.seen c.args.tree.now) (g.T.Tree.seen c.read_input.new.tree)
    (g.T.Tree.seen c.read_input-2.new.tree) (g.T.Tree.seen c.free_output.new.tree) (g.T.Tree.seen c.write_joined.new.tree) c.in_ok-bytes.bytes.items
    c.in_ok-debug_bytes.debug_bytes.items _ _ c.in_ok-bytes.mode _ _ c.as_slice.ensures.value c.as_slice-2.ensures.value c.in_ok-bytes.ensures.done
    c.in_ok-bytes.ensures.kept c.in_ok-debug_bytes.ensures.done c.in_ok-debug_bytes.ensures.kept c.in_ok-free_output.ensures.done c.in_ok-free_output.ensures.kept
    c.in_err-write_joined.ensures.ends)

pub returns-in_err-debug_bytes-clause-tells : goal.returns-in_err-debug_bytes-clause-tells
returns-in_err-debug_bytes-clause-tells g c = c.read_input-2.ensures.tells ∙ c.read_input.ensures.tells

pub returns-in_err-free_output-clause-tells : goal.returns-in_err-free_output-clause-tells
returns-in_err-free_output-clause-tells g c = c.free_output.ensures.tells ∙ c.read_input-2.ensures.tells ∙ c.read_input.ensures.tells

pub returns-in_err-write_joined-clause-tells : goal.returns-in_err-write_joined-clause-tells
returns-in_err-write_joined-clause-tells g c = c.write_joined.ensures.tells ∙ c.free_output.ensures.tells ∙ c.read_input-2.ensures.tells ∙ c.read_input.ensures.tells

pub returns-clause-tells : goal.returns-clause-tells
returns-clause-tells g c = c.write_joined.ensures.tells ∙ c.free_output.ensures.tells ∙ c.read_input-2.ensures.tells ∙ c.read_input.ensures.tells
