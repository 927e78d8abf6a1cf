-- The records of both files are read, the two are joined, and the file of both is written.
use Rattle.std.proofs.Common.{ap, refl, ◌∙◌, ◌∷◌, [], List, ℕ}
use Rattle.std.specs.Prelude.{option_map}
use Rattle.std.proofs.lemmas.Result.{err_from_is_err_and}
use Rattle.file_tree.specs.declared.node.Node.TheVariants as node
use Rattle.file_tree.specs.Moments.{adds_all}
use Rattle.file_tree.specs.Seen.{now_of}
use Rattle.file_tree.specs.Trees.{with_node}
use Rattle.dbg_ends.specs.Steps.{all_stored, file_put}
use Rattle.dbg_run.proofs.UnstripLaws.{back_there, debug_elf, file_there, joinable_there, no_join, no_writing, stripped_elf}
use Rattle.dbg_run.proofs.unstrip.write_joined.Goals as goal

pub returns-in_err-stripped-clause-ends : goal.returns-in_err-stripped-clause-ends
returns-in_err-stripped-clause-ends g c =
    let p = err_from_is_err_and c.from_residual.result c.from_residual.ensures.1 in
    rw (p.1, p.2) (stripped_elf _ _ _ _ _ _ _ _ refl c.in_err-stripped.ensures.refused)

pub returns-in_err-debug-clause-ends : goal.returns-in_err-debug-clause-ends
returns-in_err-debug-clause-ends g c =
    let p = err_from_is_err_and c.from_residual-in_err-debug.result c.from_residual-in_err-debug.ensures.1 in
    rw (p.1, p.2) (debug_elf _ _ _ _ _ _ _ _ refl c.in_ok-stripped.ensures.reads c.in_err-debug.ensures.refused)

pub join_files-requires-clause-stripped : goal.join_files-requires-clause-stripped
join_files-requires-clause-stripped g c = rw c.in_ok-stripped.ensures.bytes c.in_ok-stripped.ensures.reads

pub join_files-requires-clause-debug : goal.join_files-requires-clause-debug
join_files-requires-clause-debug g c = rw c.in_ok-debug.ensures.bytes c.in_ok-debug.ensures.reads

pub returns-in_err-file-clause-ends : goal.returns-in_err-file-clause-ends
returns-in_err-file-clause-ends g c =
    let p = err_from_is_err_and c.from_residual-in_err-file.result c.from_residual-in_err-file.ensures.1 in
    rw (p.1, p.2) (no_join _ _ _ _ _ _ _ _ _ _ c.in_ok-stripped.ensures.bytes c.in_ok-debug.ensures.bytes refl c.in_err-file.ensures.ends)

pub returns-in_err-write_file-clause-ends : goal.returns-in_err-write_file-clause-ends
returns-in_err-write_file-clause-ends g c =
    let p = err_from_is_err_and c.from_residual-in_err-write_file.result c.from_residual-in_err-write_file.ensures.1 in
    rw (p.1, p.2) (no_writing _ _ _ _ _ _ _ _ _ _ c.in_ok-stripped.ensures.bytes c.in_ok-debug.ensures.bytes c.in_ok-file.ensures.can c.in_err-write_file.ensures.ends)

pub returns-clause-can : goal.returns-clause-can
returns-clause-can g c = joinable_there _ _ _ _ _ c.in_ok-stripped.ensures.bytes c.in_ok-debug.ensures.bytes c.in_ok-file.ensures.can

pub returns-clause-back : goal.returns-clause-back
returns-clause-back g c = back_there _ _ _ _ _ c.in_ok-stripped.ensures.bytes c.in_ok-debug.ensures.bytes c.in_ok-file.ensures.back

pub returns-clause-done : goal.returns-clause-done
returns-clause-done g c =
    c.in_ok-write_file.ensures.done
    ∙ ap (λ (f : List ℕ). option_map (with_node c.args.output.now (node.File f c.args.mode)) (now_of (g.T.Tree.seen c.args.tree.now)))
    (file_there _ _ _ _ _ c.in_ok-stripped.ensures.bytes c.in_ok-debug.ensures.bytes c.in_ok-file.ensures.file)

pub returns-clause-calls : goal.returns-clause-calls
returns-clause-calls g c = λ told.
    c.in_ok-write_file.ensures.calls told
    ∙ ap (λ (f : List ℕ). adds_all (g.T.Tree.seen c.args.tree.now).past (file_put c.args.output.now f c.args.mode ∷ all_stored ∷ []))
    (file_there _ _ _ _ _ c.in_ok-stripped.ensures.bytes c.in_ok-debug.ensures.bytes c.in_ok-file.ensures.file)
