-- The new bodies are those of the readings; line tables that can't be written, or are too long, are rows.
use Rattle.std.proofs.Common.{ℕ, List, ap, ◌∙◌}
use Rattle.std.proofs.lemmas.Result.{err_from_is_err_and}
use Rattle.dw_rewrite.proofs.BodyRowLaws.{lines-fault, relocations-fault, tables-fault}
use Rattle.dw_rewrite.proofs.FileMadeLaws.{known-here, made, pushed-behind}
use Rattle.dw_rewrite.proofs.MadeBodyLaws.{have-offsets, slices-fit}
use Rattle.dw_rewrite.proofs.bodies.new_bodies.Goals as goal

pub returns-in_err-pool-clause-refused : goal.returns-in_err-pool-clause-refused
returns-in_err-pool-clause-refused c =
    let p = err_from_is_err_and c.from_residual.result c.from_residual.ensures.1 in
    rw (p.1, p.2) (tables-fault c.args.maps.now c.args.view.now c.args.paths.now c.args.tables.now c.in_err-pool.field-0.0 c.requires.found c.in_err-pool.ensures.refused)

pub returns-in_err-bytes-clause-refused : goal.returns-in_err-bytes-clause-refused
returns-in_err-bytes-clause-refused c =
    let p = err_from_is_err_and c.from_residual-in_err-bytes.result c.from_residual-in_err-bytes.ensures.1 in
    rw (p.1, p.2) (lines-fault c.args.maps.now c.args.view.now c.args.paths.now c.args.tables.now _ _ _ _ c.in_err-bytes.field-0.0 c.requires.found c.in_ok-pool.ensures.str
    c.in_ok-pool.ensures.line_str c.in_err-bytes.ensures.refused)

pub new-starts-requires : goal.new-starts-requires
new-starts-requires c =
    record {
      fit = slices-fit c.args.maps.now c.args.view.now c.args.paths.now c.args.tables.now _ _ c.in_ok-bytes.field-0.bytes.items c.in_ok-bytes.field-0.starts.items
          c.args.old.now c.as_slice.result.now c.requires.found c.in_ok-bytes.ensures.written c.requires.starts c.as_slice.ensures.value c.in_ok-bytes.ensures.small;
    }

pub push_bodies-requires-clause-offsets : goal.push_bodies-requires-clause-offsets
push_bodies-requires-clause-offsets c = have-offsets c.args.maps.now c.args.view.now c.args.paths.now c.args.tables.now c.requires.found

pub push_relocations-requires-clause-offsets : goal.push_relocations-requires-clause-offsets
push_relocations-requires-clause-offsets c = have-offsets c.args.maps.now c.args.view.now c.args.paths.now c.args.tables.now c.requires.found

pub push_relocations-requires-clause-left : goal.push_relocations-requires-clause-left
push_relocations-requires-clause-left c = c.requires.found.relocations.left

pub push_relocations-requires-clause-starts : goal.push_relocations-requires-clause-starts
push_relocations-requires-clause-starts c =
    known-here c.args.maps.now _ _ _ c.args.tables.now c.in_ok-bytes.field-0.bytes.items c.in_ok-bytes.field-0.starts.items c.as_slice-2.result.now c.in_ok-bytes.ensures.written
    c.in_ok-bytes.ensures.small c.as_slice-2.ensures.value

pub returns-in_err-push_relocations-clause-refused : goal.returns-in_err-push_relocations-clause-refused
returns-in_err-push_relocations-clause-refused c =
    let p = err_from_is_err_and c.from_residual-in_err-push_relocations.result c.from_residual-in_err-push_relocations.ensures.1 in
    rw (p.1, p.2) (relocations-fault c.args.maps.now c.args.sources.now c.args.view.now c.args.paths.now c.args.tables.now _ _ _ _
    c.in_ok-bytes.field-0.bytes.items c.in_ok-bytes.field-0.starts.items c.args.old.now c.new-starts.result c.in_err-push_relocations.field-0.0 c.requires.view c.requires.found
    c.in_ok-pool.ensures.str c.in_ok-pool.ensures.line_str c.in_ok-bytes.ensures.written c.requires.starts
    (c.new-starts.ensures ∙ ap (λ (xs : List ℕ). record { old = c.args.old.now; new = xs }) c.as_slice.ensures.value)
    c.in_err-push_relocations.ensures.refused)

pub returns-clause-made : goal.returns-clause-made
returns-clause-made c =
    made c.args.maps.now c.args.sources.now c.args.view.now c.args.paths.now c.args.tables.now _ _ _ _ c.in_ok-bytes.field-0.bytes.items
    c.in_ok-bytes.field-0.starts.items c.args.old.now c.new-starts.result _ _ c.requires.view c.requires.relocations c.requires.found c.in_ok-pool.ensures.str
    c.in_ok-pool.ensures.line_str c.in_ok-bytes.ensures.written c.requires.starts
    (c.new-starts.ensures ∙ ap (λ (xs : List ℕ). record { old = c.args.old.now; new = xs }) c.as_slice.ensures.value) c.lines_body-lines.ensures
    c.in_ok-push_relocations.ensures.makes c.in_ok-push_relocations.ensures.line_makes
    (pushed-behind _ _ _ _ _ _ _ c.in_ok-bodies.ensures.bodies c.in_ok-push_bodies.ensures.bodies c.in_ok-push_relocations.ensures.bodies)
