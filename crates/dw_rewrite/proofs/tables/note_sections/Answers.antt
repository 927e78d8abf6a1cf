-- Nothing is known yet; what is known of a section, one more, and a table that is too long.
use Rattle.std.proofs.Common.{arith}
use Rattle.std.proofs.lemmas.Result.{err_from_is_err_and}
use Rattle.dw_rewrite.proofs.GrowthLaws.{offsets-at, pass-ends, pass-more, pass-refused, pass-starts}
use Rattle.dw_rewrite.proofs.tables.note_sections.Goals as goal

pub loop-found-init : goal.loop-found-init
loop-found-init c = pass-starts c.args.maps.now c.args.view.now c.args.texts c.args.sections.now c.args.pool.now _ c.requires.growing

pub note_section-requires-clause-paths : goal.note_section-requires-clause-paths
note_section-requires-clause-paths c =
    offsets-at c.args.view.now c.args.sections.now c.loop-found.found-index c.found-item.result c.requires.sections (omega arith) c.found-item.is

pub note_section-requires-clause-growing : goal.note_section-requires-clause-growing
note_section-requires-clause-growing c = c.loop-found.invariant.grown

pub returns-in_err-note_section-clause-refused : goal.returns-in_err-note_section-clause-refused
returns-in_err-note_section-clause-refused c =
    let p = err_from_is_err_and c.from_residual.result c.from_residual.ensures.1 in
    rw (p.1, p.2) (pass-refused c.args.maps.now c.args.view.now c.args.texts c.args.sections.now c.args.pool.now.texts _ c.loop-found.pool _ c.loop-found.found-index c.found-item.result
    c.in_err-note_section.field-0.0 (omega arith) c.found-item.is c.loop-found.invariant c.in_err-note_section.ensures.refused)

pub loop-found-preserved : goal.loop-found-preserved
loop-found-preserved c =
    pass-more c.args.maps.now c.args.view.now c.args.texts c.args.sections.now c.args.pool.now.texts _ c.loop-found.pool c.note_section.new.pool _ _ c.loop-found.found-index
    c.found-item.result (omega arith) c.found-item.is c.loop-found.invariant c.in_ok-note_section.ensures.grown

pub returns-clause-grown : goal.returns-clause-grown
returns-clause-grown c =
    pass-ends c.args.maps.now c.args.view.now c.args.texts c.args.sections.now c.args.pool.now c.loop-found.pool _ _ c.loop-found.found-index (omega arith) c.loop-found.invariant
