-- What is known of a section; its paths fit, so only memory can be wanting.
use Rattle.std.proofs.Common.{arith}
use Rattle.std.proofs.lemmas.Result.{err_from_is_err_and}
use Rattle.dw_rewrite.proofs.SectionBytesLaws.{memory-only, fit-at}
use Rattle.dw_rewrite.proofs.GrowthLaws.{has-at, offsets-at}
use Rattle.dw_rewrite.proofs.new_sections.new_sections.Goals as goal

pub new_section-requires-clause-offsets : goal.new_section-requires-clause-offsets
new_section-requires-clause-offsets c =
    offsets-at c.args.view.now c.args.paths.now c.loop-found.found-index c.found-item.result c.requires.offsets (omega arith) c.found-item.is

pub new_section-requires-clause-places : goal.new_section-requires-clause-places
new_section-requires-clause-places c =
    has-at c.args.view.now c.args.paths.now c.loop-found.found-index c.found-item.result c.requires.places (omega arith) c.found-item.is

pub returns-in_err-body-clause-only : goal.returns-in_err-body-clause-only
returns-in_err-body-clause-only c =
    let p = err_from_is_err_and c.from_residual.result c.from_residual.ensures.1 in
    rw (p.1, p.2) (memory-only c.args.maps.now c.args.view.now c.found-item.result c.in_err-body.field-0.0
    (fit-at c.args.maps.now c.args.view.now c.args.paths.now c.loop-found.found-index c.found-item.result c.requires.rooms (omega arith) c.found-item.is)
    c.in_err-body.ensures.refused)
