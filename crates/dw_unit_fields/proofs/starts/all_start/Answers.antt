-- What is known of a section, and why a value of one says no start.
use Rattle.std.proofs.Common.{arith}
use Rattle.std.proofs.lemmas.Result.{err_from_is_err_and}
use Rattle.dw_base.specs.ViewData.{debug_data}
use Rattle.dw_unit_fields.proofs.StartLaws.{all-end, all-more, section-row, taken-paths}
use Rattle.dw_starts.proofs.StartSearchLaws.{starts-rise}
use Rattle.dw_unit_fields.proofs.starts.all_start.Goals as goal

pub section_starts-requires-clause-paths : goal.section_starts-requires-clause-paths
section_starts-requires-clause-paths c =
    taken-paths c.args.view.now c.args.paths.now c.loop-found.found-index c.found-item.result c.requires.taken (omega arith) c.found-item.is

pub section_starts-requires-clause-rises : goal.section_starts-requires-clause-rises
section_starts-requires-clause-rises c = starts-rise (debug_data c.args.view.now) c.args.starts.now c.requires.tables

pub returns-in_err-section_starts-clause-refused : goal.returns-in_err-section_starts-clause-refused
returns-in_err-section_starts-clause-refused c =
    let p = err_from_is_err_and c.from_residual.result c.from_residual.ensures.1 in
    rw (p.1, p.2) (section-row c.args.view.now c.args.starts.now c.args.places.now c.args.paths.now c.loop-found.found-index c.found-item.result c.in_err-section_starts.field-0.0
    c.requires.taken c.requires.tables c.requires.units (omega arith) c.found-item.is c.in_err-section_starts.ensures.refused)

pub loop-found-preserved : goal.loop-found-preserved
loop-found-preserved c =
    all-more c.args.view.now c.args.starts.now c.args.places.now c.args.paths.now c.loop-found.found-index c.found-item.result (omega arith) c.found-item.is c.loop-found.invariant
    c.in_ok-section_starts.ensures.starts

pub returns-clause-starts : goal.returns-clause-starts
returns-clause-starts c = all-end c.args.view.now c.args.starts.now c.args.places.now c.args.paths.now c.loop-found.found-index c.requires.taken (omega arith) c.loop-found.invariant
