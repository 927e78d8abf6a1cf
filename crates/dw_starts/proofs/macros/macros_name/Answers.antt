-- The units of a section, one section more, and one whose offsets name nothing.
use Rattle.std.proofs.Common.{arith}
use Rattle.std.proofs.lemmas.Result.{err_from_is_err_and}
use Rattle.dw_starts.proofs.MacroLoopLaws.{section-refused, section-units, sections-more}
use Rattle.dw_starts.proofs.macros.macros_name.Goals as goal

pub units_name-requires-clause-units : goal.units_name-requires-clause-units
units_name-requires-clause-units c =
    section-units c.args.view.now c.args.macros.now c.loop-section.section-index c.section-item.result c.units_of.result.now (omega arith) c.section-item.is c.requires.macros
    c.units_of.ensures

pub returns-in_err-units_name-clause-refused : goal.returns-in_err-units_name-clause-refused
returns-in_err-units_name-clause-refused c =
    let p = err_from_is_err_and c.from_residual.result c.from_residual.ensures.1 in
    rw (p.1, p.2) (section-refused c.args.view.now c.args.starts.now c.args.places.now c.args.macros.now c.loop-section.section-index c.section-item.result c.units_of.result.now
    c.in_err-units_name.field-0.0 (omega arith) c.section-item.is c.units_of.ensures c.in_err-units_name.ensures.refused)

pub loop-section-preserved : goal.loop-section-preserved
loop-section-preserved c =
    sections-more c.args.view.now c.args.starts.now c.args.places.now c.args.macros.now c.loop-section.section-index c.section-item.result c.units_of.result.now (omega arith)
    c.section-item.is c.loop-section.invariant c.units_of.ensures c.in_ok-units_name.ensures.named
