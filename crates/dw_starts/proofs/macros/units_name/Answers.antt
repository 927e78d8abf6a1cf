-- A unit of the view, one more, and one whose offsets name nothing.
use Rattle.std.proofs.Common.{arith}
use Rattle.std.proofs.lemmas.List.{get_or_default}
use Rattle.std.proofs.lemmas.Result.{err_from_is_err_and}
use Rattle.dw_starts.proofs.MacroLoopLaws.{line-refused, unit-at, unit-refused, units-more}
use Rattle.dw_starts.proofs.macros.units_name.Goals as goal

pub events_name-requires : goal.events_name-requires
events_name-requires c = record { unit = unit-at c.args.view.now c.args.units.now c.loop-unit.unit-index _ (omega arith) c.requires.units }

pub returns-in_err-line_names-clause-refused : goal.returns-in_err-line_names-clause-refused
returns-in_err-line_names-clause-refused c =
    let p = err_from_is_err_and c.from_residual.result c.from_residual.ensures.1 in
    rw (p.1, p.2) (line-refused c.args.view.now c.args.starts.now c.args.places.now c.args.units.now c.loop-unit.unit-index _ c.in_err-line_names.field-0.0 (omega arith)
    (get_or_default c.args.units.now c.loop-unit.unit-index _ _ (omega arith)) c.in_err-line_names.ensures.refused)

pub returns-in_err-events_name-clause-refused : goal.returns-in_err-events_name-clause-refused
returns-in_err-events_name-clause-refused c =
    let p = err_from_is_err_and c.from_residual-in_err-events_name.result c.from_residual-in_err-events_name.ensures.1 in
    rw (p.1, p.2) (unit-refused c.args.view.now c.args.starts.now c.args.places.now c.args.units.now c.loop-unit.unit-index _ c.in_err-events_name.field-0.0 (omega arith)
    (get_or_default c.args.units.now c.loop-unit.unit-index _ _ (omega arith)) c.in_err-events_name.ensures.refused)

pub loop-unit-preserved : goal.loop-unit-preserved
loop-unit-preserved c =
    units-more c.args.view.now c.args.starts.now c.args.places.now c.args.units.now c.loop-unit.unit-index _ (omega arith)
    (get_or_default c.args.units.now c.loop-unit.unit-index _ _ (omega arith)) c.loop-unit.invariant c.in_ok-line_names.ensures.named c.in_ok-events_name.ensures.named
