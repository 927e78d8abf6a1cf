use Rattle.dw_starts.proofs.MacroLoopLaws.{UnitsPassed}
use Rattle.dw_starts.proofs.macros.units_name.Given as goal

abbrev pub invariant-loop-unit : goal.invariant-loop-unit
invariant-loop-unit l = UnitsPassed l.view l.starts l.places l.units l.unit-index
