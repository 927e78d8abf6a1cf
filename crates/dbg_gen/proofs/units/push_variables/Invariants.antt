-- The entries so far were appended.
use Rattle.std.proofs.Common.{◌≡◌, ◌++◌}
use Rattle.dbg_gen.specs.GeneratedTexts.{chained}
use Rattle.dbg_gen.specs.GeneratedUnits.{variable_entry}
use Rattle.dbg_gen.proofs.units.push_variables.Given as goal

abbrev pub invariant-loop-variable : goal.invariant-loop-variable
invariant-loop-variable l = l.entries.items ≡ l.fn.entries.items ++ chained (variable_entry l.texts.texts) l.variable
