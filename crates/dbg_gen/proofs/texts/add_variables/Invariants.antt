-- The names so far were added.
use Rattle.std.proofs.Common.{◌≡◌}
use Rattle.dw_base.specs.Lists.{tabulate}
use Rattle.dbg_gen.specs.GeneratedTexts.{each_once, variable_name}
use Rattle.dbg_gen.proofs.texts.add_variables.Given as goal

abbrev pub invariant-loop-variable : goal.invariant-loop-variable
invariant-loop-variable l = l.texts ≡ record { kept = l.fn.texts.kept; texts = each_once l.fn.texts.texts (tabulate variable_name l.variable) }
