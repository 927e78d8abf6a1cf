use Rattle.std.proofs.Common.{◌≡◌, ◌++◌, drop}
use Rattle.dw_read.specs.MacroFields.{macros_of}
use Rattle.dw_read.proofs.macros.push_macros.Given as goal

abbrev pub invariant-loop-section : goal.invariant-loop-section
invariant-loop-section l = l.paths.items ++ macros_of l.view (drop l.section-index l.macros) ≡ l.fn.paths.items ++ macros_of l.view l.macros
