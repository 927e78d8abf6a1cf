use Rattle.dw_starts.proofs.MacroLoopLaws.{SectionsPassed}
use Rattle.dw_starts.proofs.macros.macros_name.Given as goal

abbrev pub invariant-loop-section : goal.invariant-loop-section
invariant-loop-section l = SectionsPassed l.view l.starts l.places l.macros l.section-index
