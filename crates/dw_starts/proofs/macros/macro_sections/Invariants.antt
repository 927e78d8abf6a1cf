use Rattle.dw_starts.proofs.MacroListLaws.{ListSo}
use Rattle.dw_starts.proofs.macros.macro_sections.Given as goal

abbrev pub invariant-loop-section : goal.invariant-loop-section
invariant-loop-section l = ListSo l.view l.section-index l.found.items
