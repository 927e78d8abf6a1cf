use Rattle.dw_relocs.proofs.MacroCheckLaws.{ListSo}
use Rattle.dw_relocs.proofs.sections.macro_sections.Given as goal

abbrev pub invariant-loop-section : goal.invariant-loop-section
invariant-loop-section l = ListSo l.view l.section-index
