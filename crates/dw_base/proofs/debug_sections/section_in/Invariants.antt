use Rattle.std.proofs.Common.{◌≡◌, drop}
use Rattle.dw_base.specs.DebugSections.{section_in}
use Rattle.dw_base.proofs.debug_sections.section_in.Given as goal

abbrev pub invariant-loop-section : goal.invariant-loop-section
invariant-loop-section l = section_in (drop l.section-index l.sections) l.name ≡ section_in l.sections l.name
