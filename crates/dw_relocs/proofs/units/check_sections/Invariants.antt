use Rattle.std.proofs.Common.{drop, map}
use Rattle.dw_base.specs.ViewData.{debug_data}
use Rattle.dw_entries.specs.ViewUnits.{unit_section_at}
use Rattle.dw_units.specs.UnitStretches.{StretchesLeft}
use Rattle.dw_relocs.proofs.UnitCheckLaws.{SectionsSo}
use Rattle.dw_relocs.proofs.units.check_sections.Given as goal

abbrev pub invariant-loop-section : goal.invariant-loop-section
invariant-loop-section l = record {
  so : SectionsSo l.view l.sections l.section-index;
  left : StretchesLeft (debug_data l.view) l.units (map (unit_section_at l.view) (drop l.section-index l.sections)) l.first;
}
