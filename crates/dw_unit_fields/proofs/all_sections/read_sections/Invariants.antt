use Rattle.std.proofs.Common.{drop, map}
use Rattle.dw_base.specs.ViewData.{debug_data}
use Rattle.dw_entries.specs.ViewUnits.{unit_section_at}
use Rattle.dw_units.specs.UnitStretches.{StretchesLeft}
use Rattle.dw_unit_fields.proofs.SectionListLaws.{SectionsPass}
use Rattle.dw_unit_fields.proofs.all_sections.read_sections.Given as goal

abbrev pub invariant-loop-section : goal.invariant-loop-section
invariant-loop-section l = record {
  passed : SectionsPass l.view l.sections l.section-index l.found.items l.fn.slots l.slots;
  left : StretchesLeft (debug_data l.view) l.listed (map (unit_section_at l.view) (drop l.section-index l.sections)) l.first;
}
