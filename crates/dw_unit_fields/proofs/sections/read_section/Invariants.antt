use Rattle.std.proofs.Common.{◌-◌}
use Rattle.dw_base.specs.ViewData.{debug_data}
use Rattle.dw_entries.specs.ViewUnits.{unit_section_at}
use Rattle.dw_units.specs.UnitStretches.{headers_of, stretch_of}
use Rattle.dw_unit_fields.proofs.SectionTextLaws.{SectionPass}
use Rattle.dw_unit_fields.proofs.sections.read_section.Given as goal

abbrev pub invariant-loop-number : goal.invariant-loop-number
invariant-loop-number l =
    SectionPass (debug_data l.view) (unit_section_at l.view l.section) (headers_of (stretch_of l.units.units l.first l.end)) (l.number - l.first) l.found l.fn.slots l.slots
