use Rattle.std.proofs.Common.{◌-◌}
use Rattle.dw_base.specs.ViewData.{debug_data}
use Rattle.dw_entries.specs.ViewUnits.{unit_section_at}
use Rattle.dw_units.specs.UnitStretches.{headers_of, stretch_of}
use Rattle.dw_relocs.specs.FieldWalks.{ground_of}
use Rattle.dw_relocs.specs.UnitPasses.{UnitsSo}
use Rattle.dw_relocs.proofs.units.pass_units.Given as goal

abbrev pub invariant-loop-number : goal.invariant-loop-number
invariant-loop-number l =
    UnitsSo (ground_of l.view l.section) (debug_data l.view).base (unit_section_at l.view l.section) (headers_of (stretch_of l.units.units l.first l.end)) (l.number - l.first) l.fn.pass
    l.now
