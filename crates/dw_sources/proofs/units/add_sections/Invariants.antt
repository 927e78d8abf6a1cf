use Rattle.std.specs.HashMap.{get}
use Rattle.std.specs.Prelude.{drop, map, nat_eq, take}
use Rattle.dw_base.specs.ViewData.{debug_data}
use Rattle.dw_entries.specs.ViewUnits.{unit_section_at}
use Rattle.dw_units.specs.UnitStretches.{StretchesLeft}
use Rattle.dw_sources.specs.JoinedFiles.{AreJoined}
use Rattle.dw_sources.specs.Sources.{AddsSections}
use Rattle.dw_sources.proofs.units.add_sections.Given as goal

abbrev pub invariant-loop-section : goal.invariant-loop-section
invariant-loop-section l = record {
  passed : AddsSections (debug_data l.view) l.list (λ at. get nat_eq l.tables at) l.fronts (map (unit_section_at l.view) (take l.section-index l.numbers)) l.fn.found.names l.found.names;
  joined : AreJoined (debug_data l.view) (λ at. get nat_eq l.tables at) l.fronts l.found.names l.found.joined.keys;
  left : StretchesLeft (debug_data l.view) l.units (map (unit_section_at l.view) (drop l.section-index l.numbers)) l.first;
}
