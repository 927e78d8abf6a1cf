use Rattle.std.specs.HashMap.{get}
use Rattle.std.specs.Prelude.{nat_eq}
use Rattle.std.proofs.Common.{◌-◌}
use Rattle.dw_base.specs.ViewData.{debug_data}
use Rattle.dw_units.specs.UnitStretches.{headers_of, stretch_of}
use Rattle.dw_sources.specs.JoinedFiles.{AreJoined}
use Rattle.dw_sources.proofs.UnitLaws.{UnitsPass}
use Rattle.dw_sources.proofs.units.add_section.Given as goal

abbrev pub invariant-loop-number : goal.invariant-loop-number
invariant-loop-number l = record {
  passed : UnitsPass l.view l.list (λ at. get nat_eq l.tables at) l.fronts l.section (headers_of (stretch_of l.units.units l.first l.end)) (l.number - l.first) l.fn.found.names l.found.names;
  joined : AreJoined (debug_data l.view) (λ at. get nat_eq l.tables at) l.fronts l.found.names l.found.joined.keys;
}
