-- The bytes of a unit up to its end, and the paths that its first entry gives.
use Rattle.dw_entries.proofs.HasUnitLaws.{unit-of-view, scan-end}
use Rattle.dw_sources.proofs.UnitLaws.{unit-added, unit-front, unit-part}
use Rattle.dw_sources.proofs.units.add_unit.Goals as goal

pub bytes-requires : goal.bytes-requires
bytes-requires c = record { there = (unit-of-view c.args.view.now c.args.unit.now c.requires.unit).there }

pub slice_bounds-bytes-end : goal.slice_bounds-bytes-end
slice_bounds-bytes-end c =
    scan-end c.args.view.now c.args.unit.now c.bytes.result.now (unit-of-view c.args.view.now c.args.unit.now c.requires.unit) c.bytes.ensures.bytes

pub root_at-root-requires : goal.root_at-root-requires
root_at-root-requires c = record { address = (unit-of-view c.args.view.now c.args.unit.now c.requires.unit).address }

pub add_root-requires-clause-unit : goal.add_root-requires-clause-unit
add_root-requires-clause-unit c = unit-part c.args.view.now c.args.unit.now c.requires.unit

pub add_root-requires-clause-inside : goal.add_root-requires-clause-inside
add_root-requires-clause-inside c = unit-front c.args.view.now c.args.unit.now.section _ c.bytes.result.now c.bytes.ensures.bytes

pub returns : goal.returns
returns c = record {
  joined = c.in_ok-add_root.ensures.joined;
  value = unit-added c.args.view.now c.args.list.now _ c.args.fronts.now c.args.unit.now c.args.abbrevs.now c.bytes.result.now c.root_at-root.result _ _
      c.requires.unit c.requires.table c.bytes.ensures.bytes c.root_at-root.ensures.value c.in_ok-add_root.ensures.value;
}
