-- The pass begins with the bytes of the section up to the unit's end.
use Rattle.dw_entries.proofs.HasUnitLaws.{unit-length, unit-starts, first-inside}
use Rattle.dw_unit_fields.proofs.ScanTextLaws.{unit-there}
use Rattle.dw_unit_fields.proofs.units.read_unit.Goals as goal

pub bytes-requires : goal.bytes-requires
bytes-requires c = record { there = unit-there c.args.view.now c.args.unit.now c.requires.unit }

pub slice_bounds-bytes-end : goal.slice_bounds-bytes-end
slice_bounds-bytes-end c = unit-length c.args.view.now c.args.unit.now c.bytes.result.now c.requires.unit c.bytes.ensures.bytes

pub read_entries-requires-clause-start : goal.read_entries-requires-clause-start
read_entries-requires-clause-start c =
    unit-starts c.args.view.now c.args.unit.now c.args.table.now c.bytes.result.now c.new-scan.result c.requires.unit c.bytes.ensures.bytes c.new-scan.ensures.start

pub read_entries-requires-clause-inside : goal.read_entries-requires-clause-inside
read_entries-requires-clause-inside c = first-inside c.args.view.now c.args.unit.now c.bytes.result.now c.requires.unit c.bytes.ensures.bytes
