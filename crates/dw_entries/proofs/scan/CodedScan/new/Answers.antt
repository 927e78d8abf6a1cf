-- A pass begins at the unit's first place, with the bytes of its section up to its end.
use Rattle.std.proofs.Common.{take}
use Rattle.dw_entries.proofs.HasUnitLaws.{unit-of-view, scan-end, scan-fits, scan-starts, none-given}
use Rattle.dw_entries.proofs.scan.CodedScan.new.Goals as goal

pub bytes-requires : goal.bytes-requires
bytes-requires c = record { there = (unit-of-view c.args.view.now c.args.unit.now c.requires.unit).there }

pub slice_bounds-bytes-end : goal.slice_bounds-bytes-end
slice_bounds-bytes-end c =
    scan-end c.args.view.now c.args.unit.now c.bytes.result.now (unit-of-view c.args.view.now c.args.unit.now c.requires.unit) c.bytes.ensures.bytes

pub invariant_of-result : goal.invariant_of-result
invariant_of-result c =
    scan-fits c.args.view.now c.args.unit.now c.args.table.now c.bytes.result.now (unit-of-view c.args.view.now c.args.unit.now c.requires.unit)
    c.bytes.ensures.bytes c.bytes.ensures.small

pub returns-clause-start : goal.returns-clause-start
returns-clause-start c =
    scan-starts c.args.view.now c.args.unit.now c.args.table.now c.bytes.result.now (unit-of-view c.args.view.now c.args.unit.now c.requires.unit) c.bytes.ensures.bytes

pub returns-clause-given : goal.returns-clause-given
returns-clause-given c = none-given c.args.unit.now c.args.table.now (take c.args.unit.now.end c.bytes.result.now)
