-- The header's field, and those of the entries.
use Rattle.std.proofs.Common.{take}
use Rattle.dw_base.specs.EntryValues.{bytes_up_to}
use Rattle.dw_base.specs.ViewData.{debug_data}
use Rattle.dw_entries.proofs.HasUnitLaws.{first-inside, unit-bytes, unit-length, unit-starts}
use Rattle.dw_entries.specs.ViewUnits.{unit_section_at}
use Rattle.dw_relocs.specs.FieldWalks.{ground_of}
use Rattle.dw_relocs.proofs.UnitPassLaws.{all-passed, all-refused, unit-read, unit-there}
use Rattle.dw_relocs.proofs.units.pass_unit.Goals as goal

pub bytes-requires : goal.bytes-requires
bytes-requires c = record { there = unit-there c.args.view.now c.args.unit.now c.requires.unit }

pub slice_bounds-bytes-end : goal.slice_bounds-bytes-end
slice_bounds-bytes-end c = unit-length c.args.view.now c.args.unit.now c.bytes.result.now c.requires.unit c.bytes.ensures.bytes

pub pass_entries-requires-clause-there : goal.pass_entries-requires-clause-there
pass_entries-requires-clause-there c = unit-there c.args.view.now c.args.unit.now c.requires.unit

pub pass_entries-requires-clause-read : goal.pass_entries-requires-clause-read
pass_entries-requires-clause-read c = unit-read c.args.view.now c.args.unit.now c.requires.unit

pub pass_entries-requires-clause-start : goal.pass_entries-requires-clause-start
pass_entries-requires-clause-start c =
    unit-starts c.args.view.now c.args.unit.now c.args.table.now c.bytes.result.now c.new-scan.result c.requires.unit c.bytes.ensures.bytes c.new-scan.ensures.start

pub pass_entries-requires-clause-first : goal.pass_entries-requires-clause-first
pass_entries-requires-clause-first c = first-inside c.args.view.now c.args.unit.now c.bytes.result.now c.requires.unit c.bytes.ensures.bytes

pub returns-clause-passed : goal.returns-clause-passed
returns-clause-passed c =
    all-passed (ground_of c.args.view.now c.args.unit.now.section) (debug_data c.args.view.now).base (unit_section_at c.args.view.now c.args.unit.now.section) c.args.unit.now c.args.table.now
    (take c.args.unit.now.end c.bytes.result.now) c.args.pass c.pass_front-front.result c.pass_entries.result
    (unit-bytes c.args.view.now c.args.unit.now c.bytes.result.now c.requires.unit c.bytes.ensures.bytes) c.pass_front-front.ensures.goes c.pass_entries.ensures.passed

pub returns-clause-refused : goal.returns-clause-refused
returns-clause-refused c =
    all-refused c.args.unit.now c.args.table.now (take c.args.unit.now.end c.bytes.result.now) (bytes_up_to (unit_section_at c.args.view.now c.args.unit.now.section) c.args.unit.now)
    c.pass_entries.result (unit-bytes c.args.view.now c.args.unit.now c.bytes.result.now c.requires.unit c.bytes.ensures.bytes) c.pass_entries.ensures.refused
