-- A unit of the section.
use Rattle.std.proofs.Common.{arith}
use Rattle.dw_entries.proofs.CallerLaws.{unit-listed}
use Rattle.dw_units.proofs.reading.push_units.Goals as goal

pub unit_table-requires-clause-unit : goal.unit_table-requires-clause-unit
unit_table-requires-clause-unit c = unit-listed c.args.view.now c.args.section c.loop-header.header-index c.args.headers.now _ c.requires.there c.requires.headers (omega arith)
