-- The table of a number is at its place.
use Rattle.dw_units.proofs.PlacedLaws.{placed-item}
use Rattle.dw_units.proofs.units.nth_table.Goals as goal

pub table_of-requires : goal.table_of-requires
table_of-requires c = record {
  placed = placed-item c.args.bytes.now c.args.tables.now c.args.number c.index-tables-number.result c.requires.placed c.requires.there c.index-tables-number.is;
}
