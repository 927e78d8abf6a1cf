-- The table is that of the unit.
use Rattle.std.proofs.Common.{◌∙◌}
use Rattle.dw_units.proofs.UnitTableLaws.{item-inside, unit-table}
use Rattle.dw_attrs.proofs.IndexEntryLaws.{listed-offsets}
use Rattle.dw_attrs.proofs.entry_index.listed_entries.Goals as goal

pub table-requires : goal.table-requires
table-requires c = record { there = item-inside _ _ _ c.requires.there }

pub entry_places-requires : goal.entry_places-requires
entry_places-requires c = record {
  reads = c.requires.unit.reads _ (unit-table c.args.units.now c.args.number c.args.unit.now _ _ c.in_ok-table.ensures.table c.requires.there c.get.ensures.table);
}

pub returns : goal.returns
returns c = record {
  places =
      c.in_ok-found.ensures.places
      ∙ listed-offsets c.args.view.now c.args.units.now c.args.number c.args.unit.now _ _ c.in_ok-table.ensures.table c.requires.there c.get.ensures.table;
}
