-- The table is that of the unit.
use Rattle.dw_base.specs.ViewData.{debug_data}
use Rattle.dw_units.proofs.StretchLaws.{listed-table}
use Rattle.dw_units.proofs.UnitTableLaws.{item-inside}
use Rattle.dw_unit_fields.proofs.sections.numbered_unit.Goals as goal

pub table-requires : goal.table-requires
table-requires c = record { there = item-inside _ _ _ c.requires.there }

pub one_unit-requires-clause-table : goal.one_unit-requires-clause-table
one_unit-requires-clause-table c =
    listed-table (debug_data c.args.view.now) c.args.units.now c.args.number c.args.unit.now _ c.get.result.now c.requires.listed c.in_ok-table.ensures.table c.requires.there
    c.get.ensures.table
