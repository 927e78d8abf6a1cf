-- The table is that of the unit.
use Rattle.std.proofs.Common.{◌∙◌, arith}
use Rattle.dw_units.proofs.UnitTableLaws.{item-inside, unit-table}
use Rattle.dbg_exercise.proofs.CountLoopLaws.{listed-counted}
use Rattle.dbg_exercise.proofs.counting.listed_count.Goals as goal

pub table-requires : goal.table-requires
table-requires c = record { there = item-inside _ _ _ c.requires.there }

pub unit_count-requires : goal.unit_count-requires
unit_count-requires c =
    let same = listed-counted c.args.view.now c.args.units.now c.args.number c.args.unit.now _ _ c.in_ok-table.ensures.table c.requires.there c.get.ensures.table in
    let few = c.requires.few in
    record {
      reads = c.requires.unit.reads _ (unit-table c.args.units.now c.args.number c.args.unit.now _ _ c.in_ok-table.ensures.table c.requires.there c.get.ensures.table);
      few = omega (arith, same, few);
    }

pub returns : goal.returns
returns c = record {
  count = c.unit_count.ensures.count ∙ listed-counted c.args.view.now c.args.units.now c.args.number c.args.unit.now _ _ c.in_ok-table.ensures.table c.requires.there c.get.ensures.table;
}
