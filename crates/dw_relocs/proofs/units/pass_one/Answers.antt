-- The table is that of the unit; and why an entry can't be read.
use Rattle.std.proofs.lemmas.Result.{err_from_is_err_and}
use Rattle.dw_base.specs.ViewData.{debug_data}
use Rattle.dw_units.proofs.StretchLaws.{listed-table}
use Rattle.dw_units.proofs.UnitTableLaws.{item-inside}
use Rattle.dw_relocs.proofs.UnitListLaws.{entry-row}
use Rattle.dw_relocs.proofs.units.pass_one.Goals as goal

pub table-requires : goal.table-requires
table-requires c = record { there = item-inside _ _ _ c.requires.there }

pub returns-in_err-passed-clause-refused : goal.returns-in_err-passed-clause-refused
returns-in_err-passed-clause-refused c =
    let p = err_from_is_err_and c.from_residual-in_err-passed.result c.from_residual-in_err-passed.ensures.1 in
    rw (p.1, p.2) (entry-row c.args.view.now c.args.unit.now.header c.get.result.now c.in_err-passed.field-0.0 c.requires.unit
    (listed-table (debug_data c.args.view.now) c.args.units.now c.args.number c.args.unit.now _ c.get.result.now c.requires.listed c.in_ok-table.ensures.table c.requires.there c.get.ensures.table)
    c.in_err-passed.ensures.refused)

pub returns-clause-passed : goal.returns-clause-passed
returns-clause-passed c = record {
  table = c.get.result.now;
  is = listed-table (debug_data c.args.view.now) c.args.units.now c.args.number c.args.unit.now _ c.get.result.now c.requires.listed c.in_ok-table.ensures.table c.requires.there c.get.ensures.table;
  passed = c.in_ok-passed.ensures.passed;
}
