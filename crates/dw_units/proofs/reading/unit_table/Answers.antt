-- A table that can't be read.
use Rattle.std.proofs.lemmas.Result.{err_from_is_err_and}
use Rattle.dw_units.proofs.ListedLaws.{table-row}
use Rattle.dw_units.proofs.reading.unit_table.Goals as goal

pub returns-in_err-number-clause-refused : goal.returns-in_err-number-clause-refused
returns-in_err-number-clause-refused c =
    let p = err_from_is_err_and c.from_residual-in_err-number.result c.from_residual-in_err-number.ensures.1 in
    rw (p.1, p.2) (table-row c.args.view.now c.args.unit.now c.in_ok-at.at c.in_err-number.field-0.0 c.requires.unit c.in_ok-at.ensures.offset c.in_err-number.ensures.refused)
