-- A table in another section is refused.
use Rattle.dw_entries.proofs.UnitListLaws.{table-elsewhere}
use Rattle.dw_entries.proofs.headers.table_offset.Goals as goal

pub returns-then-unit-clause-refused : goal.returns-then-unit-clause-refused
returns-then-unit-clause-refused c =
    table-elsewhere c.args.view.now c.args.unit.now c.abbrevs_number-number.result c.at.result c.abbrevs_number-number.ensures.number c.at.ensures c.if-unit.true
