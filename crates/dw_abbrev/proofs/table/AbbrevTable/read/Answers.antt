-- The table is spelled, so no row refuses it.
use Rattle.dw_base.proofs.AbbreviationRowLaws.{table-excludes}
use Rattle.dw_abbrev.proofs.table.AbbrevTable.read.Goals as goal

pub returns-in-Ok-clause-none : goal.returns-in-Ok-clause-none
returns-in-Ok-clause-none c = λ r f. table-excludes c.args.bytes.now c.args.section c.args.at c.in-Ok.table r c.in-Ok.ensures.table f
