-- An entry that can't be read stops the unit in front of the codes of 0, too.
use Rattle.std.proofs.lemmas.Result.{err_from_is_err_and}
use Rattle.dw_entries.proofs.StepLaws.{stops-nulls}
use Rattle.dw_entries.proofs.step.next_step.Goals as goal

pub returns-in_err-next-clause-refused : goal.returns-in_err-next-clause-refused
returns-in_err-next-clause-refused c =
    let p = err_from_is_err_and c.from_residual.result c.from_residual.ensures.1 in
    let found = c.behind_nulls-found.result in
    rw (p.1, p.2) (stops-nulls c.args.unit.now c.args.table.now c.args.bytes.now c.args.here.place c.args.here.depth c.args.here.number
    c.behind_nulls-found.result.place c.behind_nulls-found.result.depth c.in_err-next.field-0.0
    c.behind_nulls-found.ensures.nulls c.in_err-next.ensures.refused)
