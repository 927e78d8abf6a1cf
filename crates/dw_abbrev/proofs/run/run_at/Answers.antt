-- What stands behind the abbreviations so far refuses the table.
use Rattle.std.proofs.lemmas.Result.{err_from_is_err_and}
use Rattle.dw_abbrev.proofs.Rows.{table_stops}
use Rattle.dw_abbrev.proofs.run.run_at.Goals as goal

pub returns-in_err-place-clause-stopped : goal.returns-in_err-place-clause-stopped
returns-in_err-place-clause-stopped c =
    let p = err_from_is_err_and c.from_residual.result c.from_residual.ensures.1 in
    rw (p.1, p.2) (table_stops c.args.bytes.now c.args.at c.table.place c.table.list.items c.in_err-place.field-0.0 c.table.invariant.declares c.in_err-place.ensures.stopped)
