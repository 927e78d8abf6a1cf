-- A value that can't be read refuses the entry.
use Rattle.std.proofs.lemmas.Result.{err_from_is_err_and}
use Rattle.dw_entries.proofs.ValueLaws.{values-fail}
use Rattle.dw_entries.proofs.entry_values.walked_end.Goals as goal

pub returns-in_err-place-clause-refused : goal.returns-in_err-place-clause-refused
returns-in_err-place-clause-refused c =
    let p = err_from_is_err_and c.from_residual.result c.from_residual.ensures.1 in
    rw (p.1, p.2) (values-fail c.args.params.now c.args.bytes.now c.args.section c.args.from c.loop-spec.place c.loop-spec.spec-index c.args.specs.now _ _
    c.in_err-place.ensures.refused c.loop-spec.invariant.values c.loop-spec-test.true)
