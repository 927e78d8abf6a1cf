-- The flag is neither 0 nor 1, or the attributes behind it aren't spelled.
use Rattle.std.proofs.lemmas.Result.{err_from_is_err_and}
use Rattle.dw_base.specs.AbbreviationFails.DeclarationFails.{other_flag}
use Rattle.dw_abbrev.proofs.Rows.{specs_stop}
use Rattle.dw_abbrev.proofs.spelled.abbrev_at.Goals as goal

pub returns-then-head-gt1-clause-stopped : goal.returns-then-head-gt1-clause-stopped
returns-then-head-gt1-clause-stopped c =
    other_flag c.args.code c.in-Some.head.tag c.in-Some.head.flag c.in-Some.head.next c.in-Some.ensures.found c.if-head-gt1.true

pub returns-in_err-specs-clause-stopped : goal.returns-in_err-specs-clause-stopped
returns-in_err-specs-clause-stopped c =
    let p = err_from_is_err_and c.from_residual.result c.from_residual.ensures.1 in
    rw (p.1, p.2)
    (specs_stop c.args.bytes.now c.args.at c.args.code c.in-Some.head.tag c.in-Some.head.flag c.in-Some.head.next c.in_err-specs.field-0.0 c.in-Some.ensures.found c.in_err-specs.ensures.stopped)
