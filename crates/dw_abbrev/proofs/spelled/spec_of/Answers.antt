-- One of the two is zero, or the number behind them passes the end.
use Rattle.std.proofs.Common.{sym}
use Rattle.dw_abbrev.proofs.Rows.{zero_name, zero_form, number_fails}
use Rattle.dw_abbrev.proofs.spelled.spec_of.Goals as goal

pub returns-then-name-eq0-clause-none : goal.returns-then-name-eq0-clause-none
returns-then-name-eq0-clause-none c =
    zero_name c.args.bytes.now c.args.at c.args.pair.now.name c.args.pair.now.form c.args.pair.now.next c.requires.pair c.if-name-eq0.true (c.requires.named c.if-name-eq0.true)

pub returns-then-form-eq0-clause-none : goal.returns-then-form-eq0-clause-none
returns-then-form-eq0-clause-none c =
    zero_form c.args.bytes.now c.args.at c.args.pair.now.name c.args.pair.now.form c.args.pair.now.next c.requires.pair c.if-name-eq0.false c.if-form-eq0.true

pub returns-in_default-clause-none : goal.returns-in_default-clause-none
returns-in_default-clause-none c =
    number_fails c.args.bytes.now c.args.at c.args.pair.now.name c.args.pair.now.form c.args.pair.now.next c.requires.pair c.if-form-ne-DW_FORM_implicit_const.false
    (sym c.in_default.ensures.value)
