-- What is read of the section is read of the view.
use Rattle.std.proofs.lemmas.Result.{err_from_is_err_and}
use Rattle.dw_base.specs.ViewData.{string_offsets}
use Rattle.dw_base.proofs.ContributionRowLaws.{contributions-exclude}
use Rattle.dw_offsets.proofs.ContributionLaws.{none-read, some-read, some-refused}
use Rattle.dw_offsets.proofs.string_offsets.contributions.Goals as goal

pub returns-in_default-clause-none : goal.returns-in_default-clause-none
returns-in_default-clause-none c = λ r f.
    contributions-exclude c.args.view.now.order (string_offsets c.args.view.now).bytes (string_offsets c.args.view.now).number c.new.result.items r
    (none-read c.args.view.now c.new.result.items c.in_default.ensures.section c.new.ensures.items) f

pub returns-in_err-list-clause-refused : goal.returns-in_err-list-clause-refused
returns-in_err-list-clause-refused c =
    let p = err_from_is_err_and c.from_residual.result c.from_residual.ensures.1 in
    rw (p.1, p.2) (some-refused c.args.view.now c.in-Some.section c.order.result c.bytes.result.now c.in_err-list.field-0.0 c.in-Some.ensures.section
    c.order.ensures.order c.bytes.ensures.bytes c.in_err-list.ensures.refused)

pub returns-clause-none : goal.returns-clause-none
returns-clause-none c = λ r f.
    contributions-exclude c.args.view.now.order (string_offsets c.args.view.now).bytes (string_offsets c.args.view.now).number c.in_ok-list.list.items r
    (some-read c.args.view.now c.in-Some.section c.order.result c.bytes.result.now c.in_ok-list.list.items c.in-Some.ensures.section
    c.order.ensures.order c.bytes.ensures.bytes c.in_ok-list.ensures.read) f
