-- One section more, and the end.
use Rattle.std.proofs.Common.{refl}
use Rattle.std.proofs.lemmas.Result.{err_from_is_err_and}
use Rattle.dw_relocs.proofs.MacroCheckLaws.{list-end, list-fault, list-read, list-there}
use Rattle.dw_relocs.proofs.sections.macro_sections.Goals as goal

pub macros_in-requires-clause-there : goal.macros_in-requires-clause-there
macros_in-requires-clause-there c =
    list-there c.args.view.now c.all-section-items.result.now c.loop-section.section-index _ 0 c.loop-section.invariant c.all-section-items.ensures.sections
    c.loop-section-test.true refl

pub macros_in-requires-clause-read : goal.macros_in-requires-clause-read
macros_in-requires-clause-read c =
    list-read c.args.view.now c.all-section-items.result.now c.loop-section.section-index _ 0 c.loop-section.invariant c.all-section-items.ensures.sections
    c.loop-section-test.true refl

pub returns-in_err-macros_in-clause-refused : goal.returns-in_err-macros_in-clause-refused
returns-in_err-macros_in-clause-refused c =
    let p = err_from_is_err_and c.from_residual.result c.from_residual.ensures.1 in
    rw (p.1, p.2) (list-fault c.args.view.now c.all-section-items.result.now c.loop-section.section-index _ 0 c.in_err-macros_in.field-0.0 c.loop-section.invariant
    c.all-section-items.ensures.sections c.loop-section-test.true refl c.in_err-macros_in.ensures.refused)

pub returns-clause-holds : goal.returns-clause-holds
returns-clause-holds c =
    list-end c.args.view.now c.all-section-items.result.now c.loop-section.section-index c.loop-section.invariant c.all-section-items.ensures.sections
    c.loop-section-test.false
