-- A value of the section that says no start.
use Rattle.std.proofs.Common.{ap, ◌∙◌, sym}
use Rattle.std.proofs.lemmas.Result.{err_from_is_err_and}
use Rattle.dw_unit_fields.specs.SectionFields.{SectionFields}
use Rattle.dw_unit_fields.proofs.StartLaws.{section-stray, section-strays, unit-strays}
use Rattle.dw_unit_fields.proofs.starts.section_starts.Goals as goal

pub returns-in-Some-clause-refused : goal.returns-in-Some-clause-refused
returns-in-Some-clause-refused c =
    section-stray c.args.view.now c.args.starts.now c.args.places.now c.args.found.now c.found.inside.section c.in-Some.place c.stray.result
    (ap (λ (u : SectionFields). u.number) c.found.view_is) (sym (ap (λ (u : SectionFields). u.stray) c.found.view_is) ∙ c.in-Some.is) c.stray.ensures

pub returns-in_err-lines_start-clause-refused : goal.returns-in_err-lines_start-clause-refused
returns-in_err-lines_start-clause-refused c =
    let p = err_from_is_err_and c.from_residual.result c.from_residual.ensures.1 in
    rw (p.1, p.2) (section-strays c.args.view.now c.found.inside.section c.args.starts.now c.args.places.now c.args.found.now c.lines.result.now c.in_err-lines_start.field-0.0
    (ap (λ (u : SectionFields). u.number) c.found.view_is) c.lines.ensures.fields c.in_err-lines_start.ensures.refused)

pub returns-in_err-units_start-clause-refused : goal.returns-in_err-units_start-clause-refused
returns-in_err-units_start-clause-refused c =
    let p = err_from_is_err_and c.from_residual-in_err-units_start.result c.from_residual-in_err-units_start.ensures.1 in
    rw (p.1, p.2) (unit-strays c.args.view.now c.found.inside.section c.args.starts.now c.args.places.now c.args.found.now c.macros.result.now c.in_err-units_start.field-0.0
    (ap (λ (u : SectionFields). u.number) c.found.view_is) c.macros.ensures.fields c.in_err-units_start.ensures.refused)
