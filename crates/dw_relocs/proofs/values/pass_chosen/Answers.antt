-- The form in front, and the value behind it.
use Rattle.std.proofs.Common.{length}
use Rattle.dw_base.specs.FileViews.{section_bytes}
use Rattle.dw_relocs.specs.FieldWalks.{ground_of}
use Rattle.dw_relocs.proofs.FormFieldLaws.{form-by}
use Rattle.dw_relocs.proofs.ValueFieldLaws.{chosen-goes, chosen-inside}
use Rattle.dw_relocs.proofs.values.pass_chosen.Goals as goal

pub pass_form-requires-clause-inside : goal.pass_form-requires-clause-inside
pass_form-requires-clause-inside c =
    chosen-inside c.args.params.now c.args.spec.now c.args.bytes.now c.args.place c.args.size (length (section_bytes c.args.view.now c.args.section)) c.in-Some.number c.in-Some.front
    c.args.start c.field_form-form.result c.requires.front c.requires.value c.in-Some.ensures.value (form-by c.args.params.now c.in-Some.number c.args.start c.form_kind-kind.result c.field_form-form.result c.form_kind-kind.ensures.kind c.field_form-form.ensures.form) c.requires.whole

pub returns : goal.returns
returns c = record {
  goes = chosen-goes (ground_of c.args.view.now c.args.section) c.args.params.now c.args.spec.now c.args.bytes.now c.args.place c.args.size c.in-Some.number c.in-Some.front
      c.args.start c.field_form-form.result c.args.pass c.pass_form.result c.requires.front c.requires.value c.in-Some.ensures.value (form-by c.args.params.now c.in-Some.number c.args.start c.form_kind-kind.result c.field_form-form.result c.form_kind-kind.ensures.kind c.field_form-form.ensures.form)
      c.pass_form.ensures.goes;
}
