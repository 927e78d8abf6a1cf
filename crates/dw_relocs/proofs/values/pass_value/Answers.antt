-- A value without a form in front.
use Rattle.std.proofs.Common.{length}
use Rattle.dw_base.specs.FileViews.{section_bytes}
use Rattle.dw_relocs.specs.FieldWalks.{ground_of}
use Rattle.dw_relocs.proofs.FormFieldLaws.{form-by, front-by}
use Rattle.dw_relocs.proofs.ValueFieldLaws.{own-goes, own-inside}
use Rattle.dw_relocs.proofs.values.pass_value.Goals as goal

pub pass_chosen-requires-clause-front : goal.pass_chosen-requires-clause-front
pass_chosen-requires-clause-front c =
    front-by c.args.params.now c.args.spec.now.form c.form_kind-kind.result c.is_front.result _ c.form_kind-kind.ensures.kind c.is_front.ensures c.if-is_front.true

pub pass_form-requires-clause-inside : goal.pass_form-requires-clause-inside
pass_form-requires-clause-inside c =
    own-inside c.args.params.now c.args.spec.now c.args.bytes.now c.args.place c.args.size (length (section_bytes c.args.view.now c.args.section)) c.args.start c.field_form-form.result
    (front-by c.args.params.now c.args.spec.now.form c.form_kind-kind.result c.is_front.result _ c.form_kind-kind.ensures.kind c.is_front.ensures c.if-is_front.false)
    c.requires.value
    (form-by c.args.params.now c.args.spec.now.form c.args.start c.form_kind-kind.result c.field_form-form.result c.form_kind-kind.ensures.kind c.field_form-form.ensures.form)
    c.requires.whole

pub returns : goal.returns
returns c = record {
  goes = own-goes (ground_of c.args.view.now c.args.section) c.args.params.now c.args.spec.now c.args.bytes.now c.args.place c.args.size c.args.start c.field_form-form.result
      c.args.pass c.pass_form.result
      (front-by c.args.params.now c.args.spec.now.form c.form_kind-kind.result c.is_front.result _ c.form_kind-kind.ensures.kind c.is_front.ensures c.if-is_front.false)
      c.requires.value
      (form-by c.args.params.now c.args.spec.now.form c.args.start c.form_kind-kind.result c.field_form-form.result c.form_kind-kind.ensures.kind c.field_form-form.ensures.form)
      c.pass_form.ensures.goes;
}
