-- The fields as the code has them.
use Rattle.std.proofs.Common.{ap, ◌∙◌, sym}
use Rattle.std.proofs.lemmas.Result.{err_from_is_err_and}
use Rattle.dw_unit_fields.specs.SectionFields.{SectionFields}
use Rattle.dw_rewrite.specs.Changes.{AreFieldsOf}
use Rattle.dw_rewrite.specs.NewTables.{source_into}
use Rattle.dw_rewrite.proofs.GrowthLaws.{moved}
use Rattle.dw_rewrite.proofs.OffsetAddLaws.{fault-own, fields-own}
use Rattle.dw_rewrite.specs.NewPlaces.{places_known}
use Rattle.dw_rewrite.proofs.records.add_section.Goals as goal

pub add_fields-requires-clause-fields : goal.add_fields-requires-clause-fields
add_fields-requires-clause-fields c =
    moved AreFieldsOf _ _ _ _ (sym (c.field_source-source.ensures ∙ ap (λ (u : SectionFields). source_into c.args.view.now u.number c.args.into) c.found.view_is)) (sym c.fields-fields.ensures.fields)
    c.requires.fields

pub returns-in_err-add_fields-clause-refused : goal.returns-in_err-add_fields-clause-refused
returns-in_err-add_fields-clause-refused c =
    let p = err_from_is_err_and c.from_residual.result c.from_residual.ensures.1 in
    rw (p.1, p.2) (fault-own c.field_source-source.result _ (places_known c.args.new_places.now c.args.into) c.found.inside.section _ c.fields-fields.result.now _ c.in_err-add_fields.field-0.0
    (c.field_source-source.ensures ∙ ap (λ (u : SectionFields). source_into c.args.view.now u.number c.args.into) c.found.view_is) (ap (λ (u : SectionFields). u.number) c.found.view_is)
    c.fields-fields.ensures.fields c.in_err-add_fields.ensures.refused)

pub returns-clause-makes : goal.returns-clause-makes
returns-clause-makes c =
    fields-own c.field_source-source.result _ (places_known c.args.new_places.now c.args.into) c.fields-fields.result.now _
    (c.field_source-source.ensures ∙ ap (λ (u : SectionFields). source_into c.args.view.now u.number c.args.into) c.found.view_is) c.fields-fields.ensures.fields
    c.in_ok-add_fields.ensures.makes
