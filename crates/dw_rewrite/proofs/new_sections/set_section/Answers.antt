-- The fields as the code has them.
use Rattle.std.proofs.Common.{ap, ◌∙◌, sym, subst}
use Rattle.dw_rewrite.specs.Changes.{AreFieldsOf, AreFree, AreSet}
use Rattle.dw_rewrite.specs.NewTables.{source_into}
use Rattle.dw_unit_fields.specs.Fields.{AllApart}
use Rattle.dw_unit_fields.specs.SectionFields.{SectionFields}
use Rattle.dw_rewrite.proofs.GrowthLaws.{moved}
use Rattle.dw_rewrite.proofs.SectionBytesLaws.{size-into}
use Rattle.dw_rewrite.specs.NewPlaces.{places_known}
use Rattle.dw_rewrite.proofs.new_sections.set_section.Goals as goal

pub set_fields-requires-clause-fields : goal.set_fields-requires-clause-fields
set_fields-requires-clause-fields c =
    moved AreFieldsOf _ _ _ _ (sym (c.field_source-source.ensures ∙ ap (λ (u : SectionFields). source_into c.args.view.now u.number c.args.into) c.found.view_is)) (sym c.fields.ensures.fields)
    c.requires.fields

pub set_fields-requires-clause-size : goal.set_fields-requires-clause-size
set_fields-requires-clause-size c =
    size-into c.args.view.now c.args.found.now c.args.into _ _ c.requires.size
    (c.field_source-source.ensures ∙ ap (λ (u : SectionFields). source_into c.args.view.now u.number c.args.into) c.found.view_is)

pub set_fields-requires-clause-apart : goal.set_fields-requires-clause-apart
set_fields-requires-clause-apart c = subst AllApart (sym c.fields.ensures.fields) c.requires.apart

pub set_fields-requires-clause-free : goal.set_fields-requires-clause-free
set_fields-requires-clause-free c = subst (AreFree c.args.patches.now.list) (sym c.fields.ensures.fields) c.requires.free

pub returns-clause-set : goal.returns-clause-set
returns-clause-set c =
    moved (λ x fs. AreSet x (places_known c.args.new_places.now c.args.into) fs c.args.patches.now c.set_fields.new.patches) _ _ _ _
    (c.field_source-source.ensures ∙ ap (λ (u : SectionFields). source_into c.args.view.now u.number c.args.into) c.found.view_is) c.fields.ensures.fields
    c.in_ok-set_fields.ensures.set
