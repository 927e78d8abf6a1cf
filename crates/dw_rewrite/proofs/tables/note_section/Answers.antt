-- What is known of the table, before the section and behind it.
use Rattle.std.proofs.Common.{ap}
use Rattle.dw_unit_fields.specs.SectionFields.{SectionFields}
use Rattle.dw_rewrite.proofs.GrowthLaws.{section-grown, source-knows}
use Rattle.dw_rewrite.proofs.tables.note_section.Goals as goal

pub note_fields-requires-clause-knows : goal.note_fields-requires-clause-knows
note_fields-requires-clause-knows c =
    source-knows c.args.maps.now c.args.view.now c.args.texts _ c.text_source-source.result c.args.pool.now.texts _ c.text_source-source.ensures c.requires.growing.knows

pub returns-clause-grown : goal.returns-clause-grown
returns-clause-grown c =
    section-grown c.args.maps.now c.args.view.now c.args.texts c.args.found.now _ c.text_source-source.result c.fields_of-fields.result.now c.args.pool.now c.note_fields.new.pool _ _
    (ap (λ (u : SectionFields). u.number) c.found.view_is) c.text_source-source.ensures c.fields_of-fields.ensures c.in_ok-note_fields.ensures.kept c.in_ok-note_fields.ensures.small
    c.in_ok-note_fields.ensures.texts c.in_ok-note_fields.ensures.knows c.in_ok-note_fields.ensures.noted c.in_ok-note_fields.ensures.remembers
