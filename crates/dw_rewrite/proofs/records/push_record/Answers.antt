-- Whether another section holds the relocations of the section.
use Rattle.std.proofs.Common.{ap, refl}
use Rattle.dw_unit_fields.specs.SectionFields.{SectionFields}
use Rattle.dw_rewrite.proofs.RecordPushLaws.{none-makes, places-fit, section-there}
use Rattle.dw_base.specs.declared.debug_sections.DebugSection.TheVariants.{Str, LineStr, Line}
use Rattle.dw_rewrite.specs.NewPlaces.{places_known}
use Rattle.dw_rewrite.proofs.records.push_record.Goals as goal

pub records_body-requires-clause-fit : goal.records_body-requires-clause-fit
records_body-requires-clause-fit c =
    places-fit c.args.sources.now c.found.inside.section c.found.inside.section c.in-Some.holder c.in-Some.source c.of.result refl
    (section-there c.args.sources.now c.args.view.now c.args.found.now c.found.inside.section (ap (λ (u : SectionFields). u.number) c.found.view_is) c.requires.places c.requires.view)
    c.requires.fit c.of.ensures c.in-Some.is

pub returns-in_default-clause-makes : goal.returns-in_default-clause-makes
returns-in_default-clause-makes c =
    none-makes c.args.sources.now c.args.view.now (places_known c.args.new_places.now Str) (places_known c.args.new_places.now LineStr) (places_known c.args.new_places.now Line) c.args.found.now
    c.found.inside.section c.of.result (ap (λ (u : SectionFields). u.number) c.found.view_is) c.requires.places c.requires.view c.of.ensures c.in_default.is
