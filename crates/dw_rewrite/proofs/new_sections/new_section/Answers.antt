-- The section with its old bytes and new numbers, or with what was written into its bytes.
use Rattle.std.proofs.Common.{ap, ◌∙◌, sym, length}
use Rattle.std.proofs.lemmas.Bool.{OnTrue_at}
use Rattle.std.proofs.lemmas.List.{with_items_is}
use Rattle.dw_base.specs.FileViews.{View, section_bytes}
use Rattle.dw_unit_fields.specs.ViewFields.{info_of}
use Rattle.dw_unit_fields.specs.SectionFields.{SectionFields}
use Rattle.dw_rewrite.proofs.SectionBytesLaws.{body-is, body-patched, section-written}
use Rattle.dw_base.specs.declared.debug_sections.DebugSection.TheVariants.{Str, LineStr, Line}
use Rattle.dw_rewrite.specs.NewPlaces.{places_known}
use Rattle.dw_rewrite.proofs.new_sections.new_section.Goals as goal

pub patched_section-requires : goal.patched_section-requires
patched_section-requires c = record {
  size = ap length (c.old_bytes-old.ensures.bytes ∙ ap (λ (v : View). section_bytes v c.found.inside.section) (sym c.requires.file)) ∙ ap (λ (u : SectionFields). length (info_of c.args.view.now u)) c.found.view_is ∙ sym c.in_ok-patches.ensures.size;
}

pub returns-then-has_no_rooms-clause-body : goal.returns-then-has_no_rooms-clause-body
returns-then-has_no_rooms-clause-body c =
    body-patched c.args.maps.now c.args.view.now (places_known c.args.new_places.now Str) (places_known c.args.new_places.now LineStr) (places_known c.args.new_places.now Line) c.args.found.now
    c.found.inside.section c.in_ok-patches.patches.order c.in_ok-patches.patches.list c.old_bytes-old.result.now c.patched_section.result c.patched_section.ensures.body
    (ap (λ (u : SectionFields). u.number) c.found.view_is) ((c.old_bytes-old.ensures.bytes ∙ ap (λ (v : View). section_bytes v c.found.inside.section) (sym c.requires.file)) ∙ ap (info_of c.args.view.now) c.found.view_is) c.in_ok-patches.ensures.put
    (OnTrue_at c.if-has_no_rooms.true c.has_no_rooms.ensures.none)

pub returns-clause-body : goal.returns-clause-body
returns-clause-body c =
    body-is c.args.maps.now c.args.view.now (places_known c.args.new_places.now Str) (places_known c.args.new_places.now LineStr) (places_known c.args.new_places.now Line) c.args.found.now c.found.inside.section _
    c.write_section.new.out (ap (λ (u : SectionFields). u.number) c.found.view_is) (c.whole.ensures.bytes ∙ with_items_is c.in_ok-bytes.bytes c.write_section.new.out
    (c.in_ok-write_section.ensures.long ∙ sym (ap (λ (u : SectionFields). length (info_of c.args.view.now u)) c.found.view_is) ∙ sym (ap length (c.old_bytes-old.ensures.bytes ∙ ap (λ (v : View). section_bytes v c.found.inside.section) (sym c.requires.file)))
    ∙ sym c.in_ok-bytes.ensures.len))
    (section-written c.args.maps.now c.args.view.now (places_known c.args.new_places.now Str) (places_known c.args.new_places.now LineStr) (places_known c.args.new_places.now Line) c.args.found.now
    c.in_ok-patches.patches.order c.in_ok-patches.patches.list c.write_section.new.out c.in_ok-patches.ensures.put c.in_ok-write_section.ensures.out)
