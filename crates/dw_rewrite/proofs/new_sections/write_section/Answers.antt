-- The bytes of the section, one change after another.
use Rattle.std.proofs.Common.{ap, ◌∙◌}
use Rattle.dw_unit_fields.specs.ViewFields.{info_of}
use Rattle.dw_unit_fields.specs.SectionFields.{SectionFields}
use Rattle.dw_rewrite.proofs.SectionBytesLaws.{room-written}
use Rattle.dw_rewrite.proofs.new_sections.write_section.Goals as goal

pub returns-clause-out : goal.returns-clause-out
returns-clause-out c =
    room-written c.args.maps.now (info_of c.args.view.now c.args.found.now) c.bytes-info.result.now c.args.out.now c.apply.new.bytes c.map_rooms.new.out c.args.found.now.inline
    c.as_slice.result.now c.args.patches.now.order c.args.patches.now.list (c.bytes-info.ensures.bytes ∙ ap (info_of c.args.view.now) c.found.view_is) c.requires.start
    c.apply.ensures.put c.in_ok-map_rooms.ensures.out (c.as_slice.ensures.value ∙ ap (λ (u : SectionFields). u.inline) c.found.view_is)
