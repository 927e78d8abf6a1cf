-- The fields of both tables, one table after the other.
use Rattle.std.proofs.Common.{ap, ◌∙◌, length, refl}
use Rattle.dw_patch.specs.Patching.{PatchList}
use Rattle.elf_layout.specs.Patched.{with_patches}
use Rattle.dw_unit_fields.specs.ViewFields.{info_of}
use Rattle.dw_unit_fields.specs.SectionFields.{SectionFields}
use Rattle.dw_rewrite.proofs.SectionBytesLaws.{fields-put, line-free, none-free, start-free}
use Rattle.dw_base.specs.declared.debug_sections.DebugSection.TheVariants.{Str, LineStr, Line}
use Rattle.dw_rewrite.specs.NewPlaces.{places_known}
use Rattle.dw_rewrite.proofs.new_sections.new_fields.Goals as goal

pub set_section-requires-clause-size : goal.set_section-requires-clause-size
set_section-requires-clause-size c =
    ap (λ (x : PatchList). x.size) c.in_ok-patches.ensures.none ∙ ap (λ (u : SectionFields). length (info_of c.args.view.now u)) c.found.view_is

pub set_section-requires-clause-free : goal.set_section-requires-clause-free
set_section-requires-clause-free c = none-free c.args.view.now c.args.found.now c.in_ok-patches.patches _ _ c.in_ok-patches.ensures.none

pub set_section-requires-2-clause-free : goal.set_section-requires-2-clause-free
set_section-requires-2-clause-free c =
    line-free c.args.view.now c.args.found.now c.in_ok-patches.patches c.set_section.new.patches (places_known c.args.new_places.now Str) _ _ c.requires.places c.in_ok-patches.ensures.none
    c.in_ok-set_section.ensures.set

pub set_section-requires-3-clause-free : goal.set_section-requires-3-clause-free
set_section-requires-3-clause-free c =
    start-free c.args.view.now c.args.found.now c.in_ok-patches.patches c.set_section.new.patches c.set_section-2.new.patches (places_known c.args.new_places.now Str)
    (places_known c.args.new_places.now LineStr) _ _ c.requires.places c.in_ok-patches.ensures.none c.in_ok-set_section.ensures.set c.in_ok-set_section-2.ensures.set

pub returns-clause-put : goal.returns-clause-put
returns-clause-put c =
    fields-put c.args.view.now c.args.found.now (places_known c.args.new_places.now Str) (places_known c.args.new_places.now LineStr) (places_known c.args.new_places.now Line)
    (info_of c.args.view.now c.args.found.now) (with_patches c.set_section-3.new.patches.order (info_of c.args.view.now c.args.found.now) c.set_section-3.new.patches.list)
    c.in_ok-patches.patches c.set_section.new.patches c.set_section-2.new.patches c.set_section-3.new.patches _ _ c.in_ok-patches.ensures.none
    c.in_ok-set_section.ensures.set c.in_ok-set_section-2.ensures.set c.in_ok-set_section-3.ensures.set refl
