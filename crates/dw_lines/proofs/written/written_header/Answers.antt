-- What becomes of the texts, and what is left of the header.
use Rattle.std.proofs.Common.{refl, ap, ◌∙◌, ◌++◌}
use Rattle.dw_base.specs.declared.debug_sections.DebugSection.TheVariants.{LineStr, Str}
use Rattle.dw_base.specs.FileViews.{section_bytes}
use Rattle.dw_base.specs.TextLineChanges.{texts_changes}
use Rattle.dw_lines.specs.NewTexts.{text_known, texts_known}
use Rattle.dw_lines.specs.ViewSources.{view_source}
use Rattle.dw_lines.proofs.WrittenLaws.{header-done}
use Rattle.dw_lines.proofs.written.written_header.Goals as goal

pub returns : goal.returns
returns c = record {
  bytes = header-done (section_bytes c.args.view.now c.args.section) c.bytes.result.now c.args.header.now.start c.args.header.now.version _ c.args.header.now.program c.in_ok-place.place
      c.header_length_place.result c.from.result c.args.header.now.width
      (texts_changes (view_source c.args.view.now c.args.section) c.args.maps.now (text_known (view_source c.args.view.now c.args.section) (texts_known c.args.texts.now Str) (texts_known c.args.texts.now LineStr))
      c.args.header.now.width c.args.all.now)
      c.new-out.result.items c.put_texts.new.out.items c.extend_from_slice.new.self.items c.new-out.ensures.items c.bytes.ensures.bytes c.header_length_place.ensures.place
      (c.from.ensures ∙ c.offset_size.ensures.size) refl c.in_ok-place.ensures.put
      (c.in_ok-extend_from_slice.ensures.items ∙ ap (λ xs. c.put_texts.new.out.items ++ xs) c.part.ensures.bytes);
}
