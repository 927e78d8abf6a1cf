-- What becomes of a path that stands in the table.
use Rattle.std.proofs.Common.{◌^◌}
use Rattle.dw_base.specs.declared.debug_sections.DebugSection.TheVariants.{LineStr, Str}
use Rattle.dw_lines.specs.NewTexts.{text_known, texts_known}
use Rattle.dw_lines.specs.ViewSources.{view_source}
use Rattle.dw_lines.proofs.PathMoveLaws.{inline-fits, inline-next}
use Rattle.dw_lines.proofs.moves.pass_text.Goals as goal

pub pass_other-requires-clause-fits : goal.pass_other-requires-clause-fits
pass_other-requires-clause-fits c =
    inline-fits c.args.view.now c.args.section c.args.maps.now (text_known (view_source c.args.view.now c.args.section) (texts_known c.args.texts.now Str) (texts_known c.args.texts.now LineStr)) c.args.width
    c.args.text.now c.args.at c.bytes.result.now c.bytes_at-old.result.now c.map_len-len.result (2 ^ 64) c.if-text-section.true c.if-not-text.false c.bytes.ensures.bytes c.bytes_at-old.ensures.bytes
    c.map_len-len.ensures.value c.requires.fits

pub returns-then-text-section-clause-next : goal.returns-then-text-section-clause-next
returns-then-text-section-clause-next c =
    inline-next c.args.view.now c.args.section c.args.maps.now (text_known (view_source c.args.view.now c.args.section) (texts_known c.args.texts.now Str) (texts_known c.args.texts.now LineStr)) c.args.width
    c.args.text.now c.args.at c.in_ok-next.next c.bytes.result.now c.bytes_at-old.result.now c.map_len-len.result c.if-text-section.true c.if-not-text.false c.bytes.ensures.bytes c.bytes_at-old.ensures.bytes
    c.map_len-len.ensures.value c.in_ok-next.ensures.next
