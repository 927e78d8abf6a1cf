-- The new offsets so far fit, and one that doesn't.
use Rattle.std.proofs.Common.{sym}
use Rattle.dw_base.specs.declared.debug_sections.DebugSection.TheVariants.{LineStr, Str}
use Rattle.dw_lines.specs.NewTexts.{text_known, texts_known}
use Rattle.dw_lines.specs.ViewSources.{view_source}
use Rattle.dw_lines.proofs.ChangeLaws.{fit-more, offset-wide}
use Rattle.dw_lines.proofs.changes.check_offsets.Goals as goal

pub returns-then-not-offset_fits-clause-refused : goal.returns-then-not-offset_fits-clause-refused
returns-then-not-offset_fits-clause-refused c =
    offset-wide c.args.section c.args.width (text_known (view_source c.args.view.now c.args.section) (texts_known c.args.texts.now Str) (texts_known c.args.texts.now LineStr)) c.args.all.now c.loop-text.text-index _
    c.new_place-place.result c.at.result c.loop-text-test.true c.new_place-place.ensures.place (sym c.if-not-offset_fits.ensures.fits) c.at.ensures

pub loop-text-preserved : goal.loop-text-preserved
loop-text-preserved c = record {
  fit = fit-more c.args.section c.args.width (text_known (view_source c.args.view.now c.args.section) (texts_known c.args.texts.now Str) (texts_known c.args.texts.now LineStr)) c.args.all.now c.loop-text.text-index _
      c.new_place-place.result c.loop-text.invariant.fit c.loop-text-test.true c.new_place-place.ensures.place (sym c.if-not-offset_fits.ensures.fits);
}
