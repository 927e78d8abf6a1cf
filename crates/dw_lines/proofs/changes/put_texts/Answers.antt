-- What becomes of one more text, and of all.
use Rattle.dw_base.specs.declared.debug_sections.DebugSection.TheVariants.{LineStr, Str}
use Rattle.std.proofs.Common.{refl}
use Rattle.dw_lines.specs.NewTexts.{text_known, texts_known}
use Rattle.dw_lines.specs.ViewSources.{view_source}
use Rattle.dw_lines.proofs.ChangeLaws.{put-more, put-over}
use Rattle.dw_lines.proofs.changes.put_texts.Goals as goal

pub loop-text-preserved : goal.loop-text-preserved
loop-text-preserved c = record {
  put = put-more (view_source c.args.view.now c.args.section) c.args.maps.now (text_known (view_source c.args.view.now c.args.section) (texts_known c.args.texts.now Str) (texts_known c.args.texts.now LineStr)) c.args.width c.args.all.now
      c.loop-text.text-index _ _ c.args.out.now.items c.loop-text.out.items c.put_text.new.out.items c.args.from c.loop-text.place c.in_ok-place.place c.loop-text.invariant.put c.loop-text-test.true refl
      c.in_ok-place.ensures.put;
}

pub returns : goal.returns
returns c = record {
  put = put-over (view_source c.args.view.now c.args.section) c.args.maps.now (text_known (view_source c.args.view.now c.args.section) (texts_known c.args.texts.now Str) (texts_known c.args.texts.now LineStr)) c.args.width c.args.all.now
      c.args.out.now.items c.loop-text.out.items c.args.from c.loop-text.place c.loop-text.text-index c.loop-text.invariant.put c.loop-text-test.false;
}
