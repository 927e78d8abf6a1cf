-- The first text, one more, and no more.
use Rattle.dw_base.specs.declared.debug_sections.DebugSection.TheVariants.{LineStr, Str}
use Rattle.dw_lines.specs.NewTexts.{text_known, texts_known}
use Rattle.dw_lines.specs.ViewSources.{view_source}
use Rattle.dw_lines.proofs.PathMoveLaws.{texts-fit, texts-more, texts-next, texts-offsets, texts-order, texts-runs, texts-start}
use Rattle.dw_lines.proofs.moves.pass_texts.Goals as goal

pub pass_text-requires-clause-order : goal.pass_text-requires-clause-order
pass_text-requires-clause-order c =
    texts-order (view_source c.args.view.now c.args.section) c.args.maps.now (text_known (view_source c.args.view.now c.args.section) (texts_known c.args.texts.now Str) (texts_known c.args.texts.now LineStr))
    c.args.width c.args.all.now c.args.start c.loop-text.at c.args.runs.now.items c.loop-text.runs.items c.args.offsets.now.items c.loop-text.offsets.items c.loop-text.text-index _
    c.loop-text.invariant.so c.loop-text-test.true

pub pass_text-requires-clause-fits : goal.pass_text-requires-clause-fits
pass_text-requires-clause-fits c =
    texts-fit (view_source c.args.view.now c.args.section) c.args.maps.now (text_known (view_source c.args.view.now c.args.section) (texts_known c.args.texts.now Str) (texts_known c.args.texts.now LineStr))
    c.args.width c.args.all.now c.args.start c.loop-text.at c.args.runs.now.items c.loop-text.runs.items c.args.offsets.now.items c.loop-text.offsets.items c.loop-text.text-index _
    c.loop-text.invariant.so c.loop-text-test.true c.requires.fits

pub loop-text-preserved : goal.loop-text-preserved
loop-text-preserved c = record {
  so = texts-more (view_source c.args.view.now c.args.section) c.args.maps.now (text_known (view_source c.args.view.now c.args.section) (texts_known c.args.texts.now Str) (texts_known c.args.texts.now LineStr))
      c.args.width c.args.all.now c.args.start c.loop-text.at c.in_ok-at.at c.args.runs.now.items c.loop-text.runs.items c.pass_text.new.runs.items c.args.offsets.now.items
      c.loop-text.offsets.items c.pass_text.new.offsets.items c.loop-text.text-index _ c.loop-text.invariant.so c.loop-text-test.true c.in_ok-at.ensures.next c.in_ok-at.ensures.runs
      c.in_ok-at.ensures.offsets;
}

pub loop-text-init : goal.loop-text-init
loop-text-init c = record {
  so = texts-start (view_source c.args.view.now c.args.section) c.args.maps.now (text_known (view_source c.args.view.now c.args.section) (texts_known c.args.texts.now Str) (texts_known c.args.texts.now LineStr))
      c.args.width c.args.all.now c.args.start c.args.runs.now.items c.args.offsets.now.items c.requires.order;
}

pub returns-clause-next : goal.returns-clause-next
returns-clause-next c =
    texts-next (view_source c.args.view.now c.args.section) c.args.maps.now (text_known (view_source c.args.view.now c.args.section) (texts_known c.args.texts.now Str) (texts_known c.args.texts.now LineStr))
    c.args.width c.args.all.now c.args.start c.loop-text.at c.args.runs.now.items c.loop-text.runs.items c.args.offsets.now.items c.loop-text.offsets.items
    c.loop-text.text-index c.loop-text.invariant.so c.loop-text-test.false

pub returns-clause-runs : goal.returns-clause-runs
returns-clause-runs c =
    texts-runs (view_source c.args.view.now c.args.section) c.args.maps.now (text_known (view_source c.args.view.now c.args.section) (texts_known c.args.texts.now Str) (texts_known c.args.texts.now LineStr))
    c.args.width c.args.all.now c.args.start c.loop-text.at c.args.runs.now.items c.loop-text.runs.items c.args.offsets.now.items c.loop-text.offsets.items
    c.loop-text.text-index c.loop-text.invariant.so c.loop-text-test.false

pub returns-clause-offsets : goal.returns-clause-offsets
returns-clause-offsets c =
    texts-offsets (view_source c.args.view.now c.args.section) c.args.maps.now (text_known (view_source c.args.view.now c.args.section) (texts_known c.args.texts.now Str) (texts_known c.args.texts.now LineStr))
    c.args.width c.args.all.now c.args.start c.loop-text.at c.args.runs.now.items c.loop-text.runs.items c.args.offsets.now.items c.loop-text.offsets.items
    c.loop-text.text-index c.loop-text.invariant.so c.loop-text-test.false
