-- The loop's exits and its step.
use Rattle.dbg_words.specs.CommandLines.{look_of}
use Rattle.dbg_words.specs.Dashes.{awaits, ends_options, has_stray_dash, is_lone, is_short}
use Rattle.std.proofs.Common.{false, List, ℕ, ap, ◌∙◌}
use Rattle.dbg_words.proofs.StrayLaws.{stray_ends, stray_lone, stray_more, stray_none, stray_short, told}
use Rattle.dbg_words.specs.Words.{texts}
use Rattle.dbg_words.proofs.dashes.has_stray_dash.Goals as goal

pub returns-then-ends_options : goal.returns-then-ends_options
returns-then-ends_options c = record {
  value = stray_ends c.args.words.now c.loop-word.word-index c.loop-word.waits (has_stray_dash false (texts c.args.words.now)) c.loop-word.invariant c.word-item.result
      c.loop-word-test.true c.word-item.is (told ends_options c.as_bytes-word.ensures.value c.ends_options.ensures.value c.if-ends_options.true);
}

pub returns-then-is_short : goal.returns-then-is_short
returns-then-is_short c = record {
  value = stray_short c.args.words.now c.loop-word.word-index c.loop-word.waits (has_stray_dash false (texts c.args.words.now)) c.loop-word.invariant c.word-item.result
      c.loop-word-test.true c.word-item.is (told ends_options c.as_bytes-word.ensures.value c.ends_options.ensures.value c.if-ends_options.false)
      (told (λ text. is_short (look_of text)) c.as_bytes-word.ensures.value c.is_short.ensures.value c.if-is_short.true);
}

pub returns-then-is_lone : goal.returns-then-is_lone
returns-then-is_lone c = record {
  value = stray_lone c.args.words.now c.loop-word.word-index c.loop-word.waits (has_stray_dash false (texts c.args.words.now)) c.loop-word.invariant c.word-item.result
      c.loop-word-test.true c.word-item.is (told ends_options c.as_bytes-word.ensures.value c.ends_options.ensures.value c.if-ends_options.false)
      (told (λ text. is_lone c.loop-word.waits text) c.as_bytes-word.ensures.value c.is_lone.ensures.value c.if-is_lone.true);
}

pub loop-word-preserved : goal.loop-word-preserved
loop-word-preserved c =
    stray_more c.args.words.now c.loop-word.word-index c.loop-word.waits (has_stray_dash false (texts c.args.words.now)) c.loop-word.invariant c.word-item.result
    c.loop-word-test.true c.word-item.is c.awaits_value-waits.result (told ends_options c.as_bytes-word.ensures.value c.ends_options.ensures.value c.if-ends_options.false)
    (told (λ text. is_short (look_of text)) c.as_bytes-word.ensures.value c.is_short.ensures.value c.if-is_short.false)
    (told (λ text. is_lone c.loop-word.waits text) c.as_bytes-word.ensures.value c.is_lone.ensures.value c.if-is_lone.false)
    (c.awaits_value-waits.ensures.value ∙ ap (λ (text : List ℕ). awaits (look_of text)) c.as_bytes-word.ensures.value)

pub returns : goal.returns
returns c = record {
  value = stray_none c.args.words.now c.loop-word.word-index c.loop-word.waits (has_stray_dash false (texts c.args.words.now)) c.loop-word.invariant c.loop-word-test.false;
}
