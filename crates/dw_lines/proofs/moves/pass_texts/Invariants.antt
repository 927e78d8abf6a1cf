use Rattle.dw_base.specs.declared.debug_sections.DebugSection.TheVariants.{LineStr, Str}
use Rattle.dw_lines.specs.NewTexts.{text_known, texts_known}
use Rattle.dw_lines.specs.ViewSources.{view_source}
use Rattle.dw_lines.proofs.PathMoveLaws.{TextsPassed}
use Rattle.dw_lines.proofs.moves.pass_texts.Given as goal

-- what was passed so far, and what is left
abbrev pub invariant-loop-text : goal.invariant-loop-text
invariant-loop-text l = record {
  so : TextsPassed (view_source l.view l.section) l.maps (text_known (view_source l.view l.section) (texts_known l.texts Str) (texts_known l.texts LineStr)) l.width l.all l.fn.start l.at
      l.fn.runs.items l.runs.items l.fn.offsets.items l.offsets.items l.text-index;
}
