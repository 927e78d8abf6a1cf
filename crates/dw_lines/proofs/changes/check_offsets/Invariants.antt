use Rattle.dw_base.specs.declared.debug_sections.DebugSection.TheVariants.{LineStr, Str}
use Rattle.dw_lines.proofs.ChangeLaws.{FitUpTo}
use Rattle.dw_lines.specs.NewTexts.{text_known, texts_known}
use Rattle.dw_lines.specs.ViewSources.{view_source}
use Rattle.dw_lines.proofs.changes.check_offsets.Given as goal

-- the new offsets so far fit
abbrev pub invariant-loop-text : goal.invariant-loop-text
invariant-loop-text l = record {
  fit : FitUpTo l.section l.width (text_known (view_source l.view l.section) (texts_known l.texts Str) (texts_known l.texts LineStr)) l.all l.text-index;
}
