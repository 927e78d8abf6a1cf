use Rattle.std.proofs.Common.{◌≡◌, ℕ, List, take}
use Rattle.dw_base.specs.declared.debug_sections.DebugSection.TheVariants.{LineStr, Str}
use Rattle.dw_base.specs.FileViews.{section_bytes}
use Rattle.dw_lines.specs.ChangeSteps.{after_changes}
use Rattle.dw_base.specs.TextLineChanges.{texts_changes}
use Rattle.dw_lines.specs.NewTexts.{text_known, texts_known}
use Rattle.dw_lines.specs.ViewSources.{view_source}
use Rattle.dw_lines.proofs.changes.put_texts.Given as goal

-- what is written is what becomes of the texts so far
abbrev pub invariant-loop-text : goal.invariant-loop-text
invariant-loop-text l = record {
  put : ◌≡◌ {A = List ℕ × ℕ} (l.out.items, l.place) (after_changes (section_bytes l.view l.section) (l.fn.out.items, l.from)
      (texts_changes (view_source l.view l.section) l.maps (text_known (view_source l.view l.section) (texts_known l.texts Str) (texts_known l.texts LineStr)) l.width (take l.text-index l.all)));
}
