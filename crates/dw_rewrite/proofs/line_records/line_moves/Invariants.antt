use Rattle.dw_lines.specs.ViewSources.{view_source}
use Rattle.dw_rewrite.proofs.LineMoveLaws.{MovePass}
use Rattle.dw_base.specs.declared.debug_sections.DebugSection.TheVariants.{Str, LineStr}
use Rattle.dw_lines.specs.NewTexts.{texts_known}
use Rattle.dw_rewrite.proofs.line_records.line_moves.Given as goal

abbrev pub invariant-loop-i : goal.invariant-loop-i
invariant-loop-i l =
    MovePass l.maps (view_source l.view l.section) (texts_known l.new_texts Str) (texts_known l.new_texts LineStr) l.tables l.starts l.runs.items l.offsets.items l.i
