use Rattle.dw_lines.specs.ViewSources.{view_source}
use Rattle.dw_rewrite.proofs.LineWriteLaws.{WritePass}
use Rattle.dw_base.specs.declared.debug_sections.DebugSection.TheVariants.{Str, LineStr}
use Rattle.dw_lines.specs.NewTexts.{texts_known}
use Rattle.dw_rewrite.proofs.lines.written_tables.Given as goal

abbrev pub invariant-loop-table : goal.invariant-loop-table
invariant-loop-table l =
    WritePass l.maps (view_source l.view l.section) (texts_known l.new_texts Str) (texts_known l.new_texts LineStr) l.tables l.bytes.items l.starts.items l.table-index
