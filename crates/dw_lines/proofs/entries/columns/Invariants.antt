use Rattle.dw_lines.specs.ViewSources.{view_source}
use Rattle.dw_lines.proofs.EntryTextLaws.{ColumnsFrom}
use Rattle.dw_lines.proofs.entries.columns.Given as goal

-- the columns that are left, and their texts, stand behind those so far
abbrev pub invariant-loop-spec : goal.invariant-loop-spec
invariant-loop-spec l =
    record { from : ColumnsFrom (view_source l.view l.section) l.header l.table l.specs l.place l.fn.texts.items l.texts.items l.spec-index l.entry }
