use Rattle.dw_lines.proofs.EntryLaws.{EntriesFrom}
use Rattle.dw_lines.proofs.EntryTextLaws.{TextsFrom}
use Rattle.dw_lines.specs.ViewSources.{view_source}
use Rattle.dw_lines.proofs.entries.counted_entries.Given as goal

-- the entries that are left, and their texts, stand behind those so far
abbrev pub invariant-entries : goal.invariant-entries
invariant-entries l = record {
  read : EntriesFrom (view_source l.view l.section) l.header l.table l.specs l.place l.left l.files.items l.next;
  texts : TextsFrom (view_source l.view l.section) l.header l.table l.specs l.place l.left l.next l.fn.texts.items l.texts.items;
}

abbrev pub decreases-entries : goal.decreases-entries
decreases-entries l = l.left
