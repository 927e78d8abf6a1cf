use Rattle.dw_lines.proofs.FieldLaws.{EntriesGo}
use Rattle.dw_lines.specs.ViewSources.{view_source}
use Rattle.dw_lines.proofs.fields.push_entries.Given as goal

-- the offsets so far and those of the entries that are left
abbrev pub invariant-entries : goal.invariant-entries
invariant-entries l = record { go : EntriesGo (view_source l.view l.section) l.header l.table l.specs l.place l.left l.fn.places.items l.places.items l.next }

abbrev pub decreases-entries : goal.decreases-entries
decreases-entries l = l.left
