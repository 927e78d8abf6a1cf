use Rattle.dw_attrs.proofs.IndexEntryLaws.{Kept}
use Rattle.dw_attrs.proofs.entry_index.entry_places.Given as goal

-- the places of the entries so far are kept
abbrev pub invariant-loop-entry : goal.invariant-loop-entry
invariant-loop-entry l = Kept l.view l.unit l.table l.entry-iterator l.places.items
