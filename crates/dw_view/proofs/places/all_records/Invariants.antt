-- The list has the relocations of the records so far.
use Rattle.dw_view.specs.Places.{ListsUpTo}
use Rattle.dw_view.proofs.places.all_records.Given as goal

abbrev pub invariant-loop-index : goal.invariant-loop-index
invariant-loop-index l = ListsUpTo l.source l.index l.list.items
