-- The stretches so far have their numbers.
use Rattle.std.proofs.Common.{◌+◌, ◌-◌, length}
use Rattle.dw_view.specs.Places.{IndexedUpTo}
use Rattle.dw_view.proofs.search.push_firsts.Given as goal

abbrev pub invariant-stretches : goal.invariant-stretches
invariant-stretches l = IndexedUpTo l.list l.i l.firsts.items

abbrev pub decreases-stretches : goal.decreases-stretches
decreases-stretches l = l.stretch + 1 - length l.firsts.items
