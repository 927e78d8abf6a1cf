use Rattle.std.proofs.Common.{◌≡◌, ◌++◌, drop}
use Rattle.file_tree.specs.Logs.{entries_of}
use Rattle.file_tree.proofs.sorts.copies.Given as goal

abbrev pub invariant-loop-i : goal.invariant-loop-i
invariant-loop-i l = entries_of l.copy.items ++ entries_of (drop l.i l.places.items) ≡ entries_of l.places.items
