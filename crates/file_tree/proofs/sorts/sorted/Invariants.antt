use Rattle.std.proofs.Common.{vec_len}
use Rattle.file_tree.proofs.SortLaws.{Sorting}
use Rattle.file_tree.proofs.sorts.sorted.Given as goal

abbrev pub invariant-loop-path : goal.invariant-loop-path
invariant-loop-path l = Sorting l.fn.nodes.items l.nodes.items l.places.items

abbrev pub decreases-loop-path : goal.decreases-loop-path
decreases-loop-path l = vec_len l.nodes
