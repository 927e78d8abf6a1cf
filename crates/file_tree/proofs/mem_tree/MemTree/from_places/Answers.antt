use Rattle.std.proofs.Common.{◌∙◌}
use Rattle.file_tree.proofs.SortLaws.{sorted_copy}
use Rattle.file_tree.proofs.mem_tree.MemTree.from_places.Goals as goal

pub invariant_of-result-clause-began_in_order : goal.invariant_of-result-clause-began_in_order
invariant_of-result-clause-began_in_order c = sorted_copy _ _ c.in_ok-first.ensures ∙ c.requires
