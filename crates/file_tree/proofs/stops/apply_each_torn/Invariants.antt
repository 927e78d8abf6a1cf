use Rattle.std.proofs.Common.{◌≡◌, true, drop, map}
use Rattle.file_tree.specs.Trees.{after_changes}
use Rattle.file_tree.specs.Images.{torn_change}
use Rattle.file_tree.specs.Logs.{tree_of, are_sorted}
use Rattle.file_tree.proofs.stops.apply_each_torn.Given as goal

abbrev pub invariant-loop-i : goal.invariant-loop-i
invariant-loop-i l = record {
  tree : after_changes (tree_of l.places.items) (map (torn_change l.torn) (map (λ c. c.now) (drop l.i l.changes))) ≡ after_changes (tree_of l.initial.places.items) (map (torn_change l.torn) (map (λ c. c.now) l.changes));
  sorted : are_sorted l.places.items ≡ true;
}
