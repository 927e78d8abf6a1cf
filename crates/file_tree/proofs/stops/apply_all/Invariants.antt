use Rattle.std.proofs.Common.{◌≡◌, true, drop, map}
use Rattle.file_tree.specs.Trees.{after_changes}
use Rattle.file_tree.specs.Logs.{tree_of, are_sorted}
use Rattle.file_tree.proofs.stops.apply_all.Given as goal

abbrev pub invariant-loop-i : goal.invariant-loop-i
invariant-loop-i l = record {
  tree : after_changes (tree_of l.places.items) (map (λ c. c.now) (drop l.i l.changes.items)) ≡ after_changes (tree_of l.initial.places.items) (map (λ c. c.now) l.changes.items);
  sorted : are_sorted l.places.items ≡ true;
}
