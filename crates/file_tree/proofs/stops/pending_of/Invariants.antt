use Rattle.std.proofs.Common.{◌≡◌, true, drop, map}
use Rattle.file_tree.specs.Images.{settled_state}
use Rattle.file_tree.specs.Pending.{states_by, pending_state}
use Rattle.file_tree.specs.Logs.{tree_of, are_sorted}
use Rattle.file_tree.proofs.stops.pending_of.Given as goal

abbrev pub invariant-loop-i : goal.invariant-loop-i
invariant-loop-i l = record {
  state : states_by (pending_state (tree_of l.places.items) (map (λ c. c.now) l.pending.items)) (drop l.i l.effects.items) ≡ states_by (settled_state (tree_of l.initial.places.items)) l.effects.items;
  sorted : are_sorted l.places.items ≡ true;
}
