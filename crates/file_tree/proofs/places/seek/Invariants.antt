use Rattle.std.proofs.Common.{◌≡◌, ◌≤◌, ◌<◌, ◌-◌, true, vec_len}
use Rattle.file_tree.specs.Logs.{entries_of}
use Rattle.file_tree.specs.Places.{rank, stands}
use Rattle.file_tree.proofs.places.seek.Given as goal

abbrev pub invariant-loop-first : goal.invariant-loop-first
invariant-loop-first l = record {
  there : l.end ≤ vec_len l.places;
  least : l.first ≤ rank l.path (entries_of l.places.items);
  most : rank l.path (entries_of l.places.items) ≤ l.end;
  inside : stands l.path (entries_of l.places.items) ≡ true → rank l.path (entries_of l.places.items) < l.end;
}

abbrev pub decreases-loop-first : goal.decreases-loop-first
decreases-loop-first l = l.end - l.first
