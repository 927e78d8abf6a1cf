-- The names so far are gathered, and the tree was only looked at.
use Rattle.std.proofs.Common.{map, take, ◌≤◌}
use Rattle.file_tree.specs.Seen.{now_of}
use Rattle.work_texts.specs.Lists.{bytes_of}
use Rattle.root_paths.specs.Looks.{Looked}
use Rattle.src_gather.specs.Gathering.{Gathers}
use Rattle.src_gather.proofs.noting.gather_names.Given as goal

abbrev pub invariant-loop-i : goal.invariant-loop-i
invariant-loop-i g l = record {
  looked : Looked (g.T.Tree.seen l.initial.tree) (g.T.Tree.seen l.tree);
  gathers : Gathers (now_of (g.T.Tree.seen l.initial.tree)) l.root l.from l.dest (take l.i (map bytes_of l.names)) l.gathered;
  few : l.gathered.missing ≤ l.i;
}
