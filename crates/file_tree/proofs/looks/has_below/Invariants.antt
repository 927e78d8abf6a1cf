use Rattle.std.proofs.Common.{◌≡◌, drop}
use Rattle.std.specs.List.{list_any}
use Rattle.file_tree.specs.Trees.{is_below}
use Rattle.file_tree.specs.Logs.{paths_of}
use Rattle.file_tree.proofs.looks.has_below.Given as goal

abbrev pub invariant-loop-i : goal.invariant-loop-i
invariant-loop-i l = list_any (is_below l.fn.folder) (paths_of (drop l.i l.places.items)) ≡ list_any (is_below l.fn.folder) (paths_of l.places.items)
