use Rattle.std.proofs.Common.{◌≡◌, ◌++◌, drop, map}
use Rattle.std.specs.List.{filter}
use Rattle.std.specs.String.{string_bytes}
use Rattle.file_tree.specs.Trees.{is_below}
use Rattle.file_tree.specs.Logs.{paths_of}
use Rattle.file_tree.proofs.looks.paths_below.Given as goal

abbrev pub invariant-loop-i : goal.invariant-loop-i
invariant-loop-i l = map string_bytes l.paths.items ++ filter (is_below l.fn.folder) (paths_of (drop l.i l.places.items)) ≡ filter (is_below l.fn.folder) (paths_of l.places.items)
