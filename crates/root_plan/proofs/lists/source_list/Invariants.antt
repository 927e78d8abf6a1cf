-- What is written, and the names that are left, are all.
use Rattle.std.proofs.Common.{◌≡◌, ◌++◌, drop}
use Rattle.std.specs.List.{flat_map}
use Rattle.root_plan.proofs.ListLaws.{ended_name}
use Rattle.root_plan.proofs.lists.source_list.Given as goal

abbrev pub invariant-loop-name : goal.invariant-loop-name
invariant-loop-name l = l.out.items ++ flat_map ended_name (drop l.name-index l.names) ≡ flat_map ended_name l.names
