-- What is written, and the names that are left, are all.
use Rattle.std.proofs.Common.{◌≡◌, ◌++◌, drop}
use Rattle.std.specs.List.{flat_map}
use Rattle.dbg_run.proofs.SourceLaws.{ended_name}
use Rattle.dbg_run.proofs.sources.names_text.Given as goal

abbrev pub invariant-loop-name : goal.invariant-loop-name
invariant-loop-name l = l.text.items ++ flat_map ended_name (drop l.name-index l.names) ≡ flat_map ended_name l.names
