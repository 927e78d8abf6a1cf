-- The paths so far are within the limit.
use Rattle.std.proofs.Common.{map}
use Rattle.std.specs.String.{string_bytes}
use Rattle.root_paths.proofs.TakenLaws.{ShortTo}
use Rattle.root_paths.proofs.taken.check_lengths.Given as goal

abbrev pub invariant-loop-path : goal.invariant-loop-path
invariant-loop-path l = ShortTo (map string_bytes l.paths) l.path-index
