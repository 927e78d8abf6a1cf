-- No new path lies below those so far.
use Rattle.std.proofs.Common.{map}
use Rattle.std.specs.String.{string_bytes}
use Rattle.root_paths.proofs.TakenLaws.{NoneTo}
use Rattle.root_paths.proofs.taken.check_present.Given as goal

abbrev pub invariant-loop-path : goal.invariant-loop-path
invariant-loop-path l = NoneTo (map string_bytes l.news) (map string_bytes l.present) l.path-index
