-- The paths so far differ from the next one.
use Rattle.std.proofs.Common.{map}
use Rattle.std.specs.String.{string_bytes}
use Rattle.root_paths.proofs.TakenLaws.{ApartTo}
use Rattle.root_paths.proofs.taken.check_twice.Given as goal

abbrev pub invariant-loop-i : goal.invariant-loop-i
invariant-loop-i l = ApartTo (map string_bytes l.paths) l.i
