use Rattle.std.proofs.Common.{◌≡◌, map, take, false}
use Rattle.std.specs.String.{string_bytes}
use Rattle.work_journal.specs.Work.{has_path}
use Rattle.work_journal.proofs.opening.is_among.Given as goal

abbrev pub invariant-loop-i : goal.invariant-loop-i
invariant-loop-i l = has_path (take l.i (map string_bytes l.paths)) l.path ≡ false
