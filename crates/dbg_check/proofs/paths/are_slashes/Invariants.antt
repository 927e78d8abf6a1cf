-- The bytes so far are slashes.
use Rattle.std.proofs.Common.{◌≡◌, drop}
use Rattle.dbg_check.specs.Slashes.{only_slashes}
use Rattle.dbg_check.proofs.paths.are_slashes.Given as goal

abbrev pub invariant-bytes : goal.invariant-bytes
invariant-bytes l = only_slashes (drop l.byte-index l.bytes) ≡ only_slashes l.bytes
