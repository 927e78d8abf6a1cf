use Rattle.std.proofs.Common.{◌≡◌, drop}
use Rattle.debug_link.specs.Sums.{with_bytes}
use Rattle.debug_link.proofs.sum.divide_bytes.Given as goal

-- the bytes that are left
abbrev pub invariant-bytes : goal.invariant-bytes
invariant-bytes l = with_bytes (drop l.byte-index l.bytes) l.rest ≡ with_bytes l.bytes l.fn.start
