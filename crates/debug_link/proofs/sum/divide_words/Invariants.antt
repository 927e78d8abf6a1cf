use Rattle.std.proofs.Common.{◌≡◌, length}
use Rattle.debug_link.specs.Sums.{with_bytes}
use Rattle.debug_link.proofs.sum.divide_words.Given as goal

-- the bytes that are left
abbrev pub invariant-words : goal.invariant-words
invariant-words l = with_bytes l.bytes l.rest ≡ with_bytes l.fn.bytes l.fn.start

abbrev pub decreases-words : goal.decreases-words
decreases-words l = length l.bytes
