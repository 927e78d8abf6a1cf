use Rattle.std.specs.HashMap.{get}
use Rattle.std.specs.Prelude.{nat_eq}
use Rattle.dw_abbrev.specs.Kept.{AreKept}
use Rattle.dw_abbrev.proofs.tails.keep_tails.Given as goal

-- what is kept so far
abbrev pub invariant-loop-from : goal.invariant-loop-from
invariant-loop-from l = AreKept l.bytes (λ o. get nat_eq l.tails o)
