use Rattle.std.specs.HashMap.{get}
use Rattle.std.specs.Prelude.{nat_eq}
use Rattle.dw_abbrev.specs.Spots.{AreSpots}
use Rattle.dw_abbrev.proofs.opening.open_all.Given as goal

-- what is kept so far
abbrev pub invariant-loop-place : goal.invariant-loop-place
invariant-loop-place l = AreSpots l.bytes (λ o. get nat_eq l.spots o)
