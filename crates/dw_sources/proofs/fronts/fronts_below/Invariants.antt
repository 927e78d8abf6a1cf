-- The fronts of the pairs so far.
use Rattle.std.proofs.Common.{◌≡◌, map, take}
use Rattle.dw_sources.specs.KeptNames.{bytes_of, front_of}
use Rattle.dw_sources.proofs.fronts.fronts_below.Given as goal

abbrev pub invariant-loop-pair : goal.invariant-loop-pair
invariant-loop-pair l = map bytes_of l.fronts.items ≡ map (λ p. front_of p.base) (take l.pair-index l.pairs)
