-- The pair that counts so far, and those that are left.
use Rattle.std.proofs.Common.{◌≡◌, drop}
use Rattle.std.specs.Prelude.{option_map}
use Rattle.dw_base.specs.Paths.{matching}
use Rattle.dw_paths.specs.CountingPairs.{longest_of}
use Rattle.dw_paths.proofs.maps.counting_of.Given as goal

abbrev pub invariant-pairs : goal.invariant-pairs
invariant-pairs l = longest_of (option_map (λ p. p.now) l.found) (matching (drop l.pair-index l.pairs) l.text) ≡ matching l.pairs l.text
