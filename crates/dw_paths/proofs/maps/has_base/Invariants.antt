-- No pair so far has the base.
use Rattle.std.proofs.Common.{◌≡◌, drop}
use Rattle.dw_base.specs.Paths.{has_base}
use Rattle.dw_paths.proofs.maps.has_base.Given as goal

abbrev pub invariant-pairs : goal.invariant-pairs
invariant-pairs l = has_base (drop l.pair-index l.pairs) l.base ≡ has_base l.pairs l.base
