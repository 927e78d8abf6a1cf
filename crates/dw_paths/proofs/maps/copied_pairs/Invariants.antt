-- The copies so far, and the pairs that are left, are all.
use Rattle.std.proofs.Common.{◌≡◌, ◌++◌, drop}
use Rattle.dw_paths.proofs.maps.copied_pairs.Given as goal

abbrev pub invariant-pairs : goal.invariant-pairs
invariant-pairs l = l.copies.items ++ drop l.pair-index l.pairs ≡ l.pairs
