-- The longest front so far, and those that are left.
use Rattle.std.proofs.Common.{◌≡◌, drop, map}
use Rattle.dw_sources.specs.KeptNames.{bytes_of, front_len}
use Rattle.dw_sources.specs.LongestFronts.{greatest}
use Rattle.dw_sources.proofs.fronts.longest.Given as goal

abbrev pub invariant-loop-front : goal.invariant-loop-front
invariant-loop-front l = greatest l.found (front_len (map bytes_of (drop l.front-index l.fronts)) l.path) ≡ front_len (map bytes_of l.fronts) l.path
