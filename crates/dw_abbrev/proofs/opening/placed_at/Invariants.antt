use Rattle.std.proofs.Common.{◌-◌, ◌≤◌, length}
use Rattle.dw_abbrev.specs.Spots.{RestsSpell}
use Rattle.dw_abbrev.proofs.opening.placed_at.Given as goal

-- from each place on so far the attributes stand up to this one
abbrev pub invariant-specs : goal.invariant-specs
invariant-specs l = record { within : l.place ≤ length l.bytes; rests : RestsSpell l.bytes l.places.items l.specs.items l.place }

abbrev pub decreases-specs : goal.decreases-specs
decreases-specs l = length l.bytes - l.place
