use Rattle.std.proofs.Common.{◌≤◌, length, drop}
use Rattle.dw_abbrev.specs.QuietSpecs.{AllQuiet}
use Rattle.dw_abbrev.proofs.quiet.quiet_from.Given as goal

-- the attributes behind so many are quiet
abbrev pub invariant-specs : goal.invariant-specs
invariant-specs l = record { within : l.count ≤ length l.specs; quiet : AllQuiet (drop l.count l.specs) }

abbrev pub decreases-specs : goal.decreases-specs
decreases-specs l = l.count
