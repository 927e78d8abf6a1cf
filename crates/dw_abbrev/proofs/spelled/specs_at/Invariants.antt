use Rattle.std.proofs.Common.{◌-◌, ◌≤◌, length}
use Rattle.dw_base.specs.AbbreviationTables.{SpellsSpecs}
use Rattle.dw_abbrev.proofs.spelled.specs_at.Given as goal

-- the attributes so far stand from the first place up to this one
abbrev pub invariant-specs : goal.invariant-specs
invariant-specs l = record { after : l.at ≤ l.place; within : l.place ≤ length l.bytes; spelled : SpellsSpecs l.bytes l.at l.specs.items l.place }

abbrev pub decreases-specs : goal.decreases-specs
decreases-specs l = length l.bytes - l.place
