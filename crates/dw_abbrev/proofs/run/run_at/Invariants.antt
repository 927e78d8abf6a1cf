use Rattle.std.proofs.Common.{◌-◌, length}
use Rattle.dw_base.specs.AbbreviationTables.{Declares}
use Rattle.dw_abbrev.specs.Coded.{IsCoded}
use Rattle.dw_abbrev.proofs.run.run_at.Given as goal

-- the abbreviations so far stand from the first place up to this one
abbrev pub invariant-table : goal.invariant-table
invariant-table l = record { declares : Declares l.bytes l.at l.list.items l.place; coded : IsCoded l.codes.keys l.list.items }

abbrev pub decreases-table : goal.decreases-table
decreases-table l = length l.bytes - l.place
