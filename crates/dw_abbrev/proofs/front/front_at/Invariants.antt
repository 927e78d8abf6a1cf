use Rattle.std.proofs.Common.{◌-◌, length}
use Rattle.dw_base.specs.AbbreviationTables.{Declares}
use Rattle.dw_abbrev.specs.Coded.{IsCoded}
use Rattle.dw_abbrev.specs.Rests.{RestsDeclare}
use Rattle.dw_abbrev.proofs.front.front_at.Given as goal

-- the abbreviations so far stand from the first place up to this one, and so do their rests from their places
abbrev pub invariant-front : goal.invariant-front
invariant-front l = record {
  declares : Declares l.bytes l.at l.list.items l.place;
  coded : IsCoded l.codes.keys l.list.items;
  rests : RestsDeclare l.bytes l.places.items l.list.items l.place;
}

abbrev pub decreases-front : goal.decreases-front
decreases-front l = length l.bytes - l.place
