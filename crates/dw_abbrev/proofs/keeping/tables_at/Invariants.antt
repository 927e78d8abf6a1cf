use Rattle.std.specs.HashMap.{get}
use Rattle.std.specs.Prelude.{nat_eq}
use Rattle.dw_abbrev.specs.Kept.{AllKept, AreKept}
use Rattle.dw_abbrev.specs.Spots.{AreSpots}
use Rattle.dw_abbrev.proofs.keeping.tables_at.Given as goal

-- what is kept so far
abbrev pub invariant-loop-index : goal.invariant-loop-index
invariant-loop-index l = record {
  tails : AreKept l.bytes (λ o. get nat_eq l.tails o);
  spots : AreSpots l.bytes (λ o. get nat_eq l.spots o);
  kept : AllKept l.bytes l.kept.items;
}
