use Rattle.std.proofs.Common.{◌≤◌, drop, length}
use Rattle.std.specs.HashMap.{get}
use Rattle.std.specs.Prelude.{nat_eq, IfNone, IfSome}
use Rattle.dw_forms.specs.Fixed.{HasNoSize, IsSizeOf}
use Rattle.dw_abbrev.specs.Spots.{AreSpots}
use Rattle.dw_abbrev.proofs.opening.keep_rests.Given as goal

-- the size of those from a number on, and what is kept so far
abbrev pub invariant-rests : goal.invariant-rests
invariant-rests l = record {
  inside : l.from ≤ length l.places;
  size : IfSome l.size (IsSizeOf (drop l.from l.list.value.items));
  none : IfNone l.size (HasNoSize (drop l.from l.list.value.items));
  spots : AreSpots l.bytes (λ o. get nat_eq l.spots o);
}

abbrev pub decreases-rests : goal.decreases-rests
decreases-rests l = l.from
