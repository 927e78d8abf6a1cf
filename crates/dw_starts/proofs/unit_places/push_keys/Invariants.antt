use Rattle.dw_starts.proofs.UnitPlaceLaws.{KeysPushed}
use Rattle.dw_starts.proofs.unit_places.push_keys.Given as goal

abbrev pub invariant-loop-unit : goal.invariant-loop-unit
invariant-loop-unit l = KeysPushed l.fn.keys.items l.units l.unit-index l.keys.items
