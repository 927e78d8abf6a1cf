use Rattle.std.proofs.Common.{[]}
use Rattle.dw_starts.proofs.UnitPlaceLaws.{KeysPushed}
use Rattle.dbg_show.proofs.macro_source.unit_keys.Given as goal

abbrev pub invariant-loop-unit : goal.invariant-loop-unit
invariant-loop-unit l = KeysPushed [] l.units l.unit-index l.keys.items
