use Rattle.dw_starts.proofs.UnitPlaceLaws.{AllKeys}
use Rattle.dw_starts.proofs.unit_places.unit_keys.Given as goal

abbrev pub invariant-loop-section : goal.invariant-loop-section
invariant-loop-section l = AllKeys l.macros l.section-index l.keys.items
