-- The units so far say the same.
use Rattle.dbg_check.proofs.ListLaws.{SoFar}
use Rattle.dbg_check.specs.MacroSides.{unit_said}
use Rattle.dbg_check.specs.Parts.{MacroAgrees}
use Rattle.dbg_check.proofs.macros.first_other_macro_unit.Given as goal

abbrev pub invariant-loop-number : goal.invariant-loop-number
invariant-loop-number l = SoFar MacroAgrees (unit_said l.old) (unit_said l.new) l.units l.others l.number
