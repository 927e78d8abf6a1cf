use Rattle.dw_attrs.specs.UnitValues.{unit_bytes}
use Rattle.dw_attrs.proofs.EntryListLaws.{PassAt}
use Rattle.dbg_exercise.proofs.counting.unit_count.Given as goal

-- so many entries were given so far
abbrev pub invariant-loop-entry : goal.invariant-loop-entry
invariant-loop-entry l = PassAt l.unit l.table (unit_bytes l.view l.unit) l.entry-iterator l.count
