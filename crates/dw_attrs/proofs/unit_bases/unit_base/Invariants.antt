use Rattle.dw_attrs.specs.UnitValues.{unit_bytes}
use Rattle.dw_attrs.proofs.EntryListLaws.{PassAt}
use Rattle.dw_attrs.proofs.unit_bases.unit_base.Given as goal

-- no entry was met
abbrev pub invariant-loop-entry : goal.invariant-loop-entry
invariant-loop-entry l = PassAt l.unit l.table (unit_bytes l.view l.unit) l.entry-iterator 0
