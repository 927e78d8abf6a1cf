use Rattle.dw_unit_fields.proofs.ScanTextLaws.{PassStands}
use Rattle.dw_unit_fields.proofs.units.read_entries.Given as goal

abbrev pub invariant-loop-entry : goal.invariant-loop-entry
invariant-loop-entry l = PassStands l.texts l.unit l.table l.bytes l.fn.found l.found l.entry-iterator l.number
