use Rattle.std.proofs.Common.{◌≤◌, length}
use Rattle.dw_unit_fields.proofs.EntryTextLaws.{ValuesPassed}
use Rattle.dw_unit_fields.proofs.texts.read_entry.Given as goal

abbrev pub invariant-loop-spec : goal.invariant-loop-spec
invariant-loop-spec l = record {
  within : l.place ≤ length l.bytes;
  passed : ValuesPassed l.texts l.unit.params l.bytes l.number l.tag l.specs l.from l.spec-index l.place l.fn.found l.found;
}
