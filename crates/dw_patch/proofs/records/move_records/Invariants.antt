-- The records so far are put in.
use Rattle.std.proofs.Common.{◌≡◌, length}
use Rattle.dw_patch.specs.RecordMoves.{AreAhead, records_moved}
use Rattle.dw_patch.proofs.records.move_records.Given as goal

abbrev pub invariant-loop-index : goal.invariant-loop-index
invariant-loop-index l = record {
  moved : l.out ≡ records_moved l.source l.runs l.fields l.index;
  ahead : AreAhead l.source l.index l.out;
  long : length l.out ≡ length l.source.table;
}
