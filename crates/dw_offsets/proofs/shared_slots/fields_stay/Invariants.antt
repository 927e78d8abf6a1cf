use Rattle.dw_offsets.proofs.SharedSlotLaws.{StayPassed}
use Rattle.dw_offsets.proofs.shared_slots.fields_stay.Given as goal

abbrev pub invariant-loop-field : goal.invariant-loop-field
invariant-loop-field l = StayPassed l.maps l.table l.marks l.fields l.field-index
