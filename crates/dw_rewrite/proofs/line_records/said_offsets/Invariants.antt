use Rattle.dw_rewrite.proofs.LineOffsetLaws.{SaidPass}
use Rattle.dw_rewrite.proofs.line_records.said_offsets.Given as goal

abbrev pub invariant-loop-field : goal.invariant-loop-field
invariant-loop-field l = SaidPass l.lines.cells l.fields l.offsets l.field-index
