-- The format begins behind the end.
use Rattle.dw_lines.proofs.FormatLaws.{format-past}
use Rattle.dw_lines.proofs.formats.format_at.Goals as goal

pub returns-then-place-table-clause-refused : goal.returns-then-place-table-clause-refused
returns-then-place-table-clause-refused c = format-past c.args.table.now c.args.place c.args.refusal c.if-place-table.true
