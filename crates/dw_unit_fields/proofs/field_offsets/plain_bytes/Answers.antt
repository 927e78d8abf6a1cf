-- A relocation begins in the section.
use Rattle.dw_unit_fields.proofs.PlainLaws.{plain-begins}
use Rattle.dw_unit_fields.proofs.field_offsets.plain_bytes.Goals as goal

pub returns-in-Some-next_relocation-clause-none : goal.returns-in-Some-next_relocation-clause-none
returns-in-Some-next_relocation-clause-none c = plain-begins c.args.view.now c.args.section c.in-Some-next_relocation.field-0 c.in-Some-next_relocation.ensures.next
