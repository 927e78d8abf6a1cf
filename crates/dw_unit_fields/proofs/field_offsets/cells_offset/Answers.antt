-- The field lies in the section.
use Rattle.dw_unit_fields.proofs.FieldOffsetLaws.{field-inside}
use Rattle.dw_unit_fields.proofs.field_offsets.cells_offset.Goals as goal

pub offset_at-requires-clause-inside : goal.offset_at-requires-clause-inside
offset_at-requires-clause-inside c = field-inside c.args.view.now c.args.section c.args.at c.args.size c.requires.lies
