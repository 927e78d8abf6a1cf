-- The field lies in the section.
use Rattle.dw_unit_fields.proofs.FieldOffsetLaws.{field-lies}
use Rattle.dw_unit_fields.proofs.field_offsets.section_offset.Goals as goal

pub cells_offset-requires-clause-lies : goal.cells_offset-requires-clause-lies
cells_offset-requires-clause-lies c = field-lies c.args.view.now c.args.section c.args.field c.requires.field
