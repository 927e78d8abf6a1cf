-- The field lies in the section.
use Rattle.dw_unit_fields.proofs.FieldOffsetLaws.{field-inside}
use Rattle.dw_rewrite.proofs.sources.number_there.Goals as goal

pub moved_number-number-requires-clause-inside : goal.moved_number-number-requires-clause-inside
moved_number-number-requires-clause-inside c = field-inside c.args.view.now c.args.section c.args.field.at c.args.field.size c.requires.inside
