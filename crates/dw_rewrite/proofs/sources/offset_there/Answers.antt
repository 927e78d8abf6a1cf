-- The field lies in the section.
use Rattle.dw_unit_fields.proofs.FieldOffsetLaws.{field-inside}
use Rattle.dw_rewrite.proofs.sources.offset_there.Goals as goal

pub value-value-requires-clause-inside : goal.value-value-requires-clause-inside
value-value-requires-clause-inside c = field-inside c.args.view.now c.args.section c.args.field.at c.args.field.size c.requires.inside
