-- A field is one of those that rise, and one more is in the list.
use Rattle.std.proofs.Common.{arith}
use Rattle.std.proofs.lemmas.Bool.{OnFalse_at, OnTrue_at}
use Rattle.std.proofs.lemmas.List.{get_or_default}
use Rattle.dw_rewrite.proofs.LineOffsetLaws.{inside-at, miss-at, said-more, said-other, sized-there}
use Rattle.dw_rewrite.proofs.line_records.said_offsets.Goals as goal

pub field_makes-requires-clause-sized : goal.field_makes-requires-clause-sized
field_makes-requires-clause-sized c =
    sized-there c.loop-field.field-index _ c.args.fields.now c.requires.sized (omega arith) (get_or_default c.args.fields.now c.loop-field.field-index _ _ (omega arith))

pub field_makes-requires-clause-inside : goal.field_makes-requires-clause-inside
field_makes-requires-clause-inside c =
    inside-at _ c.loop-field.field-index _ c.args.fields.now c.requires.inside (omega arith) (get_or_default c.args.fields.now c.loop-field.field-index _ _ (omega arith))

pub returns-then-not-field_makes-clause-refused : goal.returns-then-not-field_makes-clause-refused
returns-then-not-field_makes-clause-refused c =
    miss-at c.args.section c.args.lines.now.cells c.loop-field.field-index _ c.args.fields.now _ (omega arith) (get_or_default c.args.fields.now c.loop-field.field-index _ _ (omega arith))
    (OnFalse_at c.if-not-field_makes.true c.field_makes.ensures.misses) c.at.ensures

pub add-requires-clause-size : goal.add-requires-clause-size
add-requires-clause-size c =
    sized-there c.loop-field.field-index _ c.args.fields.now c.requires.sized (omega arith) (get_or_default c.args.fields.now c.loop-field.field-index _ _ (omega arith))

pub add-requires-clause-other : goal.add-requires-clause-other
add-requires-clause-other c =
    said-other c.args.lines.now.cells c.args.fields.now c.loop-field.offsets c.loop-field.field-index _ c.loop-field.invariant c.requires.rise (omega arith)
    (get_or_default c.args.fields.now c.loop-field.field-index _ _ (omega arith))

pub loop-field-preserved : goal.loop-field-preserved
loop-field-preserved c =
    said-more c.args.lines.now.cells c.args.fields.now c.loop-field.offsets c.add.new.self c.loop-field.field-index _ c.loop-field.invariant (omega arith)
    (get_or_default c.args.fields.now c.loop-field.field-index _ _ (omega arith)) (OnTrue_at c.if-not-field_makes.false c.field_makes.ensures.makes) c.in_ok-add.ensures.added
