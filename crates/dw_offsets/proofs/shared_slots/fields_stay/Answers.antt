-- One field more, and one that is shared.
use Rattle.std.proofs.Common.{arith}
use Rattle.std.proofs.lemmas.List.{get_or_default}
use Rattle.std.proofs.lemmas.Result.{err_from_is_err_and}
use Rattle.dw_offsets.proofs.SharedSlotLaws.{field-refused, field-there, stay-more}
use Rattle.dw_offsets.proofs.shared_slots.fields_stay.Goals as goal

pub field_stays-requires : goal.field_stays-requires
field_stays-requires c = record {
  field = field-there c.args.table.now c.args.fields.now c.loop-field.field-index _ c.requires.fields (omega arith)
      (get_or_default c.args.fields.now c.loop-field.field-index _ _ (omega arith));
}

pub returns-in_err-field_stays-clause-refused : goal.returns-in_err-field_stays-clause-refused
returns-in_err-field_stays-clause-refused c =
    let p = err_from_is_err_and c.from_residual.result c.from_residual.ensures.1 in
    rw (p.1, p.2) (field-refused c.args.maps.now c.args.table.now c.args.marks.now c.args.fields.now c.loop-field.field-index _ c.in_err-field_stays.field-0.0 (omega arith)
    (get_or_default c.args.fields.now c.loop-field.field-index _ _ (omega arith)) c.in_err-field_stays.ensures.refused)

pub loop-field-preserved : goal.loop-field-preserved
loop-field-preserved c =
    stay-more c.args.maps.now c.args.table.now c.args.marks.now c.args.fields.now c.loop-field.field-index _ (omega arith)
    (get_or_default c.args.fields.now c.loop-field.field-index _ _ (omega arith)) c.in_ok-field_stays.ensures.stays c.loop-field.invariant
