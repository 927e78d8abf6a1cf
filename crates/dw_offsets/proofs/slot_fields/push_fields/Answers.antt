-- A slot of a contribution that can't be taken refuses the contribution.
use Rattle.std.proofs.Common.{arith}
use Rattle.std.proofs.lemmas.Result.{err_from_is_err_and}
use Rattle.dw_offsets.proofs.PathSlotLaws.{contribution-next, contribution-refused}
use Rattle.dw_offsets.proofs.slot_fields.push_fields.Goals as goal

pub returns-in_err-push_field-clause-refused : goal.returns-in_err-push_field-clause-refused
returns-in_err-push_field-clause-refused c =
    let p = err_from_is_err_and c.from_residual.result c.from_residual.ensures.1 in
    rw (p.1, p.2) (contribution-refused c.args.table.now c.args.contribution c.loop-i.i _ _ c.slot_total-i-end.result _
    c.slot_start-at.ensures.start c.offset_size-size.ensures.size c.slot_total-i-end.ensures.total (omega arith) c.in_err-push_field.ensures.refused)

pub loop-i-preserved : goal.loop-i-preserved
loop-i-preserved c =
    contribution-next c.args.table.now c.args.marks.now c.args.contribution c.loop-i.i _ _ c.args.fields.now.items _ _
    c.slot_start-at.ensures.start c.offset_size-size.ensures.size c.loop-i.invariant c.in_ok-push_field.ensures.taken
