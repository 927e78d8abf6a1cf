-- A contribution that can't be taken refuses them all.
use Rattle.std.proofs.Common.{[], ◌+◌, refl, arith}
use Rattle.std.proofs.lemmas.Result.{err_from_is_err_and}
use Rattle.dw_offsets.proofs.PathSlotLaws.{all-more, all-refused}
use Rattle.dw_offsets.proofs.slot_fields.all_fields.Goals as goal

pub returns-in_err-push_fields-clause-refused : goal.returns-in_err-push_fields-clause-refused
returns-in_err-push_fields-clause-refused c =
    let p = err_from_is_err_and c.from_residual.result c.from_residual.ensures.1 in
    rw (p.1, p.2) (all-refused c.args.table.now c.args.list.now c.loop-contribution.contribution-index _ _ _
    (omega arith) refl c.in_err-push_fields.ensures.refused)

pub loop-contribution-preserved : goal.loop-contribution-preserved
loop-contribution-preserved c =
    all-more c.args.table.now c.args.marks.now c.args.list.now c.loop-contribution.contribution-index
    (c.loop-contribution.contribution-index + 1) _ _ [] c.loop-contribution.fields.items _ (omega arith) refl (omega arith)
    c.loop-contribution.invariant c.in_ok-push_fields.ensures.taken
