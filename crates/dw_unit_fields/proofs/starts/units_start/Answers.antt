-- One field more, one that says none, and one that can't be read.
use Rattle.std.proofs.Common.{arith}
use Rattle.std.proofs.lemmas.List.{get_or_default}
use Rattle.std.proofs.lemmas.Result.{err_from_is_err_and}
use Rattle.dw_base.specs.FileViews.{view_cells}
use Rattle.dw_unit_fields.specs.NamedStarts.{says_unit}
use Rattle.dw_unit_fields.proofs.StartLaws.{fields-all, fields-more, fields-none, fields-refused, fields-unread}
use Rattle.dw_unit_fields.proofs.starts.units_start.Goals as goal

pub returns-in_err-unit_starts-clause-refused : goal.returns-in_err-unit_starts-clause-refused
returns-in_err-unit_starts-clause-refused c =
    let p = err_from_is_err_and c.from_residual.result c.from_residual.ensures.1 in
    rw (p.1, p.2) (fields-unread c.args.view.now.order c.args.section (view_cells c.args.view.now c.args.section) (says_unit c.args.view.now.order c.args.places.now) c.args.fields.now c.loop-field.field-index _
    c.in_err-unit_starts.field-0.0 (omega arith) (get_or_default c.args.fields.now c.loop-field.field-index _ _ (omega arith)) c.in_err-unit_starts.ensures.refused)

pub returns-then-not-branch-clause-refused : goal.returns-then-not-branch-clause-refused
returns-then-not-branch-clause-refused c =
    fields-refused c.args.view.now.order c.args.section (view_cells c.args.view.now c.args.section) (says_unit c.args.view.now.order c.args.places.now) c.args.fields.now c.loop-field.field-index _ c.in_ok-unit_starts.field-0
    c.stray.result (omega arith) (get_or_default c.args.fields.now c.loop-field.field-index _ _ (omega arith)) c.in_ok-unit_starts.ensures.placed c.in_ok-unit_starts.ensures.says c.if-not-branch.true c.stray.ensures

pub loop-field-init : goal.loop-field-init
loop-field-init c = fields-none (says_unit c.args.view.now.order c.args.places.now) (view_cells c.args.view.now c.args.section) c.args.fields.now

pub loop-field-preserved : goal.loop-field-preserved
loop-field-preserved c =
    fields-more (says_unit c.args.view.now.order c.args.places.now) (view_cells c.args.view.now c.args.section) c.args.fields.now c.loop-field.field-index _ c.in_ok-unit_starts.field-0 c.loop-field-test.true
    (get_or_default c.args.fields.now c.loop-field.field-index _ _ c.loop-field-test.true) c.in_ok-unit_starts.ensures.says c.if-not-branch.false c.loop-field.invariant

pub returns-clause-starts : goal.returns-clause-starts
returns-clause-starts c =
    fields-all (says_unit c.args.view.now.order c.args.places.now) (view_cells c.args.view.now c.args.section) c.args.fields.now c.loop-field.field-index c.loop-field-test.false c.loop-field.invariant
