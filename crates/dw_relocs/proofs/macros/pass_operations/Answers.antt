-- The first operation, one more, and the last.
use Rattle.std.proofs.Common.{refl, sym, ◌∙◌}
use Rattle.dw_base.specs.FileViews.{section_bytes}
use Rattle.dw_relocs.specs.FieldWalks.{ground_of}
use Rattle.dw_relocs.proofs.MacroPassLaws.{cells-there, operation-behind, operation-more, operation-next, operations-end, operations-start}
use Rattle.dw_relocs.proofs.macros.pass_operations.Goals as goal

pub operations-init : goal.operations-init
operations-init c =
    operations-start c.args.view.now.order (section_bytes c.args.view.now c.args.section) (ground_of c.args.view.now c.args.section) c.args.unit.now c.args.unit.now.first c.args.pass c.requires.left
    c.requires.stands refl

pub pass_field-now-requires-clause-next : goal.pass_field-now-requires-clause-next
pass_field-now-requires-clause-next c =
    operation-next c.args.view.now.order (section_bytes c.args.view.now c.args.section) (ground_of c.args.view.now c.args.section) c.args.unit.now c.operations.place c.in-Some.next c.in-Some.operation
    c.operation_field.result c.args.pass c.operations.now c.operations.invariant (sym c.in-Some.is ∙ c.more_at.ensures) c.operation_field.ensures

pub operations-preserved : goal.operations-preserved
operations-preserved c =
    operation-more c.args.view.now.order (section_bytes c.args.view.now c.args.section) (ground_of c.args.view.now c.args.section) c.args.unit.now c.operations.place c.in-Some.next c.in-Some.operation
    c.operation_field.result c.args.pass c.operations.now c.pass_field-now.result (cells-there c.args.view.now c.args.section) c.operations.invariant
    (sym c.in-Some.is ∙ c.more_at.ensures) c.operation_field.ensures c.pass_field-now.ensures.goes

pub operations-smaller : goal.operations-smaller
operations-smaller c =
    operation-behind c.args.view.now.order (section_bytes c.args.view.now c.args.section) (ground_of c.args.view.now c.args.section) c.args.unit.now c.operations.place c.in-Some.next c.in-Some.operation
    c.args.pass c.operations.now c.operations.invariant (sym c.in-Some.is ∙ c.more_at.ensures)

pub returns : goal.returns
returns c = record {
  passed = operations-end c.args.view.now.order (section_bytes c.args.view.now c.args.section) (ground_of c.args.view.now c.args.section) c.args.unit.now c.operations.place c.args.pass c.operations.now
      (cells-there c.args.view.now c.args.section) c.operations.invariant (sym c.in_default.is ∙ c.more_at.ensures);
}
