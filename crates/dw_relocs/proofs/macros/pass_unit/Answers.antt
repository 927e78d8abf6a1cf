-- The offset of the line table, then the operations.
use Rattle.dw_base.specs.FileViews.{section_bytes, view_cells}
use Rattle.dw_relocs.specs.FieldWalks.{ground_of}
use Rattle.dw_relocs.proofs.MacroPassLaws.{cells-there, line-next, line-stands, unit-left, unit-passed}
use Rattle.dw_relocs.proofs.macros.pass_unit.Goals as goal

pub pass_field-line-requires-clause-next : goal.pass_field-line-requires-clause-next
pass_field-line-requires-clause-next c =
    line-next c.args.view.now.order (view_cells c.args.view.now c.args.section) (section_bytes c.args.view.now c.args.section) c.args.unit.now c.line_place.result c.args.pass
    (cells-there c.args.view.now c.args.section) c.requires.next c.line_place.ensures

pub pass_operations-requires-clause-left : goal.pass_operations-requires-clause-left
pass_operations-requires-clause-left c =
    unit-left c.args.view.now.order (view_cells c.args.view.now c.args.section) (section_bytes c.args.view.now c.args.section) c.args.unit.now c.args.pass c.requires.next

pub pass_operations-requires-clause-stands : goal.pass_operations-requires-clause-stands
pass_operations-requires-clause-stands c =
    line-stands c.args.view.now.order (ground_of c.args.view.now c.args.section) (section_bytes c.args.view.now c.args.section) c.args.unit.now c.line_place.result c.args.pass c.pass_field-line.result
    (cells-there c.args.view.now c.args.section) c.requires.next c.line_place.ensures c.pass_field-line.ensures.goes

pub returns : goal.returns
returns c = record {
  passed = unit-passed c.args.view.now.order (ground_of c.args.view.now c.args.section) (section_bytes c.args.view.now c.args.section) c.args.unit.now c.line_place.result c.args.pass c.pass_field-line.result
      c.pass_operations.result (cells-there c.args.view.now c.args.section) c.requires.next c.line_place.ensures c.pass_field-line.ensures.goes
      c.pass_operations.ensures.passed;
}
