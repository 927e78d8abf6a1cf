use Rattle.dw_base.specs.FileViews.{view_cells}
use Rattle.dw_base.specs.ViewData.{located}
use Rattle.dw_base.specs.declared.debug_sections.DebugSection.TheVariants.{Line}
use Rattle.dw_unit_fields.specs.NamedStarts.{says_start}
use Rattle.dw_unit_fields.proofs.StartLaws.{FieldsPassed}
use Rattle.dw_unit_fields.proofs.starts.lines_start.Given as goal

abbrev pub invariant-loop-field : goal.invariant-loop-field
invariant-loop-field l = FieldsPassed (says_start l.view.order (located l.view Line) l.starts) (view_cells l.view l.section) l.fields l.field-index
