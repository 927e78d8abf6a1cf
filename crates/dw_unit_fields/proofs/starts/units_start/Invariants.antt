use Rattle.dw_base.specs.FileViews.{view_cells}
use Rattle.dw_unit_fields.specs.NamedStarts.{says_unit}
use Rattle.dw_unit_fields.proofs.StartLaws.{FieldsPassed}
use Rattle.dw_unit_fields.proofs.starts.units_start.Given as goal

abbrev pub invariant-loop-field : goal.invariant-loop-field
invariant-loop-field l = FieldsPassed (says_unit l.view.order l.places) (view_cells l.view l.section) l.fields l.field-index
