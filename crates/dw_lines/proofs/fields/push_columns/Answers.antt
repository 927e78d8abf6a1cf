-- One column more, one that can't be read, and no more columns.
use Rattle.dw_lines.specs.ViewSources.{view_source}
use Rattle.dw_lines.proofs.FieldLaws.{columns-more, columns-stop, columns-over}
use Rattle.dw_lines.proofs.fields.push_columns.Goals as goal

pub loop-spec-preserved : goal.loop-spec-preserved
loop-spec-preserved c =
    columns-more _ (view_source c.args.view.now c.args.section) c.args.header.now c.args.table.now c.args.specs.now c.loop-spec.spec-index _ c.loop-spec.place
    c.in-Ok.column c.loop-spec.places.items _ c.loop-spec.invariant c.loop-spec-test.true c.in_ok-push_place.ensures.places c.in-Ok.ensures.column

pub returns-in-Err : goal.returns-in-Err
returns-in-Err c = record {
  places = columns-stop _ (view_source c.args.view.now c.args.section) c.args.header.now c.args.table.now c.args.specs.now c.loop-spec.spec-index _
      c.loop-spec.place c.in-Err.field-0 c.loop-spec.places.items _ c.loop-spec.invariant c.loop-spec-test.true c.in_ok-push_place.ensures.places
      c.in-Err.ensures.column;
}

pub returns : goal.returns
returns c = record {
  places = columns-over _ (view_source c.args.view.now c.args.section) c.args.header.now c.args.table.now c.args.specs.now c.loop-spec.spec-index
      c.loop-spec.place c.loop-spec.places.items c.loop-spec.invariant c.loop-spec-test.false;
}
