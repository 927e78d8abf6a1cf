-- What was read has the counts of what the view means.
use Rattle.std.proofs.Common.{refl}
use Rattle.dbg_exercise.proofs.ReadingLaws.{counts-are, each-table, each-unit, entries-small, rows-small}
use Rattle.dbg_exercise.proofs.reading.view_counts.Goals as goal

pub entry_count-requires : goal.entry_count-requires
entry_count-requires c = record {
  units = each-unit c.args.view.now _ _ _ _ _ c.all.ensures.units c.in_ok-units.ensures.data.read c.in_ok-units.ensures.units;
  all = c.all.ensures.units;
  few = entries-small c.args.view.now _ _ _ c.all.ensures.units c.in_ok-units.ensures.units c.requires.countable;
}

pub row_count-rows-requires : goal.row_count-rows-requires
row_count-rows-requires c = record {
  tables = each-table c.args.view.now _ _ _ c.as_slice.ensures.value c.in_ok-units.ensures.data.read;
  few = rows-small c.args.view.now _ _ _ c.as_slice.ensures.value c.in_ok-units.ensures.data.read c.requires.countable;
}

pub returns : goal.returns
returns c = record {
  counts = λ x m. counts-are c.args.view.now _ _ _ _ _ _ _ _ _ _ x c.in_ok-units.ensures.data.read c.in_ok-units.ensures.units c.all.ensures.units c.all-2.ensures.units
      c.as_slice.ensures.value refl c.in_ok-entries.ensures.count c.row_count-rows.ensures.count m;
}
