use Rattle.std.proofs.Common.{◌≡◌, ◌++◌, drop}
use Rattle.dw_base.specs.LineFields.{entry_fields}
use Rattle.dw_lines.specs.HeaderFields.{offsets_at}
use Rattle.dw_lines.specs.ViewSources.{view_source}
use Rattle.dw_lines.proofs.fields.push_columns.Given as goal

-- the offsets so far and those of the columns that are left
abbrev pub invariant-loop-spec : goal.invariant-loop-spec
invariant-loop-spec l =
    offsets_at l.header.width l.places.items ++ entry_fields (view_source l.view l.section) l.header l.table (drop l.spec-index l.specs) l.place
    ≡ offsets_at l.header.width l.fn.places.items ++ entry_fields (view_source l.view l.section) l.header l.table l.specs l.start
