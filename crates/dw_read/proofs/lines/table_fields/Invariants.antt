use Rattle.std.proofs.Common.{◌≡◌, ◌++◌, drop}
use Rattle.dw_read.specs.ViewLines.{table_fields}
use Rattle.dw_read.proofs.lines.table_fields.Given as goal

abbrev pub invariant-loop-table : goal.invariant-loop-table
invariant-loop-table l =
    l.fields.items ++ table_fields l.section l.str l.texts (drop l.table-index l.tables) ≡ table_fields l.section l.str l.texts l.tables
