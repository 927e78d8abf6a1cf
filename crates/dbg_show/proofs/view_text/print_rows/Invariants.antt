use Rattle.std.specs.String.{string_bytes}
use Rattle.dw_rows.specs.TableRows.{rows_left}
use Rattle.dbg_show.specs.Printing.{Goes}
use Rattle.dbg_show.specs.Rows.{rows_text}
use Rattle.dbg_show.specs.TableLists.{listed_rows}
use Rattle.dbg_show.proofs.view_text.print_rows.Given as goal

-- the rows that the iterator has are left
abbrev pub invariant-loop-row : goal.invariant-loop-row
invariant-loop-row g l =
    Goes (rows_text (listed_rows l.lists (rows_left l.fn.rows))) (rows_text (listed_rows l.lists (rows_left l.row-iterator)))
    (string_bytes l.fn.text) (g.O.Sink.heard l.fn.out) (g.O.Sink.heard l.out) (string_bytes l.text)
