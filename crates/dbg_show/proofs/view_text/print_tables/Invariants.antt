use Rattle.std.proofs.Common.{drop}
use Rattle.std.specs.String.{string_bytes}
use Rattle.dbg_show.specs.Printing.{Goes}
use Rattle.dbg_show.specs.ReadTables.{all_read}
use Rattle.dbg_show.proofs.view_text.print_tables.Given as goal

-- the tables from here on are left
abbrev pub invariant-loop-number : goal.invariant-loop-number
invariant-loop-number g l =
    Goes (all_read l.view l.source 0 l.tables) (all_read l.view l.source l.number (drop l.number l.tables))
    (string_bytes l.fn.text) (g.O.Sink.heard l.fn.out) (g.O.Sink.heard l.out) (string_bytes l.text)
