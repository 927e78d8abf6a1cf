-- Printed whole, or cut at one.
use Rattle.std.proofs.Common.{rules, ◌≡◌, [], ◌∷◌}
use Rattle.std.specs.String.{string_bytes}
use Rattle.dw_rows.specs.TableRows.{rows_left}
use Rattle.dbg_show.proofs.LoopLaws.{rows-over, rows-cut}
use Rattle.dbg_show.proofs.view_text.print_rows.Goals as goal

pub returns-in-Err-clause-cut : goal.returns-in-Err-clause-cut
returns-in-Err-clause-cut g c =
    let first : rows_left c.loop-row.row-iterator ≡ c.in-Some.row ∷ rows_left c.next.new.self = search rules in
    rows-cut c.args.lists.now c.in-Some.row (rows_left c.args.rows) (rows_left c.loop-row.row-iterator) (rows_left c.next.new.self) (string_bytes c.args.text.now) (string_bytes c.loop-row.text)
    (g.O.Sink.heard c.args.out.now) (g.O.Sink.heard c.loop-row.out) (g.O.Sink.heard c.print_row.new.out) c.in-Err.e c.loop-row.invariant first c.in-Err.ensures.cut

pub returns-clause-done : goal.returns-clause-done
returns-clause-done g c =
    let none : rows_left c.loop-row.row-iterator ≡ [] = search rules in
    rows-over c.args.lists.now (rows_left c.args.rows) (rows_left c.loop-row.row-iterator) (string_bytes c.args.text.now) (string_bytes c.loop-row.text)
    (g.O.Sink.heard c.args.out.now) (g.O.Sink.heard c.loop-row.out) c.loop-row.invariant none
