-- Printed whole, or cut at one.
use Rattle.std.proofs.Common.{arith}
use Rattle.std.specs.String.{string_bytes}
use Rattle.dbg_show.proofs.ReadLaws.{print-over, print-cut}
use Rattle.dbg_show.proofs.view_text.print_tables.Goals as goal

pub returns-in-Err-clause-cut : goal.returns-in-Err-clause-cut
returns-in-Err-clause-cut g c =
    print-cut c.args.view.now c.args.source.now c.args.tables.now c.loop-number.number c.index-tables-number.result _ (string_bytes c.args.text.now) (string_bytes c.loop-number.text)
    (g.O.Sink.heard c.args.out.now) (g.O.Sink.heard c.loop-number.out) (g.O.Sink.heard c.print_table.new.out) c.in-Err.e c.loop-number.invariant (omega arith) c.index-tables-number.is c.in-Err.ensures.cut

pub returns-clause-done : goal.returns-clause-done
returns-clause-done g c =
    print-over c.args.view.now c.args.source.now c.args.tables.now c.loop-number.number (string_bytes c.args.text.now) (string_bytes c.loop-number.text)
    (g.O.Sink.heard c.args.out.now) (g.O.Sink.heard c.loop-number.out) c.loop-number.invariant (omega arith)
