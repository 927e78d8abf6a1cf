-- Printed whole, or cut at one.
use Rattle.std.proofs.Common.{arith, refl}
use Rattle.std.specs.String.{string_bytes}
use Rattle.dbg_show.specs.LineTexts.{first_number}
use Rattle.dbg_show.proofs.LoopLaws.{files-over, files-cut}
use Rattle.dbg_show.proofs.table_lines.print_files.Goals as goal

pub returns-in-Err-clause-cut : goal.returns-in-Err-clause-cut
returns-in-Err-clause-cut g c =
    files-cut c.args.lists.now _ c.first_number-first.result (first_number c.args.lists.now.version) c.loop-index.index _ _ _ (string_bytes c.args.text.now) (string_bytes c.loop-index.text)
    (g.O.Sink.heard c.args.out.now) (g.O.Sink.heard c.loop-index.out) (g.O.Sink.heard c.print_file.new.out) c.in-Err.e c.lists.view_is c.loop-index.invariant (omega arith)
    c.text-path.ensures.text refl c.in-Err.ensures.cut

pub returns-clause-done : goal.returns-clause-done
returns-clause-done g c =
    files-over c.args.lists.now _ c.first_number-first.result (first_number c.args.lists.now.version) c.loop-index.index (string_bytes c.args.text.now) (string_bytes c.loop-index.text)
    (g.O.Sink.heard c.args.out.now) (g.O.Sink.heard c.loop-index.out) c.lists.view_is c.loop-index.invariant (omega arith)
