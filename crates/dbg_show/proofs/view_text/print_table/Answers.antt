-- The directories, the files and the rows come behind the first line.
use Rattle.std.proofs.Common.{refl}
use Rattle.std.proofs.lemmas.Result.{IfErr-weaker, err_from_is_err_and, on_ok_weaker}
use Rattle.std.specs.String.{string_bytes}
use Rattle.dbg_show.proofs.CallLaws.{cut-both, cut-front, printed-both, table-text}
use Rattle.dbg_show.specs.LineTexts.{table_line}
use Rattle.dbg_show.specs.ReadTables.{read_text}
use Rattle.dw_rows.specs.TableRows.{rows_start, table_rows}
use Rattle.dbg_show.proofs.view_text.print_table.Goals as goal

pub returns-in_err-print_start-clause-cut : goal.returns-in_err-print_start-clause-cut
returns-in_err-print_start-clause-cut g c =
    let p = err_from_is_err_and c.from_residual.result c.from_residual.ensures.1 in
    rw (p.1, p.2) (cut-front (table_line c.args.number c.version_of.result) _ (string_bytes c.args.text.now)
    (read_text c.args.number c.args.source.now c.args.table.now (table_rows c.args.view.now c.args.table.now)) _ _ _
    (table-text c.args.number c.version_of.result c.args.source.now c.args.table.now c.lists_of-lists.result (rows_start c.args.view.now c.args.table.now)
    (rows_start c.args.view.now c.args.table.now) c.lists_of-lists.ensures.lists c.version_of.ensures refl) c.in_err-print_start.ensures.cut)

pub returns-clause-done : goal.returns-clause-done
returns-clause-done g c =
    on_ok_weaker c.print_lists.result
    (λ q. printed-both _ _ _ _ _ _ _ _ _
    (table-text c.args.number c.version_of.result c.args.source.now c.args.table.now c.lists_of-lists.result c.new.result (rows_start c.args.view.now c.args.table.now)
    c.lists_of-lists.ensures.lists c.version_of.ensures c.new.ensures.start) c.in_ok-print_start.ensures.done q) c.print_lists.ensures.done

pub returns-clause-cut : goal.returns-clause-cut
returns-clause-cut g c =
    IfErr-weaker c.print_lists.result _ _
    (λ e q. cut-both _ _ _ _ _ _ _ _ e
    (table-text c.args.number c.version_of.result c.args.source.now c.args.table.now c.lists_of-lists.result c.new.result (rows_start c.args.view.now c.args.table.now)
    c.lists_of-lists.ensures.lists c.version_of.ensures c.new.ensures.start) c.in_ok-print_start.ensures.done q) c.print_lists.ensures.cut
