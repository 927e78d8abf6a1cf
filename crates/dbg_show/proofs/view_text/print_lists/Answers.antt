-- The files and the rows come behind the directories.
use Rattle.std.proofs.lemmas.Result.{IfErr-weaker, err_from_is_err_and, on_ok_weaker}
use Rattle.std.specs.String.{string_bytes}
use Rattle.dw_base.specs.LineMeanings.{dir_texts}
use Rattle.dbg_show.specs.LineTexts.{dirs_text, first_number}
use Rattle.dbg_show.proofs.PrintingLaws.{cut-more, cut-then, printed-then}
use Rattle.dbg_show.proofs.view_text.print_lists.Goals as goal

pub returns-in_err-print_dirs-clause-cut : goal.returns-in_err-print_dirs-clause-cut
returns-in_err-print_dirs-clause-cut g c =
    let p = err_from_is_err_and c.from_residual.result c.from_residual.ensures.1 in
    rw (p.1, p.2) (cut-more (dirs_text (first_number c.args.lists.now.version) (dir_texts c.args.lists.now.source c.args.lists.now.dirs)) _ (string_bytes c.args.text.now) _ _ _
    c.in_err-print_dirs.ensures.cut)

pub returns-clause-done : goal.returns-clause-done
returns-clause-done g c = on_ok_weaker c.print_files_rows.result (λ q. printed-then _ _ _ _ _ _ _ _ c.in_ok-print_dirs.ensures.done q) c.print_files_rows.ensures.done

pub returns-clause-cut : goal.returns-clause-cut
returns-clause-cut g c = IfErr-weaker c.print_files_rows.result _ _ (λ e q. cut-then _ _ _ _ _ _ _ e c.in_ok-print_dirs.ensures.done q) c.print_files_rows.ensures.cut
