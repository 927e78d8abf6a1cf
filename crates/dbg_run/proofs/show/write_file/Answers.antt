-- The file's records are read, then its view, and then its text is written.
use Rattle.std.proofs.Common.{refl}
use Rattle.std.proofs.lemmas.Result.{err_from_is_err_and}
use Rattle.dbg_run.proofs.ShowLaws.{file_elf, file_shown, file_unseen, file_written}
use Rattle.dbg_run.proofs.show.write_file.Goals as goal

pub returns-in_err-elf-clause-ends : goal.returns-in_err-elf-clause-ends
returns-in_err-elf-clause-ends g c =
    let p = err_from_is_err_and c.from_residual.result c.from_residual.ensures.1 in
    rw (p.1, p.2) (file_elf _ _ _ _ _ refl c.in_err-elf.ensures.refused)

pub returns-in_err-view-clause-ends : goal.returns-in_err-view-clause-ends
returns-in_err-view-clause-ends g c =
    let p = err_from_is_err_and c.from_residual-in_err-view.result c.from_residual-in_err-view.ensures.1 in
    rw (p.1, p.2) (file_unseen _ _ _ _ _ _ c.in_ok-elf.ensures.bytes refl c.in_err-view.ensures.refused)

pub returns-in_err-write_view-clause-ends : goal.returns-in_err-write_view-clause-ends
returns-in_err-write_view-clause-ends g c =
    let p = err_from_is_err_and c.from_residual-in_err-write_view.result c.from_residual-in_err-write_view.ensures.1 in
    rw (p.1, p.2) (file_written _ _ _ _ _ _ _ c.in_ok-elf.ensures.bytes c.in_ok-view.ensures.view c.in_ok-view.ensures.seen c.in_err-write_view.ensures.ends)

pub returns-clause-shown : goal.returns-clause-shown
returns-clause-shown g c = file_shown _ _ _ _ _ _ c.in_ok-elf.ensures.bytes c.in_ok-view.ensures.view c.in_ok-view.ensures.seen c.in_ok-write_view.ensures.shown
