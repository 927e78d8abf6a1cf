-- The records of both files are read, then their view, and then their text is written.
use Rattle.std.proofs.Common.{refl}
use Rattle.std.proofs.lemmas.Result.{err_from_is_err_and}
use Rattle.dbg_run.proofs.ShowLaws.{debug_elf, pair_shown, pair_unseen, pair_written, stripped_elf}
use Rattle.dbg_run.proofs.show.write_pair.Goals as goal

pub returns-in_err-stripped-clause-ends : goal.returns-in_err-stripped-clause-ends
returns-in_err-stripped-clause-ends g c =
    let p = err_from_is_err_and c.from_residual.result c.from_residual.ensures.1 in
    rw (p.1, p.2) (stripped_elf _ _ _ _ _ _ _ refl c.in_err-stripped.ensures.refused)

pub returns-in_err-debug-clause-ends : goal.returns-in_err-debug-clause-ends
returns-in_err-debug-clause-ends g c =
    let p = err_from_is_err_and c.from_residual-in_err-debug.result c.from_residual-in_err-debug.ensures.1 in
    rw (p.1, p.2) (debug_elf _ _ _ _ _ _ _ refl c.in_ok-stripped.ensures.reads c.in_err-debug.ensures.refused)

pub pair_view-requires-clause-stripped : goal.pair_view-requires-clause-stripped
pair_view-requires-clause-stripped g c = rw c.in_ok-stripped.ensures.bytes c.in_ok-stripped.ensures.reads

pub pair_view-requires-clause-debug : goal.pair_view-requires-clause-debug
pair_view-requires-clause-debug g c = rw c.in_ok-debug.ensures.bytes c.in_ok-debug.ensures.reads

pub returns-in_err-view-clause-ends : goal.returns-in_err-view-clause-ends
returns-in_err-view-clause-ends g c =
    let p = err_from_is_err_and c.from_residual-in_err-view.result c.from_residual-in_err-view.ensures.1 in
    rw (p.1, p.2) (pair_unseen _ _ _ _ _ _ _ _ _ c.in_ok-stripped.ensures.bytes c.in_ok-debug.ensures.bytes refl c.in_err-view.ensures.refused)

pub returns-in_err-write_view-clause-ends : goal.returns-in_err-write_view-clause-ends
returns-in_err-write_view-clause-ends g c =
    let p = err_from_is_err_and c.from_residual-in_err-write_view.result c.from_residual-in_err-write_view.ensures.1 in
    rw (p.1, p.2) (pair_written _ _ _ _ _ _ _ _ _ _ c.in_ok-stripped.ensures.bytes c.in_ok-debug.ensures.bytes c.in_ok-view.ensures.view c.in_ok-view.ensures.seen
    c.in_err-write_view.ensures.ends)

pub returns-clause-shown : goal.returns-clause-shown
returns-clause-shown g c = pair_shown _ _ _ _ _ _ _ _ _ c.in_ok-stripped.ensures.bytes c.in_ok-debug.ensures.bytes c.in_ok-view.ensures.view c.in_ok-view.ensures.seen c.in_ok-write_view.ensures.shown
