-- What is found of the stripped file with a link of the sum 0 holds of the one that would be written.
use Rattle.std.proofs.lemmas.Result.{err_from_is_err_and}
use Rattle.dbg_split.proofs.MeasureLaws.{check-free, check-long}
use Rattle.dbg_split.proofs.Rows.{debug-long, shape-row}
use Rattle.dbg_split.proofs.splitting.check_file.Goals as goal

pub returns-clause-none : goal.returns-clause-none
returns-clause-none c = λ r f.
    check-free c.args.elf.now.bytes.now c.args.debug_name.now _ c.args.elf.now.order r c.requires.reads c.args.elf.now.is_elf.order_is c.in_ok-link.ensures.value
    c.in_ok-dropped.ensures.none c.in_ok-debug_file.ensures.none c.in_ok-check_stripped.ensures.none f

pub returns-in_err-check_stripped-clause-refused : goal.returns-in_err-check_stripped-clause-refused
returns-in_err-check_stripped-clause-refused c =
    let p = err_from_is_err_and c.from_residual-in_err-check_stripped.result c.from_residual-in_err-check_stripped.ensures.1 in
    rw (p.1, p.2)
    (check-long c.args.elf.now.bytes.now c.args.debug_name.now _ c.args.elf.now.order _ c.requires.reads c.args.elf.now.is_elf.order_is c.in_ok-link.ensures.value
    c.in_err-check_stripped.ensures.refused)

-- The rows of each step.
pub returns-in_err-dropped-clause-refused : goal.returns-in_err-dropped-clause-refused
returns-in_err-dropped-clause-refused c =
    let p = err_from_is_err_and c.from_residual.result c.from_residual.ensures.1 in
    rw (p.1, p.2) (shape-row c.args.elf.now.bytes.now c.args.debug_name.now _ c.requires.reads c.in_err-dropped.ensures.refused)

pub returns-in_err-debug_file-clause-refused : goal.returns-in_err-debug_file-clause-refused
returns-in_err-debug_file-clause-refused c =
    let p = err_from_is_err_and c.from_residual-in_err-debug_file.result c.from_residual-in_err-debug_file.ensures.1 in
    rw (p.1, p.2) (debug-long c.args.elf.now.bytes.now c.args.debug_name.now _ c.requires.reads c.in_err-debug_file.ensures.refused)
