-- The stripped file has the link to the debug file that was made.
use Rattle.std.proofs.lemmas.Result.{err_from_is_err_and}
use Rattle.dbg_split.proofs.Rows.{debug-long, shape-row, split_free, stripped-is, stripped-long}
use Rattle.dbg_split.proofs.splitting.split_file.Goals as goal

pub returns-clause-debug : goal.returns-clause-debug
returns-clause-debug c = c.in_ok-debug.ensures.file

pub returns-clause-stripped : goal.returns-clause-stripped
returns-clause-stripped c =
    stripped-is c.args.elf.now.bytes.now c.args.debug_name.now _ _ _ c.args.elf.now.order _ c.args.elf.now.is_elf.order_is c.in_ok-debug.ensures.file
    c.in_ok-sum_of.ensures.value c.in_ok-link.ensures.value c.in_ok-stripped.ensures.file

pub returns-clause-none : goal.returns-clause-none
returns-clause-none c = λ r f.
    split_free c.args.elf.now.bytes.now c.args.debug_name.now _ _ c.args.elf.now.order _ r c.requires.reads c.args.elf.now.is_elf.order_is c.in_ok-debug.ensures.file
    c.in_ok-sum_of.ensures.value c.in_ok-link.ensures.value c.in_ok-dropped.ensures.none c.in_ok-debug.ensures.none c.in_ok-stripped.ensures.none f

pub returns-in_err-stripped-clause-refused : goal.returns-in_err-stripped-clause-refused
returns-in_err-stripped-clause-refused c =
    let p = err_from_is_err_and c.from_residual-in_err-stripped.result c.from_residual-in_err-stripped.ensures.1 in
    rw (p.1, p.2)
    (stripped-long c.args.elf.now.bytes.now c.args.debug_name.now _ _ c.args.elf.now.order _ _ c.requires.reads c.args.elf.now.is_elf.order_is c.in_ok-debug.ensures.file
    c.in_ok-sum_of.ensures.value c.in_ok-link.ensures.value c.in_err-stripped.ensures.refused)

-- The rows of each step.
pub returns-in_err-dropped-clause-refused : goal.returns-in_err-dropped-clause-refused
returns-in_err-dropped-clause-refused c =
    let p = err_from_is_err_and c.from_residual.result c.from_residual.ensures.1 in
    rw (p.1, p.2) (shape-row c.args.elf.now.bytes.now c.args.debug_name.now _ c.requires.reads c.in_err-dropped.ensures.refused)

pub returns-in_err-debug-clause-refused : goal.returns-in_err-debug-clause-refused
returns-in_err-debug-clause-refused c =
    let p = err_from_is_err_and c.from_residual-in_err-debug.result c.from_residual-in_err-debug.ensures.1 in
    rw (p.1, p.2) (debug-long c.args.elf.now.bytes.now c.args.debug_name.now _ c.requires.reads c.in_err-debug.ensures.refused)
