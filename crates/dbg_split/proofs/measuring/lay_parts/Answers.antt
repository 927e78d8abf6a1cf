-- What is too long with some of the parts is too long with all.
use Rattle.std.proofs.Common.{◌+◌, ◌++◌, drop}
use Rattle.std.proofs.lemmas.Result.{err_from_is_err_and}
use Rattle.dw_base.specs.Layout.{laid}
use Rattle.elf_layout.specs.PartsGiven.{part_given, parts_given}
use Rattle.elf_layout.proofs.PartRows.{laid-part, long_parts}
use Rattle.dbg_split.proofs.measuring.lay_parts.Goals as goal

pub returns-in_err-lay_part-clause-refused : goal.returns-in_err-lay_part-clause-refused
returns-in_err-lay_part-clause-refused c =
    let p = err_from_is_err_and c.from_residual-in_err-lay_part.result c.from_residual-in_err-lay_part.ensures.1 in
    let i = c.loop-part.part-index in
    let parts = c.args.parts.now in
    let so_far = c.args.front.now ++ c.loop-part.out in
    let whole = laid (c.args.front.now ++ c.args.out.now) (parts_given parts) in
    rw (p.1, p.2)
    (long_parts so_far whole (part_given c.part-item.result) (parts_given (drop (i + 1) parts)) _
    (laid-part so_far whole parts i c.part-item.result c.loop-part-test.true c.part-item.is c.loop-part.invariant.bytes) c.in_err-lay_part.ensures.refused)
