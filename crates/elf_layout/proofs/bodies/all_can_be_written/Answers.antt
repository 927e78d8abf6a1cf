-- A section that can't be written refuses the layout.
use Rattle.std.proofs.Common.{arith}
use Rattle.std.proofs.lemmas.Result.{err_from_is_err_and}
use Rattle.elf_layout.specs.Given.{body_given}
use Rattle.elf_layout.proofs.Rows.{blamed-section}
use Rattle.elf_layout.proofs.bodies.all_can_be_written.Goals as goal

pub returns-in_err-can_be_written-clause-refused : goal.returns-in_err-can_be_written-clause-refused
returns-in_err-can_be_written-clause-refused c =
    let p = err_from_is_err_and c.from_residual.result c.from_residual.ensures.1 in
    let b = c.args.elf.now.bytes.now in
    rw (p.1, p.2) (blamed-section b (body_given b c.args.contents.now) _ _ (omega arith) c.in_err-can_be_written.ensures.refused)
