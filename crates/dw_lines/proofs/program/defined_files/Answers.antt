-- The opcode that can't be had, and the opcodes so far.
use Rattle.dw_lines.proofs.ProgramLaws.{defined-fail}
use Rattle.dw_lines.proofs.program.defined_files.Goals as goal

pub returns-in_default-clause-refused : goal.returns-in_default-clause-refused
returns-in_default-clause-refused c =
    defined-fail c.args.section c.args.header.now c.args.table.now c.opcodes.files.items c.opcodes.place c.args.refusal c.opcodes.invariant.read c.opcodes-test.true c.in_default.ensures.opcode
