-- Where no opcode is left, or none can be had, no opcode defines a path that changes.
use Rattle.std.proofs.Common.{sym, ◌∙◌}
use Rattle.dw_lines.proofs.DefinedLaws.{plain-over, plain-none, plain-not}
use Rattle.dw_lines.proofs.defined_paths.check_opcodes.Goals as goal

pub returns-clause-none : goal.returns-clause-none
returns-clause-none c = λ r f. plain-over c.args.maps.now c.args.section c.args.header.now c.args.table.now c.opcodes.place r c.opcodes.invariant.plain c.opcodes-test.false f

pub returns-in_default-clause-none : goal.returns-in_default-clause-none
returns-in_default-clause-none c = λ r f.
    plain-none c.args.maps.now c.args.section c.args.header.now c.args.table.now c.opcodes.place r c.opcodes.invariant.plain c.opcodes-test.true c.in_default.ensures.opcode f

pub returns-then-branch-clause-refused : goal.returns-then-branch-clause-refused
returns-then-branch-clause-refused c =
    plain-not c.args.maps.now c.args.section c.args.header.now c.args.table.now c.opcodes.place c.in-Some.opcode c.at.result c.opcodes.invariant.plain c.opcodes-test.true c.in-Some.ensures.opcode
    (sym c.if-branch.true ∙ c.in_ok-changes_file.ensures.changes) c.at.ensures
