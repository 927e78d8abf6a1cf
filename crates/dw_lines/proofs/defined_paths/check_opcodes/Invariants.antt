use Rattle.std.proofs.Common.{◌-◌, length}
use Rattle.dw_lines.proofs.DefinedLaws.{PlainUpTo}
use Rattle.dw_lines.proofs.defined_paths.check_opcodes.Given as goal

-- no opcode so far defines a file whose path changes
abbrev pub invariant-opcodes : goal.invariant-opcodes
invariant-opcodes l = record { plain : PlainUpTo l.maps l.section l.header l.table l.place }

abbrev pub decreases-opcodes : goal.decreases-opcodes
decreases-opcodes l = length l.table - l.place
