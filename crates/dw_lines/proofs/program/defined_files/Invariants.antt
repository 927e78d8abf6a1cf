use Rattle.std.proofs.Common.{◌-◌, length}
use Rattle.dw_lines.proofs.ProgramLaws.{DefinedUpTo}
use Rattle.dw_lines.proofs.program.defined_files.Given as goal

-- the files so far are those that were defined up to this place
abbrev pub invariant-opcodes : goal.invariant-opcodes
invariant-opcodes l = record { read : DefinedUpTo l.section l.header l.table l.files.items l.place }

abbrev pub decreases-opcodes : goal.decreases-opcodes
decreases-opcodes l = length l.table - l.place
