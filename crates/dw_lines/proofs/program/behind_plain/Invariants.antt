use Rattle.std.proofs.Common.{◌-◌, ◌≤◌, length}
use Rattle.dw_lines.specs.PlainOpcodes.{PassesPlain}
use Rattle.dw_lines.proofs.program.behind_plain.Given as goal

-- plain opcodes lead to this place
abbrev pub invariant-opcodes : goal.invariant-opcodes
invariant-opcodes l = record { passed : PassesPlain l.header l.table l.from l.place; further : l.from ≤ l.place }

abbrev pub decreases-opcodes : goal.decreases-opcodes
decreases-opcodes l = length l.table - l.place
