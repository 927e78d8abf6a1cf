-- The line tables of a generated file (DWARF 4, 6.2.4 and 6.2.5). This project's profile.
use Rattle.std.specs.Prelude.{ℕ, codes, ◌+◌, ◌*◌, replicate, List, [], ◌∷◌, ◌++◌, length, slice_index}
use Rattle.std.specs.Fmt.{decimal}
use Rattle.dw_base.specs.LineHeaders.{standard_operands}
use Rattle.dw_base.specs.Numbers.{number_bytes}
use Rattle.dw_base.specs.declared.line_numbers.TheConstants.{DW_LNE_end_sequence, DW_LNE_set_address}
use Rattle.dw_base.specs.declared.shared.Order.TheVariants.{Little}
use Rattle.dbg_gen.specs.GeneratedTexts.{chained}

-- the smallest instruction length 1, 1 operation in an instruction, a row begins a statement, line base -5 as a byte, line range
-- 14, the first special opcode 13, and the operand counts of the standard opcodes
abbrev pub line_numbers : List ℕ
line_numbers = 1 ∷ 1 ∷ 1 ∷ 251 ∷ 14 ∷ 13 ∷ standard_operands

-- one directory, and one file: its name, with directory, time and length 0
abbrev pub line_lists : ℕ → List ℕ
line_lists unit = codes "/build/p/inc" ++ (0 ∷ 0 ∷ codes "u" ++ (decimal unit ++ (codes ".c" ++ (0 ∷ 0 ∷ 0 ∷ 0 ∷ 0 ∷ []))))

-- what stands behind the length of the header
unfoldable pub line_header : ℕ → List ℕ
line_header unit = line_numbers ++ line_lists unit

-- the address of a unit, a row for each variable by a special opcode, and the end of the sequence
unfoldable pub line_program : ℕ → ℕ → List ℕ
line_program unit count =
    (0 ∷ 9 ∷ DW_LNE_set_address ∷ []) ++ (number_bytes Little 8 (4096 * (unit + 1)) ++ (replicate count 0x21 ++ (0 ∷ 1 ∷ DW_LNE_end_sequence ∷ [])))

-- a table of version 4 and 32 bits, of a header from behind its length on, and a program: its length, its version, the length of
-- the header, and both
unfoldable pub table_of : List ℕ → List ℕ → List ℕ
table_of header program =
    number_bytes Little 4 (6 + (length header + length program)) ++ ((4 ∷ 0 ∷ []) ++ (number_bytes Little 4 (length header) ++ (header ++ program)))

-- the table of a unit with so many variables
abbrev pub line_table : ℕ → ℕ → List ℕ
line_table unit count = table_of (line_header unit) (line_program unit count)

-- the tables of the first units, which have so many variables each, one after another
unfoldable pub lines_of : List ℕ → ℕ → List ℕ
lines_of counts units = chained (λ unit. line_table unit (slice_index counts unit)) units
