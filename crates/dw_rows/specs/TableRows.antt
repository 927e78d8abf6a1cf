-- The rows of a line table (DWARF 5, 6.2), and where a walk over them stands.
use Rattle.std.specs.Prelude.{ℕ, ◌≡◌, ◌+◌, ◌-◌, ◌<◌, List, length, take, drop}
use Rattle.dw_base.specs.Cells.{Cell}
use Rattle.dw_base.specs.FileViews.{View, section_bytes, view_cells}
use Rattle.dw_base.specs.Forms.{width_size}
use Rattle.dw_base.specs.declared.shared.Order.{Order}
use Rattle.dw_base.specs.declared.shared.Width.{Width}
use Rattle.dw_base.specs.LineHeaders.{length_place, flags_place}
use Rattle.dw_base.specs.LineTables.{LineTable, IsLineTable}
use Rattle.dw_base.specs.WrittenLines.{length_size}
use Rattle.dw_lines.specs.ViewSources.{view_source}
use Rattle.dw_base.specs.LineOperations.{operations, Spells}
use Rattle.dw_base.specs.LineRegisters.{start_registers, rows_of}
use Rattle.dw_base.specs.declared.line_rows.LineParams.{LineParams}
use Rattle.dw_base.specs.declared.line_rows.Row.{Row}
use Rattle.dw_rows.specs.ProgramPlaces.{StandsIn}

-- a table that can be read in a section of the view
pub record IsTableIn (v : View) (t : LineTable) : Type 0 where
  pub start : ℕ
  pub there : t.section < length v.sections
  pub is : IsLineTable (view_source v t.section) start t

-- the numbers on which the rows depend
abbrev pub params_of : Order → LineTable → LineParams
params_of order t = record {
  order = order;
  min_length = t.min_length;
  max_ops = t.max_ops;
  default_stmt = t.default_stmt;
  line_base = t.line_base;
  line_range = t.line_range;
  opcode_base = t.opcode_base;
}

-- where the operand counts of the standard opcodes stand, for a table's start, width and version: behind the opcode base
unfoldable pub counts_place : ℕ → Width → ℕ → ℕ
counts_place start width version = flags_place version (length_place version (start + length_size width) + width_size width) + 4

-- the operand counts of the standard opcodes from 1 on
abbrev pub counts_of : View → LineTable → List ℕ
counts_of v t = take (t.opcode_base - 1) (drop (counts_place t.start t.width t.version) (section_bytes v t.section))

-- the program, up to the table's end, as cells
abbrev pub program_of : View → LineTable → List Cell
program_of v t = drop t.program (take t.end (view_cells v t.section))

-- a walk over the rows: the numbers and operand counts of the table, what is left of its program, and the registers
pub record RowsState : Type 0 where
  pub params : LineParams
  pub counts : List ℕ
  pub left : List Cell
  pub registers : Row

-- before the first row
abbrev pub rows_start : View → LineTable → RowsState
rows_start v t = record {
  params = params_of v.order t;
  counts = counts_of v t;
  left = program_of v t;
  registers = start_registers (params_of v.order t);
}

-- the rows that a program gives, from these registers on
abbrev pub rows_from : LineParams → List ℕ → List Cell → Row → List Row
rows_from p counts left r = rows_of p r (operations p counts left)

-- the rows that are left
abbrev pub rows_left : RowsState → List Row
rows_left s = rows_from s.params s.counts s.left s.registers

-- the rows of a table
abbrev pub table_rows : View → LineTable → List Row
table_rows v t = rows_left (rows_start v t)

-- what is left of the program is operations, each of which can be had, and nothing else
abbrev pub IsWhole : RowsState → Type 0
IsWhole s = Spells s.params s.counts s.left (operations s.params s.counts s.left)

-- what holds of every walk, of a section of a view, from a place of which on these bytes are left
pub record RowsFit (v : View) (section place : ℕ) (left : List ℕ) (s : RowsState) : Type 0 where
  pub stands : StandsIn v section place left
  pub order : s.params.order ≡ v.order
  pub counts : length s.counts ≡ s.params.opcode_base - 1
  pub some : 0 < s.params.max_ops
  pub index : s.registers.op_index < s.params.max_ops
