-- The rows of small programs, as the standard's rules give them by hand.
use Rattle.std.proofs.Common.{Bool, true, false, ◌≡◌, ℕ, [], ◌∷◌, None, refl}
use Rattle.std.specs.Prelude.{negsuc}
use Rattle.dw_base.specs.Cells.{plain_cells}
use Rattle.dw_base.specs.Lebs.{uleb_at}
use Rattle.dw_base.specs.Numbers.{spelled, number_at}
use Rattle.dw_base.specs.declared.shared.Order.TheVariants.{Little}
use Rattle.dw_base.specs.LineOperations.{special_operation, const_operation, is_numbered, numbered, unnumbered, standard_operation, extended, extended_in, extended_operation, operation_of, operation_in}
use Rattle.dw_base.specs.ValueMeanings.{address_of}
use Rattle.dw_base.specs.LineRegisters.{start_registers, advanced, on_line, at_address, moved, gives_row, behind_row}
use Rattle.dw_rows.specs.TableRows.{rows_from}
use Rattle.dw_base.specs.declared.line_rows.LineParams.{LineParams}
use Rattle.dw_base.specs.declared.line_rows.Row.{Row}

-- a table whose instructions have so many bytes, and so many operations
abbrev params : ℕ → ℕ → LineParams
params size ops = record {
  order = Little;
  min_length = size;
  max_ops = ops;
  default_stmt = true;
  line_base = negsuc 4;
  line_range = 14;
  opcode_base = 13;
}

-- a row that begins a statement
abbrev statement : ℕ → ℕ → ℕ → Bool → Row
statement address op_index line end = record {
  symbol = None;
  address = address;
  op_index = op_index;
  file = 1;
  line = line;
  column = 0;
  stmt = true;
  block = false;
  prologue_end = false;
  epilogue_begin = false;
  end = end;
  isa = 0;
  discriminator = 0;
}

-- the address is set, two special opcodes of 20 above the first, and the end
set-and-special : rows_from (params 1 1) [] (plain_cells (0 ∷ 3 ∷ 2 ∷ 0 ∷ 16 ∷ 33 ∷ 33 ∷ 0 ∷ 1 ∷ 1 ∷ [])) (start_registers (params 1 1))
    ≡ statement 0x1001 0 2 false ∷ statement 0x1002 0 3 false ∷ statement 0x1002 0 3 true ∷ []
unfolding uleb_at spelled address_of special_operation extended extended_in extended_operation operation_of operation_in start_registers advanced on_line at_address moved gives_row behind_row
set-and-special = refl

-- four operations further, of instructions of 4 bytes with 3 operations each, then as the opcode 255, then 6 bytes further
packed : rows_from (params 4 3) [] (plain_cells (2 ∷ 4 ∷ 1 ∷ 8 ∷ 1 ∷ 9 ∷ 6 ∷ 0 ∷ 1 ∷ [])) (start_registers (params 4 3))
    ≡ statement 4 1 1 false ∷ statement 28 0 1 false ∷ statement 34 0 1 false ∷ []
unfolding uleb_at number_at spelled const_operation is_numbered numbered unnumbered standard_operation operation_of operation_in start_registers advanced moved gives_row behind_row
packed = refl
