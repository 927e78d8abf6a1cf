-- The operations of a line program, one after another (DWARF 5, 6.2.5; DWARF 4, 6.2.5). A program is the cells from its start
-- to its table's end. An operation is read at the front of those that are left: an address by the relocation that begins at it, all else
-- from their bytes.
use Rattle.std.specs.Prelude.{ℕ, zero, suc, pos, ◌≡◌, ◌+◌, ◌-◌, ◌/◌, ◌%◌, ◌+ℤ◌, ◌==◌, ◌||◌, Bool, nat_le, nat_lt, if◌then◌else◌, List, [], ◌∷◌, length, take, drop, slice_index, Option, Some, None, option_and_then, option_map}
use Rattle.dw_base.specs.Cells.{Cell, bytes_of}
use Rattle.dw_base.specs.Lebs.{uleb_at, sleb_at}
use Rattle.dw_base.specs.Numbers.{number_at}
use Rattle.dw_base.specs.UnitHeaders.{is_address_size}
use Rattle.dw_base.specs.ValueMeanings.{address_of}
use Rattle.dw_base.specs.declared.shared.Order.{Order}
use Rattle.dw_base.specs.LineTexts.{skip_lebs}
use Rattle.dw_base.specs.declared.line_numbers.TheConstants.{DW_LNS_copy, DW_LNS_advance_pc, DW_LNS_advance_line, DW_LNS_set_file, DW_LNS_set_column, DW_LNS_negate_stmt, DW_LNS_set_basic_block, DW_LNS_const_add_pc, DW_LNS_fixed_advance_pc, DW_LNS_set_prologue_end, DW_LNS_set_epilogue_begin, DW_LNS_set_isa, DW_LNE_end_sequence, DW_LNE_set_address, DW_LNE_set_discriminator}
use Rattle.dw_base.specs.declared.line_rows.LineParams.{LineParams}
use Rattle.dw_base.specs.declared.line_rows.Operation.{Operation}
use Rattle.dw_base.specs.declared.line_rows.Operation.TheVariants.{Skip, Copy, Advance, AddLine, SetFile, SetColumn, NegateStmt, BeginBlock, AddAddress, EndPrologue, BeginEpilogue, SetIsa, Special, EndSequence, SetAddress, SetDiscriminator}

-- what a special opcode does that is so far above the first (DWARF 5, 6.2.5.1)
abbrev pub special : LineParams → ℕ → Operation
special p a = Special (a / p.line_range) (p.line_base +ℤ pos (a % p.line_range))

-- a special opcode; none where the line range is 0
unfoldable pub special_operation : LineParams → ℕ → Option (Operation × ℕ)
special_operation p opcode = if p.line_range == 0 then None else Some (special p (opcode - p.opcode_base), 1)

-- the address is advanced as by the special opcode 255; none where the line range is 0
unfoldable pub const_operation : LineParams → Option (Operation × ℕ)
const_operation p = if p.line_range == 0 then None else Some (Advance ((255 - p.opcode_base) / p.line_range), 1)

-- a standard opcode with one unsigned number
unfoldable pub is_numbered : ℕ → Bool
is_numbered opcode = opcode == DW_LNS_advance_pc || opcode == DW_LNS_set_file || opcode == DW_LNS_set_column || opcode == DW_LNS_set_isa

unfoldable pub numbered : ℕ → ℕ → Operation
numbered opcode n =
    if opcode == DW_LNS_advance_pc then Advance n
    else (if opcode == DW_LNS_set_file then SetFile n
    else (if opcode == DW_LNS_set_column then SetColumn n
    else SetIsa n))

-- a standard opcode of which no number counts
unfoldable pub unnumbered : ℕ → Operation
unnumbered opcode =
    if opcode == DW_LNS_copy then Copy
    else (if opcode == DW_LNS_negate_stmt then NegateStmt
    else (if opcode == DW_LNS_set_basic_block then BeginBlock
    else (if opcode == DW_LNS_set_prologue_end then EndPrologue
    else (if opcode == DW_LNS_set_epilogue_begin then BeginEpilogue
    else Skip))))

-- a standard opcode at the front (DWARF 5, 6.2.5.2), and its size. One that the standard doesn't have is skipped, with as many
-- unsigned numbers as its count says.
unfoldable pub standard_operation : LineParams → List ℕ → List ℕ → ℕ → Option (Operation × ℕ)
standard_operation p counts left opcode =
    if opcode == DW_LNS_advance_line then option_map (λ n. (AddLine n.0, 1 + n.1)) (sleb_at left 1)
    else (if opcode == DW_LNS_const_add_pc then const_operation p
    else (if opcode == DW_LNS_fixed_advance_pc then option_map (λ n. (AddAddress n, 3)) (number_at p.order left 1 2)
    else (if is_numbered opcode then option_map (λ n. (numbered opcode n.0, 1 + n.1)) (uleb_at left 1)
    else option_map (λ next. (unnumbered opcode, next)) (skip_lebs (slice_index counts (opcode - 1)) left 1))))

-- what an extended opcode of a code does (DWARF 5, 6.2.5.3), its operands from a place on in the cells up to its end. One that
-- isn't listed is skipped, and so is one that defines a file, which is in the table already.
unfoldable pub extended : Order → List Cell → ℕ → ℕ → Option Operation
extended order body code place =
    if code == DW_LNE_end_sequence then Some EndSequence
    else (if code == DW_LNE_set_address
    then (if is_address_size (length (bytes_of body) - place) then Some (SetAddress (address_of order (drop place body))) else None)
    else (if code == DW_LNE_set_discriminator then option_map (λ n. SetDiscriminator n.0) (uleb_at (bytes_of body) place)
    else Some Skip))

-- an extended opcode of so many bytes from a place on, its code the first of them
unfoldable pub extended_in : Order → List Cell → ℕ → ℕ → Option (Operation × ℕ)
extended_in order left first size =
    if size == 0 then None
    else (if nat_le (first + size) (length (bytes_of left))
    then option_map (λ o. (o, first + size)) (extended order (take (first + size) left) (slice_index (bytes_of left) first) (first + 1)) else None)

-- an extended opcode at the front, its length behind the 0
unfoldable pub extended_operation : Order → List Cell → Option (Operation × ℕ)
extended_operation order left = option_and_then (λ size. extended_in order left (1 + size.1) size.0) (uleb_at (bytes_of left) 1)

unfoldable pub operation_of : LineParams → List ℕ → List Cell → ℕ → Option (Operation × ℕ)
operation_of p counts left opcode =
    if nat_le p.opcode_base opcode then special_operation p opcode
    else (if opcode == 0 then extended_operation p.order left else standard_operation p counts (bytes_of left) opcode)

-- the operation at the front of the cells that are left, and its size; none where none that can be had ends in them
unfoldable pub operation_in : LineParams → List ℕ → List Cell → Option (Operation × ℕ)
operation_in p counts left =
    if nat_lt 0 (length (bytes_of left)) then operation_of p counts left (slice_index (bytes_of left) 0) else None

-- an operation and those behind it, which begin behind so many further bytes
abbrev pub with_those : Option (Operation × ℕ) → (ℕ → List Operation) → List Operation
with_those None behind = []
with_those (Some o) behind = o.0 ∷ behind (o.1 - 1)

-- the operations behind so many cells
abbrev pub operations_behind : LineParams → List ℕ → ℕ → List Cell → List Operation
operations_behind p counts n [] = []
operations_behind p counts (suc n) (c ∷ cs) = operations_behind p counts n cs
operations_behind p counts zero (c ∷ cs) = with_those (operation_in p counts (c ∷ cs)) (λ n. operations_behind p counts n cs)

-- the operations of a program, one after another, as far as they can be had
abbrev pub operations : LineParams → List ℕ → List Cell → List Operation
operations p counts program = operations_behind p counts 0 program

-- a program is these operations, one after another, and nothing else
pub data Spells (p : LineParams) (counts : List ℕ) : List Cell → List Operation → Type 0 where
  none_left : Spells p counts [] []
  one_more : (left : List Cell) (o : Operation) (size : ℕ) (os : List Operation) → operation_in p counts left ≡ Some (o, size)
      → Spells p counts (drop size left) os → Spells p counts left (o ∷ os)
