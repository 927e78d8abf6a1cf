-- A section of macro units as pieces (DWARF 5, 6.3): a unit's version and flags, the offset of its line table, and of each
-- operation what stands in front of its offset, and the offset. So each offset that may change is a piece of its own.
use Rattle.std.specs.Prelude.{Bool, true, false, ◌≡◌, ℕ, ◌+◌, ◌==◌, nat_lt, if◌then◌else◌, List, length, slice_index, Option, Some, None}
use Rattle.dw_base.specs.Cells.{Cell, bytes_of}
use Rattle.dw_base.specs.Forms.{width_size}
use Rattle.dw_base.specs.Lebs.{uleb_at}
use Rattle.dw_base.specs.Numbers.{spelled}
use Rattle.dw_base.specs.Pieces.{Grammar, Piece, Chain, joined}
use Rattle.dw_base.specs.declared.shared.Order.{Order}
use Rattle.dw_base.specs.declared.shared.Width.{Width}
use Rattle.dw_base.specs.declared.shared.Width.TheVariants.{W32}
use Rattle.dw_base.specs.MacroHeaders.{has_flag, is_macro_version, width_by}
use Rattle.dw_base.specs.MacroOperations.{operation_of}
use Rattle.dw_base.specs.declared.macro_numbers.TheConstants.{DW_MACRO_define_strp, DW_MACRO_undef_strp, DW_MACRO_import, OFFSET_SIZE_FLAG, DEBUG_LINE_OFFSET_FLAG, OPCODE_OPERANDS_TABLE_FLAG}
use Rattle.dw_base.specs.declared.macro_units.MacroOperation.{MacroOperation}
use Rattle.dw_base.specs.declared.macro_units.MacroOperation.TheVariants.{End, Inline, Named, Enter, Leave, Bring, Foreign}

-- what the offset of an operation names: the text of a definition, or of its end, at a line; or a unit
pub data OffsetUse : Type 0 where
  of_text : Bool → ℕ → OffsetUse
  of_unit : OffsetUse

-- what stands in front of an operation's offset: an operation without one, the one that ends its unit, or one that an offset follows
pub data OperationFront : Type 0 where
  whole : OperationFront
  last : OperationFront
  before_offset : OffsetUse → OperationFront

-- what comes next: a unit's version and flags; the offset of its line table; an operation; the offset of one; or nothing that could
pub data MacroMode : Type 0 where
  at_unit : MacroMode
  at_line : Width → MacroMode
  at_operation : Width → MacroMode
  at_offset : Width → OffsetUse → MacroMode
  no_macros : MacroMode

-- a place between pieces: where it is, and what comes next
pub record MacroState : Type 0 where
  pub place : ℕ
  pub mode : MacroMode

abbrev pub macros_at : ℕ → MacroMode → MacroState
macros_at place mode = record { place = place; mode = mode }

-- an operation that has no offset, with nothing behind it
abbrev pub whole_by : MacroOperation → Option OperationFront
whole_by End = Some last
whole_by (Inline defines line at len) = Some whole
whole_by (Named defines line field) = None
whole_by (Enter line file) = Some whole
whole_by Leave = Some whole
whole_by (Bring field) = None
whole_by Foreign = None

abbrev pub whole_if : ℕ → Option (MacroOperation × ℕ) → Option OperationFront
whole_if size None = None
whole_if size (Some o) = if o.1 == size then whole_by o.0 else None

-- a line number, with nothing behind it
abbrev pub line_if : Bool → ℕ → Option (ℕ × ℕ) → Option OperationFront
line_if defines size None = None
line_if defines size (Some line) = if 1 + line.1 == size then Some (before_offset (of_text defines line.0)) else None

unfoldable pub front_by : List ℕ → ℕ → Option OperationFront
front_by bytes opcode =
    if opcode == DW_MACRO_define_strp then line_if true (length bytes) (uleb_at bytes 1)
    else (if opcode == DW_MACRO_undef_strp then line_if false (length bytes) (uleb_at bytes 1)
    else (if opcode == DW_MACRO_import then (if length bytes == 1 then Some (before_offset of_unit) else None)
    else whole_if (length bytes) (operation_of bytes W32 opcode 1)))

-- what all these bytes are of an operation; none where they are nothing of one
unfoldable pub front_of : List ℕ → Option OperationFront
front_of bytes = if nat_lt 0 (length bytes) then front_by bytes (slice_index bytes 0) else None

-- the cells are the version and the flags of a unit that can be read
pub record IsUnitFront (order : Order) (p : List Cell) : Type 0 where
  pub size : length p ≡ 3
  pub version : is_macro_version (spelled order (bytes_of p) 0 2) ≡ true
  pub operands : has_flag (slice_index (bytes_of p) 2) OPCODE_OPERANDS_TABLE_FLAG ≡ false

-- the cells are of an operation
pub record IsOperationFront (p : List Cell) : Type 0 where
  pub front : OperationFront
  pub is : front_of (bytes_of p) ≡ Some front

abbrev pub FitsMacros : MacroMode → Order → List Cell → Type 0
FitsMacros at_unit order p = IsUnitFront order p
FitsMacros (at_line width) order p = length p ≡ width_size width
FitsMacros (at_operation width) order p = IsOperationFront p
FitsMacros (at_offset width names) order p = length p ≡ width_size width
FitsMacros no_macros order p = ⊥

-- behind the version and the flags
abbrev pub after_flags : ℕ → MacroMode
after_flags flags =
    if has_flag flags DEBUG_LINE_OFFSET_FLAG then at_line (width_by (has_flag flags OFFSET_SIZE_FLAG))
    else at_operation (width_by (has_flag flags OFFSET_SIZE_FLAG))

-- behind what stands in front of an operation's offset
abbrev pub after_operation : Width → Option OperationFront → MacroMode
after_operation width None = no_macros
after_operation width (Some whole) = at_operation width
after_operation width (Some last) = at_unit
after_operation width (Some (before_offset names)) = at_offset width names

abbrev pub mode_behind : MacroMode → List ℕ → MacroMode
mode_behind at_unit bytes = after_flags (slice_index bytes 2)
mode_behind (at_line width) bytes = at_operation width
mode_behind (at_operation width) bytes = after_operation width (front_of bytes)
mode_behind (at_offset width names) bytes = at_operation width
mode_behind no_macros bytes = no_macros

-- the grammar of the section: it may end before a unit
abbrev pub macro_grammar : Order → Grammar
macro_grammar order = record {
  State = MacroState;
  Fits = λ s p. FitsMacros s.mode order p;
  next = λ s p. macros_at (s.place + length p) (mode_behind s.mode (bytes_of p));
  Ends = λ s. s.mode ≡ at_unit;
}

-- the contents are these pieces
pub record ReadsMacros (order : Order) (contents : List Cell) (xs : List (Piece MacroState)) : Type 0 where
  pub chain : Chain (macro_grammar order) (macros_at 0 at_unit) xs
  pub cells : joined xs ≡ contents
