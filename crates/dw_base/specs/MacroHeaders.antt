-- The header of a macro unit (DWARF 5, 6.3.1): its version and its flags, and behind them the offset of a line table, if bit 1
-- of the flags is set. Bit 0 says that offsets have 8 bytes.
use Rattle.std.specs.Prelude.{Bool, true, false, ℕ, ◌+◌, ◌==◌, ◌||◌, nat_le, bit_and, not, if◌then◌else◌, List, length, slice_index, Option, Some, None}
use Rattle.dw_base.specs.Forms.{width_size}
use Rattle.dw_base.specs.Numbers.{spelled}
use Rattle.dw_base.specs.declared.shared.Order.{Order}
use Rattle.dw_base.specs.declared.shared.Width.{Width}
use Rattle.dw_base.specs.declared.shared.Width.TheVariants.{W32, W64}
use Rattle.dw_base.specs.declared.macro_units.MacroHeader.{MacroHeader}
use Rattle.dw_base.specs.declared.macro_numbers.TheConstants.{OFFSET_SIZE_FLAG, DEBUG_LINE_OFFSET_FLAG, OPCODE_OPERANDS_TABLE_FLAG}

-- version 4 is the one that GNU tools wrote before DWARF had such units
abbrev pub is_macro_version : ℕ → Bool
is_macro_version version = version == 4 || version == 5

abbrev pub has_flag : ℕ → ℕ → Bool
has_flag flags flag = not (bit_and flags flag == 0)

abbrev pub width_by : Bool → Width
width_by true = W64
width_by false = W32

-- a header whose version and flags end at a place, with the offset of a line table there, or without one
unfoldable pub header_by : List ℕ → ℕ → Width → Bool → ℕ → Option MacroHeader
header_by bytes version width has_line place =
    if has_line
    then (if nat_le (place + width_size width) (length bytes)
    then Some (record { version = version; width = width; has_line = true; line_field = place; first = place + width_size width }) else None)
    else Some (record { version = version; width = width; has_line = false; line_field = 0; first = place })

-- a header of a version and flags that end at a place. One with a table of operands isn't read.
unfoldable pub header_of : List ℕ → ℕ → ℕ → ℕ → Option MacroHeader
header_of bytes version flags place =
    if is_macro_version version
    then (if has_flag flags OPCODE_OPERANDS_TABLE_FLAG then None
    else header_by bytes version (width_by (has_flag flags OFFSET_SIZE_FLAG)) (has_flag flags DEBUG_LINE_OFFSET_FLAG) place)
    else None

-- the header at a place of a section; none where none that a unit may have stands there
unfoldable pub macro_header : Order → List ℕ → ℕ → Option MacroHeader
macro_header order bytes start =
    if nat_le (start + 3) (length bytes)
    then header_of bytes (spelled order bytes start 2) (slice_index bytes (start + 2)) (start + 3) else None
