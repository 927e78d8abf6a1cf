-- The operations of a macro unit (DWARF 5, 6.3.2 and 7.23): each a byte, and its operands behind it.
use Rattle.std.specs.Prelude.{Bool, true, false, ℕ, ◌+◌, ◌==◌, ◌||◌, nat_le, nat_lt, if◌then◌else◌, List, length, slice_index, Option, Some, None, option_and_then, option_map}
use Rattle.dw_base.specs.Forms.{width_size}
use Rattle.dw_base.specs.Lebs.{uleb_at}
use Rattle.dw_base.specs.Texts.{text_in, ends_in}
use Rattle.dw_base.specs.declared.shared.Width.{Width}
use Rattle.dw_base.specs.declared.macro_numbers.TheConstants.{MACRO_END, DW_MACRO_define, DW_MACRO_undef, DW_MACRO_start_file, DW_MACRO_end_file, DW_MACRO_define_strp, DW_MACRO_undef_strp, DW_MACRO_import, DW_MACRO_define_sup, DW_MACRO_undef_sup, DW_MACRO_import_sup}
use Rattle.dw_base.specs.declared.macro_units.MacroOperation.{MacroOperation}
use Rattle.dw_base.specs.declared.macro_units.MacroOperation.TheVariants.{End, Inline, Named, Enter, Leave, Bring, Foreign}

-- behind the line of a definition, or of its end, the text; none where no NUL follows
unfoldable pub inline_behind : List ℕ → Bool → ℕ → ℕ → Option (MacroOperation × ℕ)
inline_behind bytes defines line place =
    if ends_in bytes place
    then Some (Inline defines line place (length (text_in bytes place)), place + (length (text_in bytes place) + 1)) else None

unfoldable pub inline_operation : List ℕ → Bool → ℕ → Option (MacroOperation × ℕ)
inline_operation bytes defines place = option_and_then (λ line. inline_behind bytes defines line.0 (place + line.1)) (uleb_at bytes place)

-- behind the line the offset of the text
unfoldable pub named_behind : List ℕ → Width → Bool → ℕ → ℕ → Option (MacroOperation × ℕ)
named_behind bytes width defines line place =
    if nat_le (place + width_size width) (length bytes) then Some (Named defines line place, place + width_size width) else None

unfoldable pub named_operation : List ℕ → Width → Bool → ℕ → Option (MacroOperation × ℕ)
named_operation bytes width defines place = option_and_then (λ line. named_behind bytes width defines line.0 (place + line.1)) (uleb_at bytes place)

-- behind the line the number of the file
unfoldable pub enter_behind : List ℕ → ℕ → ℕ → Option (MacroOperation × ℕ)
enter_behind bytes line place = option_map (λ file. (Enter line file.0, place + file.1)) (uleb_at bytes place)

unfoldable pub enter_operation : List ℕ → ℕ → Option (MacroOperation × ℕ)
enter_operation bytes place = option_and_then (λ line. enter_behind bytes line.0 (place + line.1)) (uleb_at bytes place)

-- the offset of a unit
unfoldable pub bring_operation : List ℕ → Width → ℕ → Option (MacroOperation × ℕ)
bring_operation bytes width place = if nat_le (place + width_size width) (length bytes) then Some (Bring place, place + width_size width) else None

-- an operation that refers to a supplementary file (DWARF 5, 7.3.6)
unfoldable pub is_foreign : ℕ → Bool
is_foreign opcode = opcode == DW_MACRO_define_sup || opcode == DW_MACRO_undef_sup || opcode == DW_MACRO_import_sup

-- an operation that has no text; none where it is none that a unit may have
unfoldable pub plain_operation : List ℕ → Width → ℕ → ℕ → Option (MacroOperation × ℕ)
plain_operation bytes width opcode place =
    if opcode == MACRO_END then Some (End, place)
    else (if opcode == DW_MACRO_start_file then enter_operation bytes place
    else (if opcode == DW_MACRO_end_file then Some (Leave, place)
    else (if opcode == DW_MACRO_import then bring_operation bytes width place
    else (if is_foreign opcode then Some (Foreign, place) else None))))

-- an operation whose operands stand at a place
unfoldable pub operation_of : List ℕ → Width → ℕ → ℕ → Option (MacroOperation × ℕ)
operation_of bytes width opcode place =
    if opcode == DW_MACRO_define then inline_operation bytes true place
    else (if opcode == DW_MACRO_undef then inline_operation bytes false place
    else (if opcode == DW_MACRO_define_strp then named_operation bytes width true place
    else (if opcode == DW_MACRO_undef_strp then named_operation bytes width false place
    else plain_operation bytes width opcode place)))

-- the operation at a place of the bytes of a section, and the place behind it; none where none that a unit may have ends in
-- the bytes. Of one that refers to a supplementary file no operand is read.
unfoldable pub operation_at : List ℕ → Width → ℕ → Option (MacroOperation × ℕ)
operation_at bytes width place =
    if nat_lt place (length bytes) then operation_of bytes width (slice_index bytes place) (place + 1) else None
