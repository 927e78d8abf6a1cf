-- The opcodes of a line program (DWARF 5, 6.2.5): where each ends, and which files they define.
use Rattle.std.specs.Prelude.{ℕ, ◌+◌, ◌-◌, ◌==◌, nat_le, nat_lt, if◌then◌else◌, List, [], ◌∷◌, ◌++◌, length, take, slice_index, Option, Some, None, option_and_then, option_map}
use Rattle.dw_base.specs.Lebs.{uleb_at, sleb_at}
use Rattle.dw_base.specs.UnitHeaders.{is_address_size}
use Rattle.dw_base.specs.declared.line_tables.TextPlace.{TextPlace}
use Rattle.dw_base.specs.LineTexts.{inline_text, skip_lebs, file_numbers}
use Rattle.dw_base.specs.Walks.{Step, goes, ends}
use Rattle.dw_base.specs.declared.line_tables.LineHeader.{LineHeader}
use Rattle.dw_base.specs.declared.line_numbers.TheConstants.{DW_LNS_advance_line, DW_LNS_const_add_pc, DW_LNS_fixed_advance_pc, DW_LNE_set_address, DW_LNE_define_file, DW_LNE_set_discriminator}
use Rattle.dw_base.specs.declared.line_tables.Opcode.{Opcode}
use Rattle.dw_base.specs.declared.line_tables.FilePlace.{FilePlace}

-- an opcode that divides by the line range may stand only where that isn't 0
unfoldable pub if_ranged : LineHeader → ℕ → Option ℕ
if_ranged h next = if h.line_range == 0 then None else Some next

-- so many bytes at a place
abbrev pub behind_bytes : List ℕ → ℕ → ℕ → Option ℕ
behind_bytes table place n = if nat_le (place + n) (length table) then Some (place + n) else None

-- where a standard opcode ends whose operands stand at a place: as many unsigned numbers as its count says, but for one
-- that has a signed number, one that has 2 bytes, and one that divides by the line range
unfoldable pub standard_end : LineHeader → List ℕ → ℕ → ℕ → Option ℕ
standard_end h table opcode place =
    if opcode == DW_LNS_advance_line then option_map (λ n. place + n.1) (sleb_at table place)
    else (if opcode == DW_LNS_const_add_pc then if_ranged h place
    else (if opcode == DW_LNS_fixed_advance_pc then behind_bytes table place 2
    else skip_lebs (slice_index table (h.operands + (opcode - 1))) table place))

-- a file that an opcode defines, whose name stands at a place of the bytes up to the opcode's end
abbrev pub file_behind : List ℕ → ℕ → TextPlace → Option FilePlace
file_behind body place t = option_map (λ n. record { text = t; dir = n.0 }) (file_numbers body (place + t.len + 1))

unfoldable pub defined_file : ℕ → List ℕ → ℕ → Option FilePlace
defined_file section body place = option_and_then (file_behind body place) (inline_text section body place)

-- the operands of an extended opcode of a code, from a place on in the bytes up to its end: the file that it defines, or none;
-- none at all where they pass its end, or its address has another size
unfoldable pub extended_operands : ℕ → List ℕ → ℕ → ℕ → Option (Option FilePlace)
extended_operands section body code place =
    if code == DW_LNE_set_address then (if is_address_size (length body - place) then Some None else None)
    else (if code == DW_LNE_define_file then option_map (λ f. Some f) (defined_file section body place)
    else (if code == DW_LNE_set_discriminator then option_map (λ n. None) (uleb_at body place)
    else Some None))

abbrev pub extended_by : ℕ → Option (Option FilePlace) → Option Opcode
extended_by next None = None
extended_by next (Some file) = Some (record { next = next; file = file })

-- an extended opcode of so many bytes from a place on, its code the first of them
unfoldable pub extended_in : ℕ → List ℕ → ℕ → ℕ → Option Opcode
extended_in section table first size =
    if size == 0 then None
    else (if nat_le (first + size) (length table)
    then extended_by (first + size) (extended_operands section (take (first + size) table) (slice_index table first) (first + 1)) else None)

-- an extended opcode whose length stands at a place
unfoldable pub extended_at : ℕ → List ℕ → ℕ → Option Opcode
extended_at section table place = option_and_then (λ size. extended_in section table (place + size.1) size.0) (uleb_at table place)

abbrev pub plain_opcode : Option ℕ → Option Opcode
plain_opcode None = None
plain_opcode (Some next) = Some (record { next = next; file = None })

-- the opcode at a place: a special one, an extended one, or a standard one
unfoldable pub opcode_at : ℕ → LineHeader → List ℕ → ℕ → Option Opcode
opcode_at section h table place =
    if nat_le h.opcode_base (slice_index table place) then plain_opcode (if_ranged h (place + 1))
    else (if slice_index table place == 0 then extended_at section table (place + 1)
    else plain_opcode (standard_end h table (slice_index table place) (place + 1)))

-- one more file, where there is one
abbrev pub with_file : List FilePlace → Option FilePlace → List FilePlace
with_file files None = files
with_file files (Some f) = files ++ f ∷ []

-- a step through the program: the files that were defined so far, and the place of the next opcode
unfoldable pub next_opcode : ℕ → LineHeader → List ℕ → List FilePlace × ℕ → Option (Step (List FilePlace × ℕ) (List FilePlace))
next_opcode section h table s =
    if nat_lt s.1 (length table) then option_map (λ o. goes (with_file s.0 o.file, o.next)) (opcode_at section h table s.1)
    else Some (ends s.0)
