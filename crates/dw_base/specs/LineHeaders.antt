-- The numbers at the front of a line table's header (DWARF 5, 6.2.4; for versions 2 to 4 the standards' own). A table lies in
-- the bytes of its section up to its end.
use Rattle.std.specs.Prelude.{Bool, false, ◌≡◌, ℕ, ◌+◌, ◌-◌, ◌<◌, ◌≤◌, ◌==◌, ◌||◌, not, min, nat_le, if◌then◌else◌, List, [], ◌∷◌, length, take, drop, slice_index, Option, Some, None, option_and_then}
use Rattle.std.specs.Int.{w8, cast_signed}
use Rattle.dw_base.specs.Forms.{width_size}
use Rattle.dw_base.specs.Lebs.{initial_length_at}
use Rattle.dw_base.specs.Numbers.{spelled, number_at}
use Rattle.dw_base.specs.Texts.{same_text}
use Rattle.dw_base.specs.declared.shared.Order.{Order}
use Rattle.dw_base.specs.declared.shared.Width.{Width}
use Rattle.dw_base.specs.declared.line_tables.LineHeader.{LineHeader}

-- a version that a line table may have
abbrev pub is_line_version : ℕ → Bool
is_line_version version = version == 2 || version == 3 || version == 4 || version == 5

-- where the length of the header stands, for the version's place: version 5 has the sizes of addresses and of segment
-- selectors in front of it, of one byte each
unfoldable pub length_place : ℕ → ℕ → ℕ
length_place version at = if version == 5 then at + 4 else at + 2

-- where the default of statements stands, for the place behind the length of the header: version 4 has the number of
-- operations in front of it
unfoldable pub flags_place : ℕ → ℕ → ℕ
flags_place version first = if nat_le 4 version then first + 2 else first + 1

-- the numbers of a header, for the places of its version, of what stands behind its length, and of the default of statements
unfoldable pub header_with : List ℕ → ℕ → Width → ℕ → ℕ → ℕ → ℕ → ℕ → LineHeader
header_with table start width version at first flags header_length = record {
  start = start;
  end = length table;
  version = version;
  width = width;
  address = if version == 5 then slice_index table (at + 2) else 0;
  program = first + header_length;
  min_length = slice_index table first;
  max_ops = if nat_le 4 version then slice_index table (first + 1) else 1;
  default_stmt = not (slice_index table flags == 0);
  line_base = cast_signed w8 (slice_index table (flags + 1));
  line_range = slice_index table (flags + 2);
  opcode_base = slice_index table (flags + 3);
  operands = flags + 4;
  lists = flags + 4 + (slice_index table (flags + 3) - 1);
}

-- how many operands the standard opcodes from 1 on have (DWARF 5, 6.2.5.2)
abbrev pub standard_operands : List ℕ
standard_operands = 0 ∷ 1 ∷ 1 ∷ 1 ∷ 1 ∷ 0 ∷ 0 ∷ 0 ∷ 1 ∷ 0 ∷ 0 ∷ 1 ∷ []

-- how many of the standard opcodes stand below the special ones
abbrev pub standard_count : LineHeader → ℕ
standard_count h = min (h.opcode_base - 1) 12

-- the operand counts of the standard opcodes are the standard's
unfoldable pub has_standard_operands : List ℕ → LineHeader → Bool
has_standard_operands table h = same_text (take (standard_count h) (drop h.operands table)) (take (standard_count h) standard_operands)

-- the numbers of a header are such that a table may have, and its operand counts lie in the table
unfoldable pub is_header : List ℕ → LineHeader → Bool
is_header table h =
    if h.opcode_base == 0 then false
    else (if h.max_ops == 0 then false
    else (if nat_le h.lists h.end then has_standard_operands table h else false))

abbrev pub header_if : List ℕ → LineHeader → Option LineHeader
header_if table h = if is_header table h then Some h else None

-- the header whose length was read, which lies in the table
unfoldable pub header_of_length : List ℕ → ℕ → Width → ℕ → ℕ → ℕ → ℕ → ℕ → Option LineHeader
header_of_length table start width version at first flags header_length =
    if nat_le (first + header_length) (length table)
    then header_if table (header_with table start width version at first flags header_length) else None

-- the header for the places of its fields
unfoldable pub header_at : Order → List ℕ → ℕ → Width → ℕ → ℕ → ℕ → ℕ → Option LineHeader
header_at order table start width version at place flags =
    if nat_le (flags + 4) (length table)
    then header_of_length table start width version at (place + width_size width) flags (spelled order table place (width_size width)) else None

-- the header of a version, which stands at a place
unfoldable pub header_of_version : Order → List ℕ → ℕ → Width → ℕ → ℕ → Option LineHeader
header_of_version order table start width at version =
    if is_line_version version
    then header_at order table start width version at (length_place version at) (flags_place version (length_place version at + width_size width)) else None

-- the header of the table that these bytes up to its end have
unfoldable pub header_in : Order → List ℕ → ℕ → Width → ℕ → Option LineHeader
header_in order table start width at = option_and_then (header_of_version order table start width at) (number_at order table at 2)

-- the header of the table whose length was read: width, length, and the size of the length's field
abbrev pub header_from : Order → List ℕ → ℕ → Width × ℕ × ℕ → Option LineHeader
header_from order bytes start l =
    if nat_le (start + l.2 + l.1) (length bytes)
    then header_in order (take (start + l.2 + l.1) bytes) start l.0 (start + l.2) else None

-- the header of the table at a place of a section; none where no table begins there whose numbers fit
unfoldable pub line_header : Order → List ℕ → ℕ → Option LineHeader
line_header order bytes start = option_and_then (header_from order bytes start) (initial_length_at order bytes start)

-- a header of a table from a place up to another: its operand counts, its lists and its program begin in the table
pub record HeaderFits (start end : ℕ) (h : LineHeader) : Type 0 where
  pub start_is : h.start ≡ start
  pub end_is : h.end ≡ end
  pub further : start < end
  pub some : 0 < h.opcode_base
  pub operands : h.lists ≡ h.operands + (h.opcode_base - 1)
  pub lists : h.lists ≤ h.end
  pub program : h.program ≤ h.end
