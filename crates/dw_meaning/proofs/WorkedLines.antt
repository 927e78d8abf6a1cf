-- Line tables of a file: the rows that they mean, the number of the table that a unit names, and what becomes of both.
use Rattle.std.proofs.Common.{true, false, codes, ◌≡◌, ℕ, pos, List, [], ◌∷◌, ◌++◌, map, Option, Some, None, refl}
use Rattle.dw_base.specs.AbbreviationBytes.{abbreviations_at}
use Rattle.dw_base.specs.Cells.{plain_cells, offset_of, field_of}
use Rattle.dw_base.specs.DebugData.{DebugData, DataReadings, line_source}
use Rattle.dw_base.specs.Forests.{no_entries, entry}
use Rattle.dw_base.specs.Forms.{kind_in, form_rows}
use Rattle.dw_base.specs.InlinePaths.{mapped_inline}
use Rattle.dw_base.specs.Lebs.{initial_length_at, uleb_at, sleb_at}
use Rattle.dw_base.specs.LineEntries.{column_at, entries_at, entry_at, offset_column}
use Rattle.dw_base.specs.LineFormats.{format_at, is_column, spec_at}
use Rattle.dw_base.specs.LineHeaders.{line_header, header_in, header_of_version, header_at, flags_place, length_place, header_of_length, is_header, header_with, has_standard_operands}
use Rattle.dw_base.specs.LineOperations.{special_operation, const_operation, is_numbered, numbered, unnumbered, standard_operation, extended, extended_in, extended_operation, operation_of, operation_in}
use Rattle.dw_base.specs.LineRegisters.{start_registers, advanced, on_line, at_address, moved, gives_row, behind_row}
use Rattle.dw_base.specs.LineMeanings.{ShownFile, named, unnamed, ShownRow, LineMeaning, line_meanings}
use Rattle.dw_base.specs.Numbers.{spelled, number_at}
use Rattle.dw_base.specs.Paths.{PathMap, lies_under, mapped_path, matching}
use Rattle.dw_base.specs.Roles.{role_of}
use Rattle.dw_base.specs.NewOffsets.{with_offset}
use Rattle.dw_base.specs.Texts.{text_in, ends_in}
use Rattle.dw_base.specs.UnitHeaders.{in_info, unit_header}
use Rattle.dw_base.specs.UnitMeanings.{units_of}
use Rattle.dw_base.specs.UnitStates.{before_unit, between, after_code}
use Rattle.dw_base.specs.ValueMeanings.{address_of, string, by_offset, table_number}
use Rattle.dw_base.specs.LineSources.{line_field}
use Rattle.dw_base.specs.LineTexts.{named_text}
use Rattle.dw_base.specs.RelocationFields.{partly_at}
use Rattle.dw_base.specs.Values.{value_at, value_of}
use Rattle.dw_base.specs.TextLineChanges.{header_by_texts, table_by_texts}
use Rattle.dw_base.specs.declared.line_tables.LineHeader.{LineHeader}
use Rattle.dw_base.specs.declared.shared.Order.TheVariants.{Little}
use Rattle.dw_base.specs.declared.shared.Width.TheVariants.{W32}
use Rattle.dw_meaning.specs.DataOutput.{table_change, new_bodies}
use Rattle.dw_meaning.proofs.PlainUnits.{no_section, pieces_from}
use Rattle.dw_meaning.proofs.WorkedData.{compiled, has}
use Rattle.dw_meaning.proofs.WorkedParts.{all_bytes, half, word}
use Rattle.dw_meaning.proofs.DataParts.{found_with}

-- what stands in front of the lists of both tables, behind the lengths of their headers
abbrev line_front : List ℕ
line_front = 1 ∷ 1 ∷ 1 ∷ 251 ∷ 14 ∷ 13 ∷ 0 ∷ 1 ∷ 1 ∷ 1 ∷ 1 ∷ 0 ∷ 0 ∷ 0 ∷ 1 ∷ 0 ∷ 0 ∷ 1 ∷ []

abbrev address_set : List ℕ
address_set = 0 ∷ 9 ∷ 2 ∷ 0 ∷ 16 ∷ 0 ∷ 0 ∷ 0 ∷ 0 ∷ 0 ∷ 0 ∷ []

-- a table of version 4, whose directory stands in it
abbrev pub old_table : ℕ → ℕ → List ℕ → List ℕ
old_table size front dir =
    word size ++ half 4 ++ word front ++ line_front ++ dir ++ (0 ∷ 0 ∷ []) ++ codes "u0.c\0" ++ (0 ∷ 0 ∷ 0 ∷ 0 ∷ [])
    ++ address_set ++ (33 ∷ 33 ∷ 0 ∷ 1 ∷ 1 ∷ [])

-- and one of version 5, whose paths stand in `.debug_line_str`
abbrev pub new_table5 : ℕ → ℕ → List ℕ
new_table5 dir file =
    word 60 ++ half 5 ++ (8 ∷ 0 ∷ []) ++ word 37 ++ line_front ++ (1 ∷ 1 ∷ 31 ∷ 1 ∷ []) ++ word dir ++ (2 ∷ 1 ∷ 31 ∷ 2 ∷ 11 ∷ 1 ∷ []) ++ word file
    ++ (0 ∷ []) ++ address_set ++ (33 ∷ 0 ∷ 1 ∷ 1 ∷ [])

abbrev pub two_tables : List ℕ
two_tables = old_table 63 41 (codes "/build/p/inc") ++ new_table5 0 9

-- a unit that names the second of them
abbrev pub line_pieces : ℕ → ℕ → ℕ → List (List ℕ)
line_pieces name dir start =
    (word 21 ++ half 5 ++ (1 ∷ 8 ∷ []) ++ word 0) ∷ (1 ∷ []) ∷ word name ∷ word dir ∷ word start ∷ []

abbrev line_abbrevs : List ℕ
line_abbrevs = 1 ∷ 17 ∷ 0 ∷ 3 ∷ 31 ∷ 27 ∷ 31 ∷ 16 ∷ 23 ∷ 0 ∷ 0 ∷ 0 ∷ []

abbrev pub lines_data : DebugData
lines_data = record {
  base = record { order = Little; abbrevs = record { number = 2; bytes = line_abbrevs } };
  found = found_with (record { number = 1; kind = in_info; contents = plain_cells (all_bytes (line_pieces 9 0 67)) } ∷ []) (record { number = 0; bytes = [] }) (record { number = 3; bytes = codes "/build/p\0u0.c\0" }) no_section (record { number = 4; contents = plain_cells two_tables }) [] no_section;
}

-- the numbers of a header that was read
abbrev header_or : Option LineHeader → LineHeader
header_or (Some h) = h
header_or None = record {
  start = 0;
  end = 0;
  version = 0;
  width = W32;
  address = 0;
  program = 0;
  min_length = 0;
  max_ops = 0;
  default_stmt = false;
  line_base = pos 0;
  line_range = 0;
  opcode_base = 0;
  operands = 0;
  lists = 0;
}

abbrev pub lines_readings : DataReadings
lines_readings = record {
  units = record { number = 1; pieces = pieces_from lines_data.base (before_unit 1 in_info 25 0 0) (line_pieces 9 0 67) } ∷ [];
  offsets = [];
  lines =
      record {
        header = header_or (line_header Little two_tables 0);
        dirs = record { section = 4; at = 28; len = 12; field = 28 } ∷ [];
        files = record { text = record { section = 4; at = 42; len = 4; field = 42 }; dir = 0 } ∷ [];
        defined = [];
        behind = 51;
      } ∷ record {
        header = header_or (line_header Little two_tables 67);
        dirs = record { section = 3; at = 0; len = 8; field = 101 } ∷ [];
        files = record { text = record { section = 3; at = 9; len = 4; field = 111 }; dir = 0 } ∷ [];
        defined = [];
        behind = 116;
      } ∷ [];
  macros = [];
  names = [];
}

abbrev pub lines_map : PathMap
lines_map = record { pairs = record { base = codes "/build/p"; dest = codes "/usr/src/debug/p" } ∷ [] }

-- the unit names table 1
pub lines-units : units_of lines_data lines_readings
    ≡ record {
      section = 1;
      head = compiled 5 W32;
      entries =
          entry 17
          (has 3 (string true by_offset (codes "u0.c")) ∷ has 27 (string true by_offset (codes "/build/p")) ∷ has 16 (table_number 1) ∷ [])
          no_entries no_entries;
    } ∷ []
unfolding units_of unit_header initial_length_at number_at spelled between after_code kind_in form_rows abbreviations_at uleb_at text_in offset_of field_of
    line_header header_in header_of_version header_at flags_place length_place header_of_length is_header header_with has_standard_operands
lines-units = refl

-- each path has its place, in the header of its table or in the table of texts, where the unit's name comes first, and the second table starts
-- behind the longer first
pub lines-output : new_bodies lines_map lines_data lines_readings
    ≡ record { number = 0; bytes = [] } ∷ record { number = 3; bytes = codes "u0.c\0/usr/src/debug/p\0" } ∷ record { number = 0; bytes = [] }
    ∷ record { number = 4; bytes = old_table 71 49 (codes "/usr/src/debug/p/inc") ++ new_table5 5 0 } ∷ record { number = 0; bytes = [] }
    ∷ record { number = 1; bytes = all_bytes (line_pieces 0 5 75) } ∷ []
unfolding new_bodies table_change unit_header initial_length_at number_at spelled between after_code kind_in form_rows abbreviations_at
    uleb_at text_in offset_of field_of role_of lies_under matching mapped_path mapped_inline with_offset line_header header_by_texts table_by_texts
    format_at spec_at is_column column_at offset_column named_text line_field partly_at entry_at entries_at value_at value_of ends_in
    header_in header_of_version header_at flags_place length_place header_of_length is_header header_with has_standard_operands
lines-output = refl

-- a row of these tables
abbrev worked_row : ℕ → ℕ → ShownFile → ShownRow
worked_row address line file = record {
  registers = record {
    symbol = None;
    address = address;
    op_index = 0;
    file = 0;
    line = line;
    column = 0;
    stmt = true;
    block = false;
    prologue_end = false;
    epilogue_begin = false;
    end = false;
    isa = 0;
    discriminator = 0;
  };
  file = file;
}

abbrev last_row : ℕ → ℕ → ShownFile → ShownRow
last_row address line file = record { registers = record (worked_row address line file).registers { end = true }; file = file }

-- a file of version 4 lies in the empty directory where it names none; in version 5 the file of number 1 is the second
pub lines-rows : map (λ (x : LineMeaning). x.rows) (line_meanings (line_source lines_data) lines_readings.lines)
    ≡ (worked_row 4097 2 (named [] (codes "u0.c")) ∷ worked_row 4098 3 (named [] (codes "u0.c")) ∷ last_row 4098 3 (named [] (codes "u0.c")) ∷ [])
    ∷ (worked_row 4097 2 (unnamed 1) ∷ last_row 4097 2 (unnamed 1) ∷ []) ∷ []
unfolding initial_length_at number_at spelled uleb_at sleb_at line_header header_in header_of_version header_at flags_place length_place header_of_length is_header header_with has_standard_operands
    special_operation const_operation is_numbered numbered unnumbered standard_operation extended extended_in extended_operation address_of operation_of operation_in
    start_registers advanced on_line at_address moved gives_row behind_row text_in ends_in
lines-rows = refl
