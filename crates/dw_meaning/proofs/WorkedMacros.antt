-- Macro units of a file: what they mean, the number of the unit that an attribute names, what becomes of their offsets, and offsets that
-- name nothing.
use Rattle.std.proofs.Common.{true, codes, ◌≡◌, ℕ, ◌+◌, List, [], ◌∷◌, ◌++◌, length, take, drop, get_or, Some, None, refl}
use Rattle.dw_base.specs.AbbreviationBytes.{abbreviations_at}
use Rattle.dw_base.specs.Cells.{plain_cells, offset_of, field_of}
use Rattle.dw_base.specs.DebugData.{DebugData, DataReadings, around_of}
use Rattle.dw_base.specs.Forests.{no_entries, entry}
use Rattle.dw_base.specs.Forms.{kind_in, form_rows}
use Rattle.dw_base.specs.InlinePaths.{mapped_inline}
use Rattle.dw_base.specs.Lebs.{initial_length_at, uleb_at}
use Rattle.dw_base.specs.LineEntries.{column_at, entries_at, entry_at, offset_column}
use Rattle.dw_base.specs.LineFormats.{format_at, is_column, spec_at}
use Rattle.dw_base.specs.LineHeaders.{line_header, header_in, header_of_version, header_at, flags_place, length_place, header_of_length, is_header, header_with, has_standard_operands}
use Rattle.dw_base.specs.MacroMeanings.{defined, begun, ended, brought, front_mark, macro_meanings}
use Rattle.dw_base.specs.MacroOperations.{bring_operation, enter_behind, enter_operation, inline_behind, inline_operation, is_foreign, named_behind, named_operation, operation_of, plain_operation}
use Rattle.dw_base.specs.MacroPieces.{of_text, of_unit, at_unit, at_line, at_offset, MacroState, macros_at, whole, last, before_offset, front_by, front_of, mode_behind, ReadsMacros}
use Rattle.dw_base.specs.Numbers.{spelled, number_at}
use Rattle.dw_base.specs.Paths.{lies_under, mapped_path, matching}
use Rattle.dw_base.specs.Pieces.{Piece}
use Rattle.dw_base.specs.Refusals.{at}
use Rattle.dw_base.specs.Roles.{role_of}
use Rattle.dw_base.specs.TableStarts.{StrayFails, other_form, no_unit, MacroStrayFails, no_line, no_import}
use Rattle.dw_base.specs.NewOffsets.{with_offset}
use Rattle.dw_base.specs.Texts.{text_in, ends_in}
use Rattle.dw_base.specs.UnitHeaders.{in_info, unit_header}
use Rattle.dw_base.specs.UnitMeanings.{units_of}
use Rattle.dw_base.specs.UnitStates.{UnitState, before_unit, between, after_code}
use Rattle.dw_base.specs.ValueMeanings.{string, by_offset, table_number, macro_number}
use Rattle.dw_base.specs.LineSources.{line_field}
use Rattle.dw_base.specs.LineTexts.{named_text}
use Rattle.dw_base.specs.RelocationFields.{partly_at}
use Rattle.dw_base.specs.Values.{value_at, value_of}
use Rattle.dw_base.specs.TextLineChanges.{header_by_texts, table_by_texts}
use Rattle.dw_base.specs.declared.debug_sections.DebugSection.TheVariants.{LineStr, StrOffsets, Line, Names}
use Rattle.dw_base.specs.declared.fault.Kind.TheVariants.{Stray}
use Rattle.dw_base.specs.declared.shared.Order.TheVariants.{Little}
use Rattle.dw_base.specs.declared.shared.Width.TheVariants.{W32}
use Rattle.dw_meaning.specs.DataOutput.{table_change, new_bodies}
use Rattle.dw_meaning.proofs.PlainUnits.{pieces_from}
use Rattle.dw_meaning.proofs.WorkedData.{compiled, has}
use Rattle.dw_meaning.proofs.WorkedLines.{lines_data, lines_map, lines_readings, new_table5, old_table}
use Rattle.dw_meaning.proofs.WorkedParts.{all_bytes, half, word}
use Rattle.dw_meaning.proofs.DataParts.{found_with}

-- a unit of version 5 with the start of a line table: file 1 begins at line 0, line 1 defines the text at an offset, the file ends
abbrev first_unit : ℕ → ℕ → List (List ℕ)
first_unit line text = (half 5 ++ (2 ∷ [])) ∷ word line ∷ (3 ∷ 0 ∷ 1 ∷ []) ∷ (5 ∷ 1 ∷ []) ∷ word text ∷ (4 ∷ []) ∷ (0 ∷ []) ∷ []

-- and one of version 4 without one: line 2 defines a text that stands there, and a unit is imported
abbrev second_unit : ℕ → List (List ℕ)
second_unit import = (half 4 ++ (0 ∷ [])) ∷ (1 ∷ 2 ∷ codes "A 1\0") ∷ (7 ∷ []) ∷ word import ∷ (0 ∷ []) ∷ []

abbrev macro_bytes : ℕ → ℕ → ℕ → List (List ℕ)
macro_bytes line text import = first_unit line text ++ second_unit import

-- pieces of these cells, one after another
pub macros_from : MacroState → List (List ℕ) → List (Piece MacroState)
macros_from s [] = []
macros_from s (p ∷ ps) =
    record { state = s; cells = plain_cells p } ∷ macros_from (macros_at (s.place + length p) (mode_behind s.mode p)) ps

-- a unit that names the second table, and as its macros the unit that starts at a place
abbrev unit_pieces : ℕ → ℕ → ℕ → ℕ → List (List ℕ)
unit_pieces name dir start macros = (word 25 ++ half 5 ++ (1 ∷ 8 ∷ []) ++ word 0) ∷ (1 ∷ []) ∷ word name ∷ word dir ∷ word start ∷ word macros ∷ []

-- the attribute that says it has this form
abbrev unit_abbrevs : ℕ → List ℕ
unit_abbrevs form = 1 ∷ 17 ∷ 0 ∷ 3 ∷ 31 ∷ 27 ∷ 31 ∷ 16 ∷ 23 ∷ 121 ∷ form ∷ 0 ∷ 0 ∷ 0 ∷ []

abbrev macros_data : ℕ → ℕ → List (List ℕ) → DebugData
macros_data form macros units = record {
  base = record { order = Little; abbrevs = record { number = 2; bytes = unit_abbrevs form } };
  found = found_with (record { number = 1; kind = in_info; contents = plain_cells (all_bytes (unit_pieces 9 0 67 macros)) } ∷ []) (record { number = 6; bytes = codes "/build/p/u0.c\0/build/p\0" }) (lines_data.found LineStr) (lines_data.found StrOffsets) (lines_data.found Line) (record { number = 5; contents = plain_cells (all_bytes units) } ∷ []) (lines_data.found Names);
}

abbrev macros_readings : ℕ → ℕ → List (List ℕ) → DataReadings
macros_readings form macros units = record {
  units = record { number = 1; pieces = pieces_from (macros_data form macros units).base (before_unit 1 in_info 29 0 0) (unit_pieces 9 0 67 macros) } ∷ [];
  offsets = [];
  lines = lines_readings.lines;
  macros = record { number = 5; pieces = macros_from (macros_at 0 at_unit) units } ∷ [];
  names = [];
}

abbrev sound_data : DebugData
sound_data = macros_data 23 18 (macro_bytes 67 14 0)

abbrev sound_readings : DataReadings
sound_readings = macros_readings 23 18 (macro_bytes 67 14 0)

-- the section is these pieces
pub macros-read : ReadsMacros Little (plain_cells (all_bytes (macro_bytes 67 14 0))) (macros_from (macros_at 0 at_unit) (macro_bytes 67 14 0))
unfolding macros_from front_of front_by operation_of plain_operation enter_operation enter_behind inline_operation inline_behind named_operation named_behind bring_operation is_foreign uleb_at
    spelled ends_in text_in
macros-read = record {
  chain = (
    refl,
    record { size = refl; version = refl; operands = refl },
    (
      refl,
      refl,
      (
        refl,
        record { front = whole; is = refl },
        (
          refl,
          record { front = before_offset (of_text true 1); is = refl },
          (
            refl,
            refl,
            (
              refl,
              record { front = whole; is = refl },
              (
                refl,
                record { front = last; is = refl },
                (
                  refl,
                  record { size = refl; version = refl; operands = refl },
                  (
                    refl,
                    record { front = whole; is = refl },
                    (refl, record { front = before_offset of_unit; is = refl }, (refl, refl, (refl, record { front = last; is = refl }, refl))),
                  ),
                ),
              ),
            ),
          ),
        ),
      ),
    ),
  );
  cells = refl;
}

-- the first unit names the second table and has a text by its offset, the second brings in the first
pub macros-meant : macro_meanings (around_of sound_data sound_readings) sound_readings.macros
    ≡ record { version = 5; line = Some 1; events = begun 0 1 ∷ defined 1 (codes "/build/p") ∷ ended ∷ [] }
    ∷ record { version = 4; line = None; events = defined 2 (codes "A 1") ∷ brought (Some 0) ∷ [] } ∷ []
unfolding macros_from front_of front_by front_mark operation_of plain_operation enter_operation enter_behind inline_operation inline_behind named_operation named_behind bring_operation
    is_foreign uleb_at spelled number_at text_in ends_in offset_of field_of initial_length_at unit_header between after_code kind_in form_rows abbreviations_at
    line_header header_in header_of_version header_at flags_place length_place header_of_length is_header header_with has_standard_operands
macros-meant = refl

-- the entry names the second unit
pub macros-units : units_of sound_data sound_readings
    ≡ record {
      section = 1;
      head = compiled 5 W32;
      entries =
          entry 17
          (has 3 (string true by_offset (codes "u0.c")) ∷ has 27 (string true by_offset (codes "/build/p")) ∷ has 16 (table_number 1)
          ∷ has 121 (macro_number 1) ∷ [])
          no_entries no_entries;
    } ∷ []
unfolding units_of unit_header initial_length_at number_at spelled between after_code kind_in form_rows abbreviations_at uleb_at text_in offset_of field_of
    macros_from front_of front_by operation_of plain_operation enter_operation enter_behind inline_operation inline_behind named_operation named_behind bring_operation is_foreign ends_in
    line_header header_in header_of_version header_at flags_place length_place header_of_length is_header header_with has_standard_operands
macros-units = refl

-- the start of the second table follows it, and the offset of a definition its text
pub macros-output : new_bodies lines_map sound_data sound_readings
    ≡ record { number = 6; bytes = codes "/build/p\0" } ∷ record { number = 3; bytes = codes "u0.c\0/usr/src/debug/p\0" }
    ∷ record { number = 0; bytes = [] }
    ∷ record { number = 4; bytes = old_table 71 49 (codes "/usr/src/debug/p/inc") ++ new_table5 5 0 } ∷ record { number = 0; bytes = [] }
    ∷ record { number = 5; bytes = all_bytes (macro_bytes 75 0 0) } ∷ record { number = 1; bytes = all_bytes (unit_pieces 0 5 75 18) } ∷ []
unfolding new_bodies table_change unit_header initial_length_at number_at spelled between after_code kind_in form_rows abbreviations_at
    uleb_at text_in ends_in offset_of field_of role_of lies_under matching mapped_path mapped_inline with_offset line_header header_by_texts table_by_texts
    format_at spec_at is_column column_at offset_column named_text line_field partly_at entry_at entries_at value_at value_of
    macros_from front_of front_by operation_of plain_operation enter_operation enter_behind inline_operation inline_behind named_operation named_behind bring_operation is_foreign
    header_in header_of_version header_at flags_place length_place header_of_length is_header header_with has_standard_operands
macros-output = refl

-- offsets that name nothing

-- the value of the last attribute, behind the five pieces in front of it
abbrev value_of_macros : DataReadings → ℕ → Piece UnitState
value_of_macros r place = record { state = record (before_unit 1 in_info 29 0 0) { place = place }; cells = [] }

abbrev unit_list : ℕ → ℕ → List (Piece UnitState)
unit_list form macros =
    pieces_from (macros_data form macros (macro_bytes 67 14 0)).base (before_unit 1 in_info 29 0 0) (unit_pieces 9 0 67 macros)

abbrev last_piece : ℕ → ℕ → Piece UnitState
last_piece form macros = get_or (unit_list form macros) 5 (value_of_macros (macros_readings form macros (macro_bytes 67 14 0)) 0)

-- no unit starts at 17
pub stray-value : StrayFails (around_of (macros_data 23 17 (macro_bytes 67 14 0)) (macros_readings 23 17 (macro_bytes 67 14 0)))
    (macros_readings 23 17 (macro_bytes 67 14 0)).units (at Stray 1 25)
unfolding unit_header initial_length_at number_at spelled between after_code kind_in form_rows abbreviations_at uleb_at offset_of field_of
    macros_from front_of front_by operation_of plain_operation enter_operation enter_behind inline_operation inline_behind named_operation named_behind bring_operation is_foreign ends_in text_in
stray-value =
    no_unit (last_piece 23 17)
    (record {
      before = [];
      behind = [];
      section = record { number = 1; pieces = unit_list 23 17 };
      sections = refl;
      front = take 5 (unit_list 23 17);
      rest = [];
      pieces = refl;
    }) refl refl refl

-- a reference isn't the start of a unit
pub stray-form : StrayFails (around_of (macros_data 19 18 (macro_bytes 67 14 0)) (macros_readings 19 18 (macro_bytes 67 14 0)))
    (macros_readings 19 18 (macro_bytes 67 14 0)).units (at Stray 1 25)
unfolding unit_header initial_length_at number_at spelled between after_code kind_in form_rows abbreviations_at uleb_at offset_of field_of
stray-form =
    other_form (last_piece 19 18)
    (record {
      before = [];
      behind = [];
      section = record { number = 1; pieces = unit_list 19 18 };
      sections = refl;
      front = take 5 (unit_list 19 18);
      rest = [];
      pieces = refl;
    }) refl

-- a piece among those of the units
abbrev among : ℕ → ℕ → List (Piece MacroState)
among line import = macros_from (macros_at 0 at_unit) (macro_bytes line 14 import)

-- no table starts at 66
pub stray-line : MacroStrayFails (around_of (macros_data 23 18 (macro_bytes 66 14 0)) (macros_readings 23 18 (macro_bytes 66 14 0)))
    (macros_readings 23 18 (macro_bytes 66 14 0)).macros (at Stray 5 3)
unfolding macros_from front_of front_by operation_of plain_operation enter_operation enter_behind inline_operation inline_behind named_operation named_behind bring_operation is_foreign uleb_at
    spelled number_at initial_length_at ends_in text_in offset_of field_of
    line_header header_in header_of_version header_at flags_place length_place header_of_length is_header header_with has_standard_operands
stray-line =
    no_line (record { number = 5; pieces = among 66 0 }) (record { state = macros_at 3 (at_line W32); cells = plain_cells (word 66) }) W32
    (record { before = []; behind = []; sections = refl; front = take 1 (among 66 0); rest = drop 2 (among 66 0); pieces = refl }) refl refl refl

-- and no unit at 1
pub stray-import : MacroStrayFails (around_of (macros_data 23 18 (macro_bytes 67 14 1)) (macros_readings 23 18 (macro_bytes 67 14 1)))
    (macros_readings 23 18 (macro_bytes 67 14 1)).macros (at Stray 5 28)
unfolding macros_from front_of front_by operation_of plain_operation enter_operation enter_behind inline_operation inline_behind named_operation named_behind bring_operation is_foreign uleb_at
    spelled number_at initial_length_at ends_in text_in offset_of field_of
stray-import =
    no_import (record { number = 5; pieces = among 67 1 }) (record { state = macros_at 28 (at_offset W32 of_unit); cells = plain_cells (word 1) }) W32
    (record { before = []; behind = []; sections = refl; front = take 10 (among 67 1); rest = drop 11 (among 67 1); pieces = refl }) refl refl refl
