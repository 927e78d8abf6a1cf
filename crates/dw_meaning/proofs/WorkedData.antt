-- Debug data, worked: what the units mean, and their new bytes. What is said of each is what an independent program says of
-- a file that holds it: a variable that shares the text of the directory; a path that stands in its value; two units of 64-bit
-- DWARF with a reference from one into the other; and a unit with a value of each form that has one by itself.
use Rattle.dw_meaning.proofs.PlainUnits.{no_section, units_alone}
use Rattle.std.proofs.Common.{true, false, ◌≡◌, ℕ, List, [], ◌∷◌, ◌++◌, codes, refl, None}
use Rattle.std.specs.Prelude.{negsuc}
use Rattle.dw_base.specs.AbbreviationBytes.{abbreviations_at}
use Rattle.dw_base.specs.Cells.{plain_cells, field_of, offset_of}
use Rattle.dw_base.specs.DebugData.{DebugData}
use Rattle.dw_base.specs.DebugData.{DataReadings}
use Rattle.dw_meaning.specs.DataOutput.{new_bodies, table_change}
use Rattle.dw_base.specs.Forests.{AttributeMeaning, no_entries, entry, HeadMeaning}
use Rattle.dw_base.specs.Forms.{kind_in, form_rows}
use Rattle.dw_base.specs.InlinePaths.{inline_fits, mapped_inline}
use Rattle.dw_base.specs.Lebs.{uleb_at, sleb_at, initial_length_at}
use Rattle.dw_base.specs.Numbers.{spelled, number_at}
use Rattle.dw_base.specs.Paths.{PathMap, lies_under, mapped_path, matching}
use Rattle.dw_base.specs.Roles.{role_of}
use Rattle.dw_base.specs.NewOffsets.{with_offset}
use Rattle.dw_base.specs.Texts.{text_in}
use Rattle.dw_base.specs.UnitHeaders.{in_info, unit_header}
use Rattle.dw_base.specs.UnitMeanings.{units_of}
use Rattle.dw_base.specs.UnitStates.{between, after_code, before_unit}
use Rattle.dw_base.specs.ValueMeanings.{ValueMeaning, string, entry_of, stray, signed_number, of_class, raw, inline, by_offset, address_of}
use Rattle.dw_base.specs.declared.shared.Order.TheVariants.{Little}
use Rattle.dw_base.specs.declared.shared.Width.{Width}
use Rattle.dw_base.specs.declared.shared.Width.TheVariants.{W32, W64}
use Rattle.dw_base.specs.declared.values.ValueClass.TheVariants.{Address, Number, Flag, AddrIndex, ListIndex, Signature, SecOffset}
use Rattle.dw_base.specs.declared.view_fields.Field.TheVariants.{Num}
use Rattle.dw_meaning.proofs.PlainUnits.{pieces_from}
use Rattle.dw_meaning.proofs.WorkedParts.{all_bytes}
use Rattle.dw_meaning.proofs.DataParts.{found_with}

abbrev pub has : ℕ → ValueMeaning → AttributeMeaning
has name value = record { name = name; value = value }

-- the head of a compilation with addresses of 8 bytes
abbrev pub compiled : ℕ → Width → HeadMeaning
compiled version width = record { version = version; width = width; address = 8; kind = 1; signature = 0; type_entry = None }

-- `.debug_info` in section 1 by its pieces, its abbreviations in 2, and the tables of texts in 3 and 4
abbrev worked_data : List (List ℕ) → List ℕ → List ℕ → List ℕ → DebugData
worked_data pieces abbrevs str line_str = record {
  base = record { order = Little; abbrevs = record { number = 2; bytes = abbrevs } };
  found = found_with (record { number = 1; kind = in_info; contents = plain_cells (all_bytes pieces) } ∷ []) (record { number = 3; bytes = str }) (record { number = 4; bytes = line_str }) no_section no_section [] no_section;
}

abbrev worked_readings : DebugData → ℕ → List (List ℕ) → DataReadings
worked_readings d whole pieces = units_alone (record { number = 1; pieces = pieces_from d.base (before_unit 1 in_info whole 0 0) pieces } ∷ [])

-- a variable that shares the text of the directory names it still, at a place of its own behind the mapped directory
abbrev shared_pieces : List (List ℕ)
shared_pieces =
    (22 ∷ 0 ∷ 0 ∷ 0 ∷ 4 ∷ 0 ∷ 0 ∷ 0 ∷ 0 ∷ 0 ∷ 8 ∷ [])
    ∷ (1 ∷ [])
    ∷ (0 ∷ 0 ∷ 0 ∷ 0 ∷ [])
    ∷ (13 ∷ 0 ∷ 0 ∷ 0 ∷ [])
    ∷ (2 ∷ [])
    ∷ (13 ∷ 0 ∷ 0 ∷ 0 ∷ [])
    ∷ (0 ∷ [])
    ∷ []

abbrev shared_data : DebugData
shared_data =
    worked_data shared_pieces
    (1 ∷ 17 ∷ 1 ∷ 3 ∷ 14 ∷ 27 ∷ 14 ∷ 0 ∷ 0 ∷ 2 ∷ 52 ∷ 0 ∷ 3 ∷ 14 ∷ 0 ∷ 0 ∷ 0 ∷ [])
    (codes "/build/p/a.c\0" ++ codes "/build/p\0")
    []

pub shared-meaning : units_of shared_data (worked_readings shared_data 26 shared_pieces)
    ≡ record {
      section = 1;
      head = compiled 4 W32;
      entries =
          entry 17
          (has 3 (string true by_offset (codes "/build/p/a.c")) ∷ has 27 (string true by_offset (codes "/build/p")) ∷ [])
          (entry 52
          (has 3 (string false by_offset (codes "/build/p")) ∷ [])
          no_entries no_entries) no_entries;
    } ∷ []
unfolding units_of unit_header initial_length_at number_at spelled between after_code kind_in form_rows abbreviations_at uleb_at sleb_at text_in
    offset_of field_of address_of
shared-meaning = refl

abbrev shared_map : PathMap
shared_map = record { pairs = record { base = codes "/build/p"; dest = codes "/usr/src/debug/p" } ∷ [] }

pub shared-output : new_bodies shared_map shared_data (worked_readings shared_data 26 shared_pieces)
    ≡ record { number = 3; bytes = codes "/usr/src/debug/p/a.c\0" ++ codes "/usr/src/debug/p\0" ++ codes "/build/p\0" }
    ∷ record { number = 4; bytes = [] } ∷ record { number = 0; bytes = [] } ∷ record { number = 0; bytes = [] } ∷ record { number = 0; bytes = [] }
    ∷ record {
      number = 1;
      bytes = all_bytes (
          (22 ∷ 0 ∷ 0 ∷ 0 ∷ 4 ∷ 0 ∷ 0 ∷ 0 ∷ 0 ∷ 0 ∷ 8 ∷ [])
          ∷ (1 ∷ [])
          ∷ (0 ∷ 0 ∷ 0 ∷ 0 ∷ [])
          ∷ (21 ∷ 0 ∷ 0 ∷ 0 ∷ [])
          ∷ (2 ∷ [])
          ∷ (38 ∷ 0 ∷ 0 ∷ 0 ∷ [])
          ∷ (0 ∷ [])
          ∷ []);
    } ∷ []
unfolding new_bodies table_change unit_header initial_length_at number_at spelled between after_code kind_in form_rows abbreviations_at
    uleb_at text_in offset_of field_of role_of lies_under matching mapped_path mapped_inline with_offset
shared-output = refl

-- a path that stands in its value, mapped in its room; no field names a text of the table, so none is left in it
abbrev inline_pieces : List (List ℕ)
inline_pieces =
    (31 ∷ 0 ∷ 0 ∷ 0 ∷ 4 ∷ 0 ∷ 0 ∷ 0 ∷ 0 ∷ 0 ∷ 8 ∷ [])
    ∷ (1 ∷ [])
    ∷ (codes "/build/package-1.0/a.c\0")
    ∷ []

abbrev inline_data : DebugData
inline_data =
    worked_data inline_pieces
    (1 ∷ 17 ∷ 0 ∷ 3 ∷ 8 ∷ 0 ∷ 0 ∷ 0 ∷ [])
    (codes "/build/p/a.c\0" ++ codes "/build/p\0")
    []

pub inline-meaning : units_of inline_data (worked_readings inline_data 35 inline_pieces)
    ≡ record {
      section = 1;
      head = compiled 4 W32;
      entries =
          entry 17
          (has 3 (string true inline (codes "/build/package-1.0/a.c")) ∷ [])
          no_entries no_entries;
    } ∷ []
unfolding units_of unit_header initial_length_at number_at spelled between after_code kind_in form_rows abbreviations_at uleb_at sleb_at text_in
    offset_of field_of address_of
inline-meaning = refl

abbrev inline_map : PathMap
inline_map = record { pairs = record { base = codes "/build/package-1.0"; dest = codes "/usr/src/debug" } ∷ [] }

pub inline-output : new_bodies inline_map inline_data (worked_readings inline_data 35 inline_pieces)
    ≡ record { number = 3; bytes = [] }
    ∷ record { number = 4; bytes = [] } ∷ record { number = 0; bytes = [] } ∷ record { number = 0; bytes = [] } ∷ record { number = 0; bytes = [] }
    ∷ record {
      number = 1;
      bytes = all_bytes (
          (31 ∷ 0 ∷ 0 ∷ 0 ∷ 4 ∷ 0 ∷ 0 ∷ 0 ∷ 0 ∷ 0 ∷ 8 ∷ [])
          ∷ (1 ∷ [])
          ∷ (codes "/usr/src/debug/////a.c\0")
          ∷ []);
    } ∷ []
unfolding new_bodies table_change unit_header initial_length_at number_at spelled between after_code kind_in form_rows abbreviations_at
    uleb_at text_in offset_of field_of role_of lies_under matching mapped_path mapped_inline with_offset
inline-output = refl

-- two units of 64-bit DWARF; the second variable of the first refers to the variable of the second
abbrev wide_pieces : List (List ℕ)
wide_pieces =
    (255 ∷ 255 ∷ 255 ∷ 255 ∷ 36 ∷ 0 ∷ 0 ∷ 0 ∷ 0 ∷ 0 ∷ 0 ∷ 0 ∷ 5 ∷ 0 ∷ 1 ∷ 8 ∷ 0 ∷ 0 ∷ 0 ∷ 0 ∷ 0 ∷ 0 ∷ 0 ∷ 0 ∷ [])
    ∷ (1 ∷ [])
    ∷ (0 ∷ 0 ∷ 0 ∷ 0 ∷ 0 ∷ 0 ∷ 0 ∷ 0 ∷ [])
    ∷ (2 ∷ [])
    ∷ (codes "v\0")
    ∷ (3 ∷ [])
    ∷ (codes "w\0")
    ∷ (81 ∷ 0 ∷ 0 ∷ 0 ∷ 0 ∷ 0 ∷ 0 ∷ 0 ∷ [])
    ∷ (0 ∷ [])
    ∷ (255 ∷ 255 ∷ 255 ∷ 255 ∷ 25 ∷ 0 ∷ 0 ∷ 0 ∷ 0 ∷ 0 ∷ 0 ∷ 0 ∷ 5 ∷ 0 ∷ 1 ∷ 8 ∷ 0 ∷ 0 ∷ 0 ∷ 0 ∷ 0 ∷ 0 ∷ 0 ∷ 0 ∷ [])
    ∷ (1 ∷ [])
    ∷ (13 ∷ 0 ∷ 0 ∷ 0 ∷ 0 ∷ 0 ∷ 0 ∷ 0 ∷ [])
    ∷ (2 ∷ [])
    ∷ (codes "x\0")
    ∷ (0 ∷ [])
    ∷ []

abbrev wide_data : DebugData
wide_data =
    worked_data wide_pieces
    (1 ∷ 17 ∷ 1 ∷ 3 ∷ 14 ∷ 0 ∷ 0 ∷ 2 ∷ 52 ∷ 0 ∷ 3 ∷ 8 ∷ 0 ∷ 0 ∷ 3 ∷ 52 ∷ 0 ∷ 3 ∷ 8 ∷ 73 ∷ 16 ∷ 0 ∷ 0 ∷ 0 ∷ [])
    (codes "/build/p/a.c\0" ++ codes "/build/p/b.c\0")
    []

pub wide-meaning : units_of wide_data (worked_readings wide_data 85 wide_pieces)
    ≡ record {
      section = 1;
      head = compiled 5 W64;
      entries =
          entry 17
          (has 3 (string true by_offset (codes "/build/p/a.c")) ∷ [])
          (entry 52
          (has 3 (string false inline (codes "v")) ∷ [])
          no_entries (entry 52
          (has 3 (string false inline (codes "w")) ∷ has 73 (entry_of 1 1) ∷ [])
          no_entries no_entries)) no_entries;
    }
    ∷ record {
      section = 1;
      head = compiled 5 W64;
      entries =
          entry 17
          (has 3 (string true by_offset (codes "/build/p/b.c")) ∷ [])
          (entry 52
          (has 3 (string false inline (codes "x")) ∷ [])
          no_entries no_entries) no_entries;
    } ∷ []
unfolding units_of unit_header initial_length_at number_at spelled between after_code kind_in form_rows abbreviations_at uleb_at sleb_at text_in
    offset_of field_of address_of
wide-meaning = refl

abbrev wide_map : PathMap
wide_map = record { pairs = record { base = codes "/build/p"; dest = codes "/usr/src/debug/p" } ∷ [] }

pub wide-output : new_bodies wide_map wide_data (worked_readings wide_data 85 wide_pieces)
    ≡ record { number = 3; bytes = codes "/usr/src/debug/p/a.c\0" ++ codes "/usr/src/debug/p/b.c\0" }
    ∷ record { number = 4; bytes = [] } ∷ record { number = 0; bytes = [] } ∷ record { number = 0; bytes = [] } ∷ record { number = 0; bytes = [] }
    ∷ record {
      number = 1;
      bytes = all_bytes (
          (255 ∷ 255 ∷ 255 ∷ 255 ∷ 36 ∷ 0 ∷ 0 ∷ 0 ∷ 0 ∷ 0 ∷ 0 ∷ 0 ∷ 5 ∷ 0 ∷ 1 ∷ 8 ∷ 0 ∷ 0 ∷ 0 ∷ 0 ∷ 0 ∷ 0 ∷ 0 ∷ 0 ∷ [])
          ∷ (1 ∷ [])
          ∷ (0 ∷ 0 ∷ 0 ∷ 0 ∷ 0 ∷ 0 ∷ 0 ∷ 0 ∷ [])
          ∷ (2 ∷ [])
          ∷ (codes "v\0")
          ∷ (3 ∷ [])
          ∷ (codes "w\0")
          ∷ (81 ∷ 0 ∷ 0 ∷ 0 ∷ 0 ∷ 0 ∷ 0 ∷ 0 ∷ [])
          ∷ (0 ∷ [])
          ∷ (255 ∷ 255 ∷ 255 ∷ 255 ∷ 25 ∷ 0 ∷ 0 ∷ 0 ∷ 0 ∷ 0 ∷ 0 ∷ 0 ∷ 5 ∷ 0 ∷ 1 ∷ 8 ∷ 0 ∷ 0 ∷ 0 ∷ 0 ∷ 0 ∷ 0 ∷ 0 ∷ 0 ∷ [])
          ∷ (1 ∷ [])
          ∷ (21 ∷ 0 ∷ 0 ∷ 0 ∷ 0 ∷ 0 ∷ 0 ∷ 0 ∷ [])
          ∷ (2 ∷ [])
          ∷ (codes "x\0")
          ∷ (0 ∷ [])
          ∷ []);
    } ∷ []
unfolding new_bodies table_change unit_header initial_length_at number_at spelled between after_code kind_in form_rows abbreviations_at
    uleb_at text_in offset_of field_of role_of lies_under matching mapped_path mapped_inline with_offset
wide-output = refl

-- each form that has values of its own
abbrev forms_pieces : List (List ℕ)
forms_pieces =
    (145 ∷ 0 ∷ 0 ∷ 0 ∷ 5 ∷ 0 ∷ 1 ∷ 8 ∷ 0 ∷ 0 ∷ 0 ∷ 0 ∷ [])
    ∷ (1 ∷ [])
    ∷ (0 ∷ 0 ∷ 0 ∷ 0 ∷ [])
    ∷ (0 ∷ 0 ∷ 0 ∷ 0 ∷ [])
    ∷ (2 ∷ [])
    ∷ (41 ∷ 17 ∷ 0 ∷ 0 ∷ 0 ∷ 0 ∷ 0 ∷ 0 ∷ [])
    ∷ (2 ∷ 0 ∷ 145 ∷ 108 ∷ [])
    ∷ (1 ∷ 0 ∷ 0 ∷ 0 ∷ 156 ∷ [])
    ∷ (44 ∷ 1 ∷ [])
    ∷ (112 ∷ 17 ∷ 1 ∷ 0 ∷ [])
    ∷ (0 ∷ 0 ∷ 0 ∷ 0 ∷ 0 ∷ 1 ∷ 0 ∷ 0 ∷ [])
    ∷ (codes "inline\0")
    ∷ (3 ∷ 97 ∷ 98 ∷ 99 ∷ [])
    ∷ (1 ∷ 122 ∷ [])
    ∷ (200 ∷ [])
    ∷ (1 ∷ [])
    ∷ (255 ∷ 126 ∷ [])
    ∷ (13 ∷ 0 ∷ 0 ∷ 0 ∷ [])
    ∷ (185 ∷ 100 ∷ [])
    ∷ (12 ∷ 0 ∷ 0 ∷ 0 ∷ [])
    ∷ (12 ∷ [])
    ∷ (12 ∷ 0 ∷ [])
    ∷ (5 ∷ 0 ∷ 0 ∷ 0 ∷ [])
    ∷ (12 ∷ 0 ∷ 0 ∷ 0 ∷ 0 ∷ 0 ∷ 0 ∷ 0 ∷ [])
    ∷ (12 ∷ [])
    ∷ (15 ∷ [])
    ∷ (129 ∷ 1 ∷ [])
    ∷ (64 ∷ 0 ∷ 0 ∷ 0 ∷ [])
    ∷ (2 ∷ 145 ∷ 108 ∷ [])
    ∷ ([])
    ∷ (200 ∷ 1 ∷ [])
    ∷ (0 ∷ 1 ∷ 2 ∷ 3 ∷ 4 ∷ 5 ∷ 6 ∷ 7 ∷ 8 ∷ 9 ∷ 10 ∷ 11 ∷ 12 ∷ 13 ∷ 14 ∷ 15 ∷ [])
    ∷ (9 ∷ 0 ∷ 0 ∷ 0 ∷ [])
    ∷ (136 ∷ 119 ∷ 102 ∷ 85 ∷ 68 ∷ 51 ∷ 34 ∷ 17 ∷ [])
    ∷ ([])
    ∷ (3 ∷ [])
    ∷ (4 ∷ [])
    ∷ (5 ∷ [])
    ∷ (6 ∷ 0 ∷ [])
    ∷ (7 ∷ 0 ∷ 0 ∷ [])
    ∷ (8 ∷ 0 ∷ 0 ∷ 0 ∷ [])
    ∷ (0 ∷ [])
    ∷ []

abbrev forms_data : DebugData
forms_data =
    worked_data forms_pieces
    (1 ∷ 17 ∷ 1 ∷ 3 ∷ 14 ∷ 27 ∷ 31 ∷ 0 ∷ 0 ∷ 2 ∷ 52 ∷ 0 ∷ 129 ∷ 64 ∷ 1 ∷ 131 ∷ 64 ∷ 3 ∷ 132 ∷ 64 ∷ 4 ∷ 133 ∷ 64 ∷ 5 ∷ 134 ∷ 64 ∷ 6 ∷ 135 ∷ 64 ∷ 7 ∷ 136 ∷ 64 ∷ 8 ∷ 137 ∷ 64 ∷ 9 ∷ 138 ∷ 64 ∷ 10 ∷ 139 ∷ 64 ∷ 11 ∷ 140 ∷ 64 ∷ 12 ∷ 141 ∷ 64 ∷ 13 ∷ 142 ∷ 64 ∷ 14 ∷ 143 ∷ 64 ∷ 15 ∷ 144 ∷ 64 ∷ 16 ∷ 145 ∷ 64 ∷ 17 ∷ 146 ∷ 64 ∷ 18 ∷ 147 ∷ 64 ∷ 19 ∷ 148 ∷ 64 ∷ 20 ∷ 149 ∷ 64 ∷ 21 ∷ 150 ∷ 64 ∷ 22 ∷ 151 ∷ 64 ∷ 23 ∷ 152 ∷ 64 ∷ 24 ∷ 153 ∷ 64 ∷ 25 ∷ 155 ∷ 64 ∷ 27 ∷ 158 ∷ 64 ∷ 30 ∷ 159 ∷ 64 ∷ 31 ∷ 160 ∷ 64 ∷ 32 ∷ 161 ∷ 64 ∷ 33 ∷ 123 ∷ 162 ∷ 64 ∷ 34 ∷ 163 ∷ 64 ∷ 35 ∷ 169 ∷ 64 ∷ 41 ∷ 170 ∷ 64 ∷ 42 ∷ 171 ∷ 64 ∷ 43 ∷ 172 ∷ 64 ∷ 44 ∷ 0 ∷ 0 ∷ 0 ∷ [])
    (codes "/build/p/a.c\0" ++ codes "/build/p\0")
    (codes "/build/p\0" ++ codes "a.c\0")

pub forms-meaning : units_of forms_data (worked_readings forms_data 149 forms_pieces)
    ≡ record {
      section = 1;
      head = compiled 5 W32;
      entries =
          entry 17
          (has 3 (string true by_offset (codes "/build/p/a.c")) ∷ has 27 (string true by_offset (codes "/build/p")) ∷ [])
          (entry 52
          (has 8193 (of_class Address (Num 4393)) ∷ has 8195 (raw (plain_cells (145 ∷ 108 ∷ []))) ∷ has 8196 (raw (plain_cells (156 ∷ []))) ∷ has 8197 (of_class Number (Num 300)) ∷ has 8198 (of_class Number (Num 70000)) ∷ has 8199 (of_class Number (Num 1099511627776)) ∷ has 8200 (string false inline (codes "inline")) ∷ has 8201 (raw (plain_cells (97 ∷ 98 ∷ 99 ∷ []))) ∷ has 8202 (raw (plain_cells (122 ∷ []))) ∷ has 8203 (of_class Number (Num 200)) ∷ has 8204 (of_class Flag (Num 1)) ∷ has 8205 (signed_number (negsuc 128)) ∷ has 8206 (string false by_offset (codes "/build/p")) ∷ has 8207 (of_class Number (Num 12857)) ∷ has 8208 (entry_of 0 0) ∷ has 8209 (entry_of 0 0) ∷ has 8210 (entry_of 0 0) ∷ has 8211 (stray 5) ∷ has 8212 (entry_of 0 0) ∷ has 8213 (entry_of 0 0) ∷ has 8214 (of_class Number (Num 129)) ∷ has 8215 (of_class SecOffset (Num 64)) ∷ has 8216 (raw (plain_cells (145 ∷ 108 ∷ []))) ∷ has 8217 (of_class Flag (Num 1)) ∷ has 8219 (of_class AddrIndex (Num 200)) ∷ has 8222 (raw (plain_cells (0 ∷ 1 ∷ 2 ∷ 3 ∷ 4 ∷ 5 ∷ 6 ∷ 7 ∷ 8 ∷ 9 ∷ 10 ∷ 11 ∷ 12 ∷ 13 ∷ 14 ∷ 15 ∷ []))) ∷ has 8223 (string false by_offset (codes "a.c")) ∷ has 8224 (of_class Signature (Num 1234605616436508552)) ∷ has 8225 (signed_number (negsuc 4)) ∷ has 8226 (of_class ListIndex (Num 3)) ∷ has 8227 (of_class ListIndex (Num 4)) ∷ has 8233 (of_class AddrIndex (Num 5)) ∷ has 8234 (of_class AddrIndex (Num 6)) ∷ has 8235 (of_class AddrIndex (Num 7)) ∷ has 8236 (of_class AddrIndex (Num 8)) ∷ [])
          no_entries no_entries) no_entries;
    } ∷ []
unfolding units_of unit_header initial_length_at number_at spelled between after_code kind_in form_rows abbreviations_at uleb_at sleb_at text_in
    offset_of field_of address_of
forms-meaning = refl

abbrev forms_map : PathMap
forms_map = record { pairs = record { base = codes "/build/p"; dest = codes "/usr/src/debug/p" } ∷ [] }

pub forms-output : new_bodies forms_map forms_data (worked_readings forms_data 149 forms_pieces)
    ≡ record { number = 3; bytes = codes "/usr/src/debug/p/a.c\0" ++ codes "/build/p\0" }
    ∷ record { number = 4; bytes = codes "/usr/src/debug/p\0" ++ codes "a.c\0" } ∷ record { number = 0; bytes = [] } ∷ record { number = 0; bytes = [] } ∷ record { number = 0; bytes = [] }
    ∷ record {
      number = 1;
      bytes = all_bytes (
          (145 ∷ 0 ∷ 0 ∷ 0 ∷ 5 ∷ 0 ∷ 1 ∷ 8 ∷ 0 ∷ 0 ∷ 0 ∷ 0 ∷ [])
          ∷ (1 ∷ [])
          ∷ (0 ∷ 0 ∷ 0 ∷ 0 ∷ [])
          ∷ (0 ∷ 0 ∷ 0 ∷ 0 ∷ [])
          ∷ (2 ∷ [])
          ∷ (41 ∷ 17 ∷ 0 ∷ 0 ∷ 0 ∷ 0 ∷ 0 ∷ 0 ∷ [])
          ∷ (2 ∷ 0 ∷ 145 ∷ 108 ∷ [])
          ∷ (1 ∷ 0 ∷ 0 ∷ 0 ∷ 156 ∷ [])
          ∷ (44 ∷ 1 ∷ [])
          ∷ (112 ∷ 17 ∷ 1 ∷ 0 ∷ [])
          ∷ (0 ∷ 0 ∷ 0 ∷ 0 ∷ 0 ∷ 1 ∷ 0 ∷ 0 ∷ [])
          ∷ (codes "inline\0")
          ∷ (3 ∷ 97 ∷ 98 ∷ 99 ∷ [])
          ∷ (1 ∷ 122 ∷ [])
          ∷ (200 ∷ [])
          ∷ (1 ∷ [])
          ∷ (255 ∷ 126 ∷ [])
          ∷ (21 ∷ 0 ∷ 0 ∷ 0 ∷ [])
          ∷ (185 ∷ 100 ∷ [])
          ∷ (12 ∷ 0 ∷ 0 ∷ 0 ∷ [])
          ∷ (12 ∷ [])
          ∷ (12 ∷ 0 ∷ [])
          ∷ (5 ∷ 0 ∷ 0 ∷ 0 ∷ [])
          ∷ (12 ∷ 0 ∷ 0 ∷ 0 ∷ 0 ∷ 0 ∷ 0 ∷ 0 ∷ [])
          ∷ (12 ∷ [])
          ∷ (15 ∷ [])
          ∷ (129 ∷ 1 ∷ [])
          ∷ (64 ∷ 0 ∷ 0 ∷ 0 ∷ [])
          ∷ (2 ∷ 145 ∷ 108 ∷ [])
          ∷ ([])
          ∷ (200 ∷ 1 ∷ [])
          ∷ (0 ∷ 1 ∷ 2 ∷ 3 ∷ 4 ∷ 5 ∷ 6 ∷ 7 ∷ 8 ∷ 9 ∷ 10 ∷ 11 ∷ 12 ∷ 13 ∷ 14 ∷ 15 ∷ [])
          ∷ (17 ∷ 0 ∷ 0 ∷ 0 ∷ [])
          ∷ (136 ∷ 119 ∷ 102 ∷ 85 ∷ 68 ∷ 51 ∷ 34 ∷ 17 ∷ [])
          ∷ ([])
          ∷ (3 ∷ [])
          ∷ (4 ∷ [])
          ∷ (5 ∷ [])
          ∷ (6 ∷ 0 ∷ [])
          ∷ (7 ∷ 0 ∷ 0 ∷ [])
          ∷ (8 ∷ 0 ∷ 0 ∷ 0 ∷ [])
          ∷ (0 ∷ [])
          ∷ []);
    } ∷ []
unfolding new_bodies table_change unit_header initial_length_at number_at spelled between after_code kind_in form_rows abbreviations_at
    uleb_at text_in offset_of field_of role_of lies_under matching mapped_path mapped_inline with_offset
forms-output = refl

-- a path that would grow in its room doesn't fit it
pub grows : inline_fits (record { pairs = record { base = codes "/build/package-1.0"; dest = codes "/usr/src/debug/package-1.0-1" } ∷ [] }) (codes "/build/package-1.0/a.c") ≡ false
unfolding mapped_path lies_under matching
grows = refl
