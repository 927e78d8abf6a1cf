-- Units as pieces, what they mean and what becomes of them, worked: a program of one entry, and a unit of 64-bit DWARF 5 with
-- a form in front of a value, a path that stands in its value, and values without bytes.
use Rattle.dw_meaning.proofs.PlainUnits.{no_section, units_alone}
use Rattle.std.proofs.Common.{true, ◌≡◌, ℕ, List, [], ◌∷◌, ◌++◌, codes, refl, None}
use Rattle.dw_base.specs.AbbreviationBytes.{abbreviations_at}
use Rattle.dw_base.specs.Cells.{plain_cells, field_of, offset_of}
use Rattle.dw_base.specs.DebugData.{DebugData}
use Rattle.dw_base.specs.DebugData.{DataReadings}
use Rattle.dw_meaning.specs.DataOutput.{new_bodies, table_change}
use Rattle.dw_base.specs.Forests.{AttributeMeaning, no_entries, entry}
use Rattle.dw_base.specs.Forms.{kind_in, form_rows}
use Rattle.dw_base.specs.InlinePaths.{mapped_inline}
use Rattle.dw_base.specs.Lebs.{uleb_at, initial_length_at}
use Rattle.dw_base.specs.Numbers.{spelled, number_at}
use Rattle.dw_base.specs.Paths.{PathMap, lies_under, mapped_path, matching}
use Rattle.dw_base.specs.Roles.{role_of}
use Rattle.dw_base.specs.NewOffsets.{with_offset}
use Rattle.dw_base.specs.Texts.{text_in}
use Rattle.dw_base.specs.UnitHeaders.{in_info, unit_header}
use Rattle.dw_base.specs.UnitMeanings.{units_of}
use Rattle.dw_base.specs.UnitStates.{before_unit, between, after_code}
use Rattle.dw_base.specs.ValueMeanings.{string, by_offset}
use Rattle.dw_base.specs.declared.shared.Order.{Order}
use Rattle.dw_base.specs.declared.shared.Order.TheVariants.{Little}
use Rattle.dw_base.specs.declared.shared.Width.TheVariants.{W32}
use Rattle.dw_meaning.proofs.PlainUnits.{pieces_from}
use Rattle.dw_meaning.proofs.WorkedParts.{all_bytes, half, word}
use Rattle.dw_meaning.proofs.DataParts.{found_with}

-- debug data whose one unit section is number 1, with the abbreviations in 2 and the texts in 3
abbrev pub lone_data : Order → List ℕ → List ℕ → List ℕ → DebugData
lone_data order info abbrevs str = record {
  base = record { order = order; abbrevs = record { number = 2; bytes = abbrevs } };
  found = found_with (record { number = 1; kind = in_info; contents = plain_cells info } ∷ []) (record { number = 3; bytes = str }) (record { number = 0; bytes = [] }) no_section no_section [] no_section;
}

-- and its readings, by pieces of `.debug_info` of so many bytes
abbrev pub lone_readings : DebugData → ℕ → List (List ℕ) → DataReadings
lone_readings d whole pieces = units_alone (record { number = 1; pieces = pieces_from d.base (before_unit 1 in_info whole 0 0) pieces } ∷ [])

abbrev pub build_map : PathMap
build_map = record { pairs = record { base = codes "/build/p"; dest = codes "/usr/src/debug/p" } ∷ [] }

-- a program of one entry
abbrev small_pieces : List (List ℕ)
small_pieces = (word 16 ++ half 4 ++ word 0 ++ (8 ∷ [])) ∷ (1 ∷ []) ∷ word 0 ∷ word 13 ∷ []

abbrev small_data : DebugData
small_data = lone_data Little (all_bytes small_pieces) (1 ∷ 17 ∷ 0 ∷ 3 ∷ 14 ∷ 27 ∷ 14 ∷ 0 ∷ 0 ∷ 0 ∷ []) (codes "/build/p/a.c\0/build/p\0")

abbrev path_at : ℕ → List ℕ → AttributeMeaning
path_at name t = record { name = name; value = string true by_offset t }

pub small-meaning : units_of small_data (lone_readings small_data 20 small_pieces)
    ≡ record {
      section = 1;
      head = record { version = 4; width = W32; address = 8; kind = 1; signature = 0; type_entry = None };
      entries = entry 17 (path_at 3 (codes "/build/p/a.c") ∷ path_at 27 (codes "/build/p") ∷ []) no_entries no_entries;
    } ∷ []
unfolding units_of unit_header initial_length_at number_at spelled between after_code kind_in form_rows abbreviations_at uleb_at text_in offset_of field_of
small-meaning = refl

pub small-output : new_bodies build_map small_data (lone_readings small_data 20 small_pieces)
    ≡ record { number = 3; bytes = codes "/usr/src/debug/p/a.c\0/usr/src/debug/p\0" }
    ∷ record { number = 0; bytes = [] } ∷ record { number = 0; bytes = [] } ∷ record { number = 0; bytes = [] } ∷ record { number = 0; bytes = [] }
    ∷ record { number = 1; bytes = word 16 ++ half 4 ++ word 0 ++ (8 ∷ 1 ∷ []) ++ word 0 ++ word 21 } ∷ []
unfolding new_bodies table_change unit_header initial_length_at number_at spelled between after_code kind_in form_rows abbreviations_at
    uleb_at text_in offset_of field_of role_of lies_under matching mapped_path mapped_inline with_offset
small-output = refl
