-- Worked debug data with texts by index (DWARF 5, 7.26 and 7.5.5), and with a name table (DWARF 5, 6.1.1.4): what they mean, what
-- becomes of them, and what refuses them.
use Rattle.std.proofs.Common.{codes}
use Rattle.dw_base.specs.AbbreviationBytes.{abbreviations_at}
use Rattle.dw_base.specs.Cells.{field_of, offset_of}
use Rattle.dw_meaning.specs.DataOutput.{table_change}
use Rattle.dw_base.specs.Forms.{kind_in, form_rows}
use Rattle.dw_base.specs.InlinePaths.{mapped_inline}
use Rattle.dw_base.specs.Numbers.{spelled, number_at}
use Rattle.dw_base.specs.Roles.{role_of}
use Rattle.dw_base.specs.NewOffsets.{with_offset}
use Rattle.dw_base.specs.Texts.{text_in}
use Rattle.dw_base.specs.ValueMeanings.{address_of}
use Rattle.dw_base.specs.NameHeaders.{name_counts, before_strings}
use Rattle.dw_base.specs.TextIndexes.{slot_of}
use Rattle.std.proofs.lemmas.Bool.{eqb-false}
use Rattle.std.proofs.Common.{true, false, ◌≡◌, ℕ, List, [], ◌∷◌, ◌++◌, ap, refl, length}
use Rattle.dw_base.specs.Cells.{plain_cells}
use Rattle.dw_base.specs.DebugData.{DebugData, DataReadings, around_of, indexing_of}
use Rattle.dw_base.specs.Forests.{no_entries, entry}
use Rattle.dw_base.specs.IndexFails.{IndexFails, no_slot, SharedFails, shared}
use Rattle.dw_base.specs.Lebs.{initial_length_at, uleb_at}
use Rattle.dw_base.specs.MappedSlots.{unit_slots, mapped_slots}
use Rattle.dw_base.specs.NamePieces.{NameState, at_table, names_at, name_grammar}
use Rattle.dw_base.specs.OffsetPieces.{OffsetState, at_contribution, offsets_at, before_slot, offset_grammar}
use Rattle.dw_base.specs.Paths.{PathMap, lies_under, mapped_path, matching}
use Rattle.dw_base.specs.Pieces.{Piece}
use Rattle.dw_base.specs.Refusals.{at}
use Rattle.dw_base.specs.SlotTexts.{slot_texts, raw_part, text_part, name_parts}
use Rattle.dw_base.specs.UnitHeaders.{in_info, unit_header}
use Rattle.dw_base.specs.UnitMeanings.{units_of}
use Rattle.dw_base.specs.UnitStates.{before_unit, between, after_code}
use Rattle.dw_base.specs.ValueMeanings.{string, by_slot, of_class}
use Rattle.dw_base.specs.declared.debug_sections.DebugSection.TheVariants.{Str}
use Rattle.dw_base.specs.declared.fault.Kind.TheVariants.{SharedIndex, StringTable}
use Rattle.dw_base.specs.declared.shared.Order.{Order}
use Rattle.dw_base.specs.declared.shared.Order.TheVariants.{Little}
use Rattle.dw_base.specs.declared.shared.Width.TheVariants.{W32}
use Rattle.dw_base.specs.declared.values.ValueClass.TheVariants.{SecOffset}
use Rattle.dw_base.specs.declared.view_fields.Field.TheVariants.{Num}
use Rattle.dw_meaning.specs.DataOutput.{new_bodies}
use Rattle.dw_meaning.proofs.PlainUnits.{no_section, pieces_from}
use Rattle.dw_meaning.proofs.WorkedParts.{all_bytes, half, word}
use Rattle.dw_meaning.proofs.WorkedData.{compiled, has}
use Rattle.dw_meaning.proofs.DataParts.{found_with}

-- sections as pieces, read from a state on
abbrev offsets_from : Order → OffsetState → List (List ℕ) → List (Piece OffsetState)
offsets_from order s [] = []
offsets_from order s (p ∷ ps) = record { state = s; cells = plain_cells p } ∷ offsets_from order ((offset_grammar order).next s (plain_cells p)) ps

abbrev names_from : Order → NameState → List (List ℕ) → List (Piece NameState)
names_from order s [] = []
names_from order s (p ∷ ps) = record { state = s; cells = plain_cells p } ∷ names_from order ((name_grammar order).next s (plain_cells p)) ps

-- a compilation with a base and a directory by index 0, and a variable with a name by an index
abbrev slot_abbrevs : List ℕ
slot_abbrevs = 1 ∷ 17 ∷ 1 ∷ 114 ∷ 23 ∷ 27 ∷ 37 ∷ 0 ∷ 0 ∷ 2 ∷ 52 ∷ 0 ∷ 3 ∷ 37 ∷ 0 ∷ 0 ∷ 0 ∷ []

abbrev slot_units : ℕ → ℕ → List (List ℕ)
slot_units base index =
    (word 17 ++ half 5 ++ (1 ∷ 8 ∷ []) ++ word 0) ∷ (1 ∷ []) ∷ word base ∷ (0 ∷ []) ∷ (2 ∷ []) ∷ (index ∷ []) ∷ (0 ∷ []) ∷ []

-- with string offsets in section 4, and name tables in 5
abbrev slot_data : List (List ℕ) → List (List ℕ) → List (List ℕ) → DebugData
slot_data units offsets names = record {
  base = record { order = Little; abbrevs = record { number = 2; bytes = slot_abbrevs } };
  found = found_with (record { number = 1; kind = in_info; contents = plain_cells (all_bytes units) } ∷ []) (record { number = 3; bytes = codes "/build/p\0" }) (record { number = 0; bytes = [] }) (record { number = 4; contents = plain_cells (all_bytes offsets) }) no_section [] (record { number = 5; contents = plain_cells (all_bytes names) });
}

abbrev slot_readings : DebugData → List (List ℕ) → List (List ℕ) → List (List ℕ) → DataReadings
slot_readings d units offsets names = record {
  units = record { number = 1; pieces = pieces_from d.base (before_unit 1 in_info 21 0 0) units } ∷ [];
  offsets = offsets_from Little (offsets_at (length (all_bytes offsets)) 0 0 at_contribution) offsets;
  lines = [];
  macros = [];
  names = names_from Little (names_at (length (all_bytes names)) 0 at_table) names;
}

-- a contribution with a slot, or two, of the one text; and a table with one name of that text
abbrev one_slot : List (List ℕ)
one_slot = (word 8 ++ half 5 ++ half 0) ∷ word 0 ∷ []

abbrev two_slots : ℕ → ℕ → List (List ℕ)
two_slots m n = (word 12 ++ half 5 ++ half 0) ∷ word m ∷ word n ∷ []

abbrev name_front : List ℕ
name_front = word 46 ++ half 5 ++ half 0 ++ word 1 ++ word 0 ++ word 0 ++ word 0 ++ word 1 ++ word 1 ++ word 0 ++ word 0

abbrev name_table : ℕ → List (List ℕ)
name_table n = name_front ∷ word n ∷ (word 0 ++ (0 ∷ 0 ∷ [])) ∷ []

abbrev own_data : DebugData
own_data = slot_data (slot_units 8 1) (two_slots 0 0) (name_table 0)

abbrev own_readings : DataReadings
own_readings = slot_readings own_data (slot_units 8 1) (two_slots 0 0) (name_table 0)

abbrev slot_map : PathMap
slot_map = record { pairs = record { base = codes "/build/p"; dest = codes "/usr/src/debug/p" } ∷ [] }

-- the directory is the path of slot 0, the variable's name the text of slot 1
pub own-units : units_of own_data own_readings
    ≡ record {
      section = 1;
      head = compiled 5 W32;
      entries =
          entry 17
          (has 114 (of_class SecOffset (Num 8)) ∷ has 27 (string true (by_slot 0) (codes "/build/p")) ∷ [])
          (entry 52
          (has 3 (string false (by_slot 1) (codes "/build/p")) ∷ [])
          no_entries no_entries) no_entries;
    } ∷ []
unfolding units_of unit_header initial_length_at number_at spelled between after_code kind_in form_rows abbreviations_at uleb_at text_in
    offset_of field_of address_of before_slot slot_of
own-units = refl

-- so slot 0 is mapped and slot 1 isn't
pub own-slots : mapped_slots slot_map (unit_slots (units_of own_data own_readings)) 0 (slot_texts Little (own_data.found Str) own_readings.offsets)
    ≡ codes "/usr/src/debug/p" ∷ codes "/build/p" ∷ []
unfolding units_of unit_header initial_length_at number_at spelled between after_code kind_in form_rows abbreviations_at uleb_at text_in
    offset_of field_of address_of before_slot slot_of lies_under matching mapped_path
own-slots = refl

-- the name is the text behind the front of its table
pub own-names : name_parts Little (own_data.found Str) own_readings.names
    ≡ raw_part (plain_cells name_front) ∷ text_part (codes "/build/p") ∷ raw_part (plain_cells (word 0 ++ (0 ∷ 0 ∷ []))) ∷ []
unfolding initial_length_at number_at spelled text_in offset_of field_of name_counts before_strings
own-names = refl

-- slot 0 names the mapped text, slot 1 and the name the one that both named, and the units stay
pub own-output : new_bodies slot_map own_data own_readings
    ≡ record { number = 3; bytes = codes "/usr/src/debug/p\0/build/p\0" } ∷ record { number = 0; bytes = [] }
    ∷ record { number = 4; bytes = all_bytes (two_slots 0 17) } ∷ record { number = 0; bytes = [] } ∷ record { number = 5; bytes = all_bytes (name_table 17) }
    ∷ record { number = 1; bytes = all_bytes (slot_units 8 1) } ∷ []
unfolding new_bodies table_change unit_header initial_length_at number_at spelled between after_code kind_in form_rows abbreviations_at
    uleb_at text_in offset_of field_of role_of lies_under matching mapped_path mapped_inline with_offset before_slot slot_of name_counts before_strings
own-output = refl

-- where both name slot 0, it is refused
abbrev shared_data : DebugData
shared_data = slot_data (slot_units 8 0) one_slot []

abbrev shared_readings : DataReadings
shared_readings = slot_readings shared_data (slot_units 8 0) one_slot []

pub shared-refused : SharedFails slot_map 4 (around_of shared_data shared_readings) shared_readings.offsets (at SharedIndex 4 8)
unfolding unit_header initial_length_at number_at spelled between after_code kind_in form_rows abbreviations_at uleb_at text_in
    offset_of field_of before_slot slot_of lies_under matching mapped_path
shared-refused =
    shared _ (record { before = _ ∷ []; behind = []; pieces = refl; width = W32; end = 12; mode = refl }) refl refl (λ e. longer e)
  where
    longer : codes "/usr/src/debug/p" ≡ codes "/build/p" → ⊥
    longer e = absurd (let size : 16 ≡ 8 = ap length e in eqb-false 16 8 refl size)

-- an index behind the last slot, and a base that is none
pub behind-refused : IndexFails (indexing_of (slot_data (slot_units 8 2) (two_slots 0 0) []) (slot_readings (slot_data (slot_units 8 2) (two_slots 0 0) []) (slot_units 8 2) (two_slots 0 0) []))
    (at StringTable 1 19)
unfolding unit_header initial_length_at number_at spelled between after_code kind_in form_rows abbreviations_at uleb_at
    offset_of field_of before_slot slot_of
behind-refused = no_slot (_ ∷ []) [] _ refl refl refl

pub base-refused : IndexFails (indexing_of (slot_data (slot_units 4 1) (two_slots 0 0) []) (slot_readings (slot_data (slot_units 4 1) (two_slots 0 0) []) (slot_units 4 1) (two_slots 0 0) []))
    (at StringTable 1 17)
unfolding unit_header initial_length_at number_at spelled between after_code kind_in form_rows abbreviations_at uleb_at
    offset_of field_of before_slot slot_of
base-refused = no_slot [] (_ ∷ []) _ refl refl refl

-- two contributions, of offsets of 4 and of 8 bytes: the directory's index, of 3 bytes, is into the second
abbrev wide_slots : ℕ → List (List ℕ)
wide_slots n =
    (word 8 ++ half 5 ++ half 0) ∷ word 0
    ∷ ((255 ∷ 255 ∷ 255 ∷ 255 ∷ []) ++ word 12 ++ word 0 ++ half 5 ++ half 0) ∷ (word n ++ word 0) ∷ []

abbrev wide_units : List (List ℕ)
wide_units = (word 16 ++ half 5 ++ (1 ∷ 8 ∷ []) ++ word 0) ∷ (1 ∷ []) ∷ word 28 ∷ (0 ∷ 0 ∷ 0 ∷ []) ∷ []

abbrev wide_data : DebugData
wide_data = record {
  base = record { order = Little; abbrevs = record { number = 2; bytes = 1 ∷ 17 ∷ 0 ∷ 114 ∷ 23 ∷ 27 ∷ 39 ∷ 0 ∷ 0 ∷ 0 ∷ [] } };
  found = found_with (record { number = 1; kind = in_info; contents = plain_cells (all_bytes wide_units) } ∷ []) (record { number = 3; bytes = codes "/build/p\0" }) (record { number = 0; bytes = [] }) (record { number = 4; contents = plain_cells (all_bytes (wide_slots 0)) }) no_section [] no_section;
}

abbrev wide_readings : DataReadings
wide_readings = record {
  units = record { number = 1; pieces = pieces_from wide_data.base (before_unit 1 in_info 20 0 0) wide_units } ∷ [];
  offsets = offsets_from Little (offsets_at 36 0 0 at_contribution) (wide_slots 0);
  lines = [];
  macros = [];
  names = [];
}

pub wide-units : units_of wide_data wide_readings
    ≡ record {
      section = 1;
      head = compiled 5 W32;
      entries = entry 17 (has 114 (of_class SecOffset (Num 28)) ∷ has 27 (string true (by_slot 1) (codes "/build/p")) ∷ []) no_entries no_entries;
    } ∷ []
unfolding units_of unit_header initial_length_at number_at spelled between after_code kind_in form_rows abbreviations_at uleb_at text_in
    offset_of field_of address_of before_slot slot_of
wide-units = refl

-- no path names the slot of the first contribution, whose text comes first
pub wide-output : new_bodies slot_map wide_data wide_readings
    ≡ record { number = 3; bytes = codes "/build/p\0/usr/src/debug/p\0" } ∷ record { number = 0; bytes = [] }
    ∷ record { number = 4; bytes = all_bytes (wide_slots 9) } ∷ record { number = 0; bytes = [] } ∷ record { number = 0; bytes = [] }
    ∷ record { number = 1; bytes = all_bytes wide_units } ∷ []
unfolding new_bodies table_change unit_header initial_length_at number_at spelled between after_code kind_in form_rows abbreviations_at
    uleb_at text_in offset_of field_of role_of lies_under matching mapped_path mapped_inline with_offset before_slot slot_of
wide-output = refl
