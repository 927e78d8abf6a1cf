-- Lifted debug data, worked; the bytes are those that an independent program gives. A unit of one entry with a name in its value. And three
-- units that share a table: in the first the name and the directory grow, the second has no path that does, and in the third the texts of the
-- first stand the other way round. A flag without bytes stands in front of the name, whose form is spelled in two bytes, and a number that
-- stands in the abbreviation behind the directory.
use Rattle.std.proofs.Common.{true, false, ◌≡◌, ℕ, List, [], ◌∷◌, ◌++◌, replicate, codes, refl, None}
use Rattle.std.specs.Prelude.{pos}
use Rattle.dw_base.specs.AbbreviationBytes.{abbreviations_at}
use Rattle.dw_base.specs.Cells.{field_of, offset_of, plain_cells}
use Rattle.dw_base.specs.DebugData.{DebugData, DataReadings}
use Rattle.dw_base.specs.Forests.{AttributeMeaning, no_entries, entry}
use Rattle.dw_base.specs.Forms.{form_rows, kind_in}
use Rattle.dw_base.specs.Lebs.{initial_length_at, sleb_at, uleb_at}
use Rattle.dw_base.specs.Numbers.{number_at, spelled, with_number}
use Rattle.dw_base.specs.Paths.{PathMap, lies_under, mapped_path, matching}
use Rattle.dw_base.specs.Roles.{role_of}
use Rattle.dw_base.specs.Texts.{text_in}
use Rattle.dw_base.specs.UnitHeaders.{unit_header}
use Rattle.dw_base.specs.UnitMeanings.{UnitMeaning, units_of}
use Rattle.dw_base.specs.UnitStates.{after_code, between}
use Rattle.dw_base.specs.ValueMeanings.{ValueMeaning, address_of, by_offset, inline, of_class, raw, signed_number, string}
use Rattle.dw_base.specs.declared.shared.Order.TheVariants.{Little}
use Rattle.dw_base.specs.declared.shared.Width.TheVariants.{W32}
use Rattle.dw_base.specs.declared.values.ValueClass.TheVariants.{Flag}
use Rattle.dw_base.specs.declared.view_fields.Field.TheVariants.{Num}
use Rattle.dw_meaning.proofs.WorkedEntries.{lone_data, lone_readings}
use Rattle.dw_meaning.proofs.WorkedParts.{all_bytes}
use Rattle.dw_meaning.specs.DataOutput.{Body}
use Rattle.inline_lift.specs.Filled.{filled_units}
use Rattle.inline_lift.specs.Lifted.{lift_of, lifted_data, lifted_readings}
use Rattle.inline_lift.specs.LiftedFiles.{lifted_bodies}
use Rattle.inline_lift.specs.LiftedTables.{table_copy}

abbrev worked_bodies : PathMap → DebugData → DataReadings → List Body
worked_bodies m d r = lifted_bodies (lift_of m d r) d r

-- what the units of the lifted debug data mean
abbrev lifted_meaning : PathMap → DebugData → DataReadings → List UnitMeaning
lifted_meaning m d r = units_of (lifted_data (lift_of m d r) d r) (lifted_readings (lift_of m d r) r)

abbrev has : ℕ → ValueMeaning → AttributeMeaning
has name value = record { name = name; value = value }

-- a lone path
abbrev lone_pieces : List (List ℕ)
lone_pieces = (31 ∷ 0 ∷ 0 ∷ 0 ∷ 4 ∷ 0 ∷ 0 ∷ 0 ∷ 0 ∷ 0 ∷ 8 ∷ []) ∷ (1 ∷ []) ∷ codes "/build/package-1.0/a.c\0" ∷ []

abbrev path_data : DebugData
path_data = lone_data Little (all_bytes lone_pieces) (1 ∷ 17 ∷ 0 ∷ 3 ∷ 8 ∷ 0 ∷ 0 ∷ 0 ∷ []) (codes "/build/p/a.c\0/build/p\0")

abbrev path_readings : DataReadings
path_readings = lone_readings path_data 35 lone_pieces

abbrev path_map : PathMap
path_map = record { pairs = record { base = codes "/build/package-1.0"; dest = codes "/usr/src/debug/package-1.0-1" } ∷ [] }

pub path-lifted : worked_bodies path_map path_data path_readings
    ≡ record { number = 2; bytes = 1 ∷ 17 ∷ 0 ∷ 3 ∷ 8 ∷ 0 ∷ 0 ∷ 0 ∷ 1 ∷ 17 ∷ 0 ∷ 3 ∷ 14 ∷ 173 ∷ 125 ∷ 10 ∷ 0 ∷ 0 ∷ 0 ∷ [] }
    ∷ record { number = 3; bytes = codes "/build/p/a.c\0/build/p\0/build/package-1.0/a.c\0" }
    ∷ record { number = 1; bytes = 31 ∷ 0 ∷ 0 ∷ 0 ∷ 4 ∷ 0 ∷ 8 ∷ 0 ∷ 0 ∷ 0 ∷ 8 ∷ 1 ∷ 22 ∷ 0 ∷ 0 ∷ 0 ∷ 18 ∷ 0 ∷ 0 ∷ 0 ∷ 0 ∷ 0 ∷ 0 ∷ 0 ∷ 0 ∷ 0 ∷ 0 ∷ 0 ∷ 0 ∷ 0 ∷ 0 ∷ 0 ∷ 0 ∷ 0 ∷ 0 ∷ [] } ∷ []
unfolding table_copy unit_header initial_length_at number_at spelled between after_code kind_in form_rows abbreviations_at uleb_at sleb_at text_in
    offset_of field_of role_of lies_under matching mapped_path with_number
path-lifted = refl

abbrev path_meaning : List UnitMeaning
path_meaning = record {
  section = 1;
  head = record { version = 4; width = W32; address = 8; kind = 1; signature = 0; type_entry = None };
  entries = entry 17 (has 3 (string true by_offset (codes "/build/package-1.0/a.c")) ∷ has 16045 (raw (plain_cells (replicate 18 0))) ∷ []) no_entries no_entries;
} ∷ []

pub path-filled : filled_units path_map (units_of path_data path_readings) ≡ path_meaning
unfolding units_of table_copy unit_header initial_length_at number_at spelled between after_code kind_in form_rows abbreviations_at uleb_at sleb_at
    text_in offset_of field_of address_of role_of lies_under matching mapped_path with_number
path-filled = refl

pub path-means : lifted_meaning path_map path_data path_readings ≡ path_meaning
unfolding units_of table_copy unit_header initial_length_at number_at spelled between after_code kind_in form_rows abbreviations_at uleb_at sleb_at
    text_in offset_of field_of address_of role_of lies_under matching mapped_path with_number
path-means = refl

-- three units of one table
abbrev shared_pieces : List (List ℕ)
shared_pieces =
    (25 ∷ 0 ∷ 0 ∷ 0 ∷ 5 ∷ 0 ∷ 1 ∷ 8 ∷ 0 ∷ 0 ∷ 0 ∷ 0 ∷ []) ∷ (2 ∷ []) ∷ [] ∷ codes "/p/a.c\0" ∷ codes "/p/b\0" ∷ []
    ∷ (1 ∷ []) ∷ codes "v\0" ∷ (0 ∷ [])
    ∷ (23 ∷ 0 ∷ 0 ∷ 0 ∷ 5 ∷ 0 ∷ 1 ∷ 8 ∷ 0 ∷ 0 ∷ 0 ∷ 0 ∷ []) ∷ (2 ∷ []) ∷ [] ∷ codes "/q/a.c\0" ∷ codes "/q\0" ∷ []
    ∷ (1 ∷ []) ∷ codes "w\0" ∷ (0 ∷ [])
    ∷ (28 ∷ 0 ∷ 0 ∷ 0 ∷ 5 ∷ 0 ∷ 1 ∷ 8 ∷ 0 ∷ 0 ∷ 0 ∷ 0 ∷ []) ∷ (2 ∷ []) ∷ [] ∷ codes "/p/b\0" ∷ codes "/p/a.c\0" ∷ []
    ∷ (1 ∷ []) ∷ codes "/p/b\0" ∷ (0 ∷ [])
    ∷ []

abbrev shared_data : DebugData
shared_data = lone_data Little (all_bytes shared_pieces) (2 ∷ 17 ∷ 1 ∷ 25 ∷ 25 ∷ 3 ∷ 136 ∷ 0 ∷ 27 ∷ 8 ∷ 33 ∷ 33 ∷ 5 ∷ 0 ∷ 0 ∷ 1 ∷ 52 ∷ 0 ∷ 3 ∷ 8 ∷ 0 ∷ 0 ∷ 0 ∷ []) (codes "v\0")

abbrev shared_readings : DataReadings
shared_readings = lone_readings shared_data 88 shared_pieces

abbrev shared_map : PathMap
shared_map = record { pairs = record { base = codes "/p"; dest = codes "/long" } ∷ [] }

pub shared-lifted : worked_bodies shared_map shared_data shared_readings
    ≡ record {
      number = 2;
      bytes = all_bytes ((2 ∷ 17 ∷ 1 ∷ 25 ∷ 25 ∷ 3 ∷ 136 ∷ 0 ∷ 27 ∷ 8 ∷ 33 ∷ 33 ∷ 5 ∷ 0 ∷ 0 ∷ 1 ∷ 52 ∷ 0 ∷ 3 ∷ 8 ∷ 0 ∷ 0 ∷ 0 ∷ [])
          ∷ (2 ∷ 17 ∷ 1 ∷ 25 ∷ 25 ∷ 3 ∷ 14 ∷ 173 ∷ 125 ∷ 10 ∷ 27 ∷ 14 ∷ 173 ∷ 125 ∷ 10 ∷ 33 ∷ 33 ∷ 5 ∷ 0 ∷ 0 ∷ 1 ∷ 52 ∷ 0 ∷ 3 ∷ 8 ∷ 0 ∷ 0 ∷ 0 ∷ [])
          ∷ (2 ∷ 17 ∷ 1 ∷ 25 ∷ 25 ∷ 3 ∷ 14 ∷ 173 ∷ 125 ∷ 10 ∷ 27 ∷ 14 ∷ 173 ∷ 125 ∷ 10 ∷ 33 ∷ 33 ∷ 5 ∷ 0 ∷ 0 ∷ 1 ∷ 52 ∷ 0 ∷ 3 ∷ 8 ∷ 0 ∷ 0 ∷ 0 ∷ []) ∷ []);
    }
    ∷ record { number = 3; bytes = codes "v\0/p/a.c\0/p/b\0" }
    ∷ record {
      number = 1;
      bytes = all_bytes ((25 ∷ 0 ∷ 0 ∷ 0 ∷ 5 ∷ 0 ∷ 1 ∷ 8 ∷ 23 ∷ 0 ∷ 0 ∷ 0 ∷ 2 ∷ 2 ∷ 0 ∷ 0 ∷ 0 ∷ 2 ∷ 0 ∷ 0 ∷ 9 ∷ 0 ∷ 0 ∷ 0 ∷ 0 ∷ 1 ∷ 118 ∷ 0 ∷ 0 ∷ [])
          ∷ (23 ∷ 0 ∷ 0 ∷ 0 ∷ 5 ∷ 0 ∷ 1 ∷ 8 ∷ 0 ∷ 0 ∷ 0 ∷ 0 ∷ 2 ∷ 47 ∷ 113 ∷ 47 ∷ 97 ∷ 46 ∷ 99 ∷ 0 ∷ 47 ∷ 113 ∷ 0 ∷ 1 ∷ 119 ∷ 0 ∷ 0 ∷ [])
          ∷ (28 ∷ 0 ∷ 0 ∷ 0 ∷ 5 ∷ 0 ∷ 1 ∷ 8 ∷ 51 ∷ 0 ∷ 0 ∷ 0 ∷ 2 ∷ 9 ∷ 0 ∷ 0 ∷ 0 ∷ 0 ∷ 2 ∷ 0 ∷ 0 ∷ 0 ∷ 2 ∷ 0 ∷ 0 ∷ 1 ∷ 47 ∷ 112 ∷ 47 ∷ 98 ∷ 0 ∷ 0 ∷ []) ∷ []);
    } ∷ []
unfolding table_copy unit_header initial_length_at number_at spelled between after_code kind_in form_rows abbreviations_at uleb_at sleb_at text_in
    offset_of field_of role_of lies_under matching mapped_path with_number
shared-lifted = refl

abbrev shared_unit : List AttributeMeaning → List ℕ → UnitMeaning
shared_unit paths kid = record {
  section = 1;
  head = record { version = 5; width = W32; address = 8; kind = 1; signature = 0; type_entry = None };
  entries =
      entry 17 (has 25 (of_class Flag (Num 1)) ∷ paths ++ has 33 (signed_number (pos 5)) ∷ []) (entry 52 (has 3 (string false inline kid) ∷ []) no_entries no_entries)
      no_entries;
}

-- what is left of 3 bytes is a count and two zeros, and of one byte a count of none
abbrev left : ℕ → AttributeMeaning
left n = has 16045 (raw (plain_cells (replicate n 0)))

abbrev shared_meaning : List UnitMeaning
shared_meaning =
    shared_unit
    (has 3 (string true by_offset (codes "/p/a.c")) ∷ left 2 ∷ has 27 (string true by_offset (codes "/p/b")) ∷ left 0 ∷ [])
    (codes "v")
    ∷ shared_unit (has 3 (string true inline (codes "/q/a.c")) ∷ has 27 (string true inline (codes "/q")) ∷ []) (codes "w")
    ∷ shared_unit
    (has 3 (string true by_offset (codes "/p/b")) ∷ left 0 ∷ has 27 (string true by_offset (codes "/p/a.c")) ∷ left 2 ∷ [])
    (codes "/p/b")
    ∷ []

pub shared-filled : filled_units shared_map (units_of shared_data shared_readings) ≡ shared_meaning
unfolding units_of table_copy unit_header initial_length_at number_at spelled between after_code kind_in form_rows abbreviations_at uleb_at sleb_at
    text_in offset_of field_of address_of role_of lies_under matching mapped_path with_number
shared-filled = refl

pub shared-means : lifted_meaning shared_map shared_data shared_readings ≡ shared_meaning
unfolding units_of table_copy unit_header initial_length_at number_at spelled between after_code kind_in form_rows abbreviations_at uleb_at sleb_at
    text_in offset_of field_of address_of role_of lies_under matching mapped_path with_number
shared-means = refl
