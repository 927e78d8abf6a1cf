-- Forests, worked: lists of children, one inside another; nulls as padding; where paths are; and a list that is open at the end
-- of its unit. An independent program reads all but the last, and refuses that one at the same place.
use Rattle.std.proofs.Common.{true, false, ◌≡◌, ℕ, List, [], ◌∷◌, ◌++◌, codes, refl}
use Rattle.std.proofs.lemmas.Bool.{ltb-true, leb-true, eqb-false}
use Rattle.std.specs.Prelude.{pos}
use Rattle.dw_base.specs.AbbreviationBytes.{abbreviations_at}
use Rattle.dw_base.specs.AbbreviationTables.{Abbreviation, IsTable, no_abbreviations, more_abbreviations, no_specs}
use Rattle.dw_base.specs.Cells.{plain_cells, field_of, offset_of}
use Rattle.dw_base.specs.DebugData.{DebugData, ReadsAll}
use Rattle.dw_base.specs.DebugData.{DataReadings}
use Rattle.dw_base.specs.EntryScans.{no_values, more_values, starts, entry as entry_stands, open_list}
use Rattle.dw_base.specs.EntryValues.{HasTable}
use Rattle.dw_base.specs.Forests.{AttributeMeaning, Forest, no_entries, entry}
use Rattle.dw_base.specs.Forms.{kind_in, form_rows}
use Rattle.dw_base.specs.Lebs.{uleb_at, initial_length_at}
use Rattle.dw_base.specs.Numbers.{spelled, number_at}
use Rattle.dw_base.specs.Refusals.{at}
use Rattle.dw_base.specs.Texts.{text_in}
use Rattle.dw_base.specs.UnitHeaders.{UnitSection, unit_header, in_info, no_units}
use Rattle.dw_base.specs.UnitMeanings.{UnitMeaning, units_of}
use Rattle.dw_base.specs.UnitStates.{after_code, between}
use Rattle.dw_base.specs.ValueMeanings.{string, by_offset}
use Rattle.dw_base.specs.Values.{value_of, value_at}
use Rattle.dw_base.specs.declared.debug_sections.DebugSection.TheVariants.{Info}
use Rattle.dw_base.specs.declared.fault.Kind.TheVariants.{Entry}
use Rattle.dw_base.specs.declared.shared.Order.TheVariants.{Little}
use Rattle.dw_base.specs.declared.shared.Width.TheVariants.{W32}
use Rattle.dw_base.specs.declared.units.UnitHeader.{UnitHeader}
use Rattle.dw_base.specs.declared.values.Spec.{Spec}
use Rattle.dw_base.specs.declared.values.Value.{Value}
use Rattle.dw_base.specs.declared.values.ValueClass.TheVariants.{StrOffset}
use Rattle.dw_meaning.specs.DataFails.{DataFails, entries as entries_row}
use Rattle.dw_meaning.specs.DataOutput.{DataReads}
use Rattle.dw_meaning.proofs.DataRowLaws.{data-excludes}
use Rattle.dw_meaning.proofs.PlainUnits.{chain-sound, short_abbreviation, short_pair, short_spec}
use Rattle.dw_meaning.proofs.WorkedEntries.{lone_data, lone_readings}
use Rattle.dw_meaning.proofs.WorkedFiles.{path_at, path_texts, paths, unit_of}
use Rattle.dw_meaning.proofs.WorkedParts.{all_bytes, half, word}

-- a compilation unit with children, a variable without, and a block with children and no attributes
abbrev pub tree_abbrevs : List ℕ
tree_abbrevs =
    (1 ∷ 17 ∷ 1 ∷ 3 ∷ 14 ∷ 27 ∷ 14 ∷ 0 ∷ 0 ∷ 2 ∷ 52 ∷ 0 ∷ 3 ∷ 14 ∷ 0 ∷ 0 ∷ 3 ∷ 11 ∷ 1 ∷ 0 ∷ 0 ∷ 0 ∷ [])

-- an attribute whose text is in .debug_str
abbrev pub text_spec : ℕ → Spec
text_spec name = record { name = name; form = 14; implicit = pos 0 }

abbrev pub root_abbreviation : Abbreviation
root_abbreviation = record { code = 1; tag = 17; children = true; specs = text_spec 3 ∷ text_spec 27 ∷ [] }

abbrev pub variable_abbreviation : Abbreviation
variable_abbreviation = record { code = 2; tag = 52; children = false; specs = text_spec 3 ∷ [] }

abbrev pub block_abbreviation : Abbreviation
block_abbreviation = record { code = 3; tag = 11; children = true; specs = [] }

pub tree-table : IsTable tree_abbrevs 0 (abbreviations_at tree_abbrevs 0)
unfolding abbreviations_at uleb_at
tree-table = record {
  last = 21;
  size = 1;
  declares = more_abbreviations (root_abbreviation ∷ variable_abbreviation ∷ []) block_abbreviation 16 21
      (more_abbreviations (root_abbreviation ∷ []) variable_abbreviation 9 16
      (more_abbreviations [] root_abbreviation 0 9 no_abbreviations
      (short_abbreviation tree_abbrevs 0 1 17 1 7 _ refl (eqb-false _ _ refl) refl (ltb-true _ _ refl) refl (ltb-true _ _ refl)
      (short_spec tree_abbrevs 3 5 27 14 _
      (short_spec tree_abbrevs 3 3 3 14 _ no_specs refl refl (eqb-false _ _ refl) (eqb-false _ _ refl) (eqb-false _ _ refl))
      refl refl (eqb-false _ _ refl) (eqb-false _ _ refl) (eqb-false _ _ refl))
      (short_pair tree_abbrevs 7 0 0 refl refl))
      refl)
      (short_abbreviation tree_abbrevs 9 2 52 0 14 _ refl (eqb-false _ _ refl) refl (ltb-true _ _ refl) refl (ltb-true _ _ refl)
      (short_spec tree_abbrevs 12 12 3 14 _ no_specs refl refl (eqb-false _ _ refl) (eqb-false _ _ refl) (eqb-false _ _ refl))
      (short_pair tree_abbrevs 14 0 0 refl refl))
      refl)
      (short_abbreviation tree_abbrevs 16 3 11 1 19 _ refl (eqb-false _ _ refl) refl (ltb-true _ _ refl) refl (ltb-true _ _ refl) no_specs
      (short_pair tree_abbrevs 19 0 0 refl refl))
      refl;
  ends = refl;
}

-- debug data of these pieces, with those abbreviations; how they are read, and what they mean
abbrev pub tree_data : List (List ℕ) → DebugData
tree_data pieces = lone_data Little (all_bytes pieces) tree_abbrevs path_texts

abbrev pub tree_readings : ℕ → List (List ℕ) → DataReadings
tree_readings whole pieces = lone_readings (tree_data pieces) whole pieces

abbrev pub TreeReads : ℕ → List (List ℕ) → Type 0
TreeReads whole pieces = ReadsAll (tree_data pieces).base 0 ((tree_data pieces).found Info) (tree_readings whole pieces).units

abbrev pub tree_units : ℕ → List (List ℕ) → List UnitMeaning
tree_units whole pieces = units_of (tree_data pieces) (tree_readings whole pieces)

-- the head of a unit of so many bytes behind its length, with addresses of this size
abbrev pub head : ℕ → ℕ → List ℕ
head size address = word size ++ half 4 ++ word 0 ++ (address ∷ [])

-- the pieces of the entry of a unit, of a variable, of a block, and of a null
abbrev pub root : List (List ℕ)
root = (1 ∷ []) ∷ word 0 ∷ word 13 ∷ []

abbrev pub named : ℕ → List (List ℕ)
named place = (2 ∷ []) ∷ word place ∷ []

abbrev pub opened : List (List ℕ)
opened = (3 ∷ []) ∷ []

abbrev pub closed : List (List ℕ)
closed = (0 ∷ []) ∷ []

-- a variable and its siblings, and a block with its children and its siblings
abbrev pub no_path : ℕ → List ℕ → AttributeMeaning
no_path name t = record { name = name; value = string false by_offset t }

abbrev pub variable : List ℕ → Forest → Forest
variable t siblings = entry 52 (no_path 3 t ∷ []) no_entries siblings

abbrev pub block : Forest → Forest → Forest
block children siblings = entry 11 [] children siblings

-- a block with a variable, and a second variable; the last null is padding
abbrev pub tree : List (List ℕ)
tree = head 30 8 ∷ root ++ opened ++ named 13 ++ closed ++ named 7 ++ closed ++ closed

pub tree-reads : TreeReads 34 tree
unfolding unit_header initial_length_at number_at spelled between after_code kind_in form_rows abbreviations_at uleb_at offset_of field_of value_of
tree-reads = (refl, record { chain = chain-sound _ _ tree tree-table refl; cells = refl }, tt)

pub tree-units : tree_units 34 tree
    ≡ unit_of 8 (entry 17 paths (block (variable (codes "/build/p") no_entries) (variable (codes "p/a.c") no_entries)) no_entries) ∷ []
unfolding units_of unit_header initial_length_at number_at spelled between after_code kind_in form_rows abbreviations_at uleb_at text_in offset_of field_of
tree-units = refl

-- blocks in a block, of which one has two variables and one has nothing, and a variable and an empty block behind
abbrev pub deep : List (List ℕ)
deep =
    head 40 8 ∷ root ++ opened ++ opened ++ named 13 ++ named 7 ++ closed ++ opened ++ closed ++ closed ++ named 9 ++ opened ++ closed
    ++ closed

pub deep-reads : TreeReads 44 deep
unfolding unit_header initial_length_at number_at spelled between after_code kind_in form_rows abbreviations_at uleb_at offset_of field_of value_of
deep-reads = (refl, record { chain = chain-sound _ _ deep tree-table refl; cells = refl }, tt)

pub deep-units : tree_units 44 deep
    ≡ unit_of 8
    (entry 17 paths
    (block
    (block (variable (codes "/build/p") (variable (codes "p/a.c") no_entries)) (block no_entries no_entries))
    (variable (codes "a.c") (block no_entries no_entries)))
    no_entries)
    ∷ []
unfolding units_of unit_header initial_length_at number_at spelled between after_code kind_in form_rows abbreviations_at uleb_at text_in offset_of field_of
deep-units = refl

-- padding in front of the first entry, between entries and behind the last; the entries' lists of children are empty
abbrev pub padded : List (List ℕ)
padded = head 29 8 ∷ closed ++ root ++ closed ++ closed ++ named 7 ++ closed ++ closed ++ opened ++ closed ++ closed

pub padded-reads : TreeReads 33 padded
unfolding unit_header initial_length_at number_at spelled between after_code kind_in form_rows abbreviations_at uleb_at offset_of field_of value_of
padded-reads = (refl, record { chain = chain-sound _ _ padded tree-table refl; cells = refl }, tt)

pub padded-units : tree_units 33 padded
    ≡ unit_of 8 (entry 17 paths no_entries (variable (codes "p/a.c") (block no_entries no_entries))) ∷ []
unfolding units_of unit_header initial_length_at number_at spelled between after_code kind_in form_rows abbreviations_at uleb_at text_in offset_of field_of
padded-units = refl

-- nulls of two bytes
abbrev pub long_closed : List (List ℕ)
long_closed = (128 ∷ 0 ∷ []) ∷ []

abbrev pub long_nulls : List (List ℕ)
long_nulls = head 32 8 ∷ root ++ opened ++ named 13 ++ long_closed ++ named 7 ++ closed ++ long_closed

pub long_nulls-reads : TreeReads 36 long_nulls
unfolding unit_header initial_length_at number_at spelled between after_code kind_in form_rows abbreviations_at uleb_at offset_of field_of value_of
long_nulls-reads = (refl, record { chain = chain-sound _ _ long_nulls tree-table refl; cells = refl }, tt)

pub long_nulls-units : tree_units 36 long_nulls
    ≡ unit_of 8 (entry 17 paths (block (variable (codes "/build/p") no_entries) (variable (codes "p/a.c") no_entries)) no_entries) ∷ []
unfolding units_of unit_header initial_length_at number_at spelled between after_code kind_in form_rows abbreviations_at uleb_at text_in offset_of field_of
long_nulls-units = refl

-- padding alone, and no entry at all
pub no_entry-reads : TreeReads 13 (head 9 8 ∷ closed ++ closed) × TreeReads 11 (head 7 8 ∷ [])
unfolding unit_header initial_length_at number_at spelled between after_code kind_in form_rows abbreviations_at uleb_at offset_of field_of value_of
no_entry-reads = (
  (refl, record { chain = chain-sound _ _ (head 9 8 ∷ closed ++ closed) tree-table refl; cells = refl }, tt),
  (refl, record { chain = chain-sound _ _ (head 7 8 ∷ []) tree-table refl; cells = refl }, tt),
)

pub no_entry-units :
    (tree_units 13 (head 9 8 ∷ closed ++ closed) ≡ unit_of 8 no_entries ∷ []) × (tree_units 11 (head 7 8 ∷ []) ≡ unit_of 8 no_entries ∷ [])
unfolding units_of unit_header initial_length_at number_at spelled between after_code kind_in form_rows abbreviations_at uleb_at text_in offset_of field_of
no_entry-units = (refl, refl)

-- a variable in front: the entry of the unit is not the first then, and has no path
abbrev pub late : List (List ℕ)
late = head 27 8 ∷ named 7 ++ root ++ named 13 ++ closed

pub late-reads : TreeReads 31 late
unfolding unit_header initial_length_at number_at spelled between after_code kind_in form_rows abbreviations_at uleb_at offset_of field_of value_of
late-reads = (refl, record { chain = chain-sound _ _ late tree-table refl; cells = refl }, tt)

pub late-units : tree_units 31 late
    ≡ unit_of 8
    (variable (codes "p/a.c")
    (entry 17 (no_path 3 (codes "/build/p/a.c") ∷ no_path 27 (codes "/build/p") ∷ []) (variable (codes "/build/p") no_entries) no_entries))
    ∷ []
unfolding units_of unit_header initial_length_at number_at spelled between after_code kind_in form_rows abbreviations_at uleb_at text_in offset_of field_of
late-units = refl

-- two units, the second with addresses of 4 bytes and a null in front; each has a first entry
abbrev pub two : List (List ℕ)
two = head 13 8 ∷ named 0 ++ closed ++ head 18 4 ∷ closed ++ root ++ closed

pub two-reads : TreeReads 39 two
unfolding unit_header initial_length_at number_at spelled between after_code kind_in form_rows abbreviations_at uleb_at offset_of field_of value_of
two-reads = (refl, record { chain = chain-sound _ _ two tree-table refl; cells = refl }, tt)

pub two-units : tree_units 39 two
    ≡ unit_of 8 (variable (codes "/build/p/a.c") no_entries) ∷ unit_of 4 (entry 17 paths no_entries no_entries) ∷ []
unfolding units_of unit_header initial_length_at number_at spelled between after_code kind_in form_rows abbreviations_at uleb_at text_in offset_of field_of
two-units = refl

-- a partial unit and a type unit, and a type unit that is the second entry; a producer (37) is no path
abbrev root_abbrevs : List ℕ
root_abbrevs = (1 ∷ 60 ∷ 0 ∷ 3 ∷ 14 ∷ 0 ∷ 0 ∷ 2 ∷ 65 ∷ 0 ∷ 27 ∷ 14 ∷ 37 ∷ 14 ∷ 0 ∷ 0 ∷ 0 ∷ [])

abbrev roots : List (List ℕ)
roots =
    head 21 8 ∷ (1 ∷ []) ∷ word 0 ∷ (2 ∷ []) ∷ word 13 ∷ word 0
    ∷ head 16 8 ∷ (2 ∷ []) ∷ word 13 ∷ word 0 ∷ []

abbrev roots_data : DebugData
roots_data = lone_data Little (all_bytes roots) root_abbrevs path_texts

pub roots-units : units_of roots_data (lone_readings roots_data 45 roots)
    ≡ unit_of 8
    (entry 60 (path_at 3 (codes "/build/p/a.c") ∷ []) no_entries
    (entry 65 (no_path 27 (codes "/build/p") ∷ no_path 37 (codes "/build/p/a.c") ∷ []) no_entries no_entries))
    ∷ unit_of 8 (entry 65 (path_at 27 (codes "/build/p") ∷ no_path 37 (codes "/build/p/a.c") ∷ []) no_entries no_entries) ∷ []
unfolding units_of unit_header initial_length_at number_at spelled between after_code kind_in form_rows abbreviations_at uleb_at text_in offset_of field_of
roots-units = refl

-- a list of children that is open at the end of its unit: the row, at that end, and that no pieces read it
abbrev open_pieces : List (List ℕ)
open_pieces = head 16 8 ∷ root

abbrev open_section : UnitSection
open_section = record { number = 1; kind = in_info; contents = plain_cells (all_bytes open_pieces) }

abbrev open_header : UnitHeader
open_header = record {
  section = 1;
  start = 0;
  end = 20;
  params = record { order = Little; width = W32; version = 4; address = 8 };
  kind = 1;
  abbrevs = 0;
  elsewhere = false;
  signature = 0;
  type_offset = 0;
  first = 11;
}

abbrev open_tables : List Abbreviation
open_tables = root_abbreviation ∷ variable_abbreviation ∷ block_abbreviation ∷ []

open-table : HasTable (tree_data open_pieces) open_section open_header open_tables
unfolding unit_header initial_length_at number_at spelled abbreviations_at offset_of field_of
open-table = record {
  unit = record {
    before = [];
    behind = [];
    sections = refl;
    list = [];
    start = 0;
    units = no_units;
    is = record { header = refl; whole = refl; within = leb-true _ _ refl };
  };
  declares = record { here = refl; is = tree-table };
}

pub open_list-fails : DataFails (tree_data open_pieces) (at Entry 1 20)
unfolding number_at spelled kind_in form_rows uleb_at value_at value_of
open_list-fails =
    entries_row open_section open_header open_tables open-table
    (open_list _ 1
    (entry_stands [] 11 0 20 root_abbreviation starts
    (record {
      code = 1;
      size = 1;
      spells = refl;
      some = eqb-false _ _ refl;
      listed = refl;
      values = more_values (text_spec 3 ∷ []) (text_spec 27) 16 (offset_value 13 16)
          (more_values [] (text_spec 3) 12 (offset_value 0 12) no_values refl) refl;
    })
    refl)
    (eqb-false _ _ refl))
  where
    offset_value : ℕ → ℕ → Value
    offset_value n place = record { class = StrOffset; number = n; at = place; len = 4; size = 4 }

pub open_list-unread : (r : DataReadings) → DataReads (tree_data open_pieces) r → ⊥
open_list-unread r reads = data-excludes (tree_data open_pieces) r (at Entry 1 20) reads open_list-fails
