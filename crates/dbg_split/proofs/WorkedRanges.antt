-- What a unit of version 5 means whose entries name lists of ranges by index (DWARF 5, 7.5.5 "rnglist"; the form DW_FORM_rnglistx, 7.5.6): each value is its
-- index, which counts from the base that the unit gives (7.28), and the lists are meant as they stand.
use Rattle.std.specs.Prelude.{ℕ, ◌≡◌, ◌∷◌, [], List, true, None, take, drop, length, refl}
use Rattle.dw_base.specs.Cells.{Cell, field_of, offset_of}
use Rattle.dw_base.specs.AbbreviationBytes.{abbreviations_at}
use Rattle.dw_base.specs.DebugData.{DataReadings, DebugData}
use Rattle.dw_base.specs.Pieces.{Piece}
use Rattle.dw_base.specs.OffsetPieces.{before_slot}
use Rattle.dw_base.specs.FileViews.{view_of, view_section, view_relocations, view_cells, section_bytes, section_named, section_after}
use Rattle.dw_base.specs.ViewData.{debug_data, located, unit_sections, macro_sections, other_sections}
use Rattle.dw_base.specs.Forests.{no_entries, entry}
use Rattle.dw_base.specs.Forms.{kind_in, form_rows}
use Rattle.dw_base.specs.Lebs.{uleb_at, sleb_at, initial_length_at}
use Rattle.dw_base.specs.Numbers.{spelled, number_at}
use Rattle.dw_base.specs.Texts.{text_in, ends_in}
use Rattle.dw_base.specs.DebugSections.{debug_section}
use Rattle.dw_base.specs.Notes.{build_id_of, is_id_section, id_in, is_id_note, descriptor_at}
use Rattle.dw_base.specs.UnitHeaders.{UnitBase, in_info, unit_header}
use Rattle.dw_base.specs.UnitMeanings.{units_of}
use Rattle.dw_base.specs.UnitStates.{UnitState, before_unit, between, after_code, past}
use Rattle.dw_base.specs.TextIndexes.{slot_of}
use Rattle.dw_base.specs.ValueMeanings.{string, of_class, inline, address_of}
use Rattle.dw_base.specs.Elf.{e_type, e_machine, e_phnum, e_shoff, e_shnum, e_shstrndx, class_of, order_of, nth_section, section_at, section_count, name_index, name_table, section_name, contents_of, contents_at}
use Rattle.dw_base.specs.SectionRelocations.{relocates, relocation_section, is_symbol_table, extends, extended_section, relocation_source, records_in, is_none_type, relocation_of, relocations_in, relocations_of}
use Rattle.dw_base.specs.RelocationSectionFails.{relocates_read}
use Rattle.dw_base.specs.AbsoluteTypes.{absolute_types, absolute_size}
use Rattle.dw_base.specs.Symbols.{symbol_at}
use Rattle.dw_base.specs.declared.shared.Width.TheVariants.{W32}
use Rattle.dw_base.specs.declared.values.ValueClass.TheVariants.{SecOffset, ListIndex}
use Rattle.dw_base.specs.declared.view_fields.Field.TheVariants.{Num}

-- pieces of these sizes, one after another
abbrev by_sizes : UnitBase → UnitState → List ℕ → List Cell → List (Piece UnitState)
by_sizes base s [] cs = []
by_sizes base s (n ∷ ns) cs = record { state = s; cells = take n cs } ∷ by_sizes base (past s.mode base s (take n cs)) ns (drop n cs)

-- a file with a unit that has a block in it: the unit has the second list of ranges, the block the first
abbrev ranged_file : List ℕ
ranged_file = 127 ∷ 69 ∷ 76 ∷ 70 ∷ 2 ∷ 1 ∷ 1 ∷ 0 ∷ 0 ∷ 0 ∷ 0 ∷ 0 ∷ 0 ∷ 0 ∷ 0 ∷ 0 ∷ 1 ∷ 0 ∷ 62 ∷ 0 ∷ 1 ∷ 0 ∷ 0 ∷ 0 ∷ 0 ∷ 0 ∷ 0 ∷ 0 ∷ 0 ∷ 0 ∷ 0 ∷ 0 ∷ 0 ∷ 0 ∷ 0 ∷ 0 ∷ 0 ∷ 0 ∷ 0 ∷ 0 ∷ 208 ∷ 0 ∷ 0 ∷ 0 ∷ 0 ∷ 0 ∷ 0 ∷ 0 ∷ 0 ∷ 0 ∷ 0 ∷ 0 ∷ 64 ∷ 0 ∷ 0 ∷ 0 ∷ 0 ∷ 0 ∷ 64 ∷ 0 ∷ 5 ∷ 0 ∷ 4 ∷ 0 ∷ 1 ∷ 17 ∷ 1 ∷ 116 ∷ 23 ∷ 3 ∷ 8 ∷ 85 ∷ 35 ∷ 0 ∷ 0 ∷ 2 ∷ 11 ∷ 0 ∷ 85 ∷ 35 ∷ 0 ∷ 0 ∷ 0 ∷ 21 ∷ 0 ∷ 0 ∷ 0 ∷ 5 ∷ 0 ∷ 1 ∷ 8 ∷ 0 ∷ 0 ∷ 0 ∷ 0 ∷ 1 ∷ 12 ∷ 0 ∷ 0 ∷ 0 ∷ 116 ∷ 46 ∷ 99 ∷ 0 ∷ 1 ∷ 2 ∷ 0 ∷ 0 ∷ 38 ∷ 0 ∷ 0 ∷ 0 ∷ 5 ∷ 0 ∷ 8 ∷ 0 ∷ 2 ∷ 0 ∷ 0 ∷ 0 ∷ 8 ∷ 0 ∷ 0 ∷ 0 ∷ 19 ∷ 0 ∷ 0 ∷ 0 ∷ 7 ∷ 0 ∷ 16 ∷ 0 ∷ 0 ∷ 0 ∷ 0 ∷ 0 ∷ 0 ∷ 5 ∷ 0 ∷ 7 ∷ 8 ∷ 16 ∷ 0 ∷ 0 ∷ 0 ∷ 0 ∷ 0 ∷ 0 ∷ 4 ∷ 0 ∷ 0 ∷ 46 ∷ 100 ∷ 101 ∷ 98 ∷ 117 ∷ 103 ∷ 95 ∷ 97 ∷ 98 ∷ 98 ∷ 114 ∷ 101 ∷ 118 ∷ 0 ∷ 46 ∷ 100 ∷ 101 ∷ 98 ∷ 117 ∷ 103 ∷ 95 ∷ 114 ∷ 110 ∷ 103 ∷ 108 ∷ 105 ∷ 115 ∷ 116 ∷ 115 ∷ 0 ∷ 46 ∷ 100 ∷ 101 ∷ 98 ∷ 117 ∷ 103 ∷ 95 ∷ 105 ∷ 110 ∷ 102 ∷ 111 ∷ 0 ∷ 46 ∷ 115 ∷ 104 ∷ 115 ∷ 116 ∷ 114 ∷ 116 ∷ 97 ∷ 98 ∷ 0 ∷ 0 ∷ 0 ∷ 0 ∷ 0 ∷ 0 ∷ 0 ∷ 0 ∷ 0 ∷ 0 ∷ 0 ∷ 0 ∷ 0 ∷ 0 ∷ 0 ∷ 0 ∷ 0 ∷ 0 ∷ 0 ∷ 0 ∷ 0 ∷ 0 ∷ 0 ∷ 0 ∷ 0 ∷ 0 ∷ 0 ∷ 0 ∷ 0 ∷ 0 ∷ 0 ∷ 0 ∷ 0 ∷ 0 ∷ 0 ∷ 0 ∷ 0 ∷ 0 ∷ 0 ∷ 0 ∷ 0 ∷ 0 ∷ 0 ∷ 0 ∷ 0 ∷ 0 ∷ 0 ∷ 0 ∷ 0 ∷ 0 ∷ 0 ∷ 0 ∷ 0 ∷ 0 ∷ 0 ∷ 0 ∷ 0 ∷ 0 ∷ 0 ∷ 0 ∷ 0 ∷ 0 ∷ 0 ∷ 0 ∷ 0 ∷ 0 ∷ 0 ∷ 0 ∷ 0 ∷ 0 ∷ 1 ∷ 0 ∷ 0 ∷ 0 ∷ 1 ∷ 0 ∷ 0 ∷ 0 ∷ 0 ∷ 0 ∷ 0 ∷ 0 ∷ 0 ∷ 0 ∷ 0 ∷ 0 ∷ 0 ∷ 0 ∷ 0 ∷ 0 ∷ 0 ∷ 0 ∷ 0 ∷ 0 ∷ 64 ∷ 0 ∷ 0 ∷ 0 ∷ 0 ∷ 0 ∷ 0 ∷ 0 ∷ 19 ∷ 0 ∷ 0 ∷ 0 ∷ 0 ∷ 0 ∷ 0 ∷ 0 ∷ 0 ∷ 0 ∷ 0 ∷ 0 ∷ 0 ∷ 0 ∷ 0 ∷ 0 ∷ 1 ∷ 0 ∷ 0 ∷ 0 ∷ 0 ∷ 0 ∷ 0 ∷ 0 ∷ 0 ∷ 0 ∷ 0 ∷ 0 ∷ 0 ∷ 0 ∷ 0 ∷ 0 ∷ 31 ∷ 0 ∷ 0 ∷ 0 ∷ 1 ∷ 0 ∷ 0 ∷ 0 ∷ 0 ∷ 0 ∷ 0 ∷ 0 ∷ 0 ∷ 0 ∷ 0 ∷ 0 ∷ 0 ∷ 0 ∷ 0 ∷ 0 ∷ 0 ∷ 0 ∷ 0 ∷ 0 ∷ 83 ∷ 0 ∷ 0 ∷ 0 ∷ 0 ∷ 0 ∷ 0 ∷ 0 ∷ 25 ∷ 0 ∷ 0 ∷ 0 ∷ 0 ∷ 0 ∷ 0 ∷ 0 ∷ 0 ∷ 0 ∷ 0 ∷ 0 ∷ 0 ∷ 0 ∷ 0 ∷ 0 ∷ 1 ∷ 0 ∷ 0 ∷ 0 ∷ 0 ∷ 0 ∷ 0 ∷ 0 ∷ 0 ∷ 0 ∷ 0 ∷ 0 ∷ 0 ∷ 0 ∷ 0 ∷ 0 ∷ 15 ∷ 0 ∷ 0 ∷ 0 ∷ 1 ∷ 0 ∷ 0 ∷ 0 ∷ 0 ∷ 0 ∷ 0 ∷ 0 ∷ 0 ∷ 0 ∷ 0 ∷ 0 ∷ 0 ∷ 0 ∷ 0 ∷ 0 ∷ 0 ∷ 0 ∷ 0 ∷ 0 ∷ 108 ∷ 0 ∷ 0 ∷ 0 ∷ 0 ∷ 0 ∷ 0 ∷ 0 ∷ 42 ∷ 0 ∷ 0 ∷ 0 ∷ 0 ∷ 0 ∷ 0 ∷ 0 ∷ 0 ∷ 0 ∷ 0 ∷ 0 ∷ 0 ∷ 0 ∷ 0 ∷ 0 ∷ 1 ∷ 0 ∷ 0 ∷ 0 ∷ 0 ∷ 0 ∷ 0 ∷ 0 ∷ 0 ∷ 0 ∷ 0 ∷ 0 ∷ 0 ∷ 0 ∷ 0 ∷ 0 ∷ 43 ∷ 0 ∷ 0 ∷ 0 ∷ 3 ∷ 0 ∷ 0 ∷ 0 ∷ 0 ∷ 0 ∷ 0 ∷ 0 ∷ 0 ∷ 0 ∷ 0 ∷ 0 ∷ 0 ∷ 0 ∷ 0 ∷ 0 ∷ 0 ∷ 0 ∷ 0 ∷ 0 ∷ 150 ∷ 0 ∷ 0 ∷ 0 ∷ 0 ∷ 0 ∷ 0 ∷ 0 ∷ 53 ∷ 0 ∷ 0 ∷ 0 ∷ 0 ∷ 0 ∷ 0 ∷ 0 ∷ 0 ∷ 0 ∷ 0 ∷ 0 ∷ 0 ∷ 0 ∷ 0 ∷ 0 ∷ 1 ∷ 0 ∷ 0 ∷ 0 ∷ 0 ∷ 0 ∷ 0 ∷ 0 ∷ 0 ∷ 0 ∷ 0 ∷ 0 ∷ 0 ∷ 0 ∷ 0 ∷ 0 ∷ []

abbrev ranged_pieces : DebugData → List Cell → List (Piece UnitState)
ranged_pieces d cs = by_sizes d.base (before_unit 2 in_info (length cs) 0 0) (12 ∷ 1 ∷ 4 ∷ 4 ∷ 1 ∷ 1 ∷ 1 ∷ 1 ∷ []) cs

abbrev ranged_readings : DataReadings
ranged_readings = record { units = record { number = 2; pieces = ranged_pieces (debug_data (view_of ranged_file)) (view_cells (view_of ranged_file) 2) } ∷ []; offsets = []; lines = []; macros = []; names = [] }

pub ranged-means : units_of (debug_data (view_of ranged_file)) ranged_readings ≡ record { section = 2; head = record { version = 5; width = W32; address = 8; kind = 1; signature = 0; type_entry = None }; entries = (entry 17 (record { name = 116; value = of_class SecOffset (Num 12) } ∷ record { name = 3; value = string true inline (116 ∷ 46 ∷ 99 ∷ []) } ∷ record { name = 85; value = of_class ListIndex (Num 1) } ∷ []) (entry 11 (record { name = 85; value = of_class ListIndex (Num 0) } ∷ []) no_entries no_entries) no_entries) } ∷ []
unfolding view_of view_section view_relocations section_bytes section_named section_after debug_data located unit_sections macro_sections debug_section build_id_of is_id_section id_in is_id_note descriptor_at units_of unit_header initial_length_at number_at spelled between after_code kind_in form_rows abbreviations_at uleb_at sleb_at text_in ends_in offset_of field_of address_of slot_of before_slot e_type e_machine e_phnum e_shoff e_shnum e_shstrndx class_of order_of nth_section section_at section_count name_index name_table section_name contents_of contents_at relocates relocation_section is_symbol_table extends extended_section relocation_source records_in is_none_type relocation_of relocations_in relocations_of relocates_read absolute_types absolute_size symbol_at
ranged-means = refl

pub ranged-lists : other_sections (view_of ranged_file).sections ≡ record { name = []; bytes = [] } ∷ record { name = 46 ∷ 100 ∷ 101 ∷ 98 ∷ 117 ∷ 103 ∷ 95 ∷ 114 ∷ 110 ∷ 103 ∷ 108 ∷ 105 ∷ 115 ∷ 116 ∷ 115 ∷ []; bytes = 38 ∷ 0 ∷ 0 ∷ 0 ∷ 5 ∷ 0 ∷ 8 ∷ 0 ∷ 2 ∷ 0 ∷ 0 ∷ 0 ∷ 8 ∷ 0 ∷ 0 ∷ 0 ∷ 19 ∷ 0 ∷ 0 ∷ 0 ∷ 7 ∷ 0 ∷ 16 ∷ 0 ∷ 0 ∷ 0 ∷ 0 ∷ 0 ∷ 0 ∷ 5 ∷ 0 ∷ 7 ∷ 8 ∷ 16 ∷ 0 ∷ 0 ∷ 0 ∷ 0 ∷ 0 ∷ 0 ∷ 4 ∷ 0 ∷ [] } ∷ []
unfolding view_of view_section view_relocations section_bytes section_named section_after debug_data located unit_sections macro_sections debug_section build_id_of is_id_section id_in is_id_note descriptor_at units_of unit_header initial_length_at number_at spelled between after_code kind_in form_rows abbreviations_at uleb_at sleb_at text_in ends_in offset_of field_of address_of slot_of before_slot e_type e_machine e_phnum e_shoff e_shnum e_shstrndx class_of order_of nth_section section_at section_count name_index name_table section_name contents_of contents_at relocates relocation_section is_symbol_table extends extended_section relocation_source records_in is_none_type relocation_of relocations_in relocations_of relocates_read absolute_types absolute_size symbol_at
ranged-lists = refl
