-- Meanings of whole files: a relocatable one of 32 bits, in which texts are named by relocations (gABI ch. 4 "Relocation"); type units, of .debug_types
-- and of version 5, whose headers name an entry (DWARF 5, 7.5.1.3); and macro units, of which one imports another (DWARF 5, 6.3.2.5).
use Rattle.std.specs.Prelude.{ℕ, pos, ◌≡◌, ◌∷◌, [], List, true, false, Some, None, take, drop, length, refl}
use Rattle.dw_base.specs.Cells.{Cell, field_of, offset_of}
use Rattle.dw_base.specs.AbbreviationBytes.{abbreviations_at}
use Rattle.dw_base.specs.DebugData.{DataReadings, DebugData}
use Rattle.dw_base.specs.Pieces.{Piece}
use Rattle.dw_base.specs.OffsetPieces.{before_slot}
use Rattle.dw_base.specs.FileViews.{View, view_of, view_section, view_relocations, view_cells, section_bytes, section_named, section_after}
use Rattle.dw_base.specs.ViewData.{debug_data, located, unit_sections, macro_sections}
use Rattle.dw_base.specs.Forests.{no_entries, entry}
use Rattle.dw_base.specs.Forms.{kind_in, form_rows}
use Rattle.dw_base.specs.Lebs.{uleb_at, sleb_at, initial_length_at}
use Rattle.dw_base.specs.Numbers.{spelled, number_at}
use Rattle.dw_base.specs.Texts.{text_in, ends_in}
use Rattle.dw_base.specs.DebugSections.{debug_section}
use Rattle.dw_base.specs.Notes.{build_id_of, is_id_section, id_in, is_id_note, descriptor_at}
use Rattle.dw_base.specs.UnitHeaders.{UnitBase, in_info, in_types, unit_header}
use Rattle.dw_base.specs.UnitMeanings.{units_of}
use Rattle.dw_base.specs.UnitStates.{UnitState, before_unit, between, after_code, past}
use Rattle.dw_base.specs.TextIndexes.{slot_of}
use Rattle.dw_base.specs.ValueMeanings.{string, entry_of, stray, of_class, raw, inline, by_offset, address_of}
use Rattle.dw_base.specs.Elf.{e_type, e_machine, e_phnum, e_shoff, e_shnum, e_shstrndx, class_of, order_of, nth_section, section_at, section_count, name_index, name_table, section_name, contents_of, contents_at}
use Rattle.dw_base.specs.SectionRelocations.{relocates, relocation_section, is_symbol_table, extends, extended_section, relocation_source, records_in, is_none_type, relocation_of, relocations_in, relocations_of}
use Rattle.dw_base.specs.RelocationSectionFails.{relocates_read}
use Rattle.dw_base.specs.AbsoluteTypes.{absolute_types, absolute_size}
use Rattle.dw_base.specs.Symbols.{symbol_at}
use Rattle.dw_base.specs.declared.shared.Width.TheVariants.{W32}
use Rattle.dw_base.specs.declared.shared.Class.TheVariants.{C32}
use Rattle.dw_base.specs.declared.values.ValueClass.TheVariants.{Address, Number, Signature}
use Rattle.dw_base.specs.declared.view_fields.Field.TheVariants.{Num, Sym}
use Rattle.dw_base.specs.MacroMeanings.{macro_meanings, defined, undefined, begun, ended, brought, front_mark}
use Rattle.dw_base.specs.MacroPieces.{MacroState, macro_grammar, macros_at, at_unit, front_of, front_by}
use Rattle.dw_base.specs.DebugData.{around_of}
use Rattle.dw_base.specs.MacroOperations.{operation_of, plain_operation, enter_operation, enter_behind, inline_operation, inline_behind, named_operation, named_behind, bring_operation, is_foreign}

-- pieces of these sizes, one after another
abbrev by_sizes : UnitBase → UnitState → List ℕ → List Cell → List (Piece UnitState)
by_sizes base s [] cs = []
by_sizes base s (n ∷ ns) cs = record { state = s; cells = take n cs } ∷ by_sizes base (past s.mode base s (take n cs)) ns (drop n cs)

-- a relocatable file
abbrev relocatable_file : List ℕ
relocatable_file = 127 ∷ 69 ∷ 76 ∷ 70 ∷ 1 ∷ 2 ∷ 1 ∷ 0 ∷ 0 ∷ 0 ∷ 0 ∷ 0 ∷ 0 ∷ 0 ∷ 0 ∷ 0 ∷ 0 ∷ 1 ∷ 0 ∷ 20 ∷ 0 ∷ 0 ∷ 0 ∷ 1 ∷ 0 ∷ 0 ∷ 0 ∷ 0 ∷ 0 ∷ 0 ∷ 0 ∷ 0 ∷ 0 ∷ 0 ∷ 1 ∷ 152 ∷ 0 ∷ 0 ∷ 0 ∷ 0 ∷ 0 ∷ 52 ∷ 0 ∷ 0 ∷ 0 ∷ 0 ∷ 0 ∷ 40 ∷ 0 ∷ 8 ∷ 0 ∷ 7 ∷ 0 ∷ 0 ∷ 0 ∷ 0 ∷ 0 ∷ 0 ∷ 0 ∷ 40 ∷ 0 ∷ 2 ∷ 0 ∷ 0 ∷ 0 ∷ 0 ∷ 4 ∷ 1 ∷ 0 ∷ 0 ∷ 0 ∷ 0 ∷ 0 ∷ 0 ∷ 0 ∷ 0 ∷ 0 ∷ 0 ∷ 0 ∷ 0 ∷ 2 ∷ 0 ∷ 0 ∷ 0 ∷ 0 ∷ 5 ∷ 3 ∷ 0 ∷ 0 ∷ 0 ∷ 0 ∷ 0 ∷ 0 ∷ 0 ∷ 7 ∷ 0 ∷ 0 ∷ 0 ∷ 0 ∷ 0 ∷ 0 ∷ 0 ∷ 0 ∷ 6 ∷ 0 ∷ 0 ∷ 4 ∷ 1 ∷ 0 ∷ 0 ∷ 0 ∷ 0 ∷ 0 ∷ 0 ∷ 0 ∷ 12 ∷ 0 ∷ 0 ∷ 2 ∷ 1 ∷ 0 ∷ 0 ∷ 0 ∷ 0 ∷ 0 ∷ 0 ∷ 0 ∷ 16 ∷ 0 ∷ 0 ∷ 2 ∷ 1 ∷ 0 ∷ 0 ∷ 0 ∷ 13 ∷ 0 ∷ 0 ∷ 0 ∷ 20 ∷ 0 ∷ 0 ∷ 1 ∷ 1 ∷ 0 ∷ 0 ∷ 0 ∷ 16 ∷ 0 ∷ 0 ∷ 0 ∷ 25 ∷ 0 ∷ 0 ∷ 2 ∷ 1 ∷ 0 ∷ 0 ∷ 0 ∷ 13 ∷ 0 ∷ 0 ∷ 0 ∷ 31 ∷ 0 ∷ 0 ∷ 1 ∷ 1 ∷ 0 ∷ 0 ∷ 0 ∷ 8 ∷ 0 ∷ 0 ∷ 0 ∷ 35 ∷ 0 ∷ 0 ∷ 5 ∷ 77 ∷ 0 ∷ 0 ∷ 0 ∷ 153 ∷ 0 ∷ 0 ∷ 0 ∷ 39 ∷ 0 ∷ 0 ∷ 3 ∷ 1 ∷ 0 ∷ 0 ∷ 0 ∷ 11 ∷ 1 ∷ 17 ∷ 1 ∷ 3 ∷ 14 ∷ 27 ∷ 14 ∷ 17 ∷ 1 ∷ 0 ∷ 0 ∷ 2 ∷ 52 ∷ 0 ∷ 3 ∷ 14 ∷ 2 ∷ 10 ∷ 11 ∷ 6 ∷ 49 ∷ 16 ∷ 0 ∷ 0 ∷ 0 ∷ 47 ∷ 98 ∷ 117 ∷ 105 ∷ 108 ∷ 100 ∷ 47 ∷ 112 ∷ 47 ∷ 116 ∷ 46 ∷ 99 ∷ 0 ∷ 47 ∷ 98 ∷ 117 ∷ 105 ∷ 108 ∷ 100 ∷ 47 ∷ 112 ∷ 0 ∷ 0 ∷ 0 ∷ 0 ∷ 0 ∷ 0 ∷ 0 ∷ 0 ∷ 0 ∷ 0 ∷ 0 ∷ 0 ∷ 0 ∷ 0 ∷ 0 ∷ 0 ∷ 0 ∷ 0 ∷ 0 ∷ 0 ∷ 0 ∷ 0 ∷ 0 ∷ 0 ∷ 0 ∷ 0 ∷ 0 ∷ 0 ∷ 0 ∷ 0 ∷ 3 ∷ 0 ∷ 0 ∷ 1 ∷ 0 ∷ 0 ∷ 0 ∷ 0 ∷ 0 ∷ 0 ∷ 0 ∷ 0 ∷ 0 ∷ 0 ∷ 0 ∷ 0 ∷ 3 ∷ 0 ∷ 0 ∷ 5 ∷ 0 ∷ 0 ∷ 0 ∷ 0 ∷ 0 ∷ 0 ∷ 0 ∷ 0 ∷ 0 ∷ 0 ∷ 0 ∷ 0 ∷ 3 ∷ 0 ∷ 0 ∷ 2 ∷ 0 ∷ 0 ∷ 0 ∷ 0 ∷ 0 ∷ 0 ∷ 0 ∷ 0 ∷ 0 ∷ 0 ∷ 0 ∷ 0 ∷ 3 ∷ 0 ∷ 0 ∷ 4 ∷ 0 ∷ 0 ∷ 0 ∷ 0 ∷ 0 ∷ 0 ∷ 0 ∷ 0 ∷ 0 ∷ 0 ∷ 0 ∷ 0 ∷ 16 ∷ 0 ∷ 0 ∷ 0 ∷ 0 ∷ 46 ∷ 116 ∷ 101 ∷ 120 ∷ 116 ∷ 0 ∷ 46 ∷ 100 ∷ 101 ∷ 98 ∷ 117 ∷ 103 ∷ 95 ∷ 105 ∷ 110 ∷ 102 ∷ 111 ∷ 0 ∷ 46 ∷ 114 ∷ 0 ∷ 46 ∷ 100 ∷ 101 ∷ 98 ∷ 117 ∷ 103 ∷ 95 ∷ 97 ∷ 98 ∷ 98 ∷ 114 ∷ 101 ∷ 118 ∷ 0 ∷ 46 ∷ 100 ∷ 101 ∷ 98 ∷ 117 ∷ 103 ∷ 95 ∷ 115 ∷ 116 ∷ 114 ∷ 0 ∷ 46 ∷ 115 ∷ 121 ∷ 109 ∷ 116 ∷ 97 ∷ 98 ∷ 0 ∷ 46 ∷ 115 ∷ 104 ∷ 115 ∷ 116 ∷ 114 ∷ 116 ∷ 97 ∷ 98 ∷ 0 ∷ 0 ∷ 0 ∷ 0 ∷ 0 ∷ 0 ∷ 0 ∷ 0 ∷ 0 ∷ 0 ∷ 0 ∷ 0 ∷ 0 ∷ 0 ∷ 0 ∷ 0 ∷ 0 ∷ 0 ∷ 0 ∷ 0 ∷ 0 ∷ 0 ∷ 0 ∷ 0 ∷ 0 ∷ 0 ∷ 0 ∷ 0 ∷ 0 ∷ 0 ∷ 0 ∷ 0 ∷ 0 ∷ 0 ∷ 0 ∷ 0 ∷ 0 ∷ 0 ∷ 0 ∷ 0 ∷ 0 ∷ 0 ∷ 0 ∷ 0 ∷ 0 ∷ 0 ∷ 0 ∷ 1 ∷ 0 ∷ 0 ∷ 0 ∷ 1 ∷ 0 ∷ 0 ∷ 0 ∷ 6 ∷ 0 ∷ 0 ∷ 0 ∷ 0 ∷ 0 ∷ 0 ∷ 0 ∷ 52 ∷ 0 ∷ 0 ∷ 0 ∷ 4 ∷ 0 ∷ 0 ∷ 0 ∷ 0 ∷ 0 ∷ 0 ∷ 0 ∷ 0 ∷ 0 ∷ 0 ∷ 0 ∷ 1 ∷ 0 ∷ 0 ∷ 0 ∷ 0 ∷ 0 ∷ 0 ∷ 0 ∷ 7 ∷ 0 ∷ 0 ∷ 0 ∷ 1 ∷ 0 ∷ 0 ∷ 0 ∷ 0 ∷ 0 ∷ 0 ∷ 0 ∷ 0 ∷ 0 ∷ 0 ∷ 0 ∷ 56 ∷ 0 ∷ 0 ∷ 0 ∷ 44 ∷ 0 ∷ 0 ∷ 0 ∷ 0 ∷ 0 ∷ 0 ∷ 0 ∷ 0 ∷ 0 ∷ 0 ∷ 0 ∷ 1 ∷ 0 ∷ 0 ∷ 0 ∷ 0 ∷ 0 ∷ 0 ∷ 0 ∷ 19 ∷ 0 ∷ 0 ∷ 0 ∷ 4 ∷ 0 ∷ 0 ∷ 0 ∷ 0 ∷ 0 ∷ 0 ∷ 0 ∷ 0 ∷ 0 ∷ 0 ∷ 0 ∷ 100 ∷ 0 ∷ 0 ∷ 0 ∷ 96 ∷ 0 ∷ 0 ∷ 0 ∷ 6 ∷ 0 ∷ 0 ∷ 0 ∷ 2 ∷ 0 ∷ 0 ∷ 0 ∷ 4 ∷ 0 ∷ 0 ∷ 0 ∷ 12 ∷ 0 ∷ 0 ∷ 0 ∷ 22 ∷ 0 ∷ 0 ∷ 0 ∷ 1 ∷ 0 ∷ 0 ∷ 0 ∷ 0 ∷ 0 ∷ 0 ∷ 0 ∷ 0 ∷ 0 ∷ 0 ∷ 0 ∷ 196 ∷ 0 ∷ 0 ∷ 0 ∷ 25 ∷ 0 ∷ 0 ∷ 0 ∷ 0 ∷ 0 ∷ 0 ∷ 0 ∷ 0 ∷ 0 ∷ 0 ∷ 0 ∷ 1 ∷ 0 ∷ 0 ∷ 0 ∷ 0 ∷ 0 ∷ 0 ∷ 0 ∷ 36 ∷ 0 ∷ 0 ∷ 0 ∷ 1 ∷ 0 ∷ 0 ∷ 0 ∷ 0 ∷ 0 ∷ 0 ∷ 0 ∷ 0 ∷ 0 ∷ 0 ∷ 0 ∷ 221 ∷ 0 ∷ 0 ∷ 0 ∷ 22 ∷ 0 ∷ 0 ∷ 0 ∷ 0 ∷ 0 ∷ 0 ∷ 0 ∷ 0 ∷ 0 ∷ 0 ∷ 0 ∷ 1 ∷ 0 ∷ 0 ∷ 0 ∷ 0 ∷ 0 ∷ 0 ∷ 0 ∷ 47 ∷ 0 ∷ 0 ∷ 0 ∷ 2 ∷ 0 ∷ 0 ∷ 0 ∷ 0 ∷ 0 ∷ 0 ∷ 0 ∷ 0 ∷ 0 ∷ 0 ∷ 0 ∷ 244 ∷ 0 ∷ 0 ∷ 0 ∷ 96 ∷ 0 ∷ 0 ∷ 0 ∷ 0 ∷ 0 ∷ 0 ∷ 0 ∷ 1 ∷ 0 ∷ 0 ∷ 0 ∷ 4 ∷ 0 ∷ 0 ∷ 0 ∷ 16 ∷ 0 ∷ 0 ∷ 0 ∷ 55 ∷ 0 ∷ 0 ∷ 0 ∷ 3 ∷ 0 ∷ 0 ∷ 0 ∷ 0 ∷ 0 ∷ 0 ∷ 0 ∷ 0 ∷ 0 ∷ 0 ∷ 1 ∷ 84 ∷ 0 ∷ 0 ∷ 0 ∷ 65 ∷ 0 ∷ 0 ∷ 0 ∷ 0 ∷ 0 ∷ 0 ∷ 0 ∷ 0 ∷ 0 ∷ 0 ∷ 0 ∷ 1 ∷ 0 ∷ 0 ∷ 0 ∷ 0 ∷ []

abbrev relocatable_pieces : DebugData → List Cell → List (Piece UnitState)
relocatable_pieces d cs = by_sizes d.base (before_unit 2 in_info (length cs) 0 0) (11 ∷ 1 ∷ 4 ∷ 4 ∷ 4 ∷ 1 ∷ 4 ∷ 6 ∷ 4 ∷ 4 ∷ 1 ∷ []) cs

abbrev relocatable_readings : DataReadings
relocatable_readings = record { units = record { number = 2; pieces = relocatable_pieces (debug_data (view_of relocatable_file)) (view_cells (view_of relocatable_file) 2) } ∷ []; offsets = []; lines = []; macros = []; names = [] }

pub relocatable-means : units_of (debug_data (view_of relocatable_file)) relocatable_readings ≡ record { section = 2; head = record { version = 2; width = W32; address = 4; kind = 1; signature = 0; type_entry = None }; entries = (entry 17 (record { name = 3; value = string true by_offset (47 ∷ 98 ∷ 117 ∷ 105 ∷ 108 ∷ 100 ∷ 47 ∷ 112 ∷ 47 ∷ 116 ∷ 46 ∷ 99 ∷ []) } ∷ record { name = 27; value = string true by_offset (47 ∷ 98 ∷ 117 ∷ 105 ∷ 108 ∷ 100 ∷ 47 ∷ 112 ∷ []) } ∷ record { name = 17; value = of_class Address (Sym 1 1 (pos 16)) } ∷ []) (entry 52 (record { name = 3; value = string false by_offset (47 ∷ 98 ∷ 117 ∷ 105 ∷ 108 ∷ 100 ∷ 47 ∷ 112 ∷ []) } ∷ record { name = 2; value = raw (record { byte = 3; relocation = None } ∷ record { byte = 0; relocation = Some (record { class = C32; symbol = 1; kind = 1; size = Some 4; addend = Some (pos 8); target = Some (1, 0) }) } ∷ record { byte = 0; relocation = None } ∷ record { byte = 0; relocation = None } ∷ record { byte = 0; relocation = None } ∷ []) } ∷ record { name = 11; value = of_class Number (Sym 5 77 (pos 153)) } ∷ record { name = 49; value = entry_of 0 0 } ∷ []) no_entries no_entries) no_entries) } ∷ []
unfolding view_of view_section view_relocations section_bytes section_named section_after debug_data located unit_sections macro_sections debug_section build_id_of is_id_section id_in is_id_note descriptor_at units_of unit_header initial_length_at number_at spelled between after_code kind_in form_rows abbreviations_at uleb_at sleb_at text_in ends_in offset_of field_of address_of slot_of before_slot e_type e_machine e_phnum e_shoff e_shnum e_shstrndx class_of order_of nth_section section_at section_count name_index name_table section_name contents_of contents_at relocates relocation_section is_symbol_table extends extended_section relocation_source records_in is_none_type relocation_of relocations_in relocations_of relocates_read absolute_types absolute_size symbol_at
relocatable-means = refl

-- a file with a type unit in .debug_types and one in .debug_info
abbrev typed_file : List ℕ
typed_file = 127 ∷ 69 ∷ 76 ∷ 70 ∷ 2 ∷ 1 ∷ 1 ∷ 0 ∷ 0 ∷ 0 ∷ 0 ∷ 0 ∷ 0 ∷ 0 ∷ 0 ∷ 0 ∷ 2 ∷ 0 ∷ 62 ∷ 0 ∷ 1 ∷ 0 ∷ 0 ∷ 0 ∷ 0 ∷ 0 ∷ 0 ∷ 0 ∷ 0 ∷ 0 ∷ 0 ∷ 0 ∷ 0 ∷ 0 ∷ 0 ∷ 0 ∷ 0 ∷ 0 ∷ 0 ∷ 0 ∷ 232 ∷ 1 ∷ 0 ∷ 0 ∷ 0 ∷ 0 ∷ 0 ∷ 0 ∷ 0 ∷ 0 ∷ 0 ∷ 0 ∷ 64 ∷ 0 ∷ 0 ∷ 0 ∷ 0 ∷ 0 ∷ 64 ∷ 0 ∷ 6 ∷ 0 ∷ 5 ∷ 0 ∷ 60 ∷ 0 ∷ 0 ∷ 0 ∷ 4 ∷ 0 ∷ 0 ∷ 0 ∷ 0 ∷ 0 ∷ 8 ∷ 239 ∷ 205 ∷ 171 ∷ 137 ∷ 103 ∷ 69 ∷ 35 ∷ 1 ∷ 52 ∷ 0 ∷ 0 ∷ 0 ∷ 2 ∷ 0 ∷ 0 ∷ 0 ∷ 0 ∷ 47 ∷ 98 ∷ 117 ∷ 105 ∷ 108 ∷ 100 ∷ 47 ∷ 112 ∷ 47 ∷ 118 ∷ 101 ∷ 114 ∷ 121 ∷ 47 ∷ 108 ∷ 111 ∷ 110 ∷ 103 ∷ 47 ∷ 112 ∷ 97 ∷ 116 ∷ 104 ∷ 0 ∷ 3 ∷ 22 ∷ 0 ∷ 0 ∷ 0 ∷ 4 ∷ 52 ∷ 0 ∷ 0 ∷ 0 ∷ 0 ∷ 0 ∷ 60 ∷ 0 ∷ 0 ∷ 0 ∷ 4 ∷ 0 ∷ 0 ∷ 0 ∷ 0 ∷ 0 ∷ 8 ∷ 238 ∷ 205 ∷ 171 ∷ 137 ∷ 103 ∷ 69 ∷ 35 ∷ 1 ∷ 53 ∷ 0 ∷ 0 ∷ 0 ∷ 2 ∷ 0 ∷ 0 ∷ 0 ∷ 0 ∷ 47 ∷ 98 ∷ 117 ∷ 105 ∷ 108 ∷ 100 ∷ 47 ∷ 112 ∷ 47 ∷ 118 ∷ 101 ∷ 114 ∷ 121 ∷ 47 ∷ 108 ∷ 111 ∷ 110 ∷ 103 ∷ 47 ∷ 112 ∷ 97 ∷ 116 ∷ 104 ∷ 0 ∷ 3 ∷ 22 ∷ 0 ∷ 0 ∷ 0 ∷ 4 ∷ 52 ∷ 0 ∷ 0 ∷ 0 ∷ 0 ∷ 0 ∷ 28 ∷ 0 ∷ 0 ∷ 0 ∷ 4 ∷ 0 ∷ 0 ∷ 0 ∷ 0 ∷ 0 ∷ 8 ∷ 1 ∷ 0 ∷ 0 ∷ 0 ∷ 0 ∷ 13 ∷ 0 ∷ 0 ∷ 0 ∷ 5 ∷ 239 ∷ 205 ∷ 171 ∷ 137 ∷ 103 ∷ 69 ∷ 35 ∷ 1 ∷ 117 ∷ 0 ∷ 0 ∷ 61 ∷ 0 ∷ 0 ∷ 0 ∷ 5 ∷ 0 ∷ 2 ∷ 8 ∷ 0 ∷ 0 ∷ 0 ∷ 0 ∷ 239 ∷ 205 ∷ 171 ∷ 137 ∷ 103 ∷ 69 ∷ 35 ∷ 1 ∷ 53 ∷ 0 ∷ 0 ∷ 0 ∷ 2 ∷ 0 ∷ 0 ∷ 0 ∷ 0 ∷ 47 ∷ 98 ∷ 117 ∷ 105 ∷ 108 ∷ 100 ∷ 47 ∷ 112 ∷ 47 ∷ 118 ∷ 101 ∷ 114 ∷ 121 ∷ 47 ∷ 108 ∷ 111 ∷ 110 ∷ 103 ∷ 47 ∷ 112 ∷ 97 ∷ 116 ∷ 104 ∷ 0 ∷ 3 ∷ 22 ∷ 0 ∷ 0 ∷ 0 ∷ 4 ∷ 53 ∷ 0 ∷ 0 ∷ 0 ∷ 0 ∷ 0 ∷ 61 ∷ 0 ∷ 0 ∷ 0 ∷ 5 ∷ 0 ∷ 2 ∷ 8 ∷ 0 ∷ 0 ∷ 0 ∷ 0 ∷ 238 ∷ 205 ∷ 171 ∷ 137 ∷ 103 ∷ 69 ∷ 35 ∷ 1 ∷ 54 ∷ 0 ∷ 0 ∷ 0 ∷ 2 ∷ 0 ∷ 0 ∷ 0 ∷ 0 ∷ 47 ∷ 98 ∷ 117 ∷ 105 ∷ 108 ∷ 100 ∷ 47 ∷ 112 ∷ 47 ∷ 118 ∷ 101 ∷ 114 ∷ 121 ∷ 47 ∷ 108 ∷ 111 ∷ 110 ∷ 103 ∷ 47 ∷ 112 ∷ 97 ∷ 116 ∷ 104 ∷ 0 ∷ 3 ∷ 22 ∷ 0 ∷ 0 ∷ 0 ∷ 4 ∷ 53 ∷ 0 ∷ 0 ∷ 0 ∷ 0 ∷ 0 ∷ 1 ∷ 17 ∷ 1 ∷ 3 ∷ 14 ∷ 27 ∷ 14 ∷ 0 ∷ 0 ∷ 2 ∷ 65 ∷ 1 ∷ 3 ∷ 14 ∷ 27 ∷ 8 ∷ 0 ∷ 0 ∷ 3 ∷ 19 ∷ 1 ∷ 3 ∷ 14 ∷ 0 ∷ 0 ∷ 4 ∷ 13 ∷ 0 ∷ 73 ∷ 19 ∷ 0 ∷ 0 ∷ 5 ∷ 22 ∷ 0 ∷ 73 ∷ 32 ∷ 3 ∷ 8 ∷ 0 ∷ 0 ∷ 0 ∷ 47 ∷ 98 ∷ 117 ∷ 105 ∷ 108 ∷ 100 ∷ 47 ∷ 112 ∷ 47 ∷ 116 ∷ 46 ∷ 99 ∷ 0 ∷ 47 ∷ 98 ∷ 117 ∷ 105 ∷ 108 ∷ 100 ∷ 47 ∷ 112 ∷ 0 ∷ 84 ∷ 0 ∷ 0 ∷ 46 ∷ 100 ∷ 101 ∷ 98 ∷ 117 ∷ 103 ∷ 95 ∷ 116 ∷ 121 ∷ 112 ∷ 101 ∷ 115 ∷ 0 ∷ 46 ∷ 100 ∷ 101 ∷ 98 ∷ 117 ∷ 103 ∷ 95 ∷ 105 ∷ 110 ∷ 102 ∷ 111 ∷ 0 ∷ 46 ∷ 100 ∷ 101 ∷ 98 ∷ 117 ∷ 103 ∷ 95 ∷ 97 ∷ 98 ∷ 98 ∷ 114 ∷ 101 ∷ 118 ∷ 0 ∷ 46 ∷ 100 ∷ 101 ∷ 98 ∷ 117 ∷ 103 ∷ 95 ∷ 115 ∷ 116 ∷ 114 ∷ 0 ∷ 46 ∷ 115 ∷ 104 ∷ 115 ∷ 116 ∷ 114 ∷ 116 ∷ 97 ∷ 98 ∷ 0 ∷ 0 ∷ 0 ∷ 0 ∷ 0 ∷ 0 ∷ 0 ∷ 0 ∷ 0 ∷ 0 ∷ 0 ∷ 0 ∷ 0 ∷ 0 ∷ 0 ∷ 0 ∷ 0 ∷ 0 ∷ 0 ∷ 0 ∷ 0 ∷ 0 ∷ 0 ∷ 0 ∷ 0 ∷ 0 ∷ 0 ∷ 0 ∷ 0 ∷ 0 ∷ 0 ∷ 0 ∷ 0 ∷ 0 ∷ 0 ∷ 0 ∷ 0 ∷ 0 ∷ 0 ∷ 0 ∷ 0 ∷ 0 ∷ 0 ∷ 0 ∷ 0 ∷ 0 ∷ 0 ∷ 0 ∷ 0 ∷ 0 ∷ 0 ∷ 0 ∷ 0 ∷ 0 ∷ 0 ∷ 0 ∷ 0 ∷ 0 ∷ 0 ∷ 0 ∷ 0 ∷ 0 ∷ 0 ∷ 0 ∷ 0 ∷ 0 ∷ 0 ∷ 0 ∷ 0 ∷ 0 ∷ 0 ∷ 0 ∷ 1 ∷ 0 ∷ 0 ∷ 0 ∷ 1 ∷ 0 ∷ 0 ∷ 0 ∷ 0 ∷ 0 ∷ 0 ∷ 0 ∷ 0 ∷ 0 ∷ 0 ∷ 0 ∷ 0 ∷ 0 ∷ 0 ∷ 0 ∷ 0 ∷ 0 ∷ 0 ∷ 0 ∷ 64 ∷ 0 ∷ 0 ∷ 0 ∷ 0 ∷ 0 ∷ 0 ∷ 0 ∷ 128 ∷ 0 ∷ 0 ∷ 0 ∷ 0 ∷ 0 ∷ 0 ∷ 0 ∷ 0 ∷ 0 ∷ 0 ∷ 0 ∷ 0 ∷ 0 ∷ 0 ∷ 0 ∷ 1 ∷ 0 ∷ 0 ∷ 0 ∷ 0 ∷ 0 ∷ 0 ∷ 0 ∷ 0 ∷ 0 ∷ 0 ∷ 0 ∷ 0 ∷ 0 ∷ 0 ∷ 0 ∷ 14 ∷ 0 ∷ 0 ∷ 0 ∷ 1 ∷ 0 ∷ 0 ∷ 0 ∷ 0 ∷ 0 ∷ 0 ∷ 0 ∷ 0 ∷ 0 ∷ 0 ∷ 0 ∷ 0 ∷ 0 ∷ 0 ∷ 0 ∷ 0 ∷ 0 ∷ 0 ∷ 0 ∷ 192 ∷ 0 ∷ 0 ∷ 0 ∷ 0 ∷ 0 ∷ 0 ∷ 0 ∷ 162 ∷ 0 ∷ 0 ∷ 0 ∷ 0 ∷ 0 ∷ 0 ∷ 0 ∷ 0 ∷ 0 ∷ 0 ∷ 0 ∷ 0 ∷ 0 ∷ 0 ∷ 0 ∷ 1 ∷ 0 ∷ 0 ∷ 0 ∷ 0 ∷ 0 ∷ 0 ∷ 0 ∷ 0 ∷ 0 ∷ 0 ∷ 0 ∷ 0 ∷ 0 ∷ 0 ∷ 0 ∷ 26 ∷ 0 ∷ 0 ∷ 0 ∷ 1 ∷ 0 ∷ 0 ∷ 0 ∷ 0 ∷ 0 ∷ 0 ∷ 0 ∷ 0 ∷ 0 ∷ 0 ∷ 0 ∷ 0 ∷ 0 ∷ 0 ∷ 0 ∷ 0 ∷ 0 ∷ 0 ∷ 0 ∷ 98 ∷ 1 ∷ 0 ∷ 0 ∷ 0 ∷ 0 ∷ 0 ∷ 0 ∷ 42 ∷ 0 ∷ 0 ∷ 0 ∷ 0 ∷ 0 ∷ 0 ∷ 0 ∷ 0 ∷ 0 ∷ 0 ∷ 0 ∷ 0 ∷ 0 ∷ 0 ∷ 0 ∷ 1 ∷ 0 ∷ 0 ∷ 0 ∷ 0 ∷ 0 ∷ 0 ∷ 0 ∷ 0 ∷ 0 ∷ 0 ∷ 0 ∷ 0 ∷ 0 ∷ 0 ∷ 0 ∷ 40 ∷ 0 ∷ 0 ∷ 0 ∷ 1 ∷ 0 ∷ 0 ∷ 0 ∷ 0 ∷ 0 ∷ 0 ∷ 0 ∷ 0 ∷ 0 ∷ 0 ∷ 0 ∷ 0 ∷ 0 ∷ 0 ∷ 0 ∷ 0 ∷ 0 ∷ 0 ∷ 0 ∷ 140 ∷ 1 ∷ 0 ∷ 0 ∷ 0 ∷ 0 ∷ 0 ∷ 0 ∷ 24 ∷ 0 ∷ 0 ∷ 0 ∷ 0 ∷ 0 ∷ 0 ∷ 0 ∷ 0 ∷ 0 ∷ 0 ∷ 0 ∷ 0 ∷ 0 ∷ 0 ∷ 0 ∷ 1 ∷ 0 ∷ 0 ∷ 0 ∷ 0 ∷ 0 ∷ 0 ∷ 0 ∷ 0 ∷ 0 ∷ 0 ∷ 0 ∷ 0 ∷ 0 ∷ 0 ∷ 0 ∷ 51 ∷ 0 ∷ 0 ∷ 0 ∷ 3 ∷ 0 ∷ 0 ∷ 0 ∷ 0 ∷ 0 ∷ 0 ∷ 0 ∷ 0 ∷ 0 ∷ 0 ∷ 0 ∷ 0 ∷ 0 ∷ 0 ∷ 0 ∷ 0 ∷ 0 ∷ 0 ∷ 0 ∷ 164 ∷ 1 ∷ 0 ∷ 0 ∷ 0 ∷ 0 ∷ 0 ∷ 0 ∷ 61 ∷ 0 ∷ 0 ∷ 0 ∷ 0 ∷ 0 ∷ 0 ∷ 0 ∷ 0 ∷ 0 ∷ 0 ∷ 0 ∷ 0 ∷ 0 ∷ 0 ∷ 0 ∷ 1 ∷ 0 ∷ 0 ∷ 0 ∷ 0 ∷ 0 ∷ 0 ∷ 0 ∷ 0 ∷ 0 ∷ 0 ∷ 0 ∷ 0 ∷ 0 ∷ 0 ∷ 0 ∷ []

abbrev typed_pieces : DebugData → List Cell → List (Piece UnitState)
typed_pieces d cs = by_sizes d.base (before_unit 1 in_types (length cs) 0 0) (23 ∷ 1 ∷ 4 ∷ 24 ∷ 1 ∷ 4 ∷ 1 ∷ 4 ∷ 1 ∷ 1 ∷ 23 ∷ 1 ∷ 4 ∷ 24 ∷ 1 ∷ 4 ∷ 1 ∷ 4 ∷ 1 ∷ 1 ∷ []) cs

abbrev plain_pieces : DebugData → List Cell → List (Piece UnitState)
plain_pieces d cs = by_sizes d.base (before_unit 2 in_info (length cs) 0 2) (11 ∷ 1 ∷ 4 ∷ 4 ∷ 1 ∷ 8 ∷ 2 ∷ 1 ∷ 24 ∷ 1 ∷ 4 ∷ 24 ∷ 1 ∷ 4 ∷ 1 ∷ 4 ∷ 1 ∷ 1 ∷ 24 ∷ 1 ∷ 4 ∷ 24 ∷ 1 ∷ 4 ∷ 1 ∷ 4 ∷ 1 ∷ 1 ∷ []) cs

abbrev typed_readings : DataReadings
typed_readings = record { units = record { number = 1; pieces = typed_pieces (debug_data (view_of typed_file)) (view_cells (view_of typed_file) 1) } ∷ record { number = 2; pieces = plain_pieces (debug_data (view_of typed_file)) (view_cells (view_of typed_file) 2) } ∷ []; offsets = []; lines = []; macros = []; names = [] }

pub typed-means : units_of (debug_data (view_of typed_file)) typed_readings ≡ record { section = 1; head = record { version = 4; width = W32; address = 8; kind = 2; signature = 81985529216486895; type_entry = Some (entry_of 0 1) }; entries = (entry 65 (record { name = 3; value = string true by_offset (47 ∷ 98 ∷ 117 ∷ 105 ∷ 108 ∷ 100 ∷ 47 ∷ 112 ∷ 47 ∷ 116 ∷ 46 ∷ 99 ∷ []) } ∷ record { name = 27; value = string true inline (47 ∷ 98 ∷ 117 ∷ 105 ∷ 108 ∷ 100 ∷ 47 ∷ 112 ∷ 47 ∷ 118 ∷ 101 ∷ 114 ∷ 121 ∷ 47 ∷ 108 ∷ 111 ∷ 110 ∷ 103 ∷ 47 ∷ 112 ∷ 97 ∷ 116 ∷ 104 ∷ []) } ∷ []) (entry 19 (record { name = 3; value = string false by_offset (84 ∷ []) } ∷ []) (entry 13 (record { name = 73; value = entry_of 0 1 } ∷ []) no_entries no_entries) no_entries) no_entries) } ∷ record { section = 1; head = record { version = 4; width = W32; address = 8; kind = 2; signature = 81985529216486894; type_entry = Some (stray 53) }; entries = (entry 65 (record { name = 3; value = string true by_offset (47 ∷ 98 ∷ 117 ∷ 105 ∷ 108 ∷ 100 ∷ 47 ∷ 112 ∷ 47 ∷ 116 ∷ 46 ∷ 99 ∷ []) } ∷ record { name = 27; value = string true inline (47 ∷ 98 ∷ 117 ∷ 105 ∷ 108 ∷ 100 ∷ 47 ∷ 112 ∷ 47 ∷ 118 ∷ 101 ∷ 114 ∷ 121 ∷ 47 ∷ 108 ∷ 111 ∷ 110 ∷ 103 ∷ 47 ∷ 112 ∷ 97 ∷ 116 ∷ 104 ∷ []) } ∷ []) (entry 19 (record { name = 3; value = string false by_offset (84 ∷ []) } ∷ []) (entry 13 (record { name = 73; value = entry_of 1 1 } ∷ []) no_entries no_entries) no_entries) no_entries) } ∷ record { section = 2; head = record { version = 4; width = W32; address = 8; kind = 1; signature = 0; type_entry = None }; entries = (entry 17 (record { name = 3; value = string true by_offset (47 ∷ 98 ∷ 117 ∷ 105 ∷ 108 ∷ 100 ∷ 47 ∷ 112 ∷ 47 ∷ 116 ∷ 46 ∷ 99 ∷ []) } ∷ record { name = 27; value = string true by_offset (47 ∷ 98 ∷ 117 ∷ 105 ∷ 108 ∷ 100 ∷ 47 ∷ 112 ∷ []) } ∷ []) (entry 22 (record { name = 73; value = of_class Signature (Num 81985529216486895) } ∷ record { name = 3; value = string false inline (117 ∷ []) } ∷ []) no_entries no_entries) no_entries) } ∷ record { section = 2; head = record { version = 5; width = W32; address = 8; kind = 2; signature = 81985529216486895; type_entry = Some (entry_of 3 1) }; entries = (entry 65 (record { name = 3; value = string true by_offset (47 ∷ 98 ∷ 117 ∷ 105 ∷ 108 ∷ 100 ∷ 47 ∷ 112 ∷ 47 ∷ 116 ∷ 46 ∷ 99 ∷ []) } ∷ record { name = 27; value = string true inline (47 ∷ 98 ∷ 117 ∷ 105 ∷ 108 ∷ 100 ∷ 47 ∷ 112 ∷ 47 ∷ 118 ∷ 101 ∷ 114 ∷ 121 ∷ 47 ∷ 108 ∷ 111 ∷ 110 ∷ 103 ∷ 47 ∷ 112 ∷ 97 ∷ 116 ∷ 104 ∷ []) } ∷ []) (entry 19 (record { name = 3; value = string false by_offset (84 ∷ []) } ∷ []) (entry 13 (record { name = 73; value = entry_of 3 1 } ∷ []) no_entries no_entries) no_entries) no_entries) } ∷ record { section = 2; head = record { version = 5; width = W32; address = 8; kind = 2; signature = 81985529216486894; type_entry = Some (stray 54) }; entries = (entry 65 (record { name = 3; value = string true by_offset (47 ∷ 98 ∷ 117 ∷ 105 ∷ 108 ∷ 100 ∷ 47 ∷ 112 ∷ 47 ∷ 116 ∷ 46 ∷ 99 ∷ []) } ∷ record { name = 27; value = string true inline (47 ∷ 98 ∷ 117 ∷ 105 ∷ 108 ∷ 100 ∷ 47 ∷ 112 ∷ 47 ∷ 118 ∷ 101 ∷ 114 ∷ 121 ∷ 47 ∷ 108 ∷ 111 ∷ 110 ∷ 103 ∷ 47 ∷ 112 ∷ 97 ∷ 116 ∷ 104 ∷ []) } ∷ []) (entry 19 (record { name = 3; value = string false by_offset (84 ∷ []) } ∷ []) (entry 13 (record { name = 73; value = entry_of 4 1 } ∷ []) no_entries no_entries) no_entries) no_entries) } ∷ []
unfolding view_of view_section view_relocations section_bytes section_named section_after debug_data located unit_sections macro_sections debug_section build_id_of is_id_section id_in is_id_note descriptor_at units_of unit_header initial_length_at number_at spelled between after_code kind_in form_rows abbreviations_at uleb_at sleb_at text_in ends_in offset_of field_of address_of slot_of before_slot e_type e_machine e_phnum e_shoff e_shnum e_shstrndx class_of order_of nth_section section_at section_count name_index name_table section_name contents_of contents_at relocates relocation_section is_symbol_table extends extended_section relocation_source records_in is_none_type relocation_of relocations_in relocations_of relocates_read absolute_types absolute_size symbol_at
typed-means = refl

-- the same of macro units
abbrev macros_by : View → MacroState → List ℕ → List Cell → List (Piece MacroState)
macros_by v s [] cs = []
macros_by v s (n ∷ ns) cs = record { state = s; cells = take n cs } ∷ macros_by v ((macro_grammar v.order).next s (take n cs)) ns (drop n cs)

-- a file with macro units of versions 5 and 4
abbrev imports_file : List ℕ
imports_file = 127 ∷ 69 ∷ 76 ∷ 70 ∷ 1 ∷ 2 ∷ 1 ∷ 0 ∷ 0 ∷ 0 ∷ 0 ∷ 0 ∷ 0 ∷ 0 ∷ 0 ∷ 0 ∷ 0 ∷ 2 ∷ 0 ∷ 20 ∷ 0 ∷ 0 ∷ 0 ∷ 1 ∷ 0 ∷ 0 ∷ 0 ∷ 0 ∷ 0 ∷ 0 ∷ 0 ∷ 0 ∷ 0 ∷ 0 ∷ 0 ∷ 156 ∷ 0 ∷ 0 ∷ 0 ∷ 0 ∷ 0 ∷ 52 ∷ 0 ∷ 0 ∷ 0 ∷ 0 ∷ 0 ∷ 40 ∷ 0 ∷ 4 ∷ 0 ∷ 3 ∷ 0 ∷ 5 ∷ 0 ∷ 3 ∷ 0 ∷ 1 ∷ 5 ∷ 7 ∷ 0 ∷ 0 ∷ 0 ∷ 11 ∷ 7 ∷ 0 ∷ 0 ∷ 0 ∷ 31 ∷ 6 ∷ 8 ∷ 0 ∷ 0 ∷ 0 ∷ 0 ∷ 1 ∷ 2 ∷ 65 ∷ 32 ∷ 49 ∷ 0 ∷ 4 ∷ 0 ∷ 0 ∷ 4 ∷ 1 ∷ 5 ∷ 5 ∷ 0 ∷ 0 ∷ 0 ∷ 0 ∷ 0 ∷ 0 ∷ 0 ∷ 0 ∷ 7 ∷ 0 ∷ 0 ∷ 0 ∷ 0 ∷ 0 ∷ 0 ∷ 0 ∷ 0 ∷ 0 ∷ 47 ∷ 98 ∷ 117 ∷ 105 ∷ 108 ∷ 100 ∷ 47 ∷ 112 ∷ 47 ∷ 120 ∷ 0 ∷ 77 ∷ 32 ∷ 49 ∷ 0 ∷ 0 ∷ 46 ∷ 100 ∷ 101 ∷ 98 ∷ 117 ∷ 103 ∷ 95 ∷ 109 ∷ 97 ∷ 99 ∷ 114 ∷ 111 ∷ 0 ∷ 46 ∷ 100 ∷ 101 ∷ 98 ∷ 117 ∷ 103 ∷ 95 ∷ 115 ∷ 116 ∷ 114 ∷ 0 ∷ 46 ∷ 115 ∷ 104 ∷ 115 ∷ 116 ∷ 114 ∷ 116 ∷ 97 ∷ 98 ∷ 0 ∷ 0 ∷ 0 ∷ 0 ∷ 0 ∷ 0 ∷ 0 ∷ 0 ∷ 0 ∷ 0 ∷ 0 ∷ 0 ∷ 0 ∷ 0 ∷ 0 ∷ 0 ∷ 0 ∷ 0 ∷ 0 ∷ 0 ∷ 0 ∷ 0 ∷ 0 ∷ 0 ∷ 0 ∷ 0 ∷ 0 ∷ 0 ∷ 0 ∷ 0 ∷ 0 ∷ 0 ∷ 0 ∷ 0 ∷ 0 ∷ 0 ∷ 0 ∷ 0 ∷ 0 ∷ 0 ∷ 0 ∷ 0 ∷ 0 ∷ 0 ∷ 1 ∷ 0 ∷ 0 ∷ 0 ∷ 1 ∷ 0 ∷ 0 ∷ 0 ∷ 0 ∷ 0 ∷ 0 ∷ 0 ∷ 0 ∷ 0 ∷ 0 ∷ 0 ∷ 52 ∷ 0 ∷ 0 ∷ 0 ∷ 54 ∷ 0 ∷ 0 ∷ 0 ∷ 0 ∷ 0 ∷ 0 ∷ 0 ∷ 0 ∷ 0 ∷ 0 ∷ 0 ∷ 1 ∷ 0 ∷ 0 ∷ 0 ∷ 0 ∷ 0 ∷ 0 ∷ 0 ∷ 14 ∷ 0 ∷ 0 ∷ 0 ∷ 1 ∷ 0 ∷ 0 ∷ 0 ∷ 0 ∷ 0 ∷ 0 ∷ 0 ∷ 0 ∷ 0 ∷ 0 ∷ 0 ∷ 106 ∷ 0 ∷ 0 ∷ 0 ∷ 15 ∷ 0 ∷ 0 ∷ 0 ∷ 0 ∷ 0 ∷ 0 ∷ 0 ∷ 0 ∷ 0 ∷ 0 ∷ 0 ∷ 1 ∷ 0 ∷ 0 ∷ 0 ∷ 0 ∷ 0 ∷ 0 ∷ 0 ∷ 25 ∷ 0 ∷ 0 ∷ 0 ∷ 3 ∷ 0 ∷ 0 ∷ 0 ∷ 0 ∷ 0 ∷ 0 ∷ 0 ∷ 0 ∷ 0 ∷ 0 ∷ 0 ∷ 121 ∷ 0 ∷ 0 ∷ 0 ∷ 35 ∷ 0 ∷ 0 ∷ 0 ∷ 0 ∷ 0 ∷ 0 ∷ 0 ∷ 0 ∷ 0 ∷ 0 ∷ 0 ∷ 1 ∷ 0 ∷ 0 ∷ 0 ∷ 0 ∷ []

abbrev imports_readings : DataReadings
imports_readings = record { units = []; offsets = []; lines = []; macros = record { number = 1; pieces = macros_by (view_of imports_file) (macros_at 0 at_unit) (3 ∷ 3 ∷ 2 ∷ 4 ∷ 1 ∷ 4 ∷ 2 ∷ 4 ∷ 6 ∷ 1 ∷ 1 ∷ 3 ∷ 2 ∷ 8 ∷ 1 ∷ 8 ∷ 1 ∷ []) (view_cells (view_of imports_file) 1) } ∷ []; names = [] }

pub imports-mean : macro_meanings (around_of (debug_data (view_of imports_file)) imports_readings) imports_readings.macros ≡ record { version = 5; line = None; events = begun 0 1 ∷ defined 7 (77 ∷ 32 ∷ 49 ∷ []) ∷ brought (Some 1) ∷ undefined 8 (47 ∷ 98 ∷ 117 ∷ 105 ∷ 108 ∷ 100 ∷ 47 ∷ 112 ∷ 47 ∷ 120 ∷ []) ∷ defined 2 (65 ∷ 32 ∷ 49 ∷ []) ∷ ended ∷ [] } ∷ record { version = 4; line = None; events = defined 5 (47 ∷ 98 ∷ 117 ∷ 105 ∷ 108 ∷ 100 ∷ 47 ∷ 112 ∷ 47 ∷ 120 ∷ []) ∷ brought (Some 0) ∷ [] } ∷ []
unfolding view_of view_section view_relocations section_bytes section_named section_after debug_data located unit_sections macro_sections debug_section build_id_of is_id_section id_in is_id_note descriptor_at unit_header initial_length_at number_at spelled between after_code kind_in form_rows abbreviations_at uleb_at sleb_at text_in ends_in offset_of field_of address_of slot_of before_slot e_type e_machine e_phnum e_shoff e_shnum e_shstrndx class_of order_of nth_section section_at section_count name_index name_table section_name contents_of contents_at relocates relocation_section is_symbol_table extends extended_section relocation_source records_in is_none_type relocation_of relocations_in relocations_of relocates_read absolute_types absolute_size symbol_at front_mark front_of front_by operation_of plain_operation enter_operation enter_behind inline_operation inline_behind named_operation named_behind bring_operation is_foreign
imports-mean = refl
