-- The sources of a pair, computed: of a stripped file and its debug file (GNU debugging information in separate files), in which a section without
-- bytes stands for one of the stripped file. A unit and a line table of version 5 name them (DWARF 5, 3.1.1 and 6.2.4.1).
use Rattle.std.specs.Prelude.{ℕ, ◌≡◌, ◌∷◌, [], List, true, false, pos, negsuc, refl}
use Rattle.std.proofs.lemmas.Bool.{ltb-true}
use Rattle.std.proofs.lemmas.Option.{none-some}
use Rattle.std.proofs.Math.Nat.{le_refl}
use Rattle.std.proofs.Common.{sym, ◌∙◌}
use Rattle.dw_base.proofs.LineFieldLaws.{cells_at-plain}
use Rattle.dw_base.proofs.PlainCellLaws.{IsPlain}
use Rattle.dw_base.proofs.RelocationFieldLaws.{relocation_at-plain}
use Rattle.dw_base.proofs.RelocationRowLaws.{placed-plain}
use Rattle.dw_base.specs.AbbreviationTables.{Abbreviation, IsTable, SpellsAbbreviation, no_abbreviations, more_abbreviations, no_specs, more_specs, by_form}
use Rattle.dw_base.specs.RelocationRows.{HeaderOffsetsRead}
use Rattle.dw_base.specs.StringOffsets.{no_contributions}
use Rattle.dw_base.specs.DebugData.{DebugData, line_source}
use Rattle.dw_base.specs.UnitHeaders.{UnitSection, AreUnits, no_units, more_units, in_info, unit_header}
use Rattle.dw_base.specs.LineHeaders.{line_header, header_in, header_of_version, header_at, header_of_length, header_with, is_header, has_standard_operands, length_place, flags_place}
use Rattle.dw_base.specs.LineEntries.{entries_at, entry_at, column_at, offset_column}
use Rattle.dw_base.specs.LineFormats.{format_at, spec_at, is_column}
use Rattle.dw_base.specs.LineSources.{line_field}
use Rattle.dw_base.specs.LineTables.{new_lists}
use Rattle.dw_base.specs.LineTexts.{inline_text, named_text}
use Rattle.dw_base.specs.LinePrograms.{next_opcode}
use Rattle.dw_base.specs.Walks.{no_step}
use Rattle.dw_base.specs.Cells.{field_of, offset_of}
use Rattle.dw_base.specs.AbbreviationBytes.{abbreviations_at}
use Rattle.dw_base.specs.FileViews.{view_section, view_relocations, section_bytes, section_named, section_after, view_cells}
use Rattle.dw_base.specs.ViewData.{debug_data, located, unit_sections, macro_sections}
use Rattle.dw_base.specs.Forms.{kind_in, form_rows}
use Rattle.dw_base.specs.Lebs.{uleb_at, sleb_at, initial_length_at}
use Rattle.dw_base.specs.LineReadings.{LineReading, AreTables}
use Rattle.dw_base.specs.Numbers.{spelled, number_at}
use Rattle.dw_base.specs.Paths.{PathMap}
use Rattle.dw_base.specs.RelocationFields.{field_in, partly_at}
use Rattle.dw_base.specs.Texts.{text_in, ends_in}
use Rattle.dw_base.specs.DebugSections.{debug_section}
use Rattle.dw_base.specs.Notes.{build_id_of, is_id_section, id_in, is_id_note, descriptor_at}
use Rattle.dw_base.specs.Values.{value_of, value_at}
use Rattle.dw_base.specs.Elf.{e_type, e_machine, e_phnum, e_shoff, e_shnum, e_shstrndx, class_of, order_of, nth_section, section_at, section_count, name_index, name_table, section_name, contents_of, contents_at}
use Rattle.dw_base.specs.SectionRelocations.{relocates, relocation_section, is_symbol_table, extends, extended_section, relocation_source, records_in, is_none_type, relocation_of, relocations_in, relocations_of}
use Rattle.dw_base.specs.RelocationSectionFails.{relocates_read}
use Rattle.dw_base.specs.AbsoluteTypes.{absolute_types, absolute_size}
use Rattle.dw_base.specs.Symbols.{symbol_at}
use Rattle.dw_base.specs.declared.shared.Order.TheVariants.{Little}
use Rattle.dw_base.specs.declared.shared.Width.TheVariants.{W32}
use Rattle.dw_base.specs.declared.debug_sections.DebugSection.TheVariants.{Info}
use Rattle.dw_base.specs.declared.values.Spec.{Spec}
use Rattle.dw_base.specs.declared.units.UnitHeader.{UnitHeader}
use Rattle.dw_paths.specs.CleanPaths.{joined_path, cleaned_path}
use Rattle.dw_sources.specs.KeptNames.{kept_name}
use Rattle.dw_sources.specs.RootValues.{first_code, root_at}
use Rattle.dw_sources.specs.Sources.{AreSources, SourceReadings, SourcesRead, sources_of}
use Rattle.dw_sources.specs.UnitPaths.{slot_text, root_paths, unit_paths}
use Rattle.dw_view.specs.PairViews.{pair_view, pair_section, is_elsewhere_named, is_counted_named, stands_for, is_stand_in, stand_in}

-- a stripped file, and its debug file
abbrev stripped_of_pair : List ℕ
stripped_of_pair = 127 ∷ 69 ∷ 76 ∷ 70 ∷ 2 ∷ 1 ∷ 1 ∷ 0 ∷ 0 ∷ 0 ∷ 0 ∷ 0 ∷ 0 ∷ 0 ∷ 0 ∷ 0 ∷ 2 ∷ 0 ∷ 62 ∷ 0 ∷ 1 ∷ 0 ∷ 0 ∷ 0 ∷ 0 ∷ 0 ∷ 0 ∷ 0 ∷ 0 ∷ 0 ∷ 0 ∷ 0 ∷ 64 ∷ 0 ∷ 0 ∷ 0 ∷ 0 ∷ 0 ∷ 0 ∷ 0 ∷ 184 ∷ 0 ∷ 0 ∷ 0 ∷ 0 ∷ 0 ∷ 0 ∷ 0 ∷ 0 ∷ 0 ∷ 0 ∷ 0 ∷ 64 ∷ 0 ∷ 56 ∷ 0 ∷ 1 ∷ 0 ∷ 64 ∷ 0 ∷ 5 ∷ 0 ∷ 4 ∷ 0 ∷ 1 ∷ 0 ∷ 0 ∷ 0 ∷ 7 ∷ 0 ∷ 0 ∷ 0 ∷ 120 ∷ 0 ∷ 0 ∷ 0 ∷ 0 ∷ 0 ∷ 0 ∷ 0 ∷ 0 ∷ 16 ∷ 0 ∷ 0 ∷ 0 ∷ 0 ∷ 0 ∷ 0 ∷ 0 ∷ 16 ∷ 0 ∷ 0 ∷ 0 ∷ 0 ∷ 0 ∷ 0 ∷ 1 ∷ 0 ∷ 0 ∷ 0 ∷ 0 ∷ 0 ∷ 0 ∷ 0 ∷ 1 ∷ 0 ∷ 0 ∷ 0 ∷ 0 ∷ 0 ∷ 0 ∷ 0 ∷ 1 ∷ 0 ∷ 0 ∷ 0 ∷ 0 ∷ 0 ∷ 0 ∷ 0 ∷ 195 ∷ 120 ∷ 0 ∷ 0 ∷ 116 ∷ 46 ∷ 100 ∷ 101 ∷ 98 ∷ 117 ∷ 103 ∷ 0 ∷ 181 ∷ 132 ∷ 168 ∷ 4 ∷ 0 ∷ 46 ∷ 115 ∷ 104 ∷ 115 ∷ 116 ∷ 114 ∷ 116 ∷ 97 ∷ 98 ∷ 0 ∷ 46 ∷ 103 ∷ 110 ∷ 117 ∷ 95 ∷ 100 ∷ 101 ∷ 98 ∷ 117 ∷ 103 ∷ 108 ∷ 105 ∷ 110 ∷ 107 ∷ 0 ∷ 46 ∷ 99 ∷ 111 ∷ 109 ∷ 109 ∷ 101 ∷ 110 ∷ 116 ∷ 0 ∷ 46 ∷ 116 ∷ 101 ∷ 120 ∷ 116 ∷ 0 ∷ 0 ∷ 0 ∷ 0 ∷ 0 ∷ 0 ∷ 0 ∷ 0 ∷ 0 ∷ 0 ∷ 0 ∷ 0 ∷ 0 ∷ 0 ∷ 0 ∷ 0 ∷ 0 ∷ 0 ∷ 0 ∷ 0 ∷ 0 ∷ 0 ∷ 0 ∷ 0 ∷ 0 ∷ 0 ∷ 0 ∷ 0 ∷ 0 ∷ 0 ∷ 0 ∷ 0 ∷ 0 ∷ 0 ∷ 0 ∷ 0 ∷ 0 ∷ 0 ∷ 0 ∷ 0 ∷ 0 ∷ 0 ∷ 0 ∷ 0 ∷ 0 ∷ 0 ∷ 0 ∷ 0 ∷ 0 ∷ 0 ∷ 0 ∷ 0 ∷ 0 ∷ 0 ∷ 0 ∷ 0 ∷ 0 ∷ 0 ∷ 0 ∷ 0 ∷ 0 ∷ 0 ∷ 0 ∷ 0 ∷ 0 ∷ 0 ∷ 0 ∷ 0 ∷ 0 ∷ 0 ∷ 0 ∷ 0 ∷ 35 ∷ 0 ∷ 0 ∷ 0 ∷ 1 ∷ 0 ∷ 0 ∷ 0 ∷ 7 ∷ 0 ∷ 0 ∷ 0 ∷ 0 ∷ 0 ∷ 0 ∷ 0 ∷ 0 ∷ 16 ∷ 0 ∷ 0 ∷ 0 ∷ 0 ∷ 0 ∷ 0 ∷ 120 ∷ 0 ∷ 0 ∷ 0 ∷ 0 ∷ 0 ∷ 0 ∷ 0 ∷ 1 ∷ 0 ∷ 0 ∷ 0 ∷ 0 ∷ 0 ∷ 0 ∷ 0 ∷ 0 ∷ 0 ∷ 0 ∷ 0 ∷ 0 ∷ 0 ∷ 0 ∷ 0 ∷ 1 ∷ 0 ∷ 0 ∷ 0 ∷ 0 ∷ 0 ∷ 0 ∷ 0 ∷ 0 ∷ 0 ∷ 0 ∷ 0 ∷ 0 ∷ 0 ∷ 0 ∷ 0 ∷ 26 ∷ 0 ∷ 0 ∷ 0 ∷ 1 ∷ 0 ∷ 0 ∷ 0 ∷ 0 ∷ 0 ∷ 0 ∷ 0 ∷ 0 ∷ 0 ∷ 0 ∷ 0 ∷ 0 ∷ 0 ∷ 0 ∷ 0 ∷ 0 ∷ 0 ∷ 0 ∷ 0 ∷ 121 ∷ 0 ∷ 0 ∷ 0 ∷ 0 ∷ 0 ∷ 0 ∷ 0 ∷ 2 ∷ 0 ∷ 0 ∷ 0 ∷ 0 ∷ 0 ∷ 0 ∷ 0 ∷ 0 ∷ 0 ∷ 0 ∷ 0 ∷ 0 ∷ 0 ∷ 0 ∷ 0 ∷ 1 ∷ 0 ∷ 0 ∷ 0 ∷ 0 ∷ 0 ∷ 0 ∷ 0 ∷ 0 ∷ 0 ∷ 0 ∷ 0 ∷ 0 ∷ 0 ∷ 0 ∷ 0 ∷ 11 ∷ 0 ∷ 0 ∷ 0 ∷ 1 ∷ 0 ∷ 0 ∷ 0 ∷ 0 ∷ 0 ∷ 0 ∷ 0 ∷ 0 ∷ 0 ∷ 0 ∷ 0 ∷ 0 ∷ 0 ∷ 0 ∷ 0 ∷ 0 ∷ 0 ∷ 0 ∷ 0 ∷ 124 ∷ 0 ∷ 0 ∷ 0 ∷ 0 ∷ 0 ∷ 0 ∷ 0 ∷ 12 ∷ 0 ∷ 0 ∷ 0 ∷ 0 ∷ 0 ∷ 0 ∷ 0 ∷ 0 ∷ 0 ∷ 0 ∷ 0 ∷ 0 ∷ 0 ∷ 0 ∷ 0 ∷ 4 ∷ 0 ∷ 0 ∷ 0 ∷ 0 ∷ 0 ∷ 0 ∷ 0 ∷ 0 ∷ 0 ∷ 0 ∷ 0 ∷ 0 ∷ 0 ∷ 0 ∷ 0 ∷ 1 ∷ 0 ∷ 0 ∷ 0 ∷ 3 ∷ 0 ∷ 0 ∷ 0 ∷ 0 ∷ 0 ∷ 0 ∷ 0 ∷ 0 ∷ 0 ∷ 0 ∷ 0 ∷ 0 ∷ 0 ∷ 0 ∷ 0 ∷ 0 ∷ 0 ∷ 0 ∷ 0 ∷ 136 ∷ 0 ∷ 0 ∷ 0 ∷ 0 ∷ 0 ∷ 0 ∷ 0 ∷ 41 ∷ 0 ∷ 0 ∷ 0 ∷ 0 ∷ 0 ∷ 0 ∷ 0 ∷ 0 ∷ 0 ∷ 0 ∷ 0 ∷ 0 ∷ 0 ∷ 0 ∷ 0 ∷ 1 ∷ 0 ∷ 0 ∷ 0 ∷ 0 ∷ 0 ∷ 0 ∷ 0 ∷ 0 ∷ 0 ∷ 0 ∷ 0 ∷ 0 ∷ 0 ∷ 0 ∷ 0 ∷ []

abbrev debug_of_pair : List ℕ
debug_of_pair = 127 ∷ 69 ∷ 76 ∷ 70 ∷ 2 ∷ 1 ∷ 1 ∷ 0 ∷ 0 ∷ 0 ∷ 0 ∷ 0 ∷ 0 ∷ 0 ∷ 0 ∷ 0 ∷ 2 ∷ 0 ∷ 62 ∷ 0 ∷ 1 ∷ 0 ∷ 0 ∷ 0 ∷ 0 ∷ 0 ∷ 0 ∷ 0 ∷ 0 ∷ 0 ∷ 0 ∷ 0 ∷ 64 ∷ 0 ∷ 0 ∷ 0 ∷ 0 ∷ 0 ∷ 0 ∷ 0 ∷ 64 ∷ 1 ∷ 0 ∷ 0 ∷ 0 ∷ 0 ∷ 0 ∷ 0 ∷ 0 ∷ 0 ∷ 0 ∷ 0 ∷ 64 ∷ 0 ∷ 56 ∷ 0 ∷ 1 ∷ 0 ∷ 64 ∷ 0 ∷ 8 ∷ 0 ∷ 7 ∷ 0 ∷ 1 ∷ 0 ∷ 0 ∷ 0 ∷ 7 ∷ 0 ∷ 0 ∷ 0 ∷ 120 ∷ 0 ∷ 0 ∷ 0 ∷ 0 ∷ 0 ∷ 0 ∷ 0 ∷ 0 ∷ 16 ∷ 0 ∷ 0 ∷ 0 ∷ 0 ∷ 0 ∷ 0 ∷ 0 ∷ 16 ∷ 0 ∷ 0 ∷ 0 ∷ 0 ∷ 0 ∷ 0 ∷ 1 ∷ 0 ∷ 0 ∷ 0 ∷ 0 ∷ 0 ∷ 0 ∷ 0 ∷ 1 ∷ 0 ∷ 0 ∷ 0 ∷ 0 ∷ 0 ∷ 0 ∷ 0 ∷ 1 ∷ 0 ∷ 0 ∷ 0 ∷ 0 ∷ 0 ∷ 0 ∷ 0 ∷ 21 ∷ 0 ∷ 0 ∷ 0 ∷ 5 ∷ 0 ∷ 1 ∷ 8 ∷ 0 ∷ 0 ∷ 0 ∷ 0 ∷ 1 ∷ 6 ∷ 0 ∷ 0 ∷ 0 ∷ 0 ∷ 0 ∷ 0 ∷ 0 ∷ 0 ∷ 0 ∷ 0 ∷ 0 ∷ 1 ∷ 17 ∷ 0 ∷ 3 ∷ 31 ∷ 27 ∷ 31 ∷ 16 ∷ 23 ∷ 0 ∷ 0 ∷ 0 ∷ 54 ∷ 0 ∷ 0 ∷ 0 ∷ 5 ∷ 0 ∷ 8 ∷ 0 ∷ 46 ∷ 0 ∷ 0 ∷ 0 ∷ 1 ∷ 1 ∷ 1 ∷ 251 ∷ 14 ∷ 13 ∷ 0 ∷ 1 ∷ 1 ∷ 1 ∷ 1 ∷ 0 ∷ 0 ∷ 0 ∷ 1 ∷ 0 ∷ 0 ∷ 1 ∷ 1 ∷ 1 ∷ 31 ∷ 2 ∷ 0 ∷ 0 ∷ 0 ∷ 0 ∷ 10 ∷ 0 ∷ 0 ∷ 0 ∷ 2 ∷ 1 ∷ 31 ∷ 2 ∷ 11 ∷ 2 ∷ 6 ∷ 0 ∷ 0 ∷ 0 ∷ 0 ∷ 17 ∷ 0 ∷ 0 ∷ 0 ∷ 1 ∷ 47 ∷ 98 ∷ 47 ∷ 112 ∷ 47 ∷ 0 ∷ 116 ∷ 46 ∷ 99 ∷ 0 ∷ 46 ∷ 46 ∷ 47 ∷ 113 ∷ 47 ∷ 105 ∷ 0 ∷ 104 ∷ 0 ∷ 0 ∷ 46 ∷ 100 ∷ 101 ∷ 98 ∷ 117 ∷ 103 ∷ 95 ∷ 97 ∷ 98 ∷ 98 ∷ 114 ∷ 101 ∷ 118 ∷ 0 ∷ 46 ∷ 116 ∷ 101 ∷ 120 ∷ 116 ∷ 0 ∷ 46 ∷ 99 ∷ 111 ∷ 109 ∷ 109 ∷ 101 ∷ 110 ∷ 116 ∷ 0 ∷ 46 ∷ 100 ∷ 101 ∷ 98 ∷ 117 ∷ 103 ∷ 95 ∷ 108 ∷ 105 ∷ 110 ∷ 101 ∷ 95 ∷ 115 ∷ 116 ∷ 114 ∷ 0 ∷ 46 ∷ 100 ∷ 101 ∷ 98 ∷ 117 ∷ 103 ∷ 95 ∷ 105 ∷ 110 ∷ 102 ∷ 111 ∷ 0 ∷ 46 ∷ 100 ∷ 101 ∷ 98 ∷ 117 ∷ 103 ∷ 95 ∷ 108 ∷ 105 ∷ 110 ∷ 101 ∷ 0 ∷ 46 ∷ 115 ∷ 104 ∷ 115 ∷ 116 ∷ 114 ∷ 116 ∷ 97 ∷ 98 ∷ 0 ∷ 0 ∷ 0 ∷ 0 ∷ 0 ∷ 0 ∷ 0 ∷ 0 ∷ 0 ∷ 0 ∷ 0 ∷ 0 ∷ 0 ∷ 0 ∷ 0 ∷ 0 ∷ 0 ∷ 0 ∷ 0 ∷ 0 ∷ 0 ∷ 0 ∷ 0 ∷ 0 ∷ 0 ∷ 0 ∷ 0 ∷ 0 ∷ 0 ∷ 0 ∷ 0 ∷ 0 ∷ 0 ∷ 0 ∷ 0 ∷ 0 ∷ 0 ∷ 0 ∷ 0 ∷ 0 ∷ 0 ∷ 0 ∷ 0 ∷ 0 ∷ 0 ∷ 0 ∷ 0 ∷ 0 ∷ 0 ∷ 0 ∷ 0 ∷ 0 ∷ 0 ∷ 0 ∷ 0 ∷ 0 ∷ 0 ∷ 0 ∷ 0 ∷ 0 ∷ 0 ∷ 0 ∷ 0 ∷ 0 ∷ 0 ∷ 0 ∷ 0 ∷ 0 ∷ 0 ∷ 0 ∷ 0 ∷ 15 ∷ 0 ∷ 0 ∷ 0 ∷ 8 ∷ 0 ∷ 0 ∷ 0 ∷ 7 ∷ 0 ∷ 0 ∷ 0 ∷ 0 ∷ 0 ∷ 0 ∷ 0 ∷ 0 ∷ 16 ∷ 0 ∷ 0 ∷ 0 ∷ 0 ∷ 0 ∷ 0 ∷ 120 ∷ 0 ∷ 0 ∷ 0 ∷ 0 ∷ 0 ∷ 0 ∷ 0 ∷ 1 ∷ 0 ∷ 0 ∷ 0 ∷ 0 ∷ 0 ∷ 0 ∷ 0 ∷ 0 ∷ 0 ∷ 0 ∷ 0 ∷ 0 ∷ 0 ∷ 0 ∷ 0 ∷ 1 ∷ 0 ∷ 0 ∷ 0 ∷ 0 ∷ 0 ∷ 0 ∷ 0 ∷ 0 ∷ 0 ∷ 0 ∷ 0 ∷ 0 ∷ 0 ∷ 0 ∷ 0 ∷ 21 ∷ 0 ∷ 0 ∷ 0 ∷ 8 ∷ 0 ∷ 0 ∷ 0 ∷ 0 ∷ 0 ∷ 0 ∷ 0 ∷ 0 ∷ 0 ∷ 0 ∷ 0 ∷ 0 ∷ 0 ∷ 0 ∷ 0 ∷ 0 ∷ 0 ∷ 0 ∷ 0 ∷ 120 ∷ 0 ∷ 0 ∷ 0 ∷ 0 ∷ 0 ∷ 0 ∷ 0 ∷ 2 ∷ 0 ∷ 0 ∷ 0 ∷ 0 ∷ 0 ∷ 0 ∷ 0 ∷ 0 ∷ 0 ∷ 0 ∷ 0 ∷ 0 ∷ 0 ∷ 0 ∷ 0 ∷ 1 ∷ 0 ∷ 0 ∷ 0 ∷ 0 ∷ 0 ∷ 0 ∷ 0 ∷ 0 ∷ 0 ∷ 0 ∷ 0 ∷ 0 ∷ 0 ∷ 0 ∷ 0 ∷ 46 ∷ 0 ∷ 0 ∷ 0 ∷ 1 ∷ 0 ∷ 0 ∷ 0 ∷ 0 ∷ 0 ∷ 0 ∷ 0 ∷ 0 ∷ 0 ∷ 0 ∷ 0 ∷ 0 ∷ 0 ∷ 0 ∷ 0 ∷ 0 ∷ 0 ∷ 0 ∷ 0 ∷ 120 ∷ 0 ∷ 0 ∷ 0 ∷ 0 ∷ 0 ∷ 0 ∷ 0 ∷ 25 ∷ 0 ∷ 0 ∷ 0 ∷ 0 ∷ 0 ∷ 0 ∷ 0 ∷ 0 ∷ 0 ∷ 0 ∷ 0 ∷ 0 ∷ 0 ∷ 0 ∷ 0 ∷ 1 ∷ 0 ∷ 0 ∷ 0 ∷ 0 ∷ 0 ∷ 0 ∷ 0 ∷ 0 ∷ 0 ∷ 0 ∷ 0 ∷ 0 ∷ 0 ∷ 0 ∷ 0 ∷ 1 ∷ 0 ∷ 0 ∷ 0 ∷ 1 ∷ 0 ∷ 0 ∷ 0 ∷ 0 ∷ 0 ∷ 0 ∷ 0 ∷ 0 ∷ 0 ∷ 0 ∷ 0 ∷ 0 ∷ 0 ∷ 0 ∷ 0 ∷ 0 ∷ 0 ∷ 0 ∷ 0 ∷ 145 ∷ 0 ∷ 0 ∷ 0 ∷ 0 ∷ 0 ∷ 0 ∷ 0 ∷ 12 ∷ 0 ∷ 0 ∷ 0 ∷ 0 ∷ 0 ∷ 0 ∷ 0 ∷ 0 ∷ 0 ∷ 0 ∷ 0 ∷ 0 ∷ 0 ∷ 0 ∷ 0 ∷ 1 ∷ 0 ∷ 0 ∷ 0 ∷ 0 ∷ 0 ∷ 0 ∷ 0 ∷ 0 ∷ 0 ∷ 0 ∷ 0 ∷ 0 ∷ 0 ∷ 0 ∷ 0 ∷ 58 ∷ 0 ∷ 0 ∷ 0 ∷ 1 ∷ 0 ∷ 0 ∷ 0 ∷ 0 ∷ 0 ∷ 0 ∷ 0 ∷ 0 ∷ 0 ∷ 0 ∷ 0 ∷ 0 ∷ 0 ∷ 0 ∷ 0 ∷ 0 ∷ 0 ∷ 0 ∷ 0 ∷ 157 ∷ 0 ∷ 0 ∷ 0 ∷ 0 ∷ 0 ∷ 0 ∷ 0 ∷ 58 ∷ 0 ∷ 0 ∷ 0 ∷ 0 ∷ 0 ∷ 0 ∷ 0 ∷ 0 ∷ 0 ∷ 0 ∷ 0 ∷ 0 ∷ 0 ∷ 0 ∷ 0 ∷ 1 ∷ 0 ∷ 0 ∷ 0 ∷ 0 ∷ 0 ∷ 0 ∷ 0 ∷ 0 ∷ 0 ∷ 0 ∷ 0 ∷ 0 ∷ 0 ∷ 0 ∷ 0 ∷ 30 ∷ 0 ∷ 0 ∷ 0 ∷ 1 ∷ 0 ∷ 0 ∷ 0 ∷ 0 ∷ 0 ∷ 0 ∷ 0 ∷ 0 ∷ 0 ∷ 0 ∷ 0 ∷ 0 ∷ 0 ∷ 0 ∷ 0 ∷ 0 ∷ 0 ∷ 0 ∷ 0 ∷ 215 ∷ 0 ∷ 0 ∷ 0 ∷ 0 ∷ 0 ∷ 0 ∷ 0 ∷ 19 ∷ 0 ∷ 0 ∷ 0 ∷ 0 ∷ 0 ∷ 0 ∷ 0 ∷ 0 ∷ 0 ∷ 0 ∷ 0 ∷ 0 ∷ 0 ∷ 0 ∷ 0 ∷ 1 ∷ 0 ∷ 0 ∷ 0 ∷ 0 ∷ 0 ∷ 0 ∷ 0 ∷ 0 ∷ 0 ∷ 0 ∷ 0 ∷ 0 ∷ 0 ∷ 0 ∷ 0 ∷ 70 ∷ 0 ∷ 0 ∷ 0 ∷ 3 ∷ 0 ∷ 0 ∷ 0 ∷ 0 ∷ 0 ∷ 0 ∷ 0 ∷ 0 ∷ 0 ∷ 0 ∷ 0 ∷ 0 ∷ 0 ∷ 0 ∷ 0 ∷ 0 ∷ 0 ∷ 0 ∷ 0 ∷ 234 ∷ 0 ∷ 0 ∷ 0 ∷ 0 ∷ 0 ∷ 0 ∷ 0 ∷ 80 ∷ 0 ∷ 0 ∷ 0 ∷ 0 ∷ 0 ∷ 0 ∷ 0 ∷ 0 ∷ 0 ∷ 0 ∷ 0 ∷ 0 ∷ 0 ∷ 0 ∷ 0 ∷ 1 ∷ 0 ∷ 0 ∷ 0 ∷ 0 ∷ 0 ∷ 0 ∷ 0 ∷ 0 ∷ 0 ∷ 0 ∷ 0 ∷ 0 ∷ 0 ∷ 0 ∷ 0 ∷ []

-- the header of the unit, and the line table: two directories, of which the second leads out of the folder of the unit, with a file in each
abbrev unit_of_pair : UnitHeader
unit_of_pair = record { section = 3; start = 0; end = 25; params = record { order = Little; width = W32; version = 5; address = 8 }; kind = 1; abbrevs = 0; elsewhere = false; signature = 0; type_offset = 0; first = 12 }

abbrev table_of_pair : LineReading
table_of_pair = record {
  header = record { start = 0; end = 58; version = 5; width = W32; address = 8; program = 58; min_length = 1; max_ops = 1; default_stmt = true; line_base = negsuc 4; line_range = 14; opcode_base = 13; operands = 18; lists = 30 };
  dirs = record { section = 6; at = 0; len = 5; field = 34 } ∷ record { section = 6; at = 10; len = 6; field = 38 } ∷ [];
  files = record { text = record { section = 6; at = 6; len = 3; field = 48 }; dir = 0 } ∷ record { text = record { section = 6; at = 17; len = 1; field = 53 }; dir = 1 } ∷ [];
  defined = [];
  behind = 58;
}

abbrev pair_readings : SourceReadings
pair_readings = record { headers = (unit_of_pair ∷ []) ∷ []; contributions = []; lines = table_of_pair ∷ [] }

-- they are what stands in the pair
abbrev data_of_pair : DebugData
data_of_pair = debug_data (pair_view debug_of_pair stripped_of_pair)

abbrev units_of_pair : UnitSection
units_of_pair = record { number = 3; kind = in_info; contents = view_cells (pair_view debug_of_pair stripped_of_pair) 3 }

pub pair-section : data_of_pair.found Info ≡ units_of_pair ∷ []
unfolding unit_header line_header header_in header_of_version header_at header_of_length header_with is_header has_standard_operands length_place flags_place entries_at entry_at column_at offset_column format_at spec_at is_column line_field inline_text named_text next_opcode pair_view pair_section is_elsewhere_named is_counted_named stands_for is_stand_in stand_in view_section view_relocations section_bytes section_named section_after debug_data located unit_sections macro_sections debug_section build_id_of is_id_section id_in is_id_note descriptor_at initial_length_at number_at spelled kind_in form_rows abbreviations_at uleb_at sleb_at text_in ends_in offset_of field_of field_in partly_at e_type e_machine e_phnum e_shoff e_shnum e_shstrndx class_of order_of nth_section section_at section_count name_index name_table section_name contents_of contents_at relocates relocation_section is_symbol_table extends extended_section relocation_source records_in is_none_type relocation_of relocations_in relocations_of relocates_read absolute_types absolute_size symbol_at value_of value_at joined_path cleaned_path kept_name first_code root_at slot_text root_paths unit_paths sources_of
pair-section = refl

pub pair-units : AreUnits data_of_pair.base units_of_pair (unit_of_pair ∷ [])
unfolding unit_header line_header header_in header_of_version header_at header_of_length header_with is_header has_standard_operands length_place flags_place entries_at entry_at column_at offset_column format_at spec_at is_column line_field inline_text named_text next_opcode pair_view pair_section is_elsewhere_named is_counted_named stands_for is_stand_in stand_in view_section view_relocations section_bytes section_named section_after debug_data located unit_sections macro_sections debug_section build_id_of is_id_section id_in is_id_note descriptor_at initial_length_at number_at spelled kind_in form_rows abbreviations_at uleb_at sleb_at text_in ends_in offset_of field_of field_in partly_at e_type e_machine e_phnum e_shoff e_shnum e_shstrndx class_of order_of nth_section section_at section_count name_index name_table section_name contents_of contents_at relocates relocation_section is_symbol_table extends extended_section relocation_source records_in is_none_type relocation_of relocations_in relocations_of relocates_read absolute_types absolute_size symbol_at value_of value_at joined_path cleaned_path kept_name first_code root_at slot_text root_paths unit_paths sources_of
pair-units = more_units [] unit_of_pair 0 no_units (record { header = refl; whole = refl; within = le_refl 25 })

pub pair-tables : AreTables (line_source data_of_pair) (table_of_pair ∷ [])
unfolding unit_header line_header header_in header_of_version header_at header_of_length header_with is_header has_standard_operands length_place flags_place entries_at entry_at column_at offset_column format_at spec_at is_column line_field inline_text named_text next_opcode pair_view pair_section is_elsewhere_named is_counted_named stands_for is_stand_in stand_in view_section view_relocations section_bytes section_named section_after debug_data located unit_sections macro_sections debug_section build_id_of is_id_section id_in is_id_note descriptor_at initial_length_at number_at spelled kind_in form_rows abbreviations_at uleb_at sleb_at text_in ends_in offset_of field_of field_in partly_at e_type e_machine e_phnum e_shoff e_shnum e_shstrndx class_of order_of nth_section section_at section_count name_index name_table section_name contents_of contents_at relocates relocation_section is_symbol_table extends extended_section relocation_source records_in is_none_type relocation_of relocations_in relocations_of relocates_read absolute_types absolute_size symbol_at value_of value_at joined_path cleaned_path kept_name first_code root_at slot_text root_paths unit_paths sources_of
pair-tables = (record { header = refl; lists = new_lists (record { text = record { section = 6; at = 0; len = 5; field = 34 }; dir = 0 } ∷ record { text = record { section = 6; at = 10; len = 6; field = 38 }; dir = 0 } ∷ []) table_of_pair.files 42 58 refl refl refl; before = le_refl 58; program = record { last = ([], 58); walks = no_step; over = refl } }, refl)

-- /b/p, and /b above it
abbrev pair_map : PathMap
pair_map = record { pairs = record { base = 47 ∷ 98 ∷ 47 ∷ 112 ∷ []; dest = 47 ∷ 117 ∷ [] } ∷ record { base = 47 ∷ 98 ∷ []; dest = 47 ∷ 118 ∷ [] } ∷ [] }

pub pair-sources : sources_of data_of_pair pair_readings pair_map ≡ (113 ∷ 47 ∷ 105 ∷ 47 ∷ 104 ∷ []) ∷ (116 ∷ 46 ∷ 99 ∷ []) ∷ []
unfolding unit_header line_header header_in header_of_version header_at header_of_length header_with is_header has_standard_operands length_place flags_place entries_at entry_at column_at offset_column format_at spec_at is_column line_field inline_text named_text next_opcode pair_view pair_section is_elsewhere_named is_counted_named stands_for is_stand_in stand_in view_section view_relocations section_bytes section_named section_after debug_data located unit_sections macro_sections debug_section build_id_of is_id_section id_in is_id_note descriptor_at initial_length_at number_at spelled kind_in form_rows abbreviations_at uleb_at sleb_at text_in ends_in offset_of field_of field_in partly_at e_type e_machine e_phnum e_shoff e_shnum e_shstrndx class_of order_of nth_section section_at section_count name_index name_table section_name contents_of contents_at relocates relocation_section is_symbol_table extends extended_section relocation_source records_in is_none_type relocation_of relocations_in relocations_of relocates_read absolute_types absolute_size symbol_at value_of value_at joined_path cleaned_path kept_name first_code root_at slot_text root_paths unit_paths sources_of
pair-sources = refl

-- no relocation stands on the units
plain-units : IsPlain units_of_pair.contents
unfolding unit_header line_header header_in header_of_version header_at header_of_length header_with is_header has_standard_operands length_place flags_place entries_at entry_at column_at offset_column format_at spec_at is_column line_field inline_text named_text next_opcode pair_view pair_section is_elsewhere_named is_counted_named stands_for is_stand_in stand_in view_section view_relocations section_bytes section_named section_after debug_data located unit_sections macro_sections debug_section build_id_of is_id_section id_in is_id_note descriptor_at initial_length_at number_at spelled kind_in form_rows abbreviations_at uleb_at sleb_at text_in ends_in offset_of field_of field_in partly_at e_type e_machine e_phnum e_shoff e_shnum e_shstrndx class_of order_of nth_section section_at section_count name_index name_table section_name contents_of contents_at relocates relocation_section is_symbol_table extends extended_section relocation_source records_in is_none_type relocation_of relocations_in relocations_of relocates_read absolute_types absolute_size symbol_at value_of value_at joined_path cleaned_path kept_name first_code root_at slot_text root_paths unit_paths sources_of
plain-units = record { plain = refl }

offsets-read : HeaderOffsetsRead data_of_pair.base units_of_pair
offsets-read = record {
  all = λ list h start f u is there. record {
    whole = λ p lies. none-some _ (sym (relocation_at-plain units_of_pair.contents p plain-units) ∙ lies.begins);
    placed = placed-plain data_of_pair.base.order _ (cells_at-plain units_of_pair.contents f.place f.size plain-units);
  };
}

-- the abbreviation of the unit
abbrev name_spec : Spec
name_spec = record { name = 3; form = 31; implicit = pos 0 }

abbrev folder_spec : Spec
folder_spec = record { name = 27; form = 31; implicit = pos 0 }

abbrev lines_spec : Spec
lines_spec = record { name = 16; form = 23; implicit = pos 0 }

abbrev abbreviation_of_pair : Abbreviation
abbreviation_of_pair = record { code = 1; tag = 17; children = false; specs = name_spec ∷ folder_spec ∷ lines_spec ∷ [] }

spells-pair : SpellsAbbreviation data_of_pair.base.abbrevs.bytes 0 abbreviation_of_pair 11
unfolding unit_header line_header header_in header_of_version header_at header_of_length header_with is_header has_standard_operands length_place flags_place entries_at entry_at column_at offset_column format_at spec_at is_column line_field inline_text named_text next_opcode pair_view pair_section is_elsewhere_named is_counted_named stands_for is_stand_in stand_in view_section view_relocations section_bytes section_named section_after debug_data located unit_sections macro_sections debug_section build_id_of is_id_section id_in is_id_note descriptor_at initial_length_at number_at spelled kind_in form_rows abbreviations_at uleb_at sleb_at text_in ends_in offset_of field_of field_in partly_at e_type e_machine e_phnum e_shoff e_shnum e_shstrndx class_of order_of nth_section section_at section_count name_index name_table section_name contents_of contents_at relocates relocation_section is_symbol_table extends extended_section relocation_source records_in is_none_type relocation_of relocations_in relocations_of relocates_read absolute_types absolute_size symbol_at value_of value_at joined_path cleaned_path kept_name first_code root_at slot_text root_paths unit_paths sources_of
spells-pair = record {
  flag = 0;
  first = 3;
  last = 9;
  is_flag = ltb-true _ _ refl;
  children = refl;
  head = record { code_size = 1; tag_size = 1; code_spells = refl; declares = λ e. cc; tag_spells = refl; flag_there = ltb-true _ _ refl; flag_is = refl; behind = refl };
  specs = more_specs (name_spec ∷ folder_spec ∷ []) lines_spec 7 9 (more_specs (name_spec ∷ []) folder_spec 5 7 (more_specs [] name_spec 3 5 no_specs
      (by_form 3 31 5 (record { name_size = 1; form_size = 1; name_spells = refl; form_spells = refl; behind = refl }) (λ e. cc) (λ e. cc) (λ e. cc)))
      (by_form 27 31 7 (record { name_size = 1; form_size = 1; name_spells = refl; form_spells = refl; behind = refl }) (λ e. cc) (λ e. cc) (λ e. cc)))
      (by_form 16 23 9 (record { name_size = 1; form_size = 1; name_spells = refl; form_spells = refl; behind = refl }) (λ e. cc) (λ e. cc) (λ e. cc));
  end = record { name_size = 1; form_size = 1; name_spells = refl; form_spells = refl; behind = refl };
}

pair-abbreviations : IsTable data_of_pair.base.abbrevs.bytes 0 (abbreviations_at data_of_pair.base.abbrevs.bytes 0)
unfolding unit_header line_header header_in header_of_version header_at header_of_length header_with is_header has_standard_operands length_place flags_place entries_at entry_at column_at offset_column format_at spec_at is_column line_field inline_text named_text next_opcode pair_view pair_section is_elsewhere_named is_counted_named stands_for is_stand_in stand_in view_section view_relocations section_bytes section_named section_after debug_data located unit_sections macro_sections debug_section build_id_of is_id_section id_in is_id_note descriptor_at initial_length_at number_at spelled kind_in form_rows abbreviations_at uleb_at sleb_at text_in ends_in offset_of field_of field_in partly_at e_type e_machine e_phnum e_shoff e_shnum e_shstrndx class_of order_of nth_section section_at section_count name_index name_table section_name contents_of contents_at relocates relocation_section is_symbol_table extends extended_section relocation_source records_in is_none_type relocation_of relocations_in relocations_of relocates_read absolute_types absolute_size symbol_at value_of value_at joined_path cleaned_path kept_name first_code root_at slot_text root_paths unit_paths sources_of
pair-abbreviations = record { last = 11; size = 1; declares = more_abbreviations [] abbreviation_of_pair 0 11 no_abbreviations spells-pair refl; ends = refl }

-- so these are the sources of the pair
pair-reads : SourcesRead data_of_pair pair_readings
unfolding unit_header line_header header_in header_of_version header_at header_of_length header_with is_header has_standard_operands length_place flags_place entries_at entry_at column_at offset_column format_at spec_at is_column line_field inline_text named_text next_opcode pair_view pair_section is_elsewhere_named is_counted_named stands_for is_stand_in stand_in view_section view_relocations section_bytes section_named section_after debug_data located unit_sections macro_sections debug_section build_id_of is_id_section id_in is_id_note descriptor_at initial_length_at number_at spelled kind_in form_rows abbreviations_at uleb_at sleb_at text_in ends_in offset_of field_of field_in partly_at e_type e_machine e_phnum e_shoff e_shnum e_shstrndx class_of order_of nth_section section_at section_count name_index name_table section_name contents_of contents_at relocates relocation_section is_symbol_table extends extended_section relocation_source records_in is_none_type relocation_of relocations_in relocations_of relocates_read absolute_types absolute_size symbol_at value_of value_at joined_path cleaned_path kept_name first_code root_at slot_text root_paths unit_paths sources_of
pair-reads = record {
  units = (record { units = pair-units; offsets = offsets-read; tables = (record { here = refl; is = pair-abbreviations }, tt) }, tt);
  offsets = no_contributions;
  lines = pair-tables;
}

pub pair-is : AreSources data_of_pair pair_map ((113 ∷ 47 ∷ 105 ∷ 47 ∷ 104 ∷ []) ∷ (116 ∷ 46 ∷ 99 ∷ []) ∷ [])
pair-is = record { readings = pair_readings; reads = pair-reads; is = sym pair-sources }
