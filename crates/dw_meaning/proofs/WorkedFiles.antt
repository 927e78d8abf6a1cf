-- Whole files, worked: the smallest one of 64 bits with the lowest byte first, and the same of 32 bits with the highest byte
-- first. Each can be read; its output is this one, byte for byte; and what the output means is what the file means, mapped.
-- The outputs are those that an independent program gives.
use Rattle.dw_meaning.proofs.PlainUnits.{none-offsets, none-names}
use Rattle.std.proofs.Common.{true, false, ◌≡◌, ℕ, List, [], ◌∷◌, ◌++◌, replicate, codes, refl, sym, ◌∙◌}
use Rattle.std.proofs.lemmas.Bool.{ltb-true, eqb-false}
use Rattle.std.specs.Prelude.{pos, None}
use Rattle.dw_base.specs.AbbreviationBytes.{abbreviations_at}
use Rattle.dw_base.specs.AbbreviationTables.{Abbreviation, IsTable, no_abbreviations, more_abbreviations, no_specs}
use Rattle.dw_base.specs.Cells.{field_of, offset_of}
use Rattle.dw_base.specs.DebugData.{DebugData}
use Rattle.dw_base.specs.DebugData.{DataReadings}
use Rattle.dw_base.specs.DebugSections.{debug_section, is_listed}
use Rattle.dw_base.specs.Elf.{class_of, contents_at, contents_of, e_phentsize, e_phnum, e_phoff, e_shentsize, e_shnum, e_shoff, e_shstrndx, e_type, name_index, name_table, nth_section, nth_segment, order_of, section_at, section_count, section_name, segment_at, segments_of, sections_of}
use Rattle.dw_base.specs.FileViews.{view_of, view_section, section_after, section_bytes, section_named, view_relocations}
use Rattle.dw_base.specs.Forests.{AttributeMeaning, Forest, no_entries, entry}
use Rattle.dw_base.specs.Forms.{kind_in, form_rows}
use Rattle.dw_base.specs.InlinePaths.{mapped_inline}
use Rattle.dw_base.specs.Layout.{is_loaded_kind, part_of, is_fixed, fixed_end, padding, with_bodies, placed, new_head, shdr_bytes, before_table, with_table, laid_out}
use Rattle.dw_base.specs.Lebs.{uleb_at, initial_length_at}
use Rattle.dw_base.specs.Notes.{build_id_of, descriptor_at, id_in, is_id_note, is_id_section}
use Rattle.dw_base.specs.Numbers.{spelled, number_at, with_number}
use Rattle.dw_base.specs.Paths.{lies_under, mapped_path, matching}
use Rattle.dw_base.specs.Roles.{role_of}
use Rattle.dw_base.specs.NewOffsets.{with_offset}
use Rattle.dw_base.specs.Texts.{ends_in, text_in}
use Rattle.dw_base.specs.UnitHeaders.{unit_header}
use Rattle.dw_base.specs.UnitMeanings.{UnitMeaning, units_of}
use Rattle.dw_base.specs.UnitStates.{after_code, between}
use Rattle.dw_base.specs.ValueMeanings.{string, by_offset}
use Rattle.dw_base.specs.Values.{value_of}
use Rattle.dw_base.specs.ViewData.{Meaning, NamedBytes, bytes_named, debug_data, located, mapped, other_sections, macro_sections, unit_sections, without_id}
use Rattle.dw_base.specs.declared.shared.Order.{Order}
use Rattle.dw_base.specs.declared.shared.Order.TheVariants.{Little, Big}
use Rattle.dw_base.specs.declared.shared.Width.TheVariants.{W32}
use Rattle.dw_meaning.specs.DataOutput.{Body, DataReads, body_in, new_bodies, table_change}
use Rattle.dw_meaning.specs.FileMeanings.{FileReads, IsOutput, MeaningKept, Means, file_data}
use Rattle.dw_meaning.proofs.PlainFiles.{elf_test, file-reads, kept-by, meaning-is, names_test, output-is}
use Rattle.dw_meaning.proofs.PlainUnits.{chain-sound, short_abbreviation, short_pair, short_spec}
use Rattle.dw_meaning.proofs.WorkedEntries.{lone_data, lone_readings}
use Rattle.dw_meaning.proofs.WorkedParts.{all_bytes, file_header, numbers, section_header, unit, worked_map}
use Rattle.dw_base.specs.RelocationSectionFails.{relocates_read}
use Rattle.dw_base.specs.SectionRelocations.{relocates, relocation_section, relocations_of}
use Rattle.dw_meaning.proofs.PlainFileLaws.{file-addends}
use Rattle.dw_meaning.proofs.MeansLaws.{means-made}

-- the abbreviation of an entry with a name and a directory, both in .debug_str
abbrev pub paths_abbrevs : List ℕ
paths_abbrevs = (1 ∷ 17 ∷ 0 ∷ 3 ∷ 14 ∷ 27 ∷ 14 ∷ 0 ∷ 0 ∷ 0 ∷ [])

abbrev pub paths_abbreviation : Abbreviation
paths_abbreviation = record {
  code = 1;
  tag = 17;
  children = false;
  specs = record { name = 3; form = 14; implicit = pos 0 } ∷ record { name = 27; form = 14; implicit = pos 0 } ∷ [];
}

pub paths-table : IsTable paths_abbrevs 0 (abbreviations_at paths_abbrevs 0)
unfolding abbreviations_at uleb_at
paths-table = record {
  last = 9;
  size = 1;
  declares = more_abbreviations [] paths_abbreviation 0 9 no_abbreviations
      (short_abbreviation paths_abbrevs 0 1 17 0 7 _ refl (eqb-false _ _ refl) refl (ltb-true _ _ refl) refl (ltb-true _ _ refl)
      (short_spec paths_abbrevs 3 5 27 14 _
      (short_spec paths_abbrevs 3 3 3 14 _ no_specs refl refl (eqb-false _ _ refl) (eqb-false _ _ refl) (eqb-false _ _ refl))
      refl refl (eqb-false _ _ refl) (eqb-false _ _ refl) (eqb-false _ _ refl))
      (short_pair paths_abbrevs 7 0 0 refl refl))
      refl;
  ends = refl;
}

-- a unit of version 4 with such an entry: the size of addresses, and the two offsets
abbrev pub paths_pieces : Order → ℕ → ℕ → ℕ → List (List ℕ)
paths_pieces order address name directory =
    (numbers order 4 (16 ∷ []) ++ numbers order 2 (4 ∷ []) ++ numbers order 4 (0 ∷ []) ++ (address ∷ []))
    ∷ (1 ∷ []) ∷ numbers order 4 (name ∷ []) ∷ numbers order 4 (directory ∷ []) ∷ []

-- the texts, and the mapped ones
abbrev pub path_texts : List ℕ
path_texts = codes "/build/p/a.c\0/build/p\0"

abbrev pub mapped_texts : List ℕ
mapped_texts = codes "/usr/src/debug/p/a.c\0/usr/src/debug/p\0"

-- the debug data of a file, and of its output
abbrev pub old_data : Order → ℕ → DebugData
old_data order address = lone_data order (all_bytes (paths_pieces order address 0 13)) paths_abbrevs path_texts

abbrev pub new_data : Order → ℕ → DebugData
new_data order address = lone_data order (all_bytes (paths_pieces order address 0 21)) paths_abbrevs mapped_texts

abbrev pub old_readings : Order → ℕ → DataReadings
old_readings order address = lone_readings (old_data order address) 20 (paths_pieces order address 0 13)

abbrev pub new_readings : Order → ℕ → DataReadings
new_readings order address = lone_readings (new_data order address) 20 (paths_pieces order address 0 21)

-- the new bodies
abbrev pub paths_bodies : Order → ℕ → List Body
paths_bodies order address =
    record { number = 3; bytes = mapped_texts } ∷ record { number = 0; bytes = [] } ∷ record { number = 0; bytes = [] } ∷ record { number = 0; bytes = [] } ∷ record { number = 0; bytes = [] }
    ∷ record { number = 1; bytes = all_bytes (paths_pieces order address 0 21) } ∷ []

-- what the units mean
abbrev pub path_at : ℕ → List ℕ → AttributeMeaning
path_at name t = record { name = name; value = string true by_offset t }

abbrev pub paths : List AttributeMeaning
paths = path_at 3 (codes "/build/p/a.c") ∷ path_at 27 (codes "/build/p") ∷ []

abbrev pub mapped_paths : List AttributeMeaning
mapped_paths = path_at 3 (codes "/usr/src/debug/p/a.c") ∷ path_at 27 (codes "/usr/src/debug/p") ∷ []

abbrev pub unit_of : ℕ → Forest → UnitMeaning
unit_of address entries = record {
  section = 1;
  head = record { version = 4; width = W32; address = address; kind = 1; signature = 0; type_entry = None };
  entries = entries;
}

abbrev pub paths_units : ℕ → List AttributeMeaning → List UnitMeaning
paths_units address attributes = unit_of address (entry 17 attributes no_entries no_entries) ∷ []

-- section 0 alone is meant by its bytes, and has neither a name nor bytes
abbrev pub unnamed : List NamedBytes
unnamed = record { name = []; bytes = [] } ∷ []

abbrev pub paths_meaning : ℕ → Meaning
paths_meaning address = record { units = paths_units address paths; slots = []; lines = []; macros = []; names = []; others = bytes_named unnamed }

-- the debug data are read so
pub one-old_reads : DataReads (old_data Little 8) (old_readings Little 8)
unfolding unit_header initial_length_at number_at spelled between after_code kind_in form_rows abbreviations_at uleb_at text_in ends_in offset_of
    field_of role_of value_of
one-old_reads = record {
  units = (refl, record { chain = chain-sound _ _ (paths_pieces Little 8 0 13) paths-table refl; cells = refl }, tt);
  offsets = none-offsets Little;
  lines = refl;
  macros = tt;
  names = none-names Little;
  texts = ((tt, (tt, (refl, (refl, tt)))), tt);
  slot_texts = tt;
  name_texts = tt;
  indexes = tt;
  macro_values = ((tt, (tt, (tt, (tt, tt)))), tt);
  imports = tt;
  macro_texts = tt;
  forms = ((refl, (refl, (refl, (refl, tt)))), tt);
}

pub one-new_reads : DataReads (new_data Little 8) (new_readings Little 8)
unfolding unit_header initial_length_at number_at spelled between after_code kind_in form_rows abbreviations_at uleb_at text_in ends_in offset_of
    field_of role_of value_of
one-new_reads = record {
  units = (refl, record { chain = chain-sound _ _ (paths_pieces Little 8 0 21) paths-table refl; cells = refl }, tt);
  offsets = none-offsets Little;
  lines = refl;
  macros = tt;
  names = none-names Little;
  texts = ((tt, (tt, (refl, (refl, tt)))), tt);
  slot_texts = tt;
  name_texts = tt;
  indexes = tt;
  macro_values = ((tt, (tt, (tt, (tt, tt)))), tt);
  imports = tt;
  macro_texts = tt;
  forms = ((refl, (refl, (refl, (refl, tt)))), tt);
}

pub big-old_reads : DataReads (old_data Big 4) (old_readings Big 4)
unfolding unit_header initial_length_at number_at spelled between after_code kind_in form_rows abbreviations_at uleb_at text_in ends_in offset_of
    field_of role_of value_of
big-old_reads = record {
  units = (refl, record { chain = chain-sound _ _ (paths_pieces Big 4 0 13) paths-table refl; cells = refl }, tt);
  offsets = none-offsets Big;
  lines = refl;
  macros = tt;
  names = none-names Big;
  texts = ((tt, (tt, (refl, (refl, tt)))), tt);
  slot_texts = tt;
  name_texts = tt;
  indexes = tt;
  macro_values = ((tt, (tt, (tt, (tt, tt)))), tt);
  imports = tt;
  macro_texts = tt;
  forms = ((refl, (refl, (refl, (refl, tt)))), tt);
}

pub big-new_reads : DataReads (new_data Big 4) (new_readings Big 4)
unfolding unit_header initial_length_at number_at spelled between after_code kind_in form_rows abbreviations_at uleb_at text_in ends_in offset_of
    field_of role_of value_of
big-new_reads = record {
  units = (refl, record { chain = chain-sound _ _ (paths_pieces Big 4 0 21) paths-table refl; cells = refl }, tt);
  offsets = none-offsets Big;
  lines = refl;
  macros = tt;
  names = none-names Big;
  texts = ((tt, (tt, (refl, (refl, tt)))), tt);
  slot_texts = tt;
  name_texts = tt;
  indexes = tt;
  macro_values = ((tt, (tt, (tt, (tt, tt)))), tt);
  imports = tt;
  macro_texts = tt;
  forms = ((refl, (refl, (refl, (refl, tt)))), tt);
}

-- one unit with a name and a directory: the smallest file of which every table is used
abbrev pub one_unit : List ℕ
one_unit =
    file_header 2 168 5 4 ++ unit 16 0 (1 ∷ []) (0 ∷ 13 ∷ []) ++ paths_abbrevs
    ++ codes "/build/p/a.c\0/build/p\0" ++ codes "\0.debug_info\0.debug_abbrev\0.debug_str\0.shstrtab\0" ++ replicate 4 0
    ++ section_header 0 0 0 0 0 0 ++ section_header 1 1 0 64 20 1 ++ section_header 13 1 0 84 10 1 ++ section_header 27 1 0 94 22 1
    ++ section_header 38 3 0 116 48 1

-- its output
abbrev pub one_unit_out : List ℕ
one_unit_out =
    file_header 2 184 5 4 ++ unit 16 0 (1 ∷ []) (0 ∷ 21 ∷ []) ++ paths_abbrevs
    ++ codes "/usr/src/debug/p/a.c\0/usr/src/debug/p\0"
    ++ codes "\0.debug_info\0.debug_abbrev\0.debug_str\0.shstrtab\0" ++ replicate 4 0 ++ section_header 0 0 0 0 0 0
    ++ section_header 1 1 0 64 20 1 ++ section_header 13 1 0 84 10 1 ++ section_header 27 1 0 94 38 1 ++ section_header 38 3 0 132 48 1

-- their debug data are these, and can be read
pub one_unit-data : file_data one_unit ≡ old_data Little 8
unfolding spelled e_type e_phnum e_phoff e_phentsize e_shoff e_shentsize e_shnum e_shstrndx class_of order_of nth_section section_at section_count
    name_index name_table section_name contents_of contents_at text_in ends_in debug_section is_listed view_of view_section section_after
    section_named section_bytes debug_data located unit_sections macro_sections
    relocations_of relocation_section relocates relocates_read view_relocations
one_unit-data = refl

pub one_unit_out-data : file_data one_unit_out ≡ new_data Little 8
unfolding spelled e_type e_phnum e_phoff e_phentsize e_shoff e_shentsize e_shnum e_shstrndx class_of order_of nth_section section_at section_count
    name_index name_table section_name contents_of contents_at text_in ends_in debug_section is_listed view_of view_section section_after
    section_named section_bytes debug_data located unit_sections macro_sections
    relocations_of relocation_section relocates relocates_read view_relocations
one_unit_out-data = refl

pub one_unit-reads : FileReads one_unit (old_readings Little 8)
unfolding spelled e_type e_phnum e_phoff e_phentsize e_shoff e_shentsize e_shnum e_shstrndx class_of order_of nth_section section_at section_count
    name_index name_table section_name contents_of contents_at text_in ends_in debug_section is_listed elf_test names_test segments_of nth_segment segment_at sections_of
one_unit-reads = file-reads one_unit (old_data Little 8) (old_readings Little 8) one_unit-data refl refl refl one-old_reads

pub one_unit_out-reads : FileReads one_unit_out (new_readings Little 8)
unfolding spelled e_type e_phnum e_phoff e_phentsize e_shoff e_shentsize e_shnum e_shstrndx class_of order_of nth_section section_at section_count
    name_index name_table section_name contents_of contents_at text_in ends_in debug_section is_listed elf_test names_test segments_of nth_segment segment_at sections_of
one_unit_out-reads = file-reads one_unit_out (new_data Little 8) (new_readings Little 8) one_unit_out-data refl refl refl one-new_reads

-- the bodies of its sections that change, and the output
pub one_unit-bodies : new_bodies worked_map (old_data Little 8) (old_readings Little 8) ≡ paths_bodies Little 8
unfolding new_bodies table_change unit_header initial_length_at number_at spelled between after_code kind_in form_rows abbreviations_at
    uleb_at text_in offset_of field_of role_of lies_under matching mapped_path mapped_inline with_offset
one_unit-bodies = refl

pub one_unit-written : with_bodies one_unit (body_in (paths_bodies Little 8) (contents_of one_unit)) ≡ one_unit_out
unfolding spelled e_type e_phnum e_phoff e_phentsize e_shoff e_shentsize e_shnum e_shstrndx class_of order_of nth_section section_at section_count
    name_index name_table section_name contents_of contents_at text_in ends_in part_of is_fixed fixed_end padding segments_of
    nth_segment segment_at sections_of with_bodies placed new_head shdr_bytes before_table with_table laid_out with_number
one_unit-written = refl

one_unit-kind : is_loaded_kind one_unit ≡ true
unfolding spelled e_type order_of
one_unit-kind = refl

pub one_unit-output : IsOutput worked_map one_unit one_unit_out
unfolding unit_header initial_length_at number_at spelled between after_code kind_in form_rows abbreviations_at uleb_at role_of offset_of field_of
one_unit-output = record {
  readings = old_readings Little 8;
  reads = one_unit-reads.data_reads;
  fits = record { inline = ((tt, (tt, (tt, (tt, tt)))), tt); slots = tt; lines = tt; addends = file-addends _ one_unit _ _ one_unit-kind one_unit-reads.data_reads };
  is = sym (output-is worked_map one_unit (old_data Little 8) (old_readings Little 8) (paths_bodies Little 8) one_unit-kind one_unit-data one_unit-bodies ∙ one_unit-written);
}

-- what both mean
pub one_unit-units : units_of (old_data Little 8) (old_readings Little 8) ≡ paths_units 8 paths
unfolding units_of unit_header initial_length_at number_at spelled between after_code kind_in form_rows abbreviations_at uleb_at text_in offset_of field_of
one_unit-units = refl

pub one_unit_out-units : units_of (new_data Little 8) (new_readings Little 8) ≡ paths_units 8 mapped_paths
unfolding units_of unit_header initial_length_at number_at spelled between after_code kind_in form_rows abbreviations_at uleb_at text_in offset_of field_of
one_unit_out-units = refl

pub one_unit-others : other_sections (without_id (view_of one_unit).id (view_of one_unit).sections) ≡ unnamed
unfolding spelled e_type e_phnum e_phoff e_phentsize e_shoff e_shentsize e_shnum e_shstrndx class_of order_of nth_section section_at section_count
    name_index name_table section_name contents_of contents_at text_in ends_in debug_section view_of view_section build_id_of is_id_section id_in
    is_id_note descriptor_at padding
    relocations_of relocation_section relocates relocates_read
one_unit-others = refl

pub one_unit_out-others : other_sections (without_id (view_of one_unit_out).id (view_of one_unit_out).sections) ≡ unnamed
unfolding spelled e_type e_phnum e_phoff e_phentsize e_shoff e_shentsize e_shnum e_shstrndx class_of order_of nth_section section_at section_count
    name_index name_table section_name contents_of contents_at text_in ends_in debug_section view_of view_section build_id_of is_id_section id_in
    is_id_note descriptor_at padding
    relocations_of relocation_section relocates relocates_read
one_unit_out-others = refl

pub one_unit-means : Means one_unit (paths_meaning 8)
one_unit-means =
    means-made one_unit (old_readings Little 8) (paths_meaning 8) one_unit-reads
    (meaning-is one_unit (old_data Little 8) (old_readings Little 8) (paths_units 8 paths) unnamed one_unit-data one_unit-units one_unit-others refl refl refl refl)

pub one_unit_out-means : Means one_unit_out (mapped worked_map (paths_meaning 8))
unfolding lies_under matching mapped_path
one_unit_out-means =
    means-made one_unit_out (new_readings Little 8) (mapped worked_map (paths_meaning 8)) one_unit_out-reads
    (meaning-is one_unit_out (new_data Little 8) (new_readings Little 8) (paths_units 8 mapped_paths) unnamed one_unit_out-data one_unit_out-units one_unit_out-others refl refl refl refl)

pub one_unit-kept : MeaningKept worked_map one_unit one_unit_out
one_unit-kept = kept-by worked_map one_unit one_unit_out (paths_meaning 8) one_unit-means one_unit_out-means

-- a 32-bit file of the other byte order, with addresses of 4 bytes
abbrev pub of_32_bits : List ℕ
of_32_bits =
    (127 ∷ []) ++ codes "ELF" ++ (1 ∷ 2 ∷ 1 ∷ []) ++ replicate 9 0 ++ numbers Big 2 (2 ∷ 20 ∷ [])
    ++ numbers Big 4 (1 ∷ 0 ∷ 0 ∷ 152 ∷ 0 ∷ []) ++ numbers Big 2 (52 ∷ 0 ∷ 0 ∷ 40 ∷ 5 ∷ 4 ∷ []) ++ numbers Big 4 (16 ∷ [])
    ++ numbers Big 2 (4 ∷ []) ++ numbers Big 4 (0 ∷ []) ++ (4 ∷ 1 ∷ []) ++ numbers Big 4 (0 ∷ 13 ∷ [])
    ++ paths_abbrevs ++ codes "/build/p/a.c\0/build/p\0"
    ++ codes "\0.debug_info\0.debug_abbrev\0.debug_str\0.shstrtab\0" ++ replicate 40 0
    ++ numbers Big 4 (1 ∷ 1 ∷ 0 ∷ 0 ∷ 52 ∷ 20 ∷ 0 ∷ 0 ∷ 1 ∷ 0 ∷ []) ++ numbers Big 4 (13 ∷ 1 ∷ 0 ∷ 0 ∷ 72 ∷ 10 ∷ 0 ∷ 0 ∷ 1 ∷ 0 ∷ [])
    ++ numbers Big 4 (27 ∷ 1 ∷ 0 ∷ 0 ∷ 82 ∷ 22 ∷ 0 ∷ 0 ∷ 1 ∷ 0 ∷ []) ++ numbers Big 4 (38 ∷ 3 ∷ 0 ∷ 0 ∷ 104 ∷ 48 ∷ 0 ∷ 0 ∷ 1 ∷ 0 ∷ [])

-- its output
abbrev pub of_32_bits_out : List ℕ
of_32_bits_out =
    (127 ∷ []) ++ codes "ELF" ++ (1 ∷ 2 ∷ 1 ∷ []) ++ replicate 9 0 ++ numbers Big 2 (2 ∷ 20 ∷ [])
    ++ numbers Big 4 (1 ∷ 0 ∷ 0 ∷ 168 ∷ 0 ∷ []) ++ numbers Big 2 (52 ∷ 0 ∷ 0 ∷ 40 ∷ 5 ∷ 4 ∷ []) ++ numbers Big 4 (16 ∷ [])
    ++ numbers Big 2 (4 ∷ []) ++ numbers Big 4 (0 ∷ []) ++ (4 ∷ 1 ∷ []) ++ numbers Big 4 (0 ∷ 21 ∷ [])
    ++ paths_abbrevs ++ codes "/usr/src/debug/p/a.c\0/usr/src/debug/p\0"
    ++ codes "\0.debug_info\0.debug_abbrev\0.debug_str\0.shstrtab\0" ++ replicate 40 0
    ++ numbers Big 4 (1 ∷ 1 ∷ 0 ∷ 0 ∷ 52 ∷ 20 ∷ 0 ∷ 0 ∷ 1 ∷ 0 ∷ []) ++ numbers Big 4 (13 ∷ 1 ∷ 0 ∷ 0 ∷ 72 ∷ 10 ∷ 0 ∷ 0 ∷ 1 ∷ 0 ∷ [])
    ++ numbers Big 4 (27 ∷ 1 ∷ 0 ∷ 0 ∷ 82 ∷ 38 ∷ 0 ∷ 0 ∷ 1 ∷ 0 ∷ []) ++ numbers Big 4 (38 ∷ 3 ∷ 0 ∷ 0 ∷ 120 ∷ 48 ∷ 0 ∷ 0 ∷ 1 ∷ 0 ∷ [])

-- their debug data are these, and can be read
pub of_32_bits-data : file_data of_32_bits ≡ old_data Big 4
unfolding spelled e_type e_phnum e_phoff e_phentsize e_shoff e_shentsize e_shnum e_shstrndx class_of order_of nth_section section_at section_count
    name_index name_table section_name contents_of contents_at text_in ends_in debug_section is_listed view_of view_section section_after
    section_named section_bytes debug_data located unit_sections macro_sections
    relocations_of relocation_section relocates relocates_read view_relocations
of_32_bits-data = refl

pub of_32_bits_out-data : file_data of_32_bits_out ≡ new_data Big 4
unfolding spelled e_type e_phnum e_phoff e_phentsize e_shoff e_shentsize e_shnum e_shstrndx class_of order_of nth_section section_at section_count
    name_index name_table section_name contents_of contents_at text_in ends_in debug_section is_listed view_of view_section section_after
    section_named section_bytes debug_data located unit_sections macro_sections
    relocations_of relocation_section relocates relocates_read view_relocations
of_32_bits_out-data = refl

pub of_32_bits-reads : FileReads of_32_bits (old_readings Big 4)
unfolding spelled e_type e_phnum e_phoff e_phentsize e_shoff e_shentsize e_shnum e_shstrndx class_of order_of nth_section section_at section_count
    name_index name_table section_name contents_of contents_at text_in ends_in debug_section is_listed elf_test names_test segments_of nth_segment segment_at sections_of
of_32_bits-reads = file-reads of_32_bits (old_data Big 4) (old_readings Big 4) of_32_bits-data refl refl refl big-old_reads

pub of_32_bits_out-reads : FileReads of_32_bits_out (new_readings Big 4)
unfolding spelled e_type e_phnum e_phoff e_phentsize e_shoff e_shentsize e_shnum e_shstrndx class_of order_of nth_section section_at section_count
    name_index name_table section_name contents_of contents_at text_in ends_in debug_section is_listed elf_test names_test segments_of nth_segment segment_at sections_of
of_32_bits_out-reads = file-reads of_32_bits_out (new_data Big 4) (new_readings Big 4) of_32_bits_out-data refl refl refl big-new_reads

-- the bodies of its sections that change, and the output
pub of_32_bits-bodies : new_bodies worked_map (old_data Big 4) (old_readings Big 4) ≡ paths_bodies Big 4
unfolding new_bodies table_change unit_header initial_length_at number_at spelled between after_code kind_in form_rows abbreviations_at
    uleb_at text_in offset_of field_of role_of lies_under matching mapped_path mapped_inline with_offset
of_32_bits-bodies = refl

pub of_32_bits-written : with_bodies of_32_bits (body_in (paths_bodies Big 4) (contents_of of_32_bits)) ≡ of_32_bits_out
unfolding spelled e_type e_phnum e_phoff e_phentsize e_shoff e_shentsize e_shnum e_shstrndx class_of order_of nth_section section_at section_count
    name_index name_table section_name contents_of contents_at text_in ends_in part_of is_fixed fixed_end padding segments_of
    nth_segment segment_at sections_of with_bodies placed new_head shdr_bytes before_table with_table laid_out with_number
of_32_bits-written = refl

of_32_bits-kind : is_loaded_kind of_32_bits ≡ true
unfolding spelled e_type order_of
of_32_bits-kind = refl

pub of_32_bits-output : IsOutput worked_map of_32_bits of_32_bits_out
unfolding unit_header initial_length_at number_at spelled between after_code kind_in form_rows abbreviations_at uleb_at role_of offset_of field_of
of_32_bits-output = record {
  readings = old_readings Big 4;
  reads = of_32_bits-reads.data_reads;
  fits = record { inline = ((tt, (tt, (tt, (tt, tt)))), tt); slots = tt; lines = tt; addends = file-addends _ of_32_bits _ _ of_32_bits-kind of_32_bits-reads.data_reads };
  is = sym (output-is worked_map of_32_bits (old_data Big 4) (old_readings Big 4) (paths_bodies Big 4) of_32_bits-kind of_32_bits-data of_32_bits-bodies ∙ of_32_bits-written);
}

-- what both mean
pub of_32_bits-units : units_of (old_data Big 4) (old_readings Big 4) ≡ paths_units 4 paths
unfolding units_of unit_header initial_length_at number_at spelled between after_code kind_in form_rows abbreviations_at uleb_at text_in offset_of field_of
of_32_bits-units = refl

pub of_32_bits_out-units : units_of (new_data Big 4) (new_readings Big 4) ≡ paths_units 4 mapped_paths
unfolding units_of unit_header initial_length_at number_at spelled between after_code kind_in form_rows abbreviations_at uleb_at text_in offset_of field_of
of_32_bits_out-units = refl

pub of_32_bits-others : other_sections (without_id (view_of of_32_bits).id (view_of of_32_bits).sections) ≡ unnamed
unfolding spelled e_type e_phnum e_phoff e_phentsize e_shoff e_shentsize e_shnum e_shstrndx class_of order_of nth_section section_at section_count
    name_index name_table section_name contents_of contents_at text_in ends_in debug_section view_of view_section build_id_of is_id_section id_in
    is_id_note descriptor_at padding
    relocations_of relocation_section relocates relocates_read
of_32_bits-others = refl

pub of_32_bits_out-others : other_sections (without_id (view_of of_32_bits_out).id (view_of of_32_bits_out).sections) ≡ unnamed
unfolding spelled e_type e_phnum e_phoff e_phentsize e_shoff e_shentsize e_shnum e_shstrndx class_of order_of nth_section section_at section_count
    name_index name_table section_name contents_of contents_at text_in ends_in debug_section view_of view_section build_id_of is_id_section id_in
    is_id_note descriptor_at padding
    relocations_of relocation_section relocates relocates_read
of_32_bits_out-others = refl

pub of_32_bits-means : Means of_32_bits (paths_meaning 4)
of_32_bits-means =
    means-made of_32_bits (old_readings Big 4) (paths_meaning 4) of_32_bits-reads
    (meaning-is of_32_bits (old_data Big 4) (old_readings Big 4) (paths_units 4 paths) unnamed of_32_bits-data of_32_bits-units of_32_bits-others refl refl refl refl)

pub of_32_bits_out-means : Means of_32_bits_out (mapped worked_map (paths_meaning 4))
unfolding lies_under matching mapped_path
of_32_bits_out-means =
    means-made of_32_bits_out (new_readings Big 4) (mapped worked_map (paths_meaning 4)) of_32_bits_out-reads
    (meaning-is of_32_bits_out (new_data Big 4) (new_readings Big 4) (paths_units 4 mapped_paths) unnamed of_32_bits_out-data of_32_bits_out-units of_32_bits_out-others refl refl refl refl)

pub of_32_bits-kept : MeaningKept worked_map of_32_bits of_32_bits_out
of_32_bits-kept = kept-by worked_map of_32_bits of_32_bits_out (paths_meaning 4) of_32_bits-means of_32_bits_out-means
