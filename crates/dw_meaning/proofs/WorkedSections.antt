-- Files with other sections, worked: notes with a build-id, comments of one name, the link to a debug file and a section that is
-- loaded; and a shared object with a segment. Each can be read; its output is this one; the output means what the file means,
-- mapped. The outputs are those that an independent program gives.
use Rattle.dw_meaning.proofs.PlainUnits.{no_section, units_alone, none-offsets, none-names}
use Rattle.std.proofs.Common.{true, ℕ, suc, ◌≡◌, List, [], ◌∷◌, ◌++◌, replicate, codes, refl, sym, ◌∙◌}
use Rattle.dw_base.specs.AbbreviationBytes.{abbreviations_at}
use Rattle.dw_base.specs.Cells.{plain_cells, field_of, offset_of}
use Rattle.dw_base.specs.DebugData.{DebugData}
use Rattle.dw_base.specs.DebugData.{DataReadings}
use Rattle.dw_base.specs.DebugSections.{debug_section, is_listed}
use Rattle.dw_base.specs.Elf.{class_of, contents_at, contents_of, e_phentsize, e_phnum, e_phoff, e_shentsize, e_shnum, e_shoff, e_shstrndx, e_type, name_index, name_table, nth_section, nth_segment, order_of, section_at, section_count, section_name, segment_at, segments_of, sections_of}
use Rattle.dw_base.specs.FileViews.{view_of, view_section, section_after, section_bytes, section_named, view_relocations}
use Rattle.dw_base.specs.Forests.{AttributeMeaning, no_entries, entry}
use Rattle.dw_base.specs.Forms.{kind_in, form_rows}
use Rattle.dw_base.specs.InlinePaths.{mapped_inline}
use Rattle.dw_base.specs.Layout.{is_loaded_kind, part_of, is_fixed, fixed_end, padding, with_bodies, placed, new_head, shdr_bytes, before_table, with_table, laid_out}
use Rattle.dw_base.specs.Lebs.{uleb_at, initial_length_at}
use Rattle.dw_base.specs.Notes.{build_id_of, descriptor_at, id_in, is_id_note, is_id_section}
use Rattle.dw_base.specs.Numbers.{spelled, number_at, with_number}
use Rattle.dw_base.specs.Paths.{lies_under, mapped_path, matching}
use Rattle.dw_base.specs.Roles.{role_of}
use Rattle.dw_base.specs.NewOffsets.{with_offset}
use Rattle.dw_base.specs.Texts.{ends_in, text_in}
use Rattle.dw_base.specs.UnitHeaders.{unit_header, in_info}
use Rattle.dw_base.specs.UnitMeanings.{UnitMeaning, units_of}
use Rattle.dw_base.specs.UnitStates.{after_code, before_unit, between}
use Rattle.dw_base.specs.Values.{value_of}
use Rattle.dw_base.specs.ViewData.{Meaning, NamedBytes, bytes_named, debug_data, located, mapped, other_sections, macro_sections, unit_sections, without_id}
use Rattle.dw_base.specs.declared.shared.Order.TheVariants.{Little}
use Rattle.dw_meaning.specs.DataOutput.{Body, DataReads, body_in, new_bodies, table_change}
use Rattle.dw_meaning.specs.FileMeanings.{FileReads, IsOutput, MeaningKept, Means, file_data}
use Rattle.dw_meaning.proofs.PlainFiles.{elf_test, file-reads, kept-by, meaning-is, names_test, output-is}
use Rattle.dw_meaning.proofs.PlainUnits.{chain-sound, pieces_from}
use Rattle.dw_meaning.proofs.WorkedFiles.{mapped_paths, mapped_texts, path_texts, paths, paths-table, paths_abbrevs, paths_pieces, unit_of, unnamed}
use Rattle.dw_meaning.proofs.WorkedNotes.{gnu, note, untyped, with_id, with_id_out}
use Rattle.dw_meaning.proofs.WorkedParts.{all_bytes, changed, numbers, section_header, unit, worked_map}
use Rattle.dw_base.specs.RelocationSectionFails.{relocates_read}
use Rattle.dw_base.specs.SectionRelocations.{relocates, relocation_section, relocations_of}
use Rattle.dw_meaning.proofs.PlainFileLaws.{file-addends}
use Rattle.dw_meaning.proofs.DataParts.{found_with}
use Rattle.dw_meaning.proofs.MeansLaws.{means-made}

-- debug data like those of the smallest file, with .debug_info in the section of a number, its abbreviations in the next, and
-- its texts in the one after that: the offsets of the name and of the directory, and the texts
abbrev pub data_in : ℕ → ℕ → ℕ → List ℕ → DebugData
data_in n name directory str = record {
  base = record { order = Little; abbrevs = record { number = suc n; bytes = paths_abbrevs } };
  found = found_with (record { number = n; kind = in_info; contents = plain_cells (all_bytes (paths_pieces Little 8 name directory)) } ∷ []) (record { number = suc (suc n); bytes = str }) (record { number = 0; bytes = [] }) no_section no_section [] no_section;
}

abbrev pub readings_in : ℕ → ℕ → ℕ → List ℕ → DataReadings
readings_in n name directory str =
    units_alone (record { number = n; pieces = pieces_from (data_in n name directory str).base (before_unit n in_info 20 0 0) (paths_pieces Little 8 name directory) } ∷ [])

abbrev pub bodies_in : ℕ → List Body
bodies_in n =
    record { number = suc (suc n); bytes = mapped_texts } ∷ record { number = 0; bytes = [] } ∷ record { number = 0; bytes = [] } ∷ record { number = 0; bytes = [] } ∷ record { number = 0; bytes = [] }
    ∷ record { number = n; bytes = all_bytes (paths_pieces Little 8 0 21) } ∷ []

abbrev pub units_in : ℕ → List AttributeMeaning → List UnitMeaning
units_in n attributes = record (unit_of 8 (entry 17 attributes no_entries no_entries)) { section = n } ∷ []

-- the file with notes and comments
pub with_id-data : (file_data with_id ≡ data_in 2 0 13 path_texts) × (file_data with_id_out ≡ data_in 2 0 21 mapped_texts)
unfolding spelled e_type e_phnum e_phoff e_phentsize e_shoff e_shentsize e_shnum e_shstrndx class_of order_of nth_section section_at section_count
    name_index name_table section_name contents_of contents_at text_in ends_in debug_section is_listed view_of view_section section_after
    section_named section_bytes debug_data located unit_sections macro_sections padding
    relocations_of relocation_section relocates relocates_read view_relocations
with_id-data = (refl, refl)

with_id-old_reads : DataReads (data_in 2 0 13 path_texts) (readings_in 2 0 13 path_texts)
unfolding unit_header initial_length_at number_at spelled between after_code kind_in form_rows abbreviations_at uleb_at text_in ends_in offset_of
    field_of role_of value_of
with_id-old_reads = record {
  units = (refl, record { chain = chain-sound _ _ (paths_pieces Little 8 0 13) paths-table refl; cells = refl }, tt);
  offsets = none-offsets Little;
  lines = refl;
  macros = tt;
  names = none-names Little;
  texts = ((tt, (tt, (refl, (refl, tt)))), tt);
  slot_texts = tt;
  name_texts = tt;
  indexes = tt;
  macro_values = ((tt, (tt, (tt, (tt, tt)))), tt);
  imports = tt;
  macro_texts = tt;
  forms = ((refl, (refl, (refl, (refl, tt)))), tt);
}

pub with_id-new_reads : DataReads (data_in 2 0 21 mapped_texts) (readings_in 2 0 21 mapped_texts)
unfolding unit_header initial_length_at number_at spelled between after_code kind_in form_rows abbreviations_at uleb_at text_in ends_in offset_of
    field_of role_of value_of
with_id-new_reads = record {
  units = (refl, record { chain = chain-sound _ _ (paths_pieces Little 8 0 21) paths-table refl; cells = refl }, tt);
  offsets = none-offsets Little;
  lines = refl;
  macros = tt;
  names = none-names Little;
  texts = ((tt, (tt, (refl, (refl, tt)))), tt);
  slot_texts = tt;
  name_texts = tt;
  indexes = tt;
  macro_values = ((tt, (tt, (tt, (tt, tt)))), tt);
  imports = tt;
  macro_texts = tt;
  forms = ((refl, (refl, (refl, (refl, tt)))), tt);
}

pub with_id-reads : FileReads with_id (readings_in 2 0 13 path_texts)
unfolding spelled e_type e_phnum e_phoff e_phentsize e_shoff e_shentsize e_shnum e_shstrndx class_of order_of nth_section section_at section_count
    name_index name_table section_name contents_of contents_at text_in ends_in debug_section is_listed elf_test names_test segments_of nth_segment segment_at sections_of padding
with_id-reads = file-reads with_id (data_in 2 0 13 path_texts) (readings_in 2 0 13 path_texts) with_id-data.0 refl refl refl with_id-old_reads

pub with_id_out-reads : FileReads with_id_out (readings_in 2 0 21 mapped_texts)
unfolding spelled e_type e_phnum e_phoff e_phentsize e_shoff e_shentsize e_shnum e_shstrndx class_of order_of nth_section section_at section_count
    name_index name_table section_name contents_of contents_at text_in ends_in debug_section is_listed elf_test names_test segments_of nth_segment segment_at sections_of padding
with_id_out-reads = file-reads with_id_out (data_in 2 0 21 mapped_texts) (readings_in 2 0 21 mapped_texts) with_id-data.1 refl refl refl with_id-new_reads

with_id-bodies : new_bodies worked_map (data_in 2 0 13 path_texts) (readings_in 2 0 13 path_texts) ≡ bodies_in 2
unfolding new_bodies table_change unit_header initial_length_at number_at spelled between after_code kind_in form_rows abbreviations_at
    uleb_at text_in offset_of field_of role_of lies_under matching mapped_path mapped_inline with_offset
with_id-bodies = refl

with_id-written : with_bodies with_id (body_in (bodies_in 2) (contents_of with_id)) ≡ with_id_out
unfolding spelled e_type e_phnum e_phoff e_phentsize e_shoff e_shentsize e_shnum e_shstrndx class_of order_of nth_section section_at section_count
    name_index name_table section_name contents_of contents_at text_in ends_in part_of is_fixed fixed_end padding segments_of
    nth_segment segment_at sections_of with_bodies placed new_head shdr_bytes before_table with_table laid_out with_number
with_id-written = refl

with_id-kind : is_loaded_kind with_id ≡ true
unfolding spelled e_type order_of
with_id-kind = refl

pub with_id-output : IsOutput worked_map with_id with_id_out
unfolding unit_header initial_length_at number_at spelled between after_code kind_in form_rows abbreviations_at uleb_at role_of offset_of field_of
with_id-output = record {
  readings = (readings_in 2 0 13 path_texts);
  reads = with_id-reads.data_reads;
  fits = record { inline = ((tt, (tt, (tt, (tt, tt)))), tt); slots = tt; lines = tt; addends = file-addends _ with_id _ _ with_id-kind with_id-reads.data_reads };
  is = sym (output-is worked_map with_id (data_in 2 0 13 path_texts) (readings_in 2 0 13 path_texts) (bodies_in 2) with_id-kind with_id-data.0 with_id-bodies ∙ with_id-written);
}

pub with_id-units : (units_of (data_in 2 0 13 path_texts) (readings_in 2 0 13 path_texts) ≡ units_in 2 paths) × (units_of (data_in 2 0 21 mapped_texts) (readings_in 2 0 21 mapped_texts) ≡ units_in 2 mapped_paths)
unfolding units_of unit_header initial_length_at number_at spelled between after_code kind_in form_rows abbreviations_at uleb_at text_in offset_of field_of
with_id-units = (refl, refl)

-- the notes are meant with zeros for the build-id, and the two sections of one name in order; what is loaded, the link and the
-- table of names are not meant as bytes
abbrev pub notes_with : List ℕ → List ℕ
notes_with id = note Little 4 1 1 gnu (7 ∷ 0 ∷ 0 ∷ 0 ∷ []) ++ note Little 4 8 3 gnu id

abbrev pub named_with : List ℕ → List NamedBytes
named_with id =
    record { name = []; bytes = [] } ∷ record { name = codes ".note.gnu.build-id"; bytes = notes_with id }
    ∷ record { name = codes ".comment"; bytes = codes "cc 1\0" } ∷ record { name = codes ".comment"; bytes = codes "ld 2\0" } ∷ []

abbrev pub with_id_named : List NamedBytes
with_id_named = named_with (replicate 8 0)

pub with_id-others :
    (other_sections (without_id (view_of with_id).id (view_of with_id).sections) ≡ with_id_named)
    × (other_sections (without_id (view_of with_id_out).id (view_of with_id_out).sections) ≡ with_id_named)
unfolding spelled e_type e_phnum e_phoff e_phentsize e_shoff e_shentsize e_shnum e_shstrndx class_of order_of nth_section section_at section_count
    name_index name_table section_name contents_of contents_at text_in ends_in debug_section view_of view_section build_id_of is_id_section id_in
    is_id_note descriptor_at padding
    relocations_of relocation_section relocates relocates_read
with_id-others = (refl, refl)

abbrev pub with_id_meaning : Meaning
with_id_meaning = record { units = units_in 2 paths; slots = []; lines = []; macros = []; names = []; others = bytes_named with_id_named }

pub with_id-means : Means with_id with_id_meaning
with_id-means =
    means-made with_id (readings_in 2 0 13 path_texts) with_id_meaning with_id-reads
    (meaning-is with_id (data_in 2 0 13 path_texts) (readings_in 2 0 13 path_texts) (units_in 2 paths) with_id_named with_id-data.0 with_id-units.0 with_id-others.0 refl refl refl refl)

pub with_id_out-means : Means with_id_out (mapped worked_map with_id_meaning)
unfolding lies_under matching mapped_path
with_id_out-means =
    means-made with_id_out (readings_in 2 0 21 mapped_texts) (mapped worked_map with_id_meaning) with_id_out-reads
    (meaning-is with_id_out (data_in 2 0 21 mapped_texts) (readings_in 2 0 21 mapped_texts) (units_in 2 mapped_paths) with_id_named with_id-data.1 with_id-units.1 with_id-others.1 refl refl refl refl)

pub with_id-kept : MeaningKept worked_map with_id with_id_out
with_id-kept = kept-by worked_map with_id with_id_out with_id_meaning with_id-means with_id_out-means

-- so the output means the same with another build-id
abbrev pub other_id_out : List ℕ
other_id_out = changed 272 (1 ∷ 2 ∷ 3 ∷ 4 ∷ 5 ∷ 6 ∷ 7 ∷ 8 ∷ []) with_id_out

pub other_id-others : other_sections (without_id (view_of other_id_out).id (view_of other_id_out).sections) ≡ with_id_named
unfolding spelled e_type e_phnum e_phoff e_phentsize e_shoff e_shentsize e_shnum e_shstrndx class_of order_of nth_section section_at section_count
    name_index name_table section_name contents_of contents_at text_in ends_in debug_section view_of view_section build_id_of is_id_section id_in
    is_id_note descriptor_at padding
    relocations_of relocation_section relocates relocates_read
other_id-others = refl

-- and in a section of another type, which has no build-id, all bytes are meant
pub untyped-others : other_sections (without_id (view_of untyped).id (view_of untyped).sections)
    ≡ named_with (17 ∷ 34 ∷ 51 ∷ 68 ∷ 85 ∷ 102 ∷ 119 ∷ 136 ∷ [])
unfolding spelled e_type e_phnum e_phoff e_phentsize e_shoff e_shentsize e_shnum e_shstrndx class_of order_of nth_section section_at section_count
    name_index name_table section_name contents_of contents_at text_in ends_in debug_section view_of view_section build_id_of is_id_section id_in
    is_id_note descriptor_at padding
    relocations_of relocation_section relocates relocates_read
untyped-others = refl

-- a shared object with a segment, a section in it, and one in memory alone
abbrev pub with_a_segment : List ℕ
with_a_segment =
    (127 ∷ []) ++ codes "ELF" ++ (2 ∷ 1 ∷ 1 ∷ []) ++ replicate 9 0 ++ numbers Little 2 (3 ∷ 62 ∷ []) ++ numbers Little 4 (1 ∷ [])
    ++ numbers Little 8 (4194424 ∷ 64 ∷ 256 ∷ []) ++ numbers Little 4 (0 ∷ []) ++ numbers Little 2 (64 ∷ 56 ∷ 1 ∷ 64 ∷ 7 ∷ 6 ∷ [])
    ++ numbers Little 4 (1 ∷ 5 ∷ []) ++ numbers Little 8 (0 ∷ 4194304 ∷ 4194304 ∷ 136 ∷ 136 ∷ 4096 ∷ [])
    ++ (1 ∷ 2 ∷ 3 ∷ 4 ∷ 5 ∷ 6 ∷ 7 ∷ 8 ∷ 9 ∷ 10 ∷ 11 ∷ 12 ∷ 13 ∷ 14 ∷ 15 ∷ 16 ∷ []) ++ codes "/build/p/a.c\0/build/p\0" ++ replicate 2 0
    ++ unit 16 0 (1 ∷ []) (0 ∷ 13 ∷ []) ++ paths_abbrevs
    ++ codes "\0.text\0.bss\0.debug_info\0.debug_abbrev\0.debug_str\0.shstrtab\0" ++ replicate 7 0 ++ section_header 0 0 0 0 0 0
    ++ numbers Little 4 (1 ∷ 1 ∷ []) ++ numbers Little 8 (6 ∷ 4194424 ∷ 120 ∷ 16 ∷ []) ++ numbers Little 4 (0 ∷ 0 ∷ [])
    ++ numbers Little 8 (4 ∷ 0 ∷ []) ++ numbers Little 4 (7 ∷ 8 ∷ []) ++ numbers Little 8 (3 ∷ 4198400 ∷ 136 ∷ 64 ∷ [])
    ++ numbers Little 4 (0 ∷ 0 ∷ []) ++ numbers Little 8 (32 ∷ 0 ∷ []) ++ section_header 12 1 0 160 20 4 ++ section_header 24 1 0 180 10 1
    ++ section_header 38 1 0 136 22 1 ++ section_header 49 3 0 190 59 1

-- its output
abbrev pub with_a_segment_out : List ℕ
with_a_segment_out =
    (127 ∷ []) ++ codes "ELF" ++ (2 ∷ 1 ∷ 1 ∷ []) ++ replicate 9 0 ++ numbers Little 2 (3 ∷ 62 ∷ []) ++ numbers Little 4 (1 ∷ [])
    ++ numbers Little 8 (4194424 ∷ 64 ∷ 264 ∷ []) ++ numbers Little 4 (0 ∷ []) ++ numbers Little 2 (64 ∷ 56 ∷ 1 ∷ 64 ∷ 7 ∷ 6 ∷ [])
    ++ numbers Little 4 (1 ∷ 5 ∷ []) ++ numbers Little 8 (0 ∷ 4194304 ∷ 4194304 ∷ 136 ∷ 136 ∷ 4096 ∷ [])
    ++ (1 ∷ 2 ∷ 3 ∷ 4 ∷ 5 ∷ 6 ∷ 7 ∷ 8 ∷ 9 ∷ 10 ∷ 11 ∷ 12 ∷ 13 ∷ 14 ∷ 15 ∷ 16 ∷ []) ++ unit 16 0 (1 ∷ []) (0 ∷ 21 ∷ [])
    ++ paths_abbrevs ++ codes "/usr/src/debug/p/a.c\0/usr/src/debug/p\0"
    ++ codes "\0.text\0.bss\0.debug_info\0.debug_abbrev\0.debug_str\0.shstrtab\0" ++ replicate 1 0 ++ section_header 0 0 0 0 0 0
    ++ numbers Little 4 (1 ∷ 1 ∷ []) ++ numbers Little 8 (6 ∷ 4194424 ∷ 120 ∷ 16 ∷ []) ++ numbers Little 4 (0 ∷ 0 ∷ [])
    ++ numbers Little 8 (4 ∷ 0 ∷ []) ++ numbers Little 4 (7 ∷ 8 ∷ []) ++ numbers Little 8 (3 ∷ 4198400 ∷ 136 ∷ 64 ∷ [])
    ++ numbers Little 4 (0 ∷ 0 ∷ []) ++ numbers Little 8 (32 ∷ 0 ∷ []) ++ section_header 12 1 0 136 20 4 ++ section_header 24 1 0 156 10 1
    ++ section_header 38 1 0 166 38 1 ++ section_header 49 3 0 204 59 1

pub with_a_segment-data : (file_data with_a_segment ≡ data_in 3 0 13 path_texts) × (file_data with_a_segment_out ≡ data_in 3 0 21 mapped_texts)
unfolding spelled e_type e_phnum e_phoff e_phentsize e_shoff e_shentsize e_shnum e_shstrndx class_of order_of nth_section section_at section_count
    name_index name_table section_name contents_of contents_at text_in ends_in debug_section is_listed view_of view_section section_after
    section_named section_bytes debug_data located unit_sections macro_sections padding
    relocations_of relocation_section relocates relocates_read view_relocations
with_a_segment-data = (refl, refl)

pub with_a_segment-old_reads : DataReads (data_in 3 0 13 path_texts) (readings_in 3 0 13 path_texts)
unfolding unit_header initial_length_at number_at spelled between after_code kind_in form_rows abbreviations_at uleb_at text_in ends_in offset_of
    field_of role_of value_of
with_a_segment-old_reads = record {
  units = (refl, record { chain = chain-sound _ _ (paths_pieces Little 8 0 13) paths-table refl; cells = refl }, tt);
  offsets = none-offsets Little;
  lines = refl;
  macros = tt;
  names = none-names Little;
  texts = ((tt, (tt, (refl, (refl, tt)))), tt);
  slot_texts = tt;
  name_texts = tt;
  indexes = tt;
  macro_values = ((tt, (tt, (tt, (tt, tt)))), tt);
  imports = tt;
  macro_texts = tt;
  forms = ((refl, (refl, (refl, (refl, tt)))), tt);
}

with_a_segment-new_reads : DataReads (data_in 3 0 21 mapped_texts) (readings_in 3 0 21 mapped_texts)
unfolding unit_header initial_length_at number_at spelled between after_code kind_in form_rows abbreviations_at uleb_at text_in ends_in offset_of
    field_of role_of value_of
with_a_segment-new_reads = record {
  units = (refl, record { chain = chain-sound _ _ (paths_pieces Little 8 0 21) paths-table refl; cells = refl }, tt);
  offsets = none-offsets Little;
  lines = refl;
  macros = tt;
  names = none-names Little;
  texts = ((tt, (tt, (refl, (refl, tt)))), tt);
  slot_texts = tt;
  name_texts = tt;
  indexes = tt;
  macro_values = ((tt, (tt, (tt, (tt, tt)))), tt);
  imports = tt;
  macro_texts = tt;
  forms = ((refl, (refl, (refl, (refl, tt)))), tt);
}

pub with_a_segment-reads : FileReads with_a_segment (readings_in 3 0 13 path_texts)
unfolding spelled e_type e_phnum e_phoff e_phentsize e_shoff e_shentsize e_shnum e_shstrndx class_of order_of nth_section section_at section_count
    name_index name_table section_name contents_of contents_at text_in ends_in debug_section is_listed elf_test names_test segments_of nth_segment segment_at sections_of padding
with_a_segment-reads = file-reads with_a_segment (data_in 3 0 13 path_texts) (readings_in 3 0 13 path_texts) with_a_segment-data.0 refl refl refl with_a_segment-old_reads

pub with_a_segment_out-reads : FileReads with_a_segment_out (readings_in 3 0 21 mapped_texts)
unfolding spelled e_type e_phnum e_phoff e_phentsize e_shoff e_shentsize e_shnum e_shstrndx class_of order_of nth_section section_at section_count
    name_index name_table section_name contents_of contents_at text_in ends_in debug_section is_listed elf_test names_test segments_of nth_segment segment_at sections_of padding
with_a_segment_out-reads = file-reads with_a_segment_out (data_in 3 0 21 mapped_texts) (readings_in 3 0 21 mapped_texts) with_a_segment-data.1 refl refl refl with_a_segment-new_reads

with_a_segment-bodies : new_bodies worked_map (data_in 3 0 13 path_texts) (readings_in 3 0 13 path_texts) ≡ bodies_in 3
unfolding new_bodies table_change unit_header initial_length_at number_at spelled between after_code kind_in form_rows abbreviations_at
    uleb_at text_in offset_of field_of role_of lies_under matching mapped_path mapped_inline with_offset
with_a_segment-bodies = refl

with_a_segment-written : with_bodies with_a_segment (body_in (bodies_in 3) (contents_of with_a_segment)) ≡ with_a_segment_out
unfolding spelled e_type e_phnum e_phoff e_phentsize e_shoff e_shentsize e_shnum e_shstrndx class_of order_of nth_section section_at section_count
    name_index name_table section_name contents_of contents_at text_in ends_in part_of is_fixed fixed_end padding segments_of
    nth_segment segment_at sections_of with_bodies placed new_head shdr_bytes before_table with_table laid_out with_number
with_a_segment-written = refl

with_a_segment-kind : is_loaded_kind with_a_segment ≡ true
unfolding spelled e_type order_of
with_a_segment-kind = refl

pub with_a_segment-output : IsOutput worked_map with_a_segment with_a_segment_out
unfolding unit_header initial_length_at number_at spelled between after_code kind_in form_rows abbreviations_at uleb_at role_of offset_of field_of
with_a_segment-output = record {
  readings = (readings_in 3 0 13 path_texts);
  reads = with_a_segment-reads.data_reads;
  fits = record { inline = ((tt, (tt, (tt, (tt, tt)))), tt); slots = tt; lines = tt; addends = file-addends _ with_a_segment _ _ with_a_segment-kind with_a_segment-reads.data_reads };
  is = sym (output-is worked_map with_a_segment (data_in 3 0 13 path_texts) (readings_in 3 0 13 path_texts) (bodies_in 3) with_a_segment-kind with_a_segment-data.0 with_a_segment-bodies ∙ with_a_segment-written);
}

pub with_a_segment-units : (units_of (data_in 3 0 13 path_texts) (readings_in 3 0 13 path_texts) ≡ units_in 3 paths) × (units_of (data_in 3 0 21 mapped_texts) (readings_in 3 0 21 mapped_texts) ≡ units_in 3 mapped_paths)
unfolding units_of unit_header initial_length_at number_at spelled between after_code kind_in form_rows abbreviations_at uleb_at text_in offset_of field_of
with_a_segment-units = (refl, refl)

-- what is loaded is not meant as bytes
pub with_a_segment-others :
    (other_sections (without_id (view_of with_a_segment).id (view_of with_a_segment).sections) ≡ unnamed)
    × (other_sections (without_id (view_of with_a_segment_out).id (view_of with_a_segment_out).sections) ≡ unnamed)
unfolding spelled e_type e_phnum e_phoff e_phentsize e_shoff e_shentsize e_shnum e_shstrndx class_of order_of nth_section section_at section_count
    name_index name_table section_name contents_of contents_at text_in ends_in debug_section view_of view_section build_id_of is_id_section id_in
    is_id_note descriptor_at padding
    relocations_of relocation_section relocates relocates_read
with_a_segment-others = (refl, refl)

abbrev pub with_a_segment_meaning : Meaning
with_a_segment_meaning = record { units = units_in 3 paths; slots = []; lines = []; macros = []; names = []; others = bytes_named unnamed }

pub with_a_segment-means : Means with_a_segment with_a_segment_meaning
with_a_segment-means =
    means-made with_a_segment (readings_in 3 0 13 path_texts) with_a_segment_meaning with_a_segment-reads
    (meaning-is with_a_segment (data_in 3 0 13 path_texts) (readings_in 3 0 13 path_texts) (units_in 3 paths) unnamed with_a_segment-data.0 with_a_segment-units.0 with_a_segment-others.0 refl refl refl refl)

pub with_a_segment_out-means : Means with_a_segment_out (mapped worked_map with_a_segment_meaning)
unfolding lies_under matching mapped_path
with_a_segment_out-means =
    means-made with_a_segment_out (readings_in 3 0 21 mapped_texts) (mapped worked_map with_a_segment_meaning) with_a_segment_out-reads
    (meaning-is with_a_segment_out (data_in 3 0 21 mapped_texts) (readings_in 3 0 21 mapped_texts) (units_in 3 mapped_paths) unnamed with_a_segment-data.1 with_a_segment-units.1 with_a_segment-others.1 refl refl refl refl)

pub with_a_segment-kept : MeaningKept worked_map with_a_segment with_a_segment_out
with_a_segment-kept = kept-by worked_map with_a_segment with_a_segment_out with_a_segment_meaning with_a_segment-means with_a_segment_out-means
