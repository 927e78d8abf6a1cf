-- Files that are no output that keeps the meaning, since they say something else: the file as it was, its output with the
-- directory as it was, with another letter in the mapped name, and with another letter in a section that isn't read.
use Rattle.dw_meaning.proofs.PlainUnits.{none-offsets, none-names}
use Rattle.std.proofs.Common.{true, false, ◌≡◌, ℕ, ◌+◌, ◌==◌, List, [], ◌∷◌, codes, sum, replicate, refl, sym, ap, ◌∙◌}
use Rattle.std.proofs.lemmas.Bool.{true≢false, eq-eqb}
use Rattle.dw_base.specs.AbbreviationBytes.{abbreviations_at}
use Rattle.dw_base.specs.Cells.{field_of, offset_of}
use Rattle.dw_base.specs.DebugSections.{debug_section, is_listed}
use Rattle.dw_base.specs.Elf.{class_of, contents_at, contents_of, e_phentsize, e_phnum, e_phoff, e_shentsize, e_shnum, e_shoff, e_shstrndx, e_type, name_index, name_table, nth_section, nth_segment, order_of, section_at, section_count, section_name, segment_at, segments_of, sections_of}
use Rattle.dw_base.specs.FileViews.{view_of, view_section, section_after, section_bytes, section_named, view_relocations}
use Rattle.dw_base.specs.Forests.{AttributeMeaning, Forest, no_entries, entry}
use Rattle.dw_base.specs.Forms.{kind_in, form_rows}
use Rattle.dw_base.specs.Layout.{padding}
use Rattle.dw_base.specs.Lebs.{uleb_at, initial_length_at}
use Rattle.dw_base.specs.Notes.{build_id_of, descriptor_at, id_in, is_id_note, is_id_section}
use Rattle.dw_base.specs.Numbers.{spelled, number_at}
use Rattle.dw_base.specs.Paths.{lies_under, mapped_path, matching}
use Rattle.dw_base.specs.Roles.{role_of}
use Rattle.dw_base.specs.Texts.{ends_in, text_in}
use Rattle.dw_base.specs.UnitHeaders.{unit_header}
use Rattle.dw_base.specs.UnitMeanings.{UnitMeaning, units_of}
use Rattle.dw_base.specs.UnitStates.{after_code, between}
use Rattle.dw_base.specs.ValueMeanings.{ValueMeaning, string}
use Rattle.dw_base.specs.Values.{value_of}
use Rattle.dw_base.specs.ViewData.{Meaning, NamedBytes, bytes_named, debug_data, located, mapped, other_sections, macro_sections, unit_sections, without_id}
use Rattle.dw_base.specs.declared.shared.Order.TheVariants.{Little}
use Rattle.dw_meaning.specs.DataOutput.{DataReads}
use Rattle.dw_meaning.specs.FileMeanings.{MeaningKept, Means, file_data}
use Rattle.dw_meaning.proofs.PlainFiles.{elf_test, file-reads, meaning-is, names_test}
use Rattle.dw_meaning.proofs.PlainUnits.{chain-sound}
use Rattle.dw_meaning.proofs.WorkedFiles.{mapped_paths, mapped_texts, one_unit, one_unit-means, one_unit_out, path_at, paths-table, paths_meaning, paths_pieces, unnamed}
use Rattle.dw_meaning.proofs.WorkedNotes.{with_id, with_id_out}
use Rattle.dw_meaning.proofs.WorkedParts.{changed, worked_map}
use Rattle.dw_meaning.proofs.WorkedSections.{data_in, notes_with, readings_in, units_in, with_id-means, with_id-new_reads, with_id-units, with_id_meaning}
use Rattle.dw_meaning.proofs.MeansLaws.{means-made}
use Rattle.dw_base.specs.RelocationSectionFails.{relocates_read}
use Rattle.dw_base.specs.SectionRelocations.{relocates, relocation_section, relocations_of}

-- the sum of the bytes of strings, of all that units say, and of what stands under a name
abbrev value_sum : ValueMeaning → ℕ
value_sum (string p form t) = sum t
value_sum v = 0

abbrev attributes_sum : List AttributeMeaning → ℕ
attributes_sum [] = 0
attributes_sum (a ∷ rest) = a.name + value_sum a.value + attributes_sum rest

abbrev forest_sum : Forest → ℕ
forest_sum no_entries = 0
forest_sum (entry tag attributes children siblings) = tag + attributes_sum attributes + forest_sum children + forest_sum siblings

abbrev units_sum : List UnitMeaning → ℕ
units_sum [] = 0
units_sum (u ∷ us) = forest_sum u.entries + units_sum us

abbrev bytes_sum : List (List ℕ) → ℕ
bytes_sum [] = 0
bytes_sum (t ∷ ts) = sum t + bytes_sum ts

-- where such a sum differs, the meaning isn't kept
not_kept : (b out : List ℕ) (x y : Meaning) (count : Meaning → ℕ) → Means b x → Means out y → (count y == count (mapped worked_map x)) ≡ false
    → MeaningKept worked_map b out → ⊥
not_kept b out x y count old new differs h =
    let meaning : x ≡ h.meaning = h.old_one x old in
    let same : y ≡ mapped worked_map x = h.new_one y new ∙ sym (ap (mapped worked_map) meaning) in
    let equal : (count y == count (mapped worked_map x)) ≡ true = eq-eqb _ _ (ap count same) in
    true≢false (sym equal ∙ differs)

-- the file as it was
pub one_unit-not_kept : MeaningKept worked_map one_unit one_unit → ⊥
unfolding lies_under matching mapped_path
one_unit-not_kept h =
    not_kept one_unit one_unit (paths_meaning 8) (paths_meaning 8) (λ x. units_sum x.units) one_unit-means one_unit-means refl h

-- the output with the directory at the place of the name
abbrev other_directory : List ℕ
other_directory = changed 80 (0 ∷ []) one_unit_out

other_directory-data : file_data other_directory ≡ data_in 1 0 0 mapped_texts
unfolding spelled e_type e_phnum e_phoff e_phentsize e_shoff e_shentsize e_shnum e_shstrndx class_of order_of nth_section section_at section_count
    name_index name_table section_name contents_of contents_at text_in ends_in debug_section is_listed view_of view_section section_after
    section_named section_bytes debug_data located unit_sections macro_sections padding
    relocations_of relocation_section relocates relocates_read view_relocations
other_directory-data = refl

other_directory-reads : DataReads (data_in 1 0 0 mapped_texts) (readings_in 1 0 0 mapped_texts)
unfolding unit_header initial_length_at number_at spelled between after_code kind_in form_rows abbreviations_at uleb_at text_in ends_in offset_of
    field_of role_of value_of
other_directory-reads = record {
  units = (refl, record { chain = chain-sound _ _ (paths_pieces Little 8 0 0) paths-table refl; cells = refl }, tt);
  offsets = none-offsets Little;
  lines = refl;
  macros = tt;
  names = none-names Little;
  texts = ((tt, (tt, (refl, (refl, tt)))), tt);
  slot_texts = tt;
  name_texts = tt;
  indexes = tt;
  macro_values = ((tt, (tt, (tt, (tt, tt)))), tt);
  imports = tt;
  macro_texts = tt;
  forms = ((refl, (refl, (refl, (refl, tt)))), tt);
}

abbrev other_directory_attributes : List AttributeMeaning
other_directory_attributes = path_at 3 (codes "/usr/src/debug/p/a.c") ∷ path_at 27 (codes "/usr/src/debug/p/a.c") ∷ []

other_directory-units : units_of (data_in 1 0 0 mapped_texts) (readings_in 1 0 0 mapped_texts) ≡ units_in 1 other_directory_attributes
unfolding units_of unit_header initial_length_at number_at spelled between after_code kind_in form_rows abbreviations_at uleb_at text_in offset_of field_of
other_directory-units = refl

other_directory-others : other_sections (without_id (view_of other_directory).id (view_of other_directory).sections) ≡ unnamed
unfolding spelled e_type e_phnum e_phoff e_phentsize e_shoff e_shentsize e_shnum e_shstrndx class_of order_of nth_section section_at section_count
    name_index name_table section_name contents_of contents_at text_in ends_in debug_section view_of view_section build_id_of is_id_section id_in
    is_id_note descriptor_at padding
    relocations_of relocation_section relocates relocates_read
other_directory-others = refl

other_directory-means : Means other_directory (record { units = units_in 1 other_directory_attributes; slots = []; lines = []; macros = []; names = []; others = bytes_named unnamed })
unfolding spelled e_type e_phnum e_phoff e_phentsize e_shoff e_shentsize e_shnum e_shstrndx class_of order_of nth_section section_at section_count
    name_index name_table section_name contents_of contents_at text_in ends_in debug_section is_listed elf_test names_test segments_of nth_segment segment_at sections_of padding
other_directory-means =
    means-made other_directory (readings_in 1 0 0 mapped_texts)
    (record { units = units_in 1 other_directory_attributes; slots = []; lines = []; macros = []; names = []; others = bytes_named unnamed })
    (file-reads other_directory (data_in 1 0 0 mapped_texts) (readings_in 1 0 0 mapped_texts) other_directory-data refl refl refl other_directory-reads)
    (meaning-is other_directory (data_in 1 0 0 mapped_texts) (readings_in 1 0 0 mapped_texts) (units_in 1 other_directory_attributes) unnamed other_directory-data other_directory-units other_directory-others refl refl refl refl)

pub other_directory-not_kept : MeaningKept worked_map one_unit other_directory → ⊥
unfolding lies_under matching mapped_path
other_directory-not_kept h = not_kept one_unit other_directory (paths_meaning 8) _ (λ x. units_sum x.units) one_unit-means other_directory-means refl h

abbrev other_texts : List ℕ
other_texts = codes "/usr/src/debug/p/b.c\0/usr/src/debug/p\0"

-- and with another letter in the mapped name
abbrev other_name : List ℕ
other_name = changed 111 (98 ∷ []) one_unit_out

other_name-data : file_data other_name ≡ data_in 1 0 21 other_texts
unfolding spelled e_type e_phnum e_phoff e_phentsize e_shoff e_shentsize e_shnum e_shstrndx class_of order_of nth_section section_at section_count
    name_index name_table section_name contents_of contents_at text_in ends_in debug_section is_listed view_of view_section section_after
    section_named section_bytes debug_data located unit_sections macro_sections padding
    relocations_of relocation_section relocates relocates_read view_relocations
other_name-data = refl

other_name-reads : DataReads (data_in 1 0 21 other_texts) (readings_in 1 0 21 other_texts)
unfolding unit_header initial_length_at number_at spelled between after_code kind_in form_rows abbreviations_at uleb_at text_in ends_in offset_of
    field_of role_of value_of
other_name-reads = record {
  units = (refl, record { chain = chain-sound _ _ (paths_pieces Little 8 0 21) paths-table refl; cells = refl }, tt);
  offsets = none-offsets Little;
  lines = refl;
  macros = tt;
  names = none-names Little;
  texts = ((tt, (tt, (refl, (refl, tt)))), tt);
  slot_texts = tt;
  name_texts = tt;
  indexes = tt;
  macro_values = ((tt, (tt, (tt, (tt, tt)))), tt);
  imports = tt;
  macro_texts = tt;
  forms = ((refl, (refl, (refl, (refl, tt)))), tt);
}

abbrev other_name_attributes : List AttributeMeaning
other_name_attributes = path_at 3 (codes "/usr/src/debug/p/b.c") ∷ path_at 27 (codes "/usr/src/debug/p") ∷ []

other_name-units : units_of (data_in 1 0 21 other_texts) (readings_in 1 0 21 other_texts) ≡ units_in 1 other_name_attributes
unfolding units_of unit_header initial_length_at number_at spelled between after_code kind_in form_rows abbreviations_at uleb_at text_in offset_of field_of
other_name-units = refl

other_name-others : other_sections (without_id (view_of other_name).id (view_of other_name).sections) ≡ unnamed
unfolding spelled e_type e_phnum e_phoff e_phentsize e_shoff e_shentsize e_shnum e_shstrndx class_of order_of nth_section section_at section_count
    name_index name_table section_name contents_of contents_at text_in ends_in debug_section view_of view_section build_id_of is_id_section id_in
    is_id_note descriptor_at padding
    relocations_of relocation_section relocates relocates_read
other_name-others = refl

other_name-means : Means other_name (record { units = units_in 1 other_name_attributes; slots = []; lines = []; macros = []; names = []; others = bytes_named unnamed })
unfolding spelled e_type e_phnum e_phoff e_phentsize e_shoff e_shentsize e_shnum e_shstrndx class_of order_of nth_section section_at section_count
    name_index name_table section_name contents_of contents_at text_in ends_in debug_section is_listed elf_test names_test segments_of nth_segment segment_at sections_of padding
other_name-means =
    means-made other_name (readings_in 1 0 21 other_texts)
    (record { units = units_in 1 other_name_attributes; slots = []; lines = []; macros = []; names = []; others = bytes_named unnamed })
    (file-reads other_name (data_in 1 0 21 other_texts) (readings_in 1 0 21 other_texts) other_name-data refl refl refl other_name-reads)
    (meaning-is other_name (data_in 1 0 21 other_texts) (readings_in 1 0 21 other_texts) (units_in 1 other_name_attributes) unnamed other_name-data other_name-units other_name-others refl refl refl refl)

pub other_name-not_kept : MeaningKept worked_map one_unit other_name → ⊥
unfolding lies_under matching mapped_path
other_name-not_kept h = not_kept one_unit other_name (paths_meaning 8) _ (λ x. units_sum x.units) one_unit-means other_name-means refl h

-- another letter in a section that isn't read
abbrev other_comment : List ℕ
other_comment = changed 280 (100 ∷ []) with_id_out

abbrev other_named : List NamedBytes
other_named =
    record { name = []; bytes = [] } ∷ record { name = codes ".note.gnu.build-id"; bytes = notes_with (replicate 8 0) }
    ∷ record { name = codes ".comment"; bytes = codes "dc 1\0" } ∷ record { name = codes ".comment"; bytes = codes "ld 2\0" } ∷ []

other_comment-data : file_data other_comment ≡ data_in 2 0 21 mapped_texts
unfolding spelled e_type e_phnum e_phoff e_phentsize e_shoff e_shentsize e_shnum e_shstrndx class_of order_of nth_section section_at section_count
    name_index name_table section_name contents_of contents_at text_in ends_in debug_section is_listed view_of view_section section_after
    section_named section_bytes debug_data located unit_sections macro_sections padding
    relocations_of relocation_section relocates relocates_read view_relocations
other_comment-data = refl

other_comment-others : other_sections (without_id (view_of other_comment).id (view_of other_comment).sections) ≡ other_named
unfolding spelled e_type e_phnum e_phoff e_phentsize e_shoff e_shentsize e_shnum e_shstrndx class_of order_of nth_section section_at section_count
    name_index name_table section_name contents_of contents_at text_in ends_in debug_section view_of view_section build_id_of is_id_section id_in
    is_id_note descriptor_at padding
    relocations_of relocation_section relocates relocates_read
other_comment-others = refl

other_comment-means : Means other_comment (record { units = units_in 2 mapped_paths; slots = []; lines = []; macros = []; names = []; others = bytes_named other_named })
unfolding spelled e_type e_phnum e_phoff e_phentsize e_shoff e_shentsize e_shnum e_shstrndx class_of order_of nth_section section_at section_count
    name_index name_table section_name contents_of contents_at text_in ends_in debug_section is_listed elf_test names_test segments_of nth_segment segment_at sections_of padding
other_comment-means =
    means-made other_comment (readings_in 2 0 21 mapped_texts)
    (record { units = units_in 2 mapped_paths; slots = []; lines = []; macros = []; names = []; others = bytes_named other_named })
    (file-reads other_comment (data_in 2 0 21 mapped_texts) (readings_in 2 0 21 mapped_texts) other_comment-data refl refl refl with_id-new_reads)
    (meaning-is other_comment (data_in 2 0 21 mapped_texts) (readings_in 2 0 21 mapped_texts) (units_in 2 mapped_paths) other_named other_comment-data with_id-units.1 other_comment-others refl refl refl refl)

pub other_comment-not_kept : MeaningKept worked_map with_id other_comment → ⊥
other_comment-not_kept h =
    not_kept with_id other_comment with_id_meaning _ (λ x. bytes_sum (x.others (codes ".comment"))) with_id-means other_comment-means refl h
