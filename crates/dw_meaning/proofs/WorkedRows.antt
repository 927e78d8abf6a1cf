-- Files that are refused, each made of the smallest one, and the row that holds of it; and which of them mean nothing. The kinds
-- and places are those that an independent program gives.
use Rattle.std.proofs.Common.{true, false, ◌≡◌, ◌≢◌, ℕ, List, [], ◌∷◌, ◌++◌, codes, take, length, slice_index, refl, sym, ap, subst, ◌∙◌}
use Rattle.std.proofs.lemmas.Bool.{ltb-true, leb-true, eqb-false}
use Rattle.std.specs.Prelude.{pos}
use Rattle.dw_base.specs.AbbreviationBytes.{abbreviations_at}
use Rattle.dw_base.specs.AbbreviationTables.{Abbreviation}
use Rattle.dw_base.specs.Cells.{plain_cells, field_of, offset_of}
use Rattle.dw_base.specs.DebugData.{DebugData}
use Rattle.dw_base.specs.DebugSectionFails.{DebugSectionsFail, file_type, named, twice, name_table as name_table_row, compressed, supplementary, unlisted as unlisted_row}
use Rattle.dw_base.specs.DebugSections.{debug_section, is_listed}
use Rattle.dw_base.specs.Elf.{class_of, contents_at, contents_of, e_phentsize, e_phnum, e_phoff, e_shentsize, e_shnum, e_shoff, e_shstrndx, e_type, name_index, name_table, nth_section, nth_segment, order_of, section_at, section_count, section_name, segment_at, segments_of, sections_of}
use Rattle.dw_base.specs.ElfFails.{debug}
use Rattle.dw_base.specs.ElfFails.DebugFails.{header, table}
use Rattle.dw_base.specs.ElfFails.HeaderFails.{short}
use Rattle.dw_base.specs.ElfFails.TableFails.{past as table_past}
use Rattle.dw_base.specs.EntryScans.{no_values, more_values, starts, no_code, values as values_fail, value as value_fails}
use Rattle.dw_base.specs.FileViews.{view_of, view_section, section_after, section_bytes, section_named, view_relocations}
use Rattle.dw_base.specs.FormFails.{own, passes_end}
use Rattle.dw_base.specs.Forms.{text_offset, form_in_front, supplementary as of_other_file, unlisted, kind_in, form_rows}
use Rattle.dw_base.specs.Layout.{is_loaded_kind, part_of, is_fixed, fixed_end, padding}
use Rattle.dw_base.specs.LayoutFails.{section as section_row, changed as changed_row, across, in_header}
use Rattle.dw_base.specs.Lebs.{uleb_at, initial_length_at}
use Rattle.dw_base.specs.Numbers.{spelled, number_at}
use Rattle.dw_base.specs.Refusals.{at}
use Rattle.dw_base.specs.Roles.{role_of}
use Rattle.dw_base.specs.Texts.{ends_in, text_in}
use Rattle.dw_base.specs.UnitFails.{unit as unit_fails, no_header, past as unit_past}
use Rattle.dw_base.specs.UnitHeaders.{UnitSection, unit_header, in_info, no_units, more_units}
use Rattle.dw_base.specs.UnitStates.{after_code, between}
use Rattle.dw_base.specs.Values.{value_of, value_at}
use Rattle.dw_base.specs.ViewData.{Meaning, debug_data, located, macro_sections, unit_sections}
use Rattle.dw_base.specs.declared.fault.Kind.TheVariants.{Header, Range, Fixed, FileType, Supplementary, UnknownDebug, Twice, Compressed, Unit as UnitKind, Entry, StringOffset}
use Rattle.dw_base.specs.declared.fault.Refusal.{Refusal}
use Rattle.dw_base.specs.declared.shared.Order.{Order}
use Rattle.dw_base.specs.declared.shared.Order.TheVariants.{Little, Big}
use Rattle.dw_base.specs.declared.shared.Width.TheVariants.{W32}
use Rattle.dw_base.specs.declared.units.UnitHeader.{UnitHeader}
use Rattle.dw_base.specs.declared.values.Spec.{Spec}
use Rattle.dw_base.specs.declared.values.Value.{Value}
use Rattle.dw_base.specs.declared.values.ValueClass.TheVariants.{StrOffset}
use Rattle.dw_meaning.specs.DataFails.{DataFails, unit as unit_row, entries as entries_row, TextFails, no_text}
use Rattle.dw_meaning.specs.DataOutput.{Body, body_in, new_bodies}
use Rattle.dw_meaning.specs.EditRows.{EditFails, file, output}
use Rattle.dw_meaning.specs.FileFails.{elf, sections, loaded, units, texts}
use Rattle.dw_meaning.specs.FileMeanings.{FileReads, Means, file_body, file_data, new_body}
use Rattle.dw_meaning.proofs.RelocatedBodyLaws.{file_body-loaded}
use Rattle.dw_base.proofs.DebugSectionFailsLaws.{debug_sections_exclude}
use Rattle.dw_meaning.proofs.DataRowLaws.{data-excludes}
use Rattle.dw_meaning.proofs.ValueRowLaws.{texts-exclude}
use Rattle.dw_meaning.proofs.PlainFiles.{elf-sound, elf_test, file-reads, header_reads-sound, ident_rules, names_test}
use Rattle.dw_meaning.proofs.PlainTests.{passes-true}
use Rattle.dw_meaning.proofs.WorkedEntries.{lone_data}
use Rattle.dw_meaning.proofs.WorkedFiles.{of_32_bits, old_data, old_readings, one-old_reads, one_unit, one_unit-bodies, path_texts, paths-table, paths_abbreviation, paths_abbrevs, paths_bodies}
use Rattle.dw_meaning.proofs.WorkedSections.{data_in, readings_in, with_a_segment, with_a_segment-old_reads}
use Rattle.dw_meaning.proofs.WorkedParts.{changed, half, numbers, word, worked_map}
use Rattle.dw_base.specs.RelocationSectionFails.{relocates_read}
use Rattle.dw_base.specs.SectionRelocations.{relocates, relocation_section, relocations_of}
use Rattle.dw_base.specs.declared.texts.TextSection.TheVariants.{InStr}

-- no bytes; and all but the last, where the section headers pass the end
pub cut_short-refused :
    EditFails worked_map [] (at Header 0 0)
    × EditFails worked_map (take 63 one_unit) (at Header 0 0)
    × EditFails worked_map (take 64 one_unit) (at Range 0 168)
    × EditFails worked_map (take 487 one_unit) (at Range 0 168)
unfolding spelled e_type e_phnum e_phoff e_phentsize e_shoff e_shentsize e_shnum e_shstrndx class_of order_of nth_section section_at section_count
    name_index name_table section_name contents_of contents_at text_in ends_in debug_section is_listed elf_test names_test segments_of
    nth_segment segment_at sections_of part_of is_fixed fixed_end padding
cut_short-refused = (
  file (elf (debug (header (short (ltb-true _ _ refl))))),
  file (elf (debug (header (short (ltb-true _ _ refl))))),
  file (elf (debug (table (header_reads-sound _ (passes-true (ident_rules (take 64 one_unit)) refl)) (table_past (eqb-false _ _ refl) (ltb-true _ _ refl))))),
  file (elf (debug (table (header_reads-sound _ (passes-true (ident_rules (take 487 one_unit)) refl)) (table_past (eqb-false _ _ refl) (ltb-true _ _ refl))))),
)

-- the type is none of a file that is loaded
pub type-fails : DebugSectionsFail (changed 16 (4 ∷ []) one_unit) (at FileType 0 16)
unfolding spelled e_type e_phnum e_phoff e_phentsize e_shoff e_shentsize e_shnum e_shstrndx class_of order_of nth_section section_at section_count
    name_index name_table section_name contents_of contents_at text_in ends_in debug_section is_listed elf_test names_test segments_of
    nth_segment segment_at sections_of part_of is_fixed fixed_end padding
type-fails = file_type (eqb-false _ _ refl) refl

pub type-refused : EditFails worked_map (changed 16 (4 ∷ []) one_unit) (at FileType 0 16)
unfolding spelled e_type e_phnum e_phoff e_phentsize e_shoff e_shentsize e_shnum e_shstrndx class_of order_of nth_section section_at section_count
    name_index name_table section_name contents_of contents_at text_in ends_in debug_section is_listed elf_test names_test segments_of
    nth_segment segment_at sections_of part_of is_fixed fixed_end padding
type-refused = file (sections (elf-sound _ refl) type-fails)

-- a section that is read is loaded
pub loaded-refused : EditFails worked_map (changed 240 (2 ∷ []) one_unit) (at Fixed 1 0)
unfolding spelled e_type e_phnum e_phoff e_phentsize e_shoff e_shentsize e_shnum e_shstrndx class_of order_of nth_section section_at section_count
    name_index name_table section_name contents_of contents_at text_in ends_in debug_section is_listed elf_test names_test segments_of
    nth_segment segment_at sections_of part_of is_fixed fixed_end padding
loaded-refused = file (loaded 1 (elf-sound _ refl) (ltb-true _ _ refl) (record { read = refl; bytes = refl; alloc = refl }))

-- the names: .debug_sup; an unknown one; .debug_info twice; .debug_str compressed, and as the section name table
pub names-fail :
    DebugSectionsFail (changed 151 (codes "up") one_unit) (at Supplementary 3 0)
    × DebugSectionsFail (changed 150 (codes "xyz") one_unit) (at UnknownDebug 3 0)
    × DebugSectionsFail (changed 296 (1 ∷ []) one_unit) (at Twice 2 0)
    × DebugSectionsFail (changed 369 (8 ∷ []) one_unit) (at Compressed 3 0)
    × DebugSectionsFail (changed 424 (27 ∷ []) one_unit) (at Twice 4 0)
unfolding spelled e_type e_phnum e_phoff e_phentsize e_shoff e_shentsize e_shnum e_shstrndx class_of order_of nth_section section_at section_count
    name_index name_table section_name contents_of contents_at text_in ends_in debug_section is_listed elf_test names_test segments_of
    nth_segment segment_at sections_of part_of is_fixed fixed_end padding
names-fail = (
  named 3 (ltb-true _ _ refl) refl (supplementary refl),
  named 3 (ltb-true _ _ refl) refl (unlisted_row refl refl refl),
  twice 1 2 (ltb-true _ _ refl) (record { before = ltb-true _ _ refl; first_active = refl; active = refl; same = refl; listed = refl; single = refl }),
  named 3 (ltb-true _ _ refl) refl (compressed refl (eqb-false _ _ refl)),
  name_table_row (eqb-false _ _ refl) refl,
)

pub names-refused :
    EditFails worked_map (changed 151 (codes "up") one_unit) (at Supplementary 3 0)
    × EditFails worked_map (changed 150 (codes "xyz") one_unit) (at UnknownDebug 3 0)
    × EditFails worked_map (changed 296 (1 ∷ []) one_unit) (at Twice 2 0)
    × EditFails worked_map (changed 369 (8 ∷ []) one_unit) (at Compressed 3 0)
    × EditFails worked_map (changed 424 (27 ∷ []) one_unit) (at Twice 4 0)
unfolding spelled e_type e_phnum e_phoff e_phentsize e_shoff e_shentsize e_shnum e_shstrndx class_of order_of nth_section section_at section_count
    name_index name_table section_name contents_of contents_at text_in ends_in debug_section is_listed elf_test names_test segments_of
    nth_segment segment_at sections_of part_of is_fixed fixed_end padding
names-refused = (
  file (sections (elf-sound _ refl) names-fail.0),
  file (sections (elf-sound _ refl) names-fail.1),
  file (sections (elf-sound _ refl) names-fail.2),
  file (sections (elf-sound _ refl) names-fail.3),
  file (sections (elf-sound _ refl) names-fail.4),
)

-- debug data of a .debug_info like that of the smallest file, its one section, and the header of a unit that ends at a place
abbrev with_info : Order → List ℕ → DebugData
with_info order info = lone_data order info paths_abbrevs path_texts

abbrev info_section : List ℕ → UnitSection
info_section info = record { number = 1; kind = in_info; contents = plain_cells info }

abbrev header_up_to : ℕ → UnitHeader
header_up_to end = record {
  section = 1;
  start = 0;
  end = end;
  params = record { order = Little; width = W32; version = 4; address = 8 };
  kind = 1;
  abbrevs = 0;
  elsewhere = false;
  signature = 0;
  type_offset = 0;
  first = 11;
}

-- its bytes: the length, the version, the code and the offset of the directory may be others
abbrev info_of : ℕ → ℕ → ℕ → ℕ → List ℕ
info_of length version code directory = word length ++ half version ++ word 0 ++ (8 ∷ code ∷ []) ++ word 0 ++ word directory

abbrev big_info : List ℕ
big_info = numbers Big 4 (16 ∷ []) ++ numbers Big 2 (4 ∷ []) ++ numbers Big 4 (0 ∷ []) ++ (3 ∷ 1 ∷ []) ++ numbers Big 4 (0 ∷ 13 ∷ [])

-- the units: a version 5 whose unit type is 0; addresses of 3 bytes; a length that passes the section by a byte; and a byte
-- behind the last unit
pub units-fail :
    DataFails (with_info Little (info_of 16 5 1 13)) (at UnitKind 1 0)
    × DataFails (with_info Big big_info) (at UnitKind 1 0)
    × DataFails (with_info Little (info_of 17 4 1 13)) (at UnitKind 1 0)
    × DataFails (with_info Little (info_of 16 4 1 13 ++ 1 ∷ [])) (at UnitKind 1 20)
unfolding unit_header initial_length_at number_at spelled between after_code kind_in form_rows abbreviations_at uleb_at text_in ends_in offset_of
    field_of role_of value_of value_at
units-fail = (
  unit_row (info_section (info_of 16 5 1 13)) [] [] refl (unit_fails [] 0 no_units (ltb-true _ _ refl) (no_header refl)),
  unit_row (info_section big_info) [] [] refl (unit_fails [] 0 no_units (ltb-true _ _ refl) (no_header refl)),
  unit_row (info_section (info_of 17 4 1 13)) [] [] refl (unit_fails [] 0 no_units (ltb-true _ _ refl) (unit_past (header_up_to 21) refl (ltb-true _ _ refl))),
  unit_row (info_section (info_of 16 4 1 13 ++ 1 ∷ [])) [] [] refl
      (unit_fails (header_up_to 20 ∷ []) 20
      (more_units [] (header_up_to 20) 0 no_units (record { header = refl; whole = refl; within = leb-true _ _ refl }))
      (ltb-true _ _ refl) (no_header refl)),
)

-- the unit and its table, where they read
abbrev tables : List Abbreviation
tables = paths_abbreviation ∷ []

abbrev text_spec : ℕ → Spec
text_spec name = record { name = name; form = 14; implicit = pos 0 }

abbrev offset_value : ℕ → ℕ → Value
offset_value n place = record { class = StrOffset; number = n; at = place; len = 4; size = 4 }

-- the entries: a code that has no abbreviation, and a value that passes the end of its unit
pub entries-fail :
    DataFails (with_info Little (info_of 16 4 2 13)) (at Entry 1 11)
    × DataFails (with_info Little (info_of 15 4 1 13)) (at Entry 1 16)
unfolding unit_header initial_length_at number_at spelled between after_code kind_in form_rows abbreviations_at uleb_at text_in ends_in offset_of
    field_of role_of value_of value_at
entries-fail = (
  entries_row (info_section (info_of 16 4 2 13)) (header_up_to 20) tables
      (record {
        unit = record {
          before = [];
          behind = [];
          sections = refl;
          list = [];
          start = 0;
          units = no_units;
          is = record { header = refl; whole = refl; within = leb-true _ _ refl };
        };
        declares = record { here = refl; is = paths-table };
      })
      (no_code [] 11 0 2 1 starts refl (eqb-false _ _ refl) refl),
  entries_row (info_section (info_of 15 4 1 13)) (header_up_to 19) tables
      (record {
        unit = record {
          before = [];
          behind = [];
          sections = refl;
          list = [];
          start = 0;
          units = no_units;
          is = record { header = refl; whole = refl; within = leb-true _ _ refl };
        };
        declares = record { here = refl; is = paths-table };
      })
      (values_fail [] 11 0 1 1 paths_abbreviation starts refl (eqb-false _ _ refl) refl
      (value_fails (text_spec 3 ∷ []) [] (text_spec 27) 16 refl (more_values [] (text_spec 3) 12 (offset_value 0 12) no_values refl)
      (own (passes_end other_kind.0 other_kind.1 other_kind.2 refl)))),
)
  where
    other_kind : (text_offset InStr 4 ≢ unlisted) × (text_offset InStr 4 ≢ of_other_file) × (text_offset InStr 4 ≢ form_in_front)
    other_kind = (λ e. cc, λ e. cc, λ e. cc)

-- the texts: an offset behind the last NUL
pub text-fails : TextFails (with_info Little (info_of 16 4 1 22)) (at StringOffset 1 16)
unfolding unit_header initial_length_at number_at spelled between after_code kind_in form_rows abbreviations_at uleb_at text_in ends_in offset_of
    field_of role_of value_of value_at
text-fails =
    no_text (info_section (info_of 16 4 1 22)) (header_up_to 20) tables 0 paths_abbreviation (text_spec 27) 16 (offset_value 22 16)
    (record { number = 3; bytes = path_texts })
    (record {
      unit = record {
        before = [];
        behind = [];
        sections = refl;
        list = [];
        start = 0;
        units = no_units;
        is = record { header = refl; whole = refl; within = leb-true _ _ refl };
      };
      declares = record { here = refl; is = paths-table };
    })
    (record {
      items = [];
      start = 11;
      depth = 0;
      scans = starts;
      nth = refl;
      code = 1;
      size = 1;
      spells = refl;
      some = eqb-false _ _ refl;
      listed = refl;
      before = text_spec 3 ∷ [];
      behind = [];
      attribute = refl;
      values = more_values [] (text_spec 3) 12 (offset_value 0 12) no_values refl;
      is = refl;
    })
    refl refl refl

-- the files with these debug data
abbrev other_version : List ℕ
other_version = changed 68 (5 ∷ []) one_unit

abbrev odd_addresses : List ℕ
odd_addresses = changed 62 (3 ∷ []) of_32_bits

abbrev late_unit : List ℕ
late_unit = changed 64 (17 ∷ []) one_unit

abbrev byte_behind : List ℕ
byte_behind = changed 264 (21 ∷ []) one_unit

abbrev unlisted_code : List ℕ
unlisted_code = changed 75 (2 ∷ []) one_unit

abbrev late_value : List ℕ
late_value = changed 64 (15 ∷ []) one_unit

abbrev unended_text : List ℕ
unended_text = changed 80 (22 ∷ []) one_unit

data-of :
    (file_data other_version ≡ with_info Little (info_of 16 5 1 13))
    × (file_data odd_addresses ≡ with_info Big big_info)
    × (file_data late_unit ≡ with_info Little (info_of 17 4 1 13))
    × (file_data byte_behind ≡ with_info Little (info_of 16 4 1 13 ++ 1 ∷ []))
    × (file_data unlisted_code ≡ with_info Little (info_of 16 4 2 13))
    × (file_data late_value ≡ with_info Little (info_of 15 4 1 13))
    × (file_data unended_text ≡ with_info Little (info_of 16 4 1 22))
unfolding spelled e_type e_phnum e_phoff e_phentsize e_shoff e_shentsize e_shnum e_shstrndx class_of order_of nth_section section_at section_count
    name_index name_table section_name contents_of contents_at text_in ends_in debug_section is_listed view_of view_section section_after
    section_named section_bytes debug_data located unit_sections macro_sections
    relocations_of relocation_section relocates relocates_read view_relocations
data-of = (refl, refl, refl, refl, refl, refl, refl)

data_fails : (b : List ℕ) (d : DebugData) (r : Refusal) → file_data b ≡ d → DataFails d r → DataFails (file_data b) r
data_fails b d r same f = subst (λ (x : DebugData). DataFails x r) (sym same) f

text_fails : (b : List ℕ) (d : DebugData) (r : Refusal) → file_data b ≡ d → TextFails d r → TextFails (file_data b) r
text_fails b d r same f = subst (λ (x : DebugData). TextFails x r) (sym same) f

pub data-refused :
    EditFails worked_map other_version (at UnitKind 1 0)
    × EditFails worked_map odd_addresses (at UnitKind 1 0)
    × EditFails worked_map late_unit (at UnitKind 1 0)
    × EditFails worked_map byte_behind (at UnitKind 1 20)
    × EditFails worked_map unlisted_code (at Entry 1 11)
    × EditFails worked_map late_value (at Entry 1 16)
    × EditFails worked_map unended_text (at StringOffset 1 16)
unfolding spelled e_type e_phnum e_phoff e_phentsize e_shoff e_shentsize e_shnum e_shstrndx class_of order_of nth_section section_at section_count
    name_index name_table section_name contents_of contents_at text_in ends_in debug_section is_listed elf_test names_test segments_of
    nth_segment segment_at sections_of part_of is_fixed fixed_end padding
data-refused = (
  file (units (elf-sound _ refl) (data_fails other_version _ _ data-of.0 units-fail.0)),
  file (units (elf-sound _ refl) (data_fails odd_addresses _ _ data-of.1 units-fail.1)),
  file (units (elf-sound _ refl) (data_fails late_unit _ _ data-of.2 units-fail.2)),
  file (units (elf-sound _ refl) (data_fails byte_behind _ _ data-of.3 units-fail.3)),
  file (units (elf-sound _ refl) (data_fails unlisted_code _ _ data-of.4 entries-fail.0)),
  file (units (elf-sound _ refl) (data_fails late_value _ _ data-of.5 entries-fail.1)),
  file (texts (elf-sound _ refl) (text_fails unended_text _ _ data-of.6 text-fails)),
)

-- the last section is loaded, so that all before it stays: .debug_info and .debug_str would have to change
abbrev all_stays : List ℕ
all_stays = changed 432 (2 ∷ []) one_unit

all_stays-data : file_data all_stays ≡ old_data Little 8
unfolding spelled e_type e_phnum e_phoff e_phentsize e_shoff e_shentsize e_shnum e_shstrndx class_of order_of nth_section section_at section_count
    name_index name_table section_name contents_of contents_at text_in ends_in debug_section is_listed view_of view_section section_after
    section_named section_bytes debug_data located unit_sections macro_sections
    relocations_of relocation_section relocates relocates_read view_relocations
all_stays-data = refl

all_stays-reads : FileReads all_stays (old_readings Little 8)
unfolding spelled e_type e_phnum e_phoff e_phentsize e_shoff e_shentsize e_shnum e_shstrndx class_of order_of nth_section section_at section_count
    name_index name_table section_name contents_of contents_at text_in ends_in debug_section is_listed elf_test names_test segments_of
    nth_segment segment_at sections_of part_of is_fixed fixed_end padding
all_stays-reads = file-reads all_stays (old_data Little 8) (old_readings Little 8) all_stays-data refl refl refl one-old_reads

all_stays-kind : is_loaded_kind all_stays ≡ true
unfolding spelled e_type order_of
all_stays-kind = refl

all_stays-body : (i : ℕ) → file_body worked_map all_stays (old_readings Little 8) i ≡ body_in (paths_bodies Little 8) (contents_of all_stays) i
unfolding new_body
all_stays-body i =
    file_body-loaded worked_map all_stays (old_readings Little 8) i all_stays-kind
    ∙ ap (λ (d : DebugData). body_in (new_bodies worked_map d (old_readings Little 8)) (contents_of all_stays) i) all_stays-data
    ∙ ap (λ (xs : List Body). body_in xs (contents_of all_stays) i) one_unit-bodies

pub output-refused : EditFails worked_map all_stays (at Fixed 1 0) × EditFails worked_map all_stays (at Fixed 3 0)
unfolding spelled e_type e_phnum e_phoff e_phentsize e_shoff e_shentsize e_shnum e_shstrndx class_of order_of nth_section section_at section_count
    name_index name_table section_name contents_of contents_at text_in ends_in debug_section is_listed elf_test names_test segments_of
    nth_segment segment_at sections_of part_of is_fixed fixed_end padding role_of kind_in form_rows between after_code unit_header initial_length_at number_at abbreviations_at uleb_at offset_of field_of
output-refused = (
  output (old_readings Little 8) all_stays-reads (record { inline = ((tt, (tt, (tt, (tt, tt)))), tt); slots = tt })
      (section_row 1 (ltb-true _ _ refl) (changed_row (record { stays = refl; body = λ same. other_offset (sym (all_stays-body 1) ∙ same) }))),
  output (old_readings Little 8) all_stays-reads (record { inline = ((tt, (tt, (tt, (tt, tt)))), tt); slots = tt })
      (section_row 3 (ltb-true _ _ refl) (changed_row (record { stays = refl; body = λ same. longer (sym (all_stays-body 3) ∙ same) }))),
)
  where
    other_offset : body_in (paths_bodies Little 8) (contents_of all_stays) 1 ≡ contents_of all_stays 1 → ⊥
    other_offset e = let no : 21 ≡ 13 = ap (λ (xs : List ℕ). slice_index xs 16) e in absurd (eqb-false 21 13 refl no)

    longer : body_in (paths_bodies Little 8) (contents_of all_stays) 3 ≡ contents_of all_stays 3 → ⊥
    longer e = let no : 38 ≡ 22 = ap length e in absurd (eqb-false 38 22 refl no)

-- of the shared object: a section that is loaded begins in the file header; and one that isn't lies across the end of a segment
abbrev in_front : List ℕ
in_front = changed 344 (60 ∷ []) with_a_segment

abbrev cut_by_segment : List ℕ
cut_by_segment = changed 96 (150 ∷ []) with_a_segment

places-data : (file_data in_front ≡ data_in 3 0 13 path_texts) × (file_data cut_by_segment ≡ data_in 3 0 13 path_texts)
unfolding spelled e_type e_phnum e_phoff e_phentsize e_shoff e_shentsize e_shnum e_shstrndx class_of order_of nth_section section_at section_count
    name_index name_table section_name contents_of contents_at text_in ends_in debug_section is_listed view_of view_section section_after
    section_named section_bytes debug_data located unit_sections macro_sections padding
    relocations_of relocation_section relocates relocates_read view_relocations
places-data = (refl, refl)

places-reads : FileReads in_front (readings_in 3 0 13 path_texts) × FileReads cut_by_segment (readings_in 3 0 13 path_texts)
unfolding spelled e_type e_phnum e_phoff e_phentsize e_shoff e_shentsize e_shnum e_shstrndx class_of order_of nth_section section_at section_count
    name_index name_table section_name contents_of contents_at text_in ends_in debug_section is_listed elf_test names_test segments_of
    nth_segment segment_at sections_of part_of is_fixed fixed_end padding
places-reads = (
  file-reads in_front (data_in 3 0 13 path_texts) (readings_in 3 0 13 path_texts) places-data.0 refl refl refl with_a_segment-old_reads,
  file-reads cut_by_segment (data_in 3 0 13 path_texts) (readings_in 3 0 13 path_texts) places-data.1 refl refl refl with_a_segment-old_reads,
)

pub across-refused : EditFails worked_map cut_by_segment (at Fixed 5 0)
unfolding spelled e_type e_phnum e_phoff e_phentsize e_shoff e_shentsize e_shnum e_shstrndx class_of order_of nth_section section_at section_count
    name_index name_table section_name contents_of contents_at text_in ends_in debug_section is_listed elf_test names_test segments_of
    nth_segment segment_at sections_of part_of is_fixed fixed_end padding role_of kind_in form_rows between after_code unit_header initial_length_at number_at abbreviations_at uleb_at offset_of field_of
across-refused =
    output (readings_in 3 0 13 path_texts) places-reads.1 (record { inline = ((tt, (tt, (tt, (tt, tt)))), tt); slots = tt })
    (section_row 5 (ltb-true _ _ refl)
    (across (record { bytes = refl; alloc = refl; begins = ltb-true _ _ refl; ends = ltb-true _ _ refl })))

pub in_header-refused : EditFails worked_map in_front (at Fixed 1 0)
unfolding spelled e_type e_phnum e_phoff e_phentsize e_shoff e_shentsize e_shnum e_shstrndx class_of order_of nth_section section_at section_count
    name_index name_table section_name contents_of contents_at text_in ends_in debug_section is_listed elf_test names_test segments_of
    nth_segment segment_at sections_of part_of is_fixed fixed_end padding role_of kind_in form_rows between after_code unit_header initial_length_at number_at abbreviations_at uleb_at offset_of field_of
in_header-refused =
    output (readings_in 3 0 13 path_texts) places-reads.0 (record { inline = ((tt, (tt, (tt, (tt, tt)))), tt); slots = tt })
    (section_row 1 (ltb-true _ _ refl)
    (in_header (record { loaded = refl; bytes = refl; some = eqb-false _ _ refl; begins = ltb-true _ _ refl })))

-- where sections, units or texts have a row, a file means nothing
pub names-meaningless : (b : List ℕ) (r : Refusal) → DebugSectionsFail b r → (x : Meaning) → Means b x → ⊥
names-meaningless b r f x h = debug_sections_exclude b r h.reads.names f

pub data-meaningless : (b : List ℕ) (r : Refusal) → DataFails (file_data b) r → (x : Meaning) → Means b x → ⊥
data-meaningless b r f x h = data-excludes (file_data b) h.readings r h.reads.data_reads f

pub texts-meaningless : (b : List ℕ) (r : Refusal) → TextFails (file_data b) r → (x : Meaning) → Means b x → ⊥
texts-meaningless b r f x h = texts-exclude (file_data b) h.readings r h.reads.data_reads f

pub unknown_name-meaningless : (x : Meaning) → Means (changed 150 (codes "xyz") one_unit) x → ⊥
unknown_name-meaningless x h = names-meaningless _ _ names-fail.1 x h

pub second_name-meaningless : (x : Meaning) → Means (changed 296 (1 ∷ []) one_unit) x → ⊥
second_name-meaningless x h = names-meaningless _ _ names-fail.2 x h

pub compressed-meaningless : (x : Meaning) → Means (changed 369 (8 ∷ []) one_unit) x → ⊥
compressed-meaningless x h = names-meaningless _ _ names-fail.3 x h

pub late_unit-meaningless : (x : Meaning) → Means late_unit x → ⊥
late_unit-meaningless x h = data-meaningless late_unit _ (data_fails late_unit _ _ data-of.2 units-fail.2) x h

pub unlisted_code-meaningless : (x : Meaning) → Means unlisted_code x → ⊥
unlisted_code-meaningless x h = data-meaningless unlisted_code _ (data_fails unlisted_code _ _ data-of.4 entries-fail.0) x h

pub late_value-meaningless : (x : Meaning) → Means late_value x → ⊥
late_value-meaningless x h = data-meaningless late_value _ (data_fails late_value _ _ data-of.5 entries-fail.1) x h

pub unended_text-meaningless : (x : Meaning) → Means unended_text x → ⊥
unended_text-meaningless x h = texts-meaningless unended_text _ (text_fails unended_text _ _ data-of.6 text-fails) x h
