-- Whether the records of a small file read, and the names of its sections, as tests that compute; and what follows of its
-- output and its meaning. For worked files.
use Rattle.std.proofs.Common.{◌≡◌, ℕ, ◌+◌, ◌*◌, ◌==◌, Bool, true, false, ◌||◌, not, List, [], ◌∷◌, length, sym, ap, ◌∙◌, subst}
use Rattle.std.specs.Prelude.{bit_and, nat_lt, nat_le}
use Rattle.std.specs.Int.{is_power_of_two}
use Rattle.std.proofs.lemmas.Bool.{eqb-true, ltb-true, leb-true, not-true, eq-eqb}
use Rattle.dw_base.specs.Elf.{class_of, ehdr_size, phdr_size, shdr_size, e_type, e_phoff, e_shoff, e_phentsize, e_phnum, e_shentsize, nth_section, nth_segment, section_count, section_name, name_index, name_table, is_empty_kind, contents_of}
use Rattle.dw_base.specs.ElfFails.{ident_byte, HeaderReads, ShapeReads, SegmentTableReads, TableReads, IndexReads, SectionReads, SegmentReads, ElfReads}
use Rattle.dw_base.specs.Numbers.{spelled}
use Rattle.dw_base.specs.Texts.{ends_in, same_text}
use Rattle.dw_base.specs.declared.records.Section.{Section}
use Rattle.dw_base.specs.declared.shared.Order.TheVariants.{Little}
use Rattle.dw_base.specs.declared.elf_numbers.TheConstants.{EI_CLASS, EI_DATA, EI_VERSION, ELFMAG, ELFCLASS32, ELFCLASS64, ELFDATA2LSB, ELFDATA2MSB, EV_CURRENT, ET_REL, PN_XNUM, SHT_NULL, SHT_STRTAB, SHF_COMPRESSED}
use Rattle.dw_base.specs.DebugSectionFails.{is_active, is_debug_name, is_zdebug_name, is_supplementary_name, is_split_name, NameReads, IsSecond, DebugSectionsRead}
use Rattle.dw_base.specs.DebugSections.{is_listed}
use Rattle.dw_base.specs.Layout.{is_loaded_kind, with_bodies}
use Rattle.dw_base.specs.DebugData.{DebugData, around_of, line_source}
use Rattle.dw_base.specs.MacroMeanings.{MacroMeaning, macro_meanings}
use Rattle.dw_base.specs.MacroReadings.{MacroReading}
use Rattle.dw_base.specs.LineMeanings.{LineMeaning, line_meanings}
use Rattle.dw_base.specs.LineReadings.{LineReading}
use Rattle.dw_base.specs.DebugData.{DataReadings}
use Rattle.dw_base.specs.NamePieces.{NameState}
use Rattle.dw_base.specs.OffsetPieces.{OffsetState}
use Rattle.dw_base.specs.Pieces.{Piece}
use Rattle.dw_base.specs.SlotTexts.{NamePart, slot_texts, name_parts}
use Rattle.dw_base.specs.ViewData.{located}
use Rattle.dw_base.specs.declared.debug_sections.DebugSection.TheVariants.{Str}
use Rattle.dw_base.specs.FileViews.{view_of}
use Rattle.dw_base.specs.Paths.{PathMap}
use Rattle.dw_base.specs.UnitMeanings.{UnitMeaning, units_of}
use Rattle.dw_base.specs.ViewData.{NamedBytes, Meaning, other_sections, without_id, bytes_named, meaning_of, mapped}
use Rattle.dw_meaning.specs.DataOutput.{DataReads, Body, new_bodies, body_in}
use Rattle.dw_meaning.specs.FileMeanings.{file_body, file_data, FileReads, Means, MeaningKept, new_body, output_of}
use Rattle.dw_meaning.proofs.DataOneLaws.{means-one}
use Rattle.dw_meaning.proofs.PlainFileLaws.{relocations-read}
use Rattle.dw_meaning.proofs.RelocatedBodyLaws.{file_body-loaded}
use Rattle.dw_base.proofs.ReadsBackLaws.{with_bodies-same}
use Rattle.dw_base.proofs.TextLaws.{same_text-from}
use Rattle.dw_meaning.proofs.PlainTests.{passes, AllTrue, passes-true, all_below, is_plain_alignment, differs, below-true, align-sound, other-true, unless_zero, where_true}

-- the tests of the file header
abbrev pub ident_rules : List ℕ → List Bool
ident_rules b =
    nat_le (ehdr_size (class_of b)) (length b) ∷ (spelled Little b 0 4 == ELFMAG)
    ∷ (ident_byte b EI_CLASS == ELFCLASS32 || ident_byte b EI_CLASS == ELFCLASS64)
    ∷ (ident_byte b EI_DATA == ELFDATA2LSB || ident_byte b EI_DATA == ELFDATA2MSB) ∷ (ident_byte b EI_VERSION == EV_CURRENT) ∷ []

-- the tests of the sizes and places of the two tables
abbrev pub shape_rules : List ℕ → List Bool
shape_rules b =
    (e_shoff b == 0 || e_shentsize b == shdr_size (class_of b)) ∷ (e_phnum b == 0 || e_phentsize b == phdr_size (class_of b))
    ∷ (e_shoff b == 0 || (e_phnum b == 0 || nat_le (ehdr_size (class_of b)) (e_phoff b))) ∷ not (e_phnum b == PN_XNUM)
    ∷ (not (e_type b == ET_REL) || e_phnum b == 0) ∷ []

-- the tests of where the two tables lie
abbrev pub extent_rules : List ℕ → List Bool
extent_rules b =
    (e_phnum b == 0 || nat_le (e_phoff b + e_phnum b * phdr_size (class_of b)) (length b))
    ∷ (e_shoff b == 0 || nat_le (e_shoff b + shdr_size (class_of b)) (length b))
    ∷ (e_shoff b == 0 || nat_le (e_shoff b + section_count b * shdr_size (class_of b)) (length b)) ∷ []

-- the tests of the sections' number, section 0, and the section of names
abbrev pub index_rules : List ℕ → List Bool
index_rules b =
    (e_shoff b == 0 || not (section_count b == 0)) ∷ (e_shoff b == 0 || (nth_section b 0).kind == SHT_NULL)
    ∷ (name_index b == 0 || nat_lt (name_index b) (section_count b))
    ∷ (name_index b == 0 || (nth_section b (name_index b)).kind == SHT_STRTAB) ∷ []

-- the tests of a section: its place, its alignment, and its name
abbrev pub section_rules : List ℕ → Section → List Bool
section_rules b s =
    (is_empty_kind s || (s.size == 0 || nat_le (s.offset + s.size) (length b))) ∷ is_plain_alignment s.align
    ∷ (name_index b == 0 || ends_in (name_table b) s.name) ∷ []

abbrev pub is_section : List ℕ → Section → Bool
is_section b s = passes (section_rules b s)

-- a segment's place
abbrev pub is_segment : List ℕ → ℕ → Bool
is_segment b i = (nth_segment b i).filesz == 0 || nat_le ((nth_segment b i).offset + (nth_segment b i).filesz) (length b)

-- the records of the file read
abbrev pub elf_rules : List ℕ → List Bool
elf_rules b =
    passes (ident_rules b) ∷ passes (shape_rules b) ∷ passes (extent_rules b) ∷ passes (index_rules b)
    ∷ all_below (λ i. is_section b (nth_section b i)) (section_count b) ∷ all_below (is_segment b) (e_phnum b) ∷ []

unfoldable pub elf_test : List ℕ → Bool
elf_test b = passes (elf_rules b)

pub header_reads-sound : (b : List ℕ) → AllTrue (ident_rules b) → HeaderReads b
header_reads-sound b t = record {
  whole = leb-true _ _ t.0;
  magic = eqb-true _ _ t.1.0;
  class = t.1.1.0;
  order = t.1.1.1.0;
  version = eqb-true _ _ t.1.1.1.1.0;
}

shape_reads-sound : (b : List ℕ) → AllTrue (shape_rules b) → ShapeReads b
shape_reads-sound b t = record {
  shentsize = λ some. eqb-true _ _ (unless_zero _ _ t.0 some);
  phentsize = λ some. eqb-true _ _ (unless_zero _ _ t.1.0 some);
  phoff = λ some more. leb-true _ _ (unless_zero _ _ (unless_zero (e_shoff b) _ t.1.1.0 some) more);
  many = differs _ _ t.1.1.1.0;
  rel = λ e. eqb-true _ _ (where_true (e_type b == ET_REL) (e_phnum b == 0) t.1.1.1.1.0 (eq-eqb _ _ e));
}

segment_table_reads-sound : (b : List ℕ) → AllTrue (extent_rules b) → SegmentTableReads b
segment_table_reads-sound b t = record { lies = λ some. leb-true _ _ (unless_zero _ _ t.0 some) }

table_reads-sound : (b : List ℕ) → AllTrue (extent_rules b) → TableReads b
table_reads-sound b t = record {
  first = λ some. leb-true _ _ (unless_zero _ _ t.1.0 some);
  lies = λ some. leb-true _ _ (unless_zero _ _ t.1.1.0 some);
}

index_reads-sound : (b : List ℕ) → AllTrue (index_rules b) → IndexReads b
index_reads-sound b t = record {
  some = λ there. differs _ _ (unless_zero (e_shoff b) _ t.0 there);
  null = λ there. eqb-true _ _ (unless_zero (e_shoff b) _ t.1.0 there);
  there = λ some. ltb-true _ _ (unless_zero (name_index b) _ t.1.1.0 some);
  strings = λ some. eqb-true _ _ (unless_zero (name_index b) _ t.1.1.1.0 some);
}

section_reads-sound : (b : List ℕ) (s : Section) → is_section b s ≡ true → SectionReads b s
section_reads-sound b s h =
    let t = passes-true (section_rules b s) h in
    record {
      place = record {
        lies = λ full some. leb-true _ _ (unless_zero s.size _ (other-true (is_empty_kind s) _ t.0 full) some);
        align = λ some. unless_zero s.align (is_power_of_two s.align) (align-sound s.align t.1.0) some;
      };
      name = λ some. unless_zero (name_index b) _ t.1.1.0 some;
    }

segment_reads-sound : (b : List ℕ) (i : ℕ) → is_segment b i ≡ true → SegmentReads b (nth_segment b i)
segment_reads-sound b i h = record { lies = λ some. leb-true _ _ (unless_zero (nth_segment b i).filesz _ h some) }

-- the records of a file read
pub elf-sound : (b : List ℕ) → elf_test b ≡ true → ElfReads b
unfolding elf_test
elf-sound b h =
    let t = passes-true (elf_rules b) h in
    record {
      debug = record {
        header = header_reads-sound b (passes-true (ident_rules b) t.0);
        shape = shape_reads-sound b (passes-true (shape_rules b) t.1.0);
        segment_table = segment_table_reads-sound b (passes-true (extent_rules b) t.1.1.0);
        table = table_reads-sound b (passes-true (extent_rules b) t.1.1.0);
        index = index_reads-sound b (passes-true (index_rules b) t.1.1.1.0);
        sections = record {
          all = λ i lt. section_reads-sound b (nth_section b i)
              (below-true (λ (k : ℕ). is_section b (nth_section b k)) (section_count b) i t.1.1.1.1.0 lt);
        };
      };
      segments = record { all = λ i lt. segment_reads-sound b i (below-true (is_segment b) (e_phnum b) i t.1.1.1.1.1.0 lt) };
    }

-- the tests of the name and the flags of a section that isn't inactive
abbrev pub name_rules : List ℕ → Section → List Bool
name_rules name s =
    (not (is_debug_name name) || bit_and s.flags SHF_COMPRESSED == 0) ∷ not (is_zdebug_name name) ∷ not (is_supplementary_name name)
    ∷ not (is_split_name name) ∷ (not (is_debug_name name) || is_listed name) ∷ []

name_reads-sound : (name : List ℕ) (s : Section) → AllTrue (name_rules name s) → NameReads name s
name_reads-sound name s t = record {
  plain = λ debug. eqb-true _ _ (where_true (is_debug_name name) _ t.0 debug);
  not_zdebug = not-true _ t.1.0;
  not_supplementary = not-true _ t.1.1.0;
  not_split = not-true _ t.1.1.1.0;
  listed = λ debug. where_true (is_debug_name name) _ t.1.1.1.1.0 debug;
}

abbrev pub is_named : List ℕ → ℕ → Bool
is_named b i = not (is_active (nth_section b i)) || passes (name_rules (section_name b i) (nth_section b i))

-- no section before this one has its name, if it is a listed one; of a file that is loaded
abbrev pub is_other_name : List ℕ → ℕ → ℕ → Bool
is_other_name b j i = not (is_listed (section_name b j)) || not (same_text (section_name b i) (section_name b j))

abbrev pub is_once : List ℕ → ℕ → Bool
is_once b j = all_below (is_other_name b j) j

once-sound : (b : List ℕ) (i j : ℕ) → is_once b j ≡ true → IsSecond b i j → ⊥
once-sound b i j h second =
    let test : is_other_name b j i ≡ true = below-true (is_other_name b j) j i h second.before in
    let differ : not (same_text (section_name b i) (section_name b j)) ≡ true = where_true (is_listed (section_name b j)) _ test second.listed in
    let equal : same_text (section_name b i) (section_name b j) ≡ true = same_text-from (section_name b i) (section_name b j) second.same in
    let other : same_text (section_name b i) (section_name b j) ≡ false = not-true _ differ in
    let no : true ≡ false = sym equal ∙ other in
    cc

-- the names of the sections can be read
abbrev pub sections_rules : List ℕ → List Bool
sections_rules b =
    (e_type b == ET_REL || is_loaded_kind b) ∷ all_below (is_named b) (section_count b) ∷ all_below (is_once b) (section_count b)
    ∷ (name_index b == 0 || not (is_listed (section_name b (name_index b)))) ∷ []

unfoldable pub names_test : List ℕ → Bool
names_test b = passes (sections_rules b)

pub names-sound : (b : List ℕ) → names_test b ≡ true → DebugSectionsRead b
unfolding names_test
names-sound b h =
    let t = passes-true (sections_rules b) h in
    record {
      file_type = t.0;
      named = λ i lt active. name_reads-sound (section_name b i) (nth_section b i)
          (passes-true (name_rules (section_name b i) (nth_section b i))
          (where_true (is_active (nth_section b i)) _ (below-true (is_named b) (section_count b) i t.1.0 lt) active));
      once = λ i j lt second. once-sound b i j (below-true (is_once b) (section_count b) j t.1.1.0 lt) second;
      apart = λ some. not-true _ (unless_zero (name_index b) _ t.1.1.1.0 some);
    }

-- so a file can be read, whose debug data are these, which are read so
pub file-reads : (b : List ℕ) (d : DebugData) (r : DataReadings) → file_data b ≡ d → elf_test b ≡ true → is_loaded_kind b ≡ true → names_test b ≡ true
    → DataReads d r → FileReads b r
file-reads b d r same elf kind names reads = record {
  elf = elf-sound b elf;
  names = names-sound b names;
  relocations = relocations-read b kind;
  data_reads = subst (λ (x : DebugData). DataReads x r) (sym same) reads;
}

-- its output has these bodies
pub output-is : (m : PathMap) (b : List ℕ) (d : DebugData) (r : DataReadings) (bodies : List Body) → is_loaded_kind b ≡ true → file_data b ≡ d → new_bodies m d r ≡ bodies
    → output_of m b r ≡ with_bodies b (body_in bodies (contents_of b))
unfolding output_of new_body
output-is m b d r bodies loaded same is =
    with_bodies-same b (file_body m b r) (new_body m b r) (λ i lt. file_body-loaded m b r i loaded)
    ∙ ap (λ (x : DebugData). with_bodies b (body_in (new_bodies m x r) (contents_of b))) same
    ∙ ap (λ (xs : List Body). with_bodies b (body_in xs (contents_of b))) is

-- it means these units, and these bytes by name, where nothing else is read
pub meaning-is : (b : List ℕ) (d : DebugData) (r : DataReadings) (units : List UnitMeaning) (others : List NamedBytes) → file_data b ≡ d → units_of d r ≡ units
    → other_sections (without_id (view_of b).id (view_of b).sections) ≡ others → r.offsets ≡ [] → r.lines ≡ [] → r.macros ≡ []
    → r.names ≡ [] → meaning_of (view_of b) r ≡ record { units = units; slots = []; lines = []; macros = []; names = []; others = bytes_named others }
unfolding meaning_of
meaning-is b d r units others same us os offsets lines macros names =
    ap (λ (x : DebugData). means_with (units_of x r) (slots_of r) (lines_of r) (macros_of r) (names_of r) (sections_of b)) same
    ∙ ap (λ (x : List UnitMeaning). means_with x (slots_of r) (lines_of r) (macros_of r) (names_of r) (sections_of b)) us
    ∙ ap (λ (x : List (Piece OffsetState)). means_with units (slot_texts (view_of b).order (located (view_of b) Str) x) (lines_of r) (macros_of r) (names_of r) (sections_of b)) offsets
    ∙ ap (λ (x : List LineReading). means_with units [] (line_meanings (line_source (file_data b)) x) (macros_of r) (names_of r) (sections_of b)) lines
    ∙ ap (λ (x : List MacroReading). means_with units [] [] (macro_meanings (around_of (file_data b) r) x) (names_of r) (sections_of b)) macros
    ∙ ap (λ (x : List (Piece NameState)). means_with units [] [] [] (name_parts (view_of b).order (located (view_of b) Str) x) (sections_of b)) names
    ∙ ap (λ (x : List NamedBytes). means_with units [] [] [] [] x) os
  where
    means_with : List UnitMeaning → List (List ℕ) → List LineMeaning → List MacroMeaning → List NamePart → List NamedBytes → Meaning
    means_with a s l k n o = record { units = a; slots = s; lines = l; macros = k; names = n; others = bytes_named o }

    slots_of : DataReadings → List (List ℕ)
    slots_of x = slot_texts (view_of b).order (located (view_of b) Str) x.offsets

    lines_of : DataReadings → List LineMeaning
    lines_of x = line_meanings (line_source (file_data b)) x.lines

    macros_of : DataReadings → List MacroMeaning
    macros_of x = macro_meanings (around_of (file_data b) r) x.macros

    names_of : DataReadings → List NamePart
    names_of x = name_parts (view_of b).order (located (view_of b) Str) x.names

    sections_of : List ℕ → List NamedBytes
    sections_of c = other_sections (without_id (view_of c).id (view_of c).sections)

-- and another file keeps that
pub kept-by : (m : PathMap) (b out : List ℕ) (x : Meaning) → Means b x → Means out (mapped m x) → MeaningKept m b out
kept-by m b out x old new = record {
  meaning = x;
  old = old;
  new = new;
  old_one = λ y is. means-one b y x is old;
  new_one = λ y is. means-one out y (mapped m x) is new;
}
