-- What is wrong with an ELF file: the refusals of kinds Header and Range. Each constructor is a row, named by what is
-- wrong, and its conclusion has the place that the refusal names. A group of rows counts only where what it rests on
-- reads; beside each group stands the record of what holds where no row of it does.
use Rattle.std.specs.Prelude.{true, false, ◌≡◌, ◌≢◌, ℕ, ◌+◌, ◌*◌, ◌<◌, ◌≤◌, ◌==◌, ◌||◌, List, length, IsTrue}
use Rattle.std.specs.Int.{is_power_of_two}
use Rattle.dw_base.specs.Elf.{class_of, ehdr_size, phdr_size, shdr_size, phoff_place, shoff_place, phentsize_place, phnum_place, shentsize_place, shnum_place, shstrndx_place, e_type, e_phoff, e_shoff, e_phentsize, e_phnum, e_shentsize, nth_section, nth_segment, section_count, name_index, name_table, is_empty_kind}
use Rattle.dw_base.specs.Numbers.{spelled}
use Rattle.dw_base.specs.Refusals.{at}
use Rattle.dw_base.specs.Texts.{ends_in}
use Rattle.dw_base.specs.declared.fault.Kind.TheVariants.{Header, Range}
use Rattle.dw_base.specs.declared.fault.Refusal.{Refusal}
use Rattle.dw_base.specs.declared.records.Section.{Section}
use Rattle.dw_base.specs.declared.records.Segment.{Segment}
use Rattle.dw_base.specs.declared.shared.Order.TheVariants.{Little}
use Rattle.dw_base.specs.declared.elf_numbers.TheConstants.{EI_CLASS, EI_DATA, EI_VERSION, ELFMAG, ELFCLASS32, ELFCLASS64, ELFDATA2LSB, ELFDATA2MSB, EV_CURRENT, ET_REL, PN_XNUM, SHT_NULL, SHT_STRTAB}

-- one byte of the identification
abbrev pub ident_byte : List ℕ → ℕ → ℕ
ident_byte b i = spelled Little b i 1

-- the file is too short for a file header, or its identification is none
-- (gABI ch. 4 "ELF Header", "ELF Identification")
pub data HeaderFails (b : List ℕ) : Refusal → Type 0 where
  short : length b < ehdr_size (class_of b) → HeaderFails b (at Header 0 0)
  magic : spelled Little b 0 4 ≢ ELFMAG → HeaderFails b (at Header 0 0)
  class : EI_CLASS < length b → ident_byte b EI_CLASS ≢ ELFCLASS32 → ident_byte b EI_CLASS ≢ ELFCLASS64 → HeaderFails b (at Header 0 EI_CLASS)
  order : EI_DATA < length b → ident_byte b EI_DATA ≢ ELFDATA2LSB → ident_byte b EI_DATA ≢ ELFDATA2MSB → HeaderFails b (at Header 0 EI_DATA)
  version : EI_VERSION < length b → ident_byte b EI_VERSION ≢ EV_CURRENT → HeaderFails b (at Header 0 EI_VERSION)

pub record HeaderReads (b : List ℕ) : Type 0 where
  pub whole : ehdr_size (class_of b) ≤ length b
  pub magic : spelled Little b 0 4 ≡ ELFMAG
  pub class : IsTrue (ident_byte b EI_CLASS == ELFCLASS32 || ident_byte b EI_CLASS == ELFCLASS64)
  pub order : IsTrue (ident_byte b EI_DATA == ELFDATA2LSB || ident_byte b EI_DATA == ELFDATA2MSB)
  pub version : ident_byte b EI_VERSION ≡ EV_CURRENT

-- the sizes and places of the two tables don't fit the file (gABI ch. 4 "ELF Header")
pub data ShapeFails (b : List ℕ) : Refusal → Type 0 where
  shentsize : e_shoff b ≢ 0 → e_shentsize b ≢ shdr_size (class_of b) → ShapeFails b (at Header 0 (shentsize_place (class_of b)))
  phentsize : e_phnum b ≢ 0 → e_phentsize b ≢ phdr_size (class_of b) → ShapeFails b (at Header 0 (phentsize_place (class_of b)))
  phoff : e_shoff b ≢ 0 → e_phnum b ≢ 0 → e_phoff b < ehdr_size (class_of b) → ShapeFails b (at Header 0 (phoff_place (class_of b)))
  many : e_phnum b ≡ PN_XNUM → ShapeFails b (at Header 0 (phnum_place (class_of b)))
  rel : e_type b ≡ ET_REL → e_phnum b ≢ 0 → ShapeFails b (at Header 0 (phnum_place (class_of b)))

pub record ShapeReads (b : List ℕ) : Type 0 where
  pub shentsize : e_shoff b ≢ 0 → e_shentsize b ≡ shdr_size (class_of b)
  pub phentsize : e_phnum b ≢ 0 → e_phentsize b ≡ phdr_size (class_of b)
  pub phoff : e_shoff b ≢ 0 → e_phnum b ≢ 0 → ehdr_size (class_of b) ≤ e_phoff b
  pub many : e_phnum b ≢ PN_XNUM
  pub rel : e_type b ≡ ET_REL → e_phnum b ≡ 0

-- the program header table passes the end of the file (gABI ch. 5 "Program Header")
pub data SegmentTableFails (b : List ℕ) : Refusal → Type 0 where
  past : e_phnum b ≢ 0 → length b < e_phoff b + e_phnum b * phdr_size (class_of b) → SegmentTableFails b (at Range 0 (e_phoff b))

pub record SegmentTableReads (b : List ℕ) : Type 0 where
  pub lies : e_phnum b ≢ 0 → e_phoff b + e_phnum b * phdr_size (class_of b) ≤ length b

-- the section header table passes the end of the file; section 0, which may count the others, is in it
-- (gABI ch. 4 "Sections")
pub data TableFails (b : List ℕ) : Refusal → Type 0 where
  first : e_shoff b ≢ 0 → length b < e_shoff b + shdr_size (class_of b) → TableFails b (at Range 0 (e_shoff b))
  past : e_shoff b ≢ 0 → length b < e_shoff b + section_count b * shdr_size (class_of b) → TableFails b (at Range 0 (e_shoff b))

pub record TableReads (b : List ℕ) : Type 0 where
  pub first : e_shoff b ≢ 0 → e_shoff b + shdr_size (class_of b) ≤ length b
  pub lies : e_shoff b ≢ 0 → e_shoff b + section_count b * shdr_size (class_of b) ≤ length b

-- the sections' number, section 0, and the section of names (gABI ch. 4 "ELF Header", "Sections", "Special Sections").
-- Where a file is to be split, it must also have sections and names; that row is among those of splitting.
pub data IndexFails (b : List ℕ) : Refusal → Type 0 where
  none : e_shoff b ≢ 0 → section_count b ≡ 0 → IndexFails b (at Header 0 (shnum_place (class_of b)))
  null : e_shoff b ≢ 0 → (nth_section b 0).kind ≢ SHT_NULL → IndexFails b (at Header 0 (shoff_place (class_of b)))
  absent : name_index b ≢ 0 → section_count b ≤ name_index b → IndexFails b (at Header 0 (shstrndx_place (class_of b)))
  strings : name_index b ≢ 0 → (nth_section b (name_index b)).kind ≢ SHT_STRTAB → IndexFails b (at Header 0 (shstrndx_place (class_of b)))

pub record IndexReads (b : List ℕ) : Type 0 where
  pub some : e_shoff b ≢ 0 → section_count b ≢ 0
  pub null : e_shoff b ≢ 0 → (nth_section b 0).kind ≡ SHT_NULL
  pub there : name_index b ≢ 0 → name_index b < section_count b
  pub strings : name_index b ≢ 0 → (nth_section b (name_index b)).kind ≡ SHT_STRTAB

-- a section, of a number, passes the end of the file, or has no alignment (gABI ch. 4 "Sections")
pub data PlaceFails (b : List ℕ) (s : Section) (i : ℕ) : Refusal → Type 0 where
  past : is_empty_kind s ≡ false → s.size ≢ 0 → length b < s.offset + s.size → PlaceFails b s i (at Range i 0)
  align : s.align ≢ 0 → is_power_of_two s.align ≡ false → PlaceFails b s i (at Range i 0)

pub record PlaceReads (b : List ℕ) (s : Section) : Type 0 where
  pub lies : is_empty_kind s ≡ false → s.size ≢ 0 → s.offset + s.size ≤ length b
  pub align : s.align ≢ 0 → is_power_of_two s.align ≡ true

-- the section name table, where there is one, is a string table that lies in the file
pub record NameTableReads (b : List ℕ) : Type 0 where
  pub there : name_index b ≢ 0 → name_index b < section_count b
  pub strings : name_index b ≢ 0 → (nth_section b (name_index b)).kind ≡ SHT_STRTAB
  pub lies : name_index b ≢ 0 → (nth_section b (name_index b)).size ≢ 0
      → (nth_section b (name_index b)).offset + (nth_section b (name_index b)).size ≤ length b

-- a section can't be read, or its name has no NUL in the name table (gABI ch. 4 "Sections", "String Table")
pub data SectionFails (b : List ℕ) (s : Section) (i : ℕ) : Refusal → Type 0 where
  place : {r : Refusal} → PlaceFails b s i r → SectionFails b s i r
  unended : NameTableReads b → name_index b ≢ 0 → ends_in (name_table b) s.name ≡ false
      → SectionFails b s i (at Range i s.name)

pub record SectionReads (b : List ℕ) (s : Section) : Type 0 where
  pub place : PlaceReads b s
  pub name : name_index b ≢ 0 → ends_in (name_table b) s.name ≡ true

-- some section can't be read
pub data SectionsFail (b : List ℕ) : Refusal → Type 0 where
  one : (i : ℕ) {r : Refusal} → i < section_count b → SectionFails b (nth_section b i) i r → SectionsFail b r

pub record SectionsRead (b : List ℕ) : Type 0 where
  pub all : (i : ℕ) → i < section_count b → SectionReads b (nth_section b i)

-- a segment with bytes in the file passes its end (gABI ch. 5 "Program Header")
pub data SegmentFails (b : List ℕ) : Refusal → Type 0 where
  past : (i : ℕ) → i < e_phnum b → (nth_segment b i).filesz ≢ 0 → length b < (nth_segment b i).offset + (nth_segment b i).filesz
      → SegmentFails b (at Range 0 (e_phoff b + i * phdr_size (class_of b)))

pub record SegmentReads (b : List ℕ) (s : Segment) : Type 0 where
  pub lies : s.filesz ≢ 0 → s.offset + s.filesz ≤ length b

pub record SegmentsRead (b : List ℕ) : Type 0 where
  pub all : (i : ℕ) → i < e_phnum b → SegmentReads b (nth_segment b i)

-- every row but the one on segments past the end: a file of debug data may name segments that it doesn't have
pub data DebugFails (b : List ℕ) : Refusal → Type 0 where
  header : {r : Refusal} → HeaderFails b r → DebugFails b r
  shape : {r : Refusal} → HeaderReads b → ShapeFails b r → DebugFails b r
  segment_table : {r : Refusal} → HeaderReads b → SegmentTableFails b r → DebugFails b r
  table : {r : Refusal} → HeaderReads b → TableFails b r → DebugFails b r
  index : {r : Refusal} → HeaderReads b → TableReads b → IndexFails b r → DebugFails b r
  section : {r : Refusal} → HeaderReads b → TableReads b → SectionsFail b r → DebugFails b r

pub record DebugReads (b : List ℕ) : Type 0 where
  pub header : HeaderReads b
  pub shape : ShapeReads b
  pub segment_table : SegmentTableReads b
  pub table : TableReads b
  pub index : IndexReads b
  pub sections : SectionsRead b

-- every row
pub data ElfFails (b : List ℕ) : Refusal → Type 0 where
  debug : {r : Refusal} → DebugFails b r → ElfFails b r
  segment : {r : Refusal} → HeaderReads b → SegmentTableReads b → SegmentFails b r → ElfFails b r

pub record ElfReads (b : List ℕ) : Type 0 where
  pub debug : DebugReads b
  pub segments : SegmentsRead b
