-- Files written from parts: a front that is given whole, and sections with their headers; this project's profile. A number
-- of sections of 0xff00 or more, and such a number of the section name table, stand in section 0 (gABI ch. 4 "ELF Header",
-- `e_shnum`, `e_shstrndx`).
use Rattle.std.specs.Prelude.{true, false, ◌≡◌, ◌≢◌, ℕ, ◌+◌, ◌<◌, ◌≤◌, nat_lt, if◌then◌else◌, List, [], ◌∷◌, length, take, slice_index_or}
use Rattle.std.specs.Int.{is_power_of_two}
use Rattle.dw_base.specs.Elf.{class_of, order_of, ehdr_size, word_size, shoff_place, shnum_place, shstrndx_place, e_shoff, is_empty_kind, nth_section, section_count, name_index, contents_at, contents_of}
use Rattle.dw_base.specs.ElfFails.{HeaderReads, ShapeReads, SegmentTableReads, SegmentsRead, ElfReads}
use Rattle.dw_base.specs.Fields.{FieldsFit}
use Rattle.dw_base.specs.Layout.{Part, laid_out, shdr_fields}
use Rattle.dw_base.specs.Numbers.{with_number}
use Rattle.dw_base.specs.Texts.{ends_in}
use Rattle.dw_base.specs.declared.shared.Order.{Order}
use Rattle.dw_base.specs.declared.shared.Class.{Class}
use Rattle.dw_base.specs.declared.records.Section.{Section}
use Rattle.dw_base.specs.declared.elf_numbers.TheConstants.{SHT_NULL, SHT_STRTAB, SHN_LORESERVE, SHN_XINDEX}

-- what section 0 has of a number: the number itself, where it is 0xff00 or more
abbrev pub in_section_0 : ℕ → ℕ
in_section_0 n = if nat_lt n SHN_LORESERVE then 0 else n

-- what the file header has of a number, and what stands there for one that is kept in section 0
abbrev pub in_header : ℕ → ℕ → ℕ
in_header elsewhere n = if nat_lt n SHN_LORESERVE then n else elsewhere

-- section 0 with the number of sections and that of the section name table
abbrev pub numbered_head : ℕ → ℕ → Section → Section
numbered_head count names s = record s { size = in_section_0 count; link = in_section_0 names }

abbrev pub numbered : ℕ → ℕ → Part → Part
numbered count names p = record p { head = numbered_head count names p.head }

abbrev pub numbered_first : ℕ → ℕ → List Part → List Part
numbered_first count names [] = []
numbered_first count names (p ∷ ps) = numbered count names p ∷ ps

-- a front with the number of sections and that of the section name table in its file header
unfoldable pub numbered_front : Class → Order → List ℕ → ℕ → ℕ → List ℕ
numbered_front class order front count names =
    with_number order (with_number order front (shnum_place class) 2 (in_header 0 count)) (shstrndx_place class) 2 (in_header SHN_XINDEX names)

-- the file of a front and parts
unfoldable pub parts_file : Class → Order → List ℕ → List Part → ℕ → List ℕ
parts_file class order front parts names =
    laid_out class order (numbered_front class order front (length parts) names) (numbered_first (length parts) names parts)

-- what a part holds: its body where it is laid out anew, else its bytes in the front, of which type NULL and NOBITS have none
unfoldable pub part_contents : List ℕ → Part → List ℕ
part_contents front p = if p.moves then p.body else contents_at front p.head

-- the front begins with a whole file header of this class and order, each number of a header fits its field, and a part
-- that isn't laid out anew lies in the front behind the file header, where it has bytes
pub record FitParts (class : Class) (order : Order) (front : List ℕ) (parts : List Part) (names : ℕ) : Type 0 where
  pub header : ehdr_size class ≤ length front
  pub class_is : class_of front ≡ class
  pub order_is : order_of front ≡ order
  pub named : names < length parts
  pub null : (d : Part) → (slice_index_or parts 0 d).head.kind ≡ SHT_NULL
  pub fields : (i : ℕ) (d : Part) → i < length parts → FieldsFit (shdr_fields class (slice_index_or parts i d).head)
  pub behind : (i : ℕ) (d : Part) → i < length parts → (slice_index_or parts i d).moves ≡ false → is_empty_kind (slice_index_or parts i d).head ≡ false
      → (slice_index_or parts i d).head.size ≢ 0 → ehdr_size class ≤ (slice_index_or parts i d).head.offset
  pub lie : (i : ℕ) (d : Part) → i < length parts → (slice_index_or parts i d).moves ≡ false → is_empty_kind (slice_index_or parts i d).head ≡ false
      → (slice_index_or parts i d).head.size ≢ 0 → (slice_index_or parts i d).head.offset + (slice_index_or parts i d).head.size ≤ length front

-- the header of the part of a number is its head, but for size and link of part 0, and place and size of one that is laid
-- out anew
pub record IsPartHead (i : ℕ) (p : Part) (new : Section) : Type 0 where
  pub name : new.name ≡ p.head.name
  pub kind : new.kind ≡ p.head.kind
  pub flags : new.flags ≡ p.head.flags
  pub addr : new.addr ≡ p.head.addr
  pub offset : p.moves ≡ false → new.offset ≡ p.head.offset
  pub size : 0 < i → p.moves ≡ false → new.size ≡ p.head.size
  pub link : 0 < i → new.link ≡ p.head.link
  pub info : new.info ≡ p.head.info
  pub align : new.align ≡ p.head.align
  pub entry_size : new.entry_size ≡ p.head.entry_size

-- the front reads as that of a file with sections: its file header and its program headers do, and each segment with bytes
-- ends in it
pub record FrontReads (front : List ℕ) : Type 0 where
  pub header : HeaderReads front
  pub sections : e_shoff front ≢ 0
  pub shape : ShapeReads front
  pub segment_table : SegmentTableReads front
  pub segments : SegmentsRead front

-- the parts read as sections: each alignment is 0 or a power of two, the section name table is a string table, and each name
-- ends in it
pub record PartsRead (front : List ℕ) (parts : List Part) (names : ℕ) : Type 0 where
  pub align : (i : ℕ) (d : Part) → i < length parts → (slice_index_or parts i d).head.align ≢ 0
      → is_power_of_two (slice_index_or parts i d).head.align ≡ true
  pub strings : (d : Part) → names ≢ 0 → (slice_index_or parts names d).head.kind ≡ SHT_STRTAB
  pub ends : (i : ℕ) (d : Part) → i < length parts → names ≢ 0
      → ends_in (part_contents front (slice_index_or parts names d)) (slice_index_or parts i d).head.name ≡ true

-- the file `out` has these parts as sections, in the class and order, and the name table of this number: a part that is
-- laid out anew has the size of its body, and stands behind the front. What stands in the front is as it was, but for the
-- numbers of sections and of the name table and the place of the section headers; and it reads as a file where front and
-- parts read
pub record PartsReadBack (class : Class) (order : Order) (front : List ℕ) (parts : List Part) (names : ℕ) (out : List ℕ) : Type 0 where
  pub class_is : class_of out ≡ class
  pub order_is : order_of out ≡ order
  pub count : section_count out ≡ length parts
  pub named : name_index out ≡ names
  pub heads : (i : ℕ) (d : Part) → i < length parts → IsPartHead i (slice_index_or parts i d) (nth_section out i)
  pub contents : (i : ℕ) (d : Part) → i < length parts → contents_of out i ≡ part_contents front (slice_index_or parts i d)
  pub size : (i : ℕ) (d : Part) → i < length parts → (slice_index_or parts i d).moves ≡ true
      → (nth_section out i).size ≡ length (slice_index_or parts i d).body
  pub behind : (i : ℕ) (d : Part) → i < length parts → (slice_index_or parts i d).moves ≡ true → length front ≤ (nth_section out i).offset
  pub front_is : take (length front) out
      ≡ with_number order (numbered_front class order front (length parts) names) (shoff_place class) (word_size class) (e_shoff out)
  pub reads : FrontReads front → PartsRead front parts names → ElfReads out
