-- The records of an ELF file, as functions of its bytes (gABI ch. 4 "ELF Header", "Sections"; ch. 5 "Program Header").
use Rattle.std.specs.Prelude.{Bool, ℕ, ◌+◌, ◌*◌, ◌==◌, ◌||◌, if◌then◌else◌, List, [], take, drop}
use Rattle.dw_base.specs.Lists.{tabulate}
use Rattle.dw_base.specs.Numbers.{spelled}
use Rattle.dw_base.specs.Texts.{text_in}
use Rattle.dw_base.specs.declared.shared.Order.{Order}
use Rattle.dw_base.specs.declared.shared.Order.TheVariants.{Little, Big}
use Rattle.dw_base.specs.declared.shared.Class.{Class}
use Rattle.dw_base.specs.declared.shared.Class.TheVariants.{C32, C64}
use Rattle.dw_base.specs.declared.records.FileKind.{FileKind}
use Rattle.dw_base.specs.declared.records.FileKind.TheVariants.{Rel, Exec, Dyn, Other}
use Rattle.dw_base.specs.declared.records.Section.{Section}
use Rattle.dw_base.specs.declared.records.Segment.{Segment}
use Rattle.dw_base.specs.declared.elf_numbers.TheConstants.{ET_REL, ET_EXEC, ET_DYN, SHT_NULL, SHT_NOBITS, SHN_XINDEX}

-- the class, by `e_ident[EI_CLASS]`: 2 is 64 bits
unfoldable pub class_of : List ℕ → Class
class_of b = if spelled Little b 4 1 == 2 then C64 else C32

-- the byte order, by `e_ident[EI_DATA]`: 2 is the highest byte first
unfoldable pub order_of : List ℕ → Order
order_of b = if spelled Little b 5 1 == 2 then Big else Little

-- the size of an address or an offset, in bytes
abbrev pub word_size : Class → ℕ
word_size C32 = 4
word_size C64 = 8

-- the size of the file header, in bytes
abbrev pub ehdr_size : Class → ℕ
ehdr_size C32 = 52
ehdr_size C64 = 64

-- the size of a program header, in bytes
abbrev pub phdr_size : Class → ℕ
phdr_size C32 = 32
phdr_size C64 = 56

-- the size of a section header, in bytes
abbrev pub shdr_size : Class → ℕ
shdr_size C32 = 40
shdr_size C64 = 64

-- where the fields of the file header lie whose places differ by class
abbrev pub phoff_place : Class → ℕ
phoff_place C32 = 28
phoff_place C64 = 32

abbrev pub shoff_place : Class → ℕ
shoff_place C32 = 32
shoff_place C64 = 40

abbrev pub phentsize_place : Class → ℕ
phentsize_place C32 = 42
phentsize_place C64 = 54

abbrev pub phnum_place : Class → ℕ
phnum_place C32 = 44
phnum_place C64 = 56

abbrev pub shentsize_place : Class → ℕ
shentsize_place C32 = 46
shentsize_place C64 = 58

abbrev pub shnum_place : Class → ℕ
shnum_place C32 = 48
shnum_place C64 = 60

abbrev pub shstrndx_place : Class → ℕ
shstrndx_place C32 = 50
shstrndx_place C64 = 62

-- a half word of the file header
abbrev pub half_at : List ℕ → ℕ → ℕ
half_at b place = spelled (order_of b) b place 2

-- an offset in the file header
abbrev pub word_at : List ℕ → ℕ → ℕ
word_at b place = spelled (order_of b) b place (word_size (class_of b))

unfoldable pub e_type : List ℕ → ℕ
e_type b = half_at b 16

unfoldable pub e_machine : List ℕ → ℕ
e_machine b = half_at b 18

unfoldable pub e_phoff : List ℕ → ℕ
e_phoff b = word_at b (phoff_place (class_of b))

unfoldable pub e_shoff : List ℕ → ℕ
e_shoff b = word_at b (shoff_place (class_of b))

unfoldable pub e_phentsize : List ℕ → ℕ
e_phentsize b = half_at b (phentsize_place (class_of b))

unfoldable pub e_phnum : List ℕ → ℕ
e_phnum b = half_at b (phnum_place (class_of b))

unfoldable pub e_shentsize : List ℕ → ℕ
e_shentsize b = half_at b (shentsize_place (class_of b))

unfoldable pub e_shnum : List ℕ → ℕ
e_shnum b = half_at b (shnum_place (class_of b))

unfoldable pub e_shstrndx : List ℕ → ℕ
e_shstrndx b = half_at b (shstrndx_place (class_of b))

-- what a file is, by `e_type`
unfoldable pub file_kind : List ℕ → FileKind
file_kind b =
    if e_type b == ET_REL then Rel else
    (if e_type b == ET_EXEC then Exec else
    (if e_type b == ET_DYN then Dyn else Other (e_type b)))

-- the section header at a place (`Elf32_Shdr`, `Elf64_Shdr`)
unfoldable pub section_at : Class → Order → List ℕ → ℕ → Section
section_at C32 order b place = record {
  name = spelled order b place 4;
  kind = spelled order b (place + 4) 4;
  flags = spelled order b (place + 8) 4;
  addr = spelled order b (place + 12) 4;
  offset = spelled order b (place + 16) 4;
  size = spelled order b (place + 20) 4;
  link = spelled order b (place + 24) 4;
  info = spelled order b (place + 28) 4;
  align = spelled order b (place + 32) 4;
  entry_size = spelled order b (place + 36) 4;
}
section_at C64 order b place = record {
  name = spelled order b place 4;
  kind = spelled order b (place + 4) 4;
  flags = spelled order b (place + 8) 8;
  addr = spelled order b (place + 16) 8;
  offset = spelled order b (place + 24) 8;
  size = spelled order b (place + 32) 8;
  link = spelled order b (place + 40) 4;
  info = spelled order b (place + 44) 4;
  align = spelled order b (place + 48) 8;
  entry_size = spelled order b (place + 56) 8;
}

-- the program header at a place (`Elf32_Phdr`, `Elf64_Phdr`)
unfoldable pub segment_at : Class → Order → List ℕ → ℕ → Segment
segment_at C32 order b place = record {
  kind = spelled order b place 4;
  flags = spelled order b (place + 24) 4;
  offset = spelled order b (place + 4) 4;
  vaddr = spelled order b (place + 8) 4;
  paddr = spelled order b (place + 12) 4;
  filesz = spelled order b (place + 16) 4;
  memsz = spelled order b (place + 20) 4;
  align = spelled order b (place + 28) 4;
}
segment_at C64 order b place = record {
  kind = spelled order b place 4;
  flags = spelled order b (place + 4) 4;
  offset = spelled order b (place + 8) 8;
  vaddr = spelled order b (place + 16) 8;
  paddr = spelled order b (place + 24) 8;
  filesz = spelled order b (place + 32) 8;
  memsz = spelled order b (place + 40) 8;
  align = spelled order b (place + 48) 8;
}

-- the section of a number, counted from 0
unfoldable pub nth_section : List ℕ → ℕ → Section
nth_section b i = section_at (class_of b) (order_of b) b (e_shoff b + i * shdr_size (class_of b))

-- the segment of a number, counted from 0
unfoldable pub nth_segment : List ℕ → ℕ → Segment
nth_segment b i = segment_at (class_of b) (order_of b) b (e_phoff b + i * phdr_size (class_of b))

-- how many sections there are: none without a table; where `e_shnum` is 0, as many as the size of section 0 says
unfoldable pub section_count : List ℕ → ℕ
section_count b =
    if e_shoff b == 0 then 0 else
    (if e_shnum b == 0 then (nth_section b 0).size else e_shnum b)

-- the number of the section name table, 0 where there is none; where `e_shstrndx` is SHN_XINDEX, the link of section 0
unfoldable pub name_index : List ℕ → ℕ
name_index b =
    if e_shoff b == 0 then 0 else
    (if e_shstrndx b == SHN_XINDEX then (nth_section b 0).link else e_shstrndx b)

-- the sections, in order
unfoldable pub sections_of : List ℕ → List Section
sections_of b = tabulate (nth_section b) (section_count b)

-- the segments, in order
unfoldable pub segments_of : List ℕ → List Segment
segments_of b = tabulate (nth_segment b) (e_phnum b)

-- the section takes no room in the file
abbrev pub is_empty_kind : Section → Bool
is_empty_kind s = s.kind == SHT_NULL || s.kind == SHT_NOBITS

-- the bytes of a section: none of type NULL and NOBITS
unfoldable pub contents_at : List ℕ → Section → List ℕ
contents_at b s = if is_empty_kind s then [] else take s.size (drop s.offset b)

-- the bytes of the section of a number
unfoldable pub contents_of : List ℕ → ℕ → List ℕ
contents_of b i = contents_at b (nth_section b i)

-- the section name table: empty where there is none
unfoldable pub name_table : List ℕ → List ℕ
name_table b = if name_index b == 0 then [] else contents_of b (name_index b)

-- the name of the section of a number
unfoldable pub section_name : List ℕ → ℕ → List ℕ
section_name b i = text_in (name_table b) (nth_section b i).name
