-- The layout of a file that is written with new section bodies: this project's profile. What is loaded
-- stays at its place; other sections are laid one after another behind it, and the section headers last.
use Rattle.std.specs.Prelude.{Bool, ℕ, ◌+◌, ◌-◌, ◌*◌, ◌%◌, ◌^◌, ◌==◌, ◌&&◌, ◌||◌, not, max, nat_le, bit_and, replicate, filter, map, if◌then◌else◌, List, [], ◌∷◌, ◌++◌, length, take}
use Rattle.dw_base.specs.Elf.{class_of, order_of, word_size, ehdr_size, shoff_place, e_type, e_phoff, e_phnum, phdr_size, nth_section, section_count, sections_of, segments_of, is_empty_kind}
use Rattle.dw_base.specs.Fields.{FieldOf, fields_bytes}
use Rattle.dw_base.specs.Lists.{tabulate}
use Rattle.dw_base.specs.Numbers.{with_number}
use Rattle.dw_base.specs.declared.shared.Order.{Order}
use Rattle.dw_base.specs.declared.shared.Class.{Class}
use Rattle.dw_base.specs.declared.shared.Class.TheVariants.{C32, C64}
use Rattle.dw_base.specs.declared.records.Section.{Section}
use Rattle.dw_base.specs.declared.records.Segment.{Segment}
use Rattle.dw_base.specs.declared.elf_numbers.TheConstants.{ET_EXEC, ET_DYN, SHF_ALLOC}

-- the longest file that is read, in bytes
abbrev pub file_limit : ℕ
file_limit = 2 ^ 30

-- the longest file that is written, in bytes
abbrev pub output_limit : ℕ
output_limit = 2 ^ 31

-- the flag ALLOC is set: the section is in the image of the running program
abbrev pub is_alloc : Section → Bool
is_alloc s = not (bit_and s.flags SHF_ALLOC == 0)

-- the greatest number of a list, at least the first
abbrev pub greatest : ℕ → List ℕ → ℕ
greatest n [] = n
greatest n (x ∷ xs) = greatest (max n x) xs

-- the file is one that is loaded as it stands
abbrev pub is_loaded_kind : List ℕ → Bool
is_loaded_kind b = e_type b == ET_EXEC || e_type b == ET_DYN

-- the end of the program headers, 0 where there are none
abbrev pub segment_table_end : List ℕ → ℕ
segment_table_end b = if e_phnum b == 0 then 0 else e_phoff b + e_phnum b * phdr_size (class_of b)

-- the ends of all segments with file bytes
abbrev pub segment_ends : List Segment → List ℕ
segment_ends segments = map (λ (s : Segment). s.offset + s.filesz) (filter (λ (s : Segment). not (s.filesz == 0)) segments)

-- the ends of all ALLOC sections that have bytes in the file
abbrev pub alloc_ends : List Section → List ℕ
alloc_ends sections =
    map (λ (s : Section). s.offset + s.size)
    (filter (λ (s : Section). is_alloc s && not (is_empty_kind s) && not (s.size == 0)) sections)

-- the end of the part of the file that stays: behind the headers and all that is loaded
unfoldable pub fixed_end : List ℕ → ℕ
fixed_end b =
    if is_loaded_kind b
    then greatest (ehdr_size (class_of b)) (segment_table_end b ∷ segment_ends (segments_of b) ++ alloc_ends (sections_of b))
    else ehdr_size (class_of b)

-- the section stays at its place: it is ALLOC, or ends at or before the fixed end, in a file that is loaded
unfoldable pub is_fixed : List ℕ → Section → Bool
is_fixed b s = is_loaded_kind b && (is_alloc s || nat_le (s.offset + s.size) (fixed_end b))

-- zeros up to the next multiple of an alignment, of which 0 counts as none
unfoldable pub padding : ℕ → ℕ → ℕ
padding place align = if align == 0 then 0 else (if place % align == 0 then 0 else align - place % align)

-- a section to be written: its header as it was, whether it is laid out anew, and its body
pub record Part : Type 0 where
  pub head : Section
  pub moves : Bool
  pub body : List ℕ

-- the bytes of a section that is laid out behind others: zeros up to its place, and its body
unfoldable pub placed : ℕ → Part → List ℕ
placed place p = replicate (padding place p.head.align) 0 ++ p.body

-- the bytes so far with one more section
abbrev pub extended : List ℕ → Part → List ℕ
extended out p = if p.moves then out ++ placed (length out) p else out

-- the front, and then each section that is laid out anew, in order
abbrev pub laid : List ℕ → List Part → List ℕ
laid out [] = out
laid out (p ∷ ps) = laid (extended out p) ps

-- the header of a section that is written behind so many bytes: one that is laid out anew has a new place and size
unfoldable pub new_head : ℕ → Part → Section
new_head place p =
    if p.moves then record p.head { offset = place + padding place p.head.align; size = length p.body } else p.head

-- the new headers, in order
abbrev pub new_heads : List ℕ → List Part → List Section
new_heads out [] = []
new_heads out (p ∷ ps) = new_head (length out) p ∷ new_heads (extended out p) ps

-- the numbers of a section header with their sizes, in order (`Elf32_Shdr`, `Elf64_Shdr`)
abbrev pub shdr_fields : Class → Section → List FieldOf
shdr_fields C32 s =
    (4, s.name) ∷ (4, s.kind) ∷ (4, s.flags) ∷ (4, s.addr) ∷ (4, s.offset) ∷ (4, s.size) ∷ (4, s.link) ∷ (4, s.info)
    ∷ (4, s.align) ∷ (4, s.entry_size) ∷ []
shdr_fields C64 s =
    (4, s.name) ∷ (4, s.kind) ∷ (8, s.flags) ∷ (8, s.addr) ∷ (8, s.offset) ∷ (8, s.size) ∷ (4, s.link) ∷ (4, s.info)
    ∷ (8, s.align) ∷ (8, s.entry_size) ∷ []

-- a section header as bytes
unfoldable pub shdr_bytes : Class → Order → Section → List ℕ
shdr_bytes class order s = fields_bytes order (shdr_fields class s)

-- section headers as bytes, one after another
abbrev pub shdrs_bytes : Class → Order → List Section → List ℕ
shdrs_bytes class order [] = []
shdrs_bytes class order (s ∷ ss) = shdr_bytes class order s ++ shdrs_bytes class order ss

-- the bytes before the section headers: those laid so far, and zeros up to a multiple of the class's word
unfoldable pub before_table : Class → List ℕ → List ℕ
before_table class out = out ++ replicate (padding (length out) (word_size class)) 0

-- the file of the bytes laid so far and section headers: these stand behind, and their place is put into the file header
unfoldable pub with_table : Class → Order → List ℕ → List Section → List ℕ
with_table class order out heads =
    with_number order (before_table class out ++ shdrs_bytes class order heads)
    (shoff_place class) (word_size class) (length (before_table class out))

-- the file of a front and sections: the front, the sections laid out behind it, and their new headers
unfoldable pub laid_out : Class → Order → List ℕ → List Part → List ℕ
laid_out class order front parts = with_table class order (laid front parts) (new_heads front parts)

-- a section of a file as it is to be written, with the body that is given for its number
unfoldable pub part_of : List ℕ → (ℕ → List ℕ) → ℕ → Part
part_of b bodies i = record {
  head = nth_section b i;
  moves = not (is_empty_kind (nth_section b i)) && not (is_fixed b (nth_section b i));
  body = bodies i;
}

-- the file written with new bodies, one for each section number; a file without sections stays as it is
unfoldable pub with_bodies : List ℕ → (ℕ → List ℕ) → List ℕ
with_bodies b bodies =
    if section_count b == 0 then b
    else laid_out (class_of b) (order_of b) (take (fixed_end b) b) (tabulate (part_of b bodies) (section_count b))
