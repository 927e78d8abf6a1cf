-- The file of a stripped file and its debug file: the sections of the debug file, of which those that the stripped file has kept have
-- its bytes; this project's profile of the layout (gABI ch. 4 "ELF Header", "Sections").
use Rattle.std.specs.Prelude.{Bool, ℕ, ◌==◌, ◌&&◌, not, if◌then◌else◌, List, length, slice_index, take}
use Rattle.dw_base.specs.Elf.{class_of, order_of, contents_of, ehdr_size, e_shnum, e_shstrndx, is_empty_kind, name_index, nth_section, section_count, shnum_place, shstrndx_place}
use Rattle.dw_base.specs.Layout.{Part, fixed_end, is_fixed, laid_out}
use Rattle.dw_base.specs.Lists.{tabulate}
use Rattle.dw_base.specs.Numbers.{with_number}
use Rattle.dw_base.specs.declared.records.Section.{Section}
use Rattle.dbg_unstrip.specs.Matching.{is_kept, numbers_below, partner_sections}

-- the place of a section of the debug file among those that were kept: how many of them come before it
abbrev pub kept_place : List ℕ → ℕ → ℕ
kept_place d i = length (numbers_below (is_kept d) i)

-- the section of the stripped file that stands with a kept one
unfoldable pub partner_number : List ℕ → List ℕ → ℕ → ℕ
partner_number s d i = slice_index (partner_sections s) (kept_place d i)

-- a section has its bytes from the stripped file: it was kept, and isn't the section name table, which has the link's name there
abbrev pub comes_from_partner : List ℕ → ℕ → Bool
comes_from_partner d i = is_kept d i && not (i == name_index d)

-- it stays where it is in the stripped file
unfoldable pub stays : List ℕ → List ℕ → ℕ → Bool
stays s d i = comes_from_partner d i && is_fixed s (nth_section s (partner_number s d i))

-- the header of a section, but for the place of one that is laid out: a kept one has its type from the stripped file, and one that
-- stays its place
unfoldable pub joined_head : List ℕ → List ℕ → ℕ → Section
joined_head s d i =
    if is_kept d i
    then record (nth_section d i) {
      kind = (nth_section s (partner_number s d i)).kind;
      offset = if stays s d i then (nth_section s (partner_number s d i)).offset else (nth_section d i).offset;
    }
    else nth_section d i

-- the bytes of a section
unfoldable pub joined_body : List ℕ → List ℕ → ℕ → List ℕ
joined_body s d i = if comes_from_partner d i then contents_of s (partner_number s d i) else contents_of d i

-- a section: one that takes room and doesn't stay is laid out behind the front
unfoldable pub joined_part : List ℕ → List ℕ → ℕ → Part
joined_part s d i = record {
  head = joined_head s d i;
  moves = not (is_empty_kind (joined_head s d i)) && not (stays s d i);
  body = joined_body s d i;
}

-- bytes that begin with the stripped file's header, with the debug file's number of sections and that of its section name table
abbrev pub with_numbers_of : List ℕ → List ℕ → List ℕ → List ℕ
with_numbers_of s d bytes =
    with_number (order_of s) (with_number (order_of s) bytes (shnum_place (class_of s)) 2 (e_shnum d)) (shstrndx_place (class_of s)) 2 (e_shstrndx d)

-- the file header
unfoldable pub joined_header : List ℕ → List ℕ → List ℕ
joined_header s d = with_numbers_of s d (take (ehdr_size (class_of s)) s)

-- the front: what stays of the stripped file, with these numbers
unfoldable pub joined_front : List ℕ → List ℕ → List ℕ
joined_front s d = with_numbers_of s d (take (fixed_end s) s)

-- the file of the two
unfoldable pub joined : List ℕ → List ℕ → List ℕ
joined s d = laid_out (class_of s) (order_of s) (joined_front s d) (tabulate (joined_part s d) (section_count d))
