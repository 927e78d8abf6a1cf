-- The stripped file of a file that is split: the sections that aren't droppable in order, and a link to the debug file
-- (GNU debugging information in separate files); this project's profile of the numbers and the layout.
use Rattle.std.specs.Prelude.{Bool, true, ℕ, zero, suc, ◌+◌, ◌==◌, ◌&&◌, ◌||◌, not, nat_lt, bit_and, if◌then◌else◌, List, [], ◌∷◌, ◌++◌, length, take}
use Rattle.dw_base.specs.Elf.{class_of, order_of, nth_section, section_count, name_index, contents_of, is_empty_kind}
use Rattle.dw_base.specs.Layout.{Part, fixed_end, is_fixed}
use Rattle.dw_base.specs.Parts.{parts_file}
use Rattle.dw_base.specs.SectionNames.{debug_link}
use Rattle.dw_base.specs.declared.elf_numbers.TheConstants.{SHT_PROGBITS, SHF_INFO_LINK}
use Rattle.dw_base.specs.declared.records.Section.{Section}
use Rattle.debug_link.specs.Links.{link_of}
use Rattle.debug_link.specs.Sums.{crc32}
use Rattle.dbg_split.specs.DebugFile.{debug_file}
use Rattle.dbg_split.specs.Droppable.{is_droppable, is_relocations}

-- how many of the first n sections are kept
abbrev pub kept_before : List ℕ → ℕ → ℕ
kept_before b zero = 0
kept_before b (suc n) = if is_droppable b n then kept_before b n else kept_before b n + 1

-- the new number of a section; 0 of one that is dropped, and a number that names no section stays
unfoldable pub new_number : List ℕ → ℕ → ℕ
new_number b n = if nat_lt n (section_count b) then (if is_droppable b n then 0 else kept_before b n) else n

-- the info field is the number of a section (gABI ch. 4 "Sections", `sh_info`, `SHF_INFO_LINK`)
abbrev pub info_is_number : Section → Bool
info_is_number s = is_relocations s || not (bit_and s.flags SHF_INFO_LINK == 0)

-- the header of a kept section, with the new numbers
unfoldable pub stripped_head : List ℕ → Section → Section
stripped_head b s = record s {
  link = new_number b s.link;
  info = if info_is_number s then new_number b s.info else s.info;
}

-- the contents of a kept section; the section name table has the name of the link behind its own
unfoldable pub stripped_body : List ℕ → ℕ → List ℕ
stripped_body b i = if i == name_index b then contents_of b i ++ (debug_link ++ 0 ∷ []) else contents_of b i

-- the section is laid out anew
abbrev pub stripped_moves : List ℕ → ℕ → Bool
stripped_moves b i = not (is_fixed b (nth_section b i)) && not (is_empty_kind (nth_section b i))

-- a kept section
unfoldable pub stripped_part : List ℕ → ℕ → Part
stripped_part b i = record {
  head = stripped_head b (nth_section b i);
  moves = stripped_moves b i;
  body = if stripped_moves b i then stripped_body b i else [];
}

-- those of the first n sections that are kept
abbrev pub kept_parts : List ℕ → ℕ → List Part
kept_parts b zero = []
kept_parts b (suc n) = if is_droppable b n then kept_parts b n else kept_parts b n ++ stripped_part b n ∷ []

-- the header of the link; its name is the one behind those that the section name table has
unfoldable pub link_head : List ℕ → Section
link_head b = record {
  name = length (contents_of b (name_index b));
  kind = SHT_PROGBITS;
  flags = 0;
  addr = 0;
  offset = 0;
  size = 0;
  link = 0;
  info = 0;
  align = 4;
  entry_size = 0;
}

abbrev pub link_part : List ℕ → List ℕ → Part
link_part b link = record { head = link_head b; moves = true; body = link }

-- all sections of the stripped file
unfoldable pub stripped_parts : List ℕ → List ℕ → List Part
stripped_parts b link = kept_parts b (section_count b) ++ link_part b link ∷ []

-- the stripped file with a link of these contents; what is loaded stays at its place
unfoldable pub stripped_with : List ℕ → List ℕ → List ℕ
stripped_with b link =
    parts_file (class_of b) (order_of b) (take (fixed_end b) b) (stripped_parts b link) (new_number b (name_index b))

-- the stripped file that links to the debug file by its base name
unfoldable pub stripped_file : List ℕ → List ℕ → List ℕ
stripped_file b name = stripped_with b (link_of (order_of b) name (crc32 (debug_file b)))
