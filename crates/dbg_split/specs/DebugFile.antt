-- The debug file of a file that is split: all its sections under their numbers, of which those that the stripped file keeps
-- are of type NOBITS (gABI ch. 4 "Sections", `SHT_NOBITS`); GNU debugging information in separate files; this project's profile
-- of which keep their bytes.
use Rattle.std.specs.Prelude.{Bool, ℕ, zero, suc, ◌+◌, ◌*◌, ◌==◌, ◌&&◌, not, if◌then◌else◌, List, ◌++◌, take, drop}
use Rattle.dw_base.specs.Elf.{class_of, order_of, word_size, ehdr_size, phdr_size, phoff_place, e_phoff, e_phnum, nth_section, section_count, name_index, contents_of, is_empty_kind}
use Rattle.dw_base.specs.Layout.{Part, is_alloc, laid_out}
use Rattle.dw_base.specs.Lists.{tabulate}
use Rattle.dw_base.specs.Numbers.{with_number}
use Rattle.dw_base.specs.declared.elf_numbers.TheConstants.{SHT_NULL, SHT_NOTE, SHT_NOBITS}
use Rattle.dw_base.specs.declared.records.Section.{Section}
use Rattle.dw_base.specs.declared.shared.Class.{Class}
use Rattle.dw_base.specs.declared.shared.Class.TheVariants.{C32, C64}
use Rattle.dw_base.specs.declared.shared.Order.{Order}
use Rattle.dbg_split.specs.Droppable.{is_droppable}

-- where a program header has the size of the segment in the file (gABI ch. 5 "Program Header", `p_filesz`)
abbrev pub filesz_place : Class → ℕ
filesz_place C32 = 16
filesz_place C64 = 32

-- a table of program headers of which the first n have no bytes in the file
abbrev pub without_bytes : Class → Order → ℕ → List ℕ → List ℕ
without_bytes class order zero table = table
without_bytes class order (suc n) table =
    with_number order (without_bytes class order n table) (n * phdr_size class + filesz_place class) (word_size class) 0

-- where the program headers of the debug file stand: behind the file header, 0 where there are none
abbrev pub phoff_of_debug : List ℕ → ℕ
phoff_of_debug b = if e_phnum b == 0 then 0 else ehdr_size (class_of b)

-- the file header, with that place
unfoldable pub debug_header : List ℕ → List ℕ
debug_header b = with_number (order_of b) (take (ehdr_size (class_of b)) b) (phoff_place (class_of b)) (word_size (class_of b)) (phoff_of_debug b)

-- the program headers
unfoldable pub phdr_table : List ℕ → List ℕ
phdr_table b = take (e_phnum b * phdr_size (class_of b)) (drop (e_phoff b) b)

-- the front of the debug file: file header and program headers, these without bytes in the file
unfoldable pub debug_front : List ℕ → List ℕ
debug_front b = debug_header b ++ without_bytes (class_of b) (order_of b) (e_phnum b) (phdr_table b)

-- the section has no bytes in the debug file: it is kept in the stripped file, and neither NULL, the section name table nor
-- an ALLOC note
unfoldable pub becomes_nobits : List ℕ → ℕ → Bool
becomes_nobits b i =
    not (is_droppable b i) && not ((nth_section b i).kind == SHT_NULL) && not (i == name_index b)
    && not (is_alloc (nth_section b i) && (nth_section b i).kind == SHT_NOTE)

-- the header of a section in the debug file, but for its place
unfoldable pub debug_head : List ℕ → ℕ → Section
debug_head b i = if becomes_nobits b i then record (nth_section b i) { kind = SHT_NOBITS } else nth_section b i

-- a section of the debug file: those that take room are laid out behind the front with their bytes
unfoldable pub debug_part : List ℕ → ℕ → Part
debug_part b i = record {
  head = debug_head b i;
  moves = not (is_empty_kind (debug_head b i));
  body = contents_of b i;
}

-- the debug file; the number of sections, that of the section name table, and section 0 are as they were
unfoldable pub debug_file : List ℕ → List ℕ
debug_file b = laid_out (class_of b) (order_of b) (debug_front b) (tabulate (debug_part b) (section_count b))
