-- Which sections of a file that is split are in the debug file alone: this project's profile, over the sections of gABI
-- ch. 4 "Sections" and "Special Sections".
use Rattle.std.specs.Prelude.{Bool, ℕ, ◌==◌, ◌&&◌, ◌||◌, not, nat_lt, List}
use Rattle.std.specs.List.{list_any}
use Rattle.dw_base.specs.Elf.{nth_section, section_count, section_name, sections_of, name_index}
use Rattle.dw_base.specs.Layout.{is_alloc, is_loaded_kind}
use Rattle.dw_base.specs.SectionNames.{is_debug_only_name}
use Rattle.dw_base.specs.declared.elf_numbers.TheConstants.{SHT_SYMTAB, SHT_STRTAB, SHT_RELA, SHT_REL, SHT_SYMTAB_SHNDX}
use Rattle.dw_base.specs.declared.records.Section.{Section}

-- the section may be dropped: it isn't section 0, not in the image of the running program, and not the section name table
abbrev pub may_drop : List ℕ → ℕ → Bool
may_drop b i = not (i == 0) && not (is_alloc (nth_section b i)) && not (i == name_index b)

-- a symbol table has the section of a number as its string table (`sh_link`)
abbrev pub links_symbols : ℕ → Section → Bool
links_symbols i s = s.kind == SHT_SYMTAB && s.link == i

unfoldable pub names_symbols : List ℕ → ℕ → Bool
names_symbols b i = list_any (links_symbols i) (sections_of b)

-- the section is the string table of a symbol table
abbrev pub is_symbol_strings : List ℕ → ℕ → Bool
is_symbol_strings b i = (nth_section b i).kind == SHT_STRTAB && names_symbols b i

-- the section is dropped for what it is: debug data, a symbol table, or the string table of one
unfoldable pub drops_itself : List ℕ → ℕ → Bool
drops_itself b i =
    may_drop b i
    && (is_debug_only_name (section_name b i) || (nth_section b i).kind == SHT_SYMTAB || is_symbol_strings b i)

-- a number names a section that is dropped for what it is
unfoldable pub names_dropped : List ℕ → ℕ → Bool
names_dropped b n = nat_lt n (section_count b) && drops_itself b n

-- relocations
abbrev pub is_relocations : Section → Bool
is_relocations s = s.kind == SHT_REL || s.kind == SHT_RELA

-- a header links to a section that is dropped, or relocates one (`sh_link`, `sh_info`)
abbrev pub speaks_of_dropped : List ℕ → Section → Bool
speaks_of_dropped b s =
    ((is_relocations s || s.kind == SHT_SYMTAB_SHNDX) && names_dropped b s.link) || (is_relocations s && names_dropped b s.info)

-- the section is dropped with one that it speaks of
unfoldable pub drops_along : List ℕ → ℕ → Bool
drops_along b i = may_drop b i && speaks_of_dropped b (nth_section b i)

-- the section of a file that is loaded is in the debug file alone
unfoldable pub is_droppable : List ℕ → ℕ → Bool
is_droppable b i = is_loaded_kind b && (drops_itself b i || drops_along b i)
