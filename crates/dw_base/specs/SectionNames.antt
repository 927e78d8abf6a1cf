-- Sections by name (gABI ch. 4 "Special Sections"; DWARF 5, Appendix B).
use Rattle.std.specs.Prelude.{Bool, ℕ, suc, codes, nat_eq, ◌||◌, if◌then◌else◌, List, [], ◌∷◌}
use Rattle.std.specs.List.{starts_with}
use Rattle.dw_base.specs.Elf.{section_count, section_name, contents_of}
use Rattle.dw_base.specs.Lists.{tabulate}
use Rattle.dw_base.specs.Texts.{is_in, same_text}

-- units with their entries
abbrev pub debug_info : List ℕ
debug_info = codes ".debug_info"

-- tables of abbreviations
abbrev pub debug_abbrev : List ℕ
debug_abbrev = codes ".debug_abbrev"

-- texts that values name by an offset
abbrev pub debug_str : List ℕ
debug_str = codes ".debug_str"

-- what the name of each section of debug data begins with
abbrev pub debug_prefix : List ℕ
debug_prefix = codes ".debug_"

-- the index of GDB, which is made of debug data
abbrev pub gdb_index : List ℕ
gdb_index = codes ".gdb_index"

-- the name of a section of debug data, or of the index of GDB
abbrev pub is_debug_only_name : List ℕ → Bool
is_debug_only_name name = starts_with nat_eq name debug_prefix || same_text name gdb_index

-- what the name of a section of compressed debug data of the older kind begins with
abbrev pub zdebug_prefix : List ℕ
zdebug_prefix = codes ".zdebug_"

-- the link to a supplementary file
abbrev pub debug_altlink : List ℕ
debug_altlink = codes ".gnu_debugaltlink"

-- the link from a stripped file to its debug file
abbrev pub debug_link : List ℕ
debug_link = codes ".gnu_debuglink"

-- the note with the build-id
abbrev pub note_build_id : List ℕ
note_build_id = codes ".note.gnu.build-id"

-- the names of the sections, in order
unfoldable pub names_of : List ℕ → List (List ℕ)
names_of b = tabulate (section_name b) (section_count b)

-- the place of the first text of a list that is this one, the list's length where none is
abbrev pub index_in : List (List ℕ) → List ℕ → ℕ
index_in [] t = 0
index_in (u ∷ us) t = if same_text u t then 0 else suc (index_in us t)

-- the number of the first section of a name
unfoldable pub section_called : List ℕ → List ℕ → ℕ
section_called b name = index_in (names_of b) name

-- the bytes of the first section of a name, none where there is none
unfoldable pub contents_called : List ℕ → List ℕ → List ℕ
contents_called b name = if is_in (names_of b) name then contents_of b (section_called b name) else []
