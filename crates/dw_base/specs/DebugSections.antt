-- The sections of debug data, as one table (DWARF 5, Appendix B; of `.debug_types` DWARF 4, Appendix B; gABI ch. 4
-- "Special Sections"). A section that is read is a variant of `DebugSection` and a row; one that is carried as it is, a name.
use Rattle.std.specs.Prelude.{Bool, true, false, ℕ, codes, if◌then◌else◌, List, [], ◌∷◌, ◌++◌, map, Option, Some, None}
use Rattle.dw_base.specs.SectionNames.{debug_info, debug_abbrev, debug_str, index_in}
use Rattle.dw_base.specs.Texts.{is_in, same_text}
use Rattle.dw_base.specs.declared.debug_sections.DebugSection.{DebugSection}
use Rattle.dw_base.specs.declared.debug_sections.DebugSection.TheVariants.{Info, Types, Abbrev, Str, LineStr, StrOffsets, Line, Macro, Names}

-- a row: the section's name; a file that is edited may get other bytes for it; places in it may change then; a relocatable file
-- may have several, one for each group of sections (gABI ch. 4 "Section Groups")
pub record SectionRow : Type 0 where
  pub name : List ℕ
  pub rewritten : Bool
  pub moves : Bool
  pub repeats : Bool

-- the table of the sections that are read
abbrev pub row_of : DebugSection → SectionRow
row_of Info = record { name = debug_info; rewritten = true; moves = false; repeats = true }
row_of Types = record { name = codes ".debug_types"; rewritten = true; moves = false; repeats = true }
row_of Abbrev = record { name = debug_abbrev; rewritten = false; moves = false; repeats = false }
row_of Str = record { name = debug_str; rewritten = true; moves = true; repeats = false }
row_of LineStr = record { name = codes ".debug_line_str"; rewritten = true; moves = true; repeats = false }
row_of StrOffsets = record { name = codes ".debug_str_offsets"; rewritten = true; moves = false; repeats = false }
row_of Line = record { name = codes ".debug_line"; rewritten = true; moves = true; repeats = false }
row_of Macro = record { name = codes ".debug_macro"; rewritten = true; moves = false; repeats = true }
row_of Names = record { name = codes ".debug_names"; rewritten = true; moves = false; repeats = false }

-- the name of a section that is read
abbrev pub name_of : DebugSection → List ℕ
name_of s = (row_of s).name

-- the sections that are read, in the order of the table
abbrev pub read_sections : List DebugSection
read_sections = Info ∷ Types ∷ Abbrev ∷ Str ∷ LineStr ∷ StrOffsets ∷ Line ∷ Macro ∷ Names ∷ []

-- the names of the sections that are carried as they are
abbrev pub carried_names : List (List ℕ)
carried_names =
    codes ".debug_aranges"
    ∷ codes ".debug_pubnames"
    ∷ codes ".debug_pubtypes"
    ∷ codes ".debug_gnu_pubnames"
    ∷ codes ".debug_gnu_pubtypes"
    ∷ codes ".debug_ranges"
    ∷ codes ".debug_rnglists"
    ∷ codes ".debug_loc"
    ∷ codes ".debug_loclists"
    ∷ codes ".debug_addr"
    ∷ codes ".debug_frame"
    ∷ codes ".debug_macinfo"
    ∷ codes ".debug_gdb_scripts"
    ∷ []

-- the first section of a list that has a name
abbrev pub section_in : List DebugSection → List ℕ → Option DebugSection
section_in [] name = None
section_in (s ∷ ss) name = if same_text name (name_of s) then Some s else section_in ss name

-- which section that is read a name is; none where it is no such section's
unfoldable pub debug_section : List ℕ → Option DebugSection
debug_section name = section_in read_sections name

-- all names that a section of debug data may have
abbrev pub listed_names : List (List ℕ)
listed_names = map name_of read_sections ++ carried_names

-- the place of a name among them; how many there are, where it is none of them
unfoldable pub listed_number : List ℕ → ℕ
listed_number name = index_in listed_names name

-- the name is one of them
unfoldable pub is_listed : List ℕ → Bool
is_listed name = is_in listed_names name
