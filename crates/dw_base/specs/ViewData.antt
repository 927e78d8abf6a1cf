-- The debug data of a view, its sections found by their names (DWARF 5, Appendix B), and what a view means: its units, and by
-- name the bytes of the sections that are meant as they stand.
use Rattle.std.specs.Prelude.{Bool, ℕ, zero, suc, ◌||◌, ◌&&◌, not, if◌then◌else◌, List, [], ◌∷◌, ◌++◌, drop, Option, Some, None, true, false}
use Rattle.dw_base.specs.Cells.{Located, CellSection}
use Rattle.dw_base.specs.DebugData.{DebugData, DataReadings, Found, around_of, line_source}
use Rattle.dw_base.specs.DebugSections.{debug_section, name_of}
use Rattle.dw_base.specs.FileViews.{plain_contents, bytes_in, cells_of, ViewSection, View, section_bytes, section_named, view_cells}
use Rattle.dw_base.specs.LineMeanings.{LineMeaning, line_meanings, mapped_lines}
use Rattle.dw_base.specs.MacroMeanings.{MacroMeaning, macro_meanings}
use Rattle.dw_base.specs.MappedSlots.{unit_slots, mapped_slots}
use Rattle.dw_base.specs.MappedUnits.{mapped_units}
use Rattle.dw_base.specs.Notes.{BuildId, zeroed}
use Rattle.dw_base.specs.Paths.{PathMap}
use Rattle.dw_base.specs.SectionNames.{debug_link}
use Rattle.dw_base.specs.SlotTexts.{NamePart, name_parts, slot_texts}
use Rattle.dw_base.specs.Texts.{same_text}
use Rattle.dw_base.specs.UnitHeaders.{UnitSection, SectionKind, in_info, in_types}
use Rattle.dw_base.specs.UnitMeanings.{UnitMeaning, units_of}
use Rattle.dw_base.specs.declared.debug_sections.DebugSection.{DebugSection}
use Rattle.dw_base.specs.declared.debug_sections.DebugSection.TheVariants.{Info, Types, Abbrev, Str, LineStr, StrOffsets, Line, Macro, Names}

-- a section that holds units, by the section that its name is
abbrev pub unit_kind : Option DebugSection → Option SectionKind
unit_kind (Some Info) = Some in_info
unit_kind (Some Types) = Some in_types
unit_kind s = None

-- the units of a section of a number
abbrev pub unit_section : ℕ → ViewSection → Option SectionKind → List UnitSection
unit_section i s None = []
unit_section i s (Some kind) = record { number = i; kind = kind; contents = cells_of s } ∷ []

-- the unit sections of a list whose first section has this number: those with bytes in the file
abbrev pub unit_sections_from : ℕ → List ViewSection → List UnitSection
unit_sections_from i [] = []
unit_sections_from i (s ∷ ss) =
    (if s.has_bytes then unit_section i s (unit_kind (debug_section s.name)) else []) ++ unit_sections_from (suc i) ss

-- the unit sections of a view, in the order of their numbers. Section 0 is inactive in every file.
unfoldable pub unit_sections : View → List UnitSection
unit_sections v = unit_sections_from 1 (drop 1 v.sections)

-- a section of macro units, by the section that its name is
abbrev pub is_macro : Option DebugSection → Bool
is_macro (Some Macro) = true
is_macro s = false

-- such a section of a number, where it is one
abbrev pub macro_section : ℕ → ViewSection → Bool → List CellSection
macro_section i s false = []
macro_section i s true = record { number = i; contents = cells_of s } ∷ []

-- the sections of macro units of a list whose first section has this number: those with bytes in the file
abbrev pub macro_sections_from : ℕ → List ViewSection → List CellSection
macro_sections_from i [] = []
macro_sections_from i (s ∷ ss) = macro_section i s (s.has_bytes && is_macro (debug_section s.name)) ++ macro_sections_from (suc i) ss

-- the sections of macro units of a view, in the order of their numbers
unfoldable pub macro_sections : View → List CellSection
macro_sections v = macro_sections_from 1 (drop 1 v.sections)

-- a section of the view for offsets: number 0 and no bytes where there is none
abbrev pub located_at : View → Option ℕ → Located
located_at v None = record { number = 0; bytes = [] }
located_at v (Some i) = record { number = i; bytes = section_bytes v i }

unfoldable pub located : View → DebugSection → Located
located v s = located_at v (section_named v (name_of s))

-- the section of string offsets of a view: no bytes where there is none
abbrev pub string_offsets : View → Located
string_offsets v = located v StrOffsets

-- a section of the view that is read as pieces: number 0 and no contents where there is none
abbrev pub cells_located : View → Option ℕ → CellSection
cells_located v None = record { number = 0; contents = [] }
cells_located v (Some i) = record { number = i; contents = view_cells v i }

-- the first section of a kind
abbrev pub cells_found : View → DebugSection → CellSection
cells_found v s = cells_located v (section_named v (name_of s))

-- what is found in a view of the sections of a kind
abbrev pub found_in : View → (s : DebugSection) → Found s
found_in v Info = unit_sections v
found_in v Types = tt
found_in v Abbrev = tt
found_in v Str = located v Str
found_in v LineStr = located v LineStr
found_in v StrOffsets = cells_found v StrOffsets
found_in v Line = cells_found v Line
found_in v Macro = macro_sections v
found_in v Names = cells_found v Names

-- the debug data of a view
unfoldable pub debug_data : View → DebugData
debug_data v = record { base = record { order = v.order; abbrevs = located v Abbrev }; found = found_in v }

-- a section whose bytes are read: units, their abbreviations, the tables of texts, string offsets, line tables, macro units, and name
-- tables
abbrev pub is_read : Option DebugSection → Bool
is_read None = false
is_read (Some s) = true

-- a section whose bytes are meant as they stand: it isn't loaded and isn't read. The section name table and the link to a
-- debug file are left out, since they say how the sections are divided between files, and so are the sections that hold relocations
-- of those that are read.
abbrev pub is_other : ViewSection → Bool
is_other s = not (s.alloc || s.is_name_table || is_read (debug_section s.name) || same_text s.name debug_link || s.relocates_read)

-- the bytes of a section, under its name
pub record NamedBytes : Type 0 where
  pub name : List ℕ
  pub bytes : List ℕ

abbrev pub other_sections : List ViewSection → List NamedBytes
other_sections [] = []
other_sections (s ∷ ss) =
    if is_other s then record { name = s.name; bytes = bytes_in s.contents } ∷ other_sections ss else other_sections ss

-- the bytes under a name, in order
abbrev pub bytes_named : List NamedBytes → List ℕ → List (List ℕ)
bytes_named [] name = []
bytes_named (x ∷ xs) name = if same_text x.name name then x.bytes ∷ bytes_named xs name else bytes_named xs name

-- the sections, with the bytes of a descriptor in the one of a number as zeros
abbrev pub zeroed_at : ℕ → BuildId → List ViewSection → List ViewSection
zeroed_at i id [] = []
zeroed_at zero id (s ∷ ss) = record s { contents = plain_contents (zeroed id.descriptor (bytes_in s.contents)) } ∷ ss
zeroed_at (suc i) id (s ∷ ss) = s ∷ zeroed_at i id ss

-- the sections, with the bytes of the build-id as zeros
abbrev pub without_id : Option BuildId → List ViewSection → List ViewSection
without_id None ss = ss
without_id (Some id) ss = zeroed_at id.section id ss

-- what debug data mean: the units in order; the texts of the slots of string offsets, the line tables with their rows, the macro units
-- with their events, and the parts of name tables; and by name, in order, the bytes of the sections that are meant as they stand
pub record Meaning : Type 0 where
  pub units : List UnitMeaning
  pub slots : List (List ℕ)
  pub lines : List LineMeaning
  pub macros : List MacroMeaning
  pub names : List NamePart
  pub others : List ℕ → List (List ℕ)

-- what a view means, for these readings; the bytes of the build-id count as zeros
unfoldable pub meaning_of : View → DataReadings → Meaning
meaning_of v r = record {
  units = units_of (debug_data v) r;
  slots = slot_texts v.order (located v Str) r.offsets;
  lines = line_meanings (line_source (debug_data v)) r.lines;
  macros = macro_meanings (around_of (debug_data v) r) r.macros;
  names = name_parts v.order (located v Str) r.names;
  others = bytes_named (other_sections (without_id v.id v.sections));
}

-- the meaning with each path mapped, each slot that stands with a path, and the paths of line tables and of their rows. No text of a
-- macro unit is a path.
abbrev pub mapped : PathMap → Meaning → Meaning
mapped m x = record x { units = mapped_units m x.units; slots = mapped_slots m (unit_slots x.units) 0 x.slots; lines = mapped_lines m x.lines }
