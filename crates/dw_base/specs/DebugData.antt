-- The debug data of a file, apart from how its sections lie: the unit sections, and what their values refer to; and the
-- pieces that were read of them.
use Rattle.std.specs.Prelude.{true, false, ◌≡◌, ◌+◌, ◌==◌, ◌&&◌, ℕ, Option, Some, None, if◌then◌else◌, List, [], ◌∷◌, ◌++◌, ⊤}
use Rattle.dw_base.specs.Cells.{Cell, Located, CellSection, located_cells, field_of, offset_of}
use Rattle.dw_base.specs.LineReadings.{LineReading, table_starts}
use Rattle.dw_base.specs.LineSources.{LineSource}
use Rattle.dw_base.specs.MacroReadings.{MacroReading, MacroStart, MacroPlaces, macro_starts, first_macros}
use Rattle.dw_base.specs.NamePieces.{NameState}
use Rattle.dw_base.specs.OffsetPieces.{OffsetState}
use Rattle.dw_base.specs.Pieces.{Piece}
use Rattle.dw_base.specs.Readings.{Readings}
use Rattle.dw_base.specs.SlotTexts.{contributions_in, slot_texts}
use Rattle.dw_base.specs.TextIndexes.{Indexing, all_bases, index_uses, slots_named}
use Rattle.dw_base.specs.UnitHeaders.{UnitBase, UnitSection, SectionKind, in_info, in_types}
use Rattle.dw_base.specs.UnitPieces.{ReadsUnits}
use Rattle.dw_base.specs.UnitStates.{Mode, at_header, at_code, UnitState, code_value}
use Rattle.dw_base.specs.declared.debug_sections.DebugSection.{DebugSection}
use Rattle.dw_base.specs.declared.debug_sections.DebugSection.TheVariants.{Info, Types, Abbrev, Str, LineStr, StrOffsets, Line, Macro, Names}
use Rattle.dw_base.specs.declared.texts.TextSection.{TextSection}
use Rattle.dw_base.specs.declared.texts.TextSection.TheVariants.{InStr, InLineStr}
use Rattle.dw_base.specs.declared.view_fields.Field.{Field}
use Rattle.dw_base.specs.declared.view_fields.Field.TheVariants.{Num, Into, Sym}

-- what is found of the sections of a kind: the unit sections of both kinds, in the order of their numbers, stand with `.debug_info`; all
-- sections of macro units, in that order; of each other kind the first, its bytes or what it is read from. The abbreviations are what
-- units are read by, and stand there.
abbrev pub Found : DebugSection → Type 0
Found Info = List UnitSection
Found Types = ⊤
Found Abbrev = ⊤
Found Str = Located
Found LineStr = Located
Found StrOffsets = CellSection
Found Line = CellSection
Found Macro = List CellSection
Found Names = CellSection

-- what all units are read by, and what is found of the sections of each kind
pub record DebugData : Type 0 where
  pub base : UnitBase
  pub found : (s : DebugSection) → Found s

-- all that was read of debug data: the unit sections, string offsets, line tables, macro units, and name tables
pub record DataReadings : Type 0 where
  pub units : Readings
  pub offsets : List (Piece OffsetState)
  pub lines : List LineReading
  pub macros : List MacroReading
  pub names : List (Piece NameState)

-- how many units begin in pieces
abbrev pub begins_by : Mode → ℕ
begins_by at_header = 1
begins_by m = 0

abbrev pub units_in : List (Piece UnitState) → ℕ
units_in [] = 0
units_in (x ∷ xs) = begins_by x.state.mode + units_in xs

-- each section is the pieces at its place in the list, its units numbered on
abbrev pub ReadsAll : UnitBase → ℕ → List UnitSection → Readings → Type 0
ReadsAll base first [] [] = ⊤
ReadsAll base first [] (r ∷ rs) = ⊥
ReadsAll base first (z ∷ zs) [] = ⊥
ReadsAll base first (z ∷ zs) (r ∷ rs) =
    (r.number ≡ z.number) × ReadsUnits base z first r.pieces × ReadsAll base (first + units_in r.pieces) zs rs

-- where an entry starts: section and place; and its unit, and its number in it
pub record EntryPlace : Type 0 where
  pub section : ℕ
  pub place : ℕ
  pub unit : ℕ
  pub number : ℕ

-- the entries that start in pieces
abbrev pub place_by : Mode → UnitState → List Cell → List EntryPlace
place_by at_code s p =
    if code_value p == 0 then [] else record { section = s.section; place = s.place; unit = s.unit; number = s.entry } ∷ []
place_by m s p = []

abbrev pub entry_places : List (Piece UnitState) → List EntryPlace
entry_places [] = []
entry_places (x ∷ xs) = place_by x.state.mode x.state x.cells ++ entry_places xs

abbrev pub all_places : Readings → List EntryPlace
all_places [] = []
all_places (r ∷ rs) = entry_places r.pieces ++ all_places rs

-- the numbers of the sections that are .debug_info
abbrev pub info_number : UnitSection → SectionKind → List ℕ
info_number z in_info = z.number ∷ []
info_number z in_types = []

abbrev pub info_numbers : List UnitSection → List ℕ
info_numbers [] = []
info_numbers (z ∷ zs) = info_number z z.kind ++ info_numbers zs

-- where the entries of units start, and which sections are .debug_info
pub record KeptUnits : Type 0 where
  pub entries : List EntryPlace
  pub infos : List ℕ

-- what values refer to in the sections of a kind and no edit changes: places of entries and macro units, and which slots values by index
-- name
abbrev pub Kept : DebugSection → Type 0
Kept Info = KeptUnits
Kept StrOffsets = Indexing
Kept Macro = MacroPlaces
Kept s = ⊤

-- what values refer to and no edit changes: what units are read by, and what is so of the sections of each kind
pub record Lasting : Type 0 where
  pub base : UnitBase
  pub kept : (s : DebugSection) → Kept s

-- the section of line tables, its cells, and where the tables start
pub record LinesAround : Type 0 where
  pub located : Located
  pub cells : List Cell
  pub starts : List ℕ

-- what else values refer to in the sections of a kind: a table of texts, the texts of the slots, and line tables
abbrev pub Stands : DebugSection → Type 0
Stands Str = Located
Stands LineStr = Located
Stands StrOffsets = List (List ℕ)
Stands Line = LinesAround
Stands s = ⊤

-- what stands around a section that its values refer to: what no edit changes, and what else stands in the sections of each kind
pub record Around : Type 0 where
  pub lasting : Lasting
  pub stands : (s : DebugSection) → Stands s

-- the section of a kind into which values say offsets: a table of texts, or the line tables; number 0 and no bytes of every other kind
abbrev pub target_of : Around → DebugSection → Located
target_of around Str = around.stands Str
target_of around LineStr = around.stands LineStr
target_of around Line = (around.stands Line).located
target_of around s = record { number = 0; bytes = [] }

-- what line tables are read from
abbrev pub source_around : Around → LineSource
source_around around = record {
  order = around.lasting.base.order;
  number = (around.stands Line).located.number;
  is_read = true;
  bytes = (around.stands Line).located.bytes;
  cells = (around.stands Line).cells;
  str = around.stands Str;
  line_str = around.stands LineStr;
}

-- the number of the table that starts at a place, of tables numbered from `first` on
abbrev pub start_number : ℕ → List ℕ → ℕ → Option ℕ
start_number first [] n = None
start_number first (s ∷ ss) n = if s == n then Some first else start_number (first + 1) ss n

-- the number of the line table that starts where the offset in a field says
abbrev pub line_table : Around → List Cell → Option ℕ
line_table around p = start_number 0 (around.stands Line).starts (offset_of around.lasting.base.order (target_of around Line) p)

-- the number of the macro unit that starts at a place of a section, of units numbered from `first` on
abbrev pub started_unit : ℕ → List MacroStart → ℕ → ℕ → Option ℕ
started_unit first [] section place = None
started_unit first (s ∷ ss) section place =
    if s.section == section && s.place == place then Some first else started_unit (first + 1) ss section place

-- the number of the macro unit that a field names: by a number one of the first section of macro units, by a relocation one of the
-- section that it leads to
abbrev pub unit_named : MacroPlaces → Field → Option ℕ
unit_named g (Num n) = started_unit 0 g.starts g.first n
unit_named g (Into z n) = started_unit 0 g.starts z n
unit_named g (Sym s k a) = None

abbrev pub macro_unit : Lasting → List Cell → Option ℕ
macro_unit g p = unit_named (g.kept Macro) (field_of g.base.order p)

-- the section that a table of texts is
abbrev pub text_section : TextSection → DebugSection
text_section InStr = Str
text_section InLineStr = LineStr

abbrev pub table_of : Around → TextSection → Located
table_of around table = target_of around (text_section table)

-- the slots that paths name, and those that other values name
abbrev pub path_slots : Around → List ℕ
path_slots around = slots_named true (around.lasting.kept StrOffsets) (around.lasting.kept StrOffsets).uses

abbrev pub other_slots : Around → List ℕ
other_slots around = slots_named false (around.lasting.kept StrOffsets) (around.lasting.kept StrOffsets).uses

abbrev pub indexing_of : DebugData → DataReadings → Indexing
indexing_of d r = record {
  bases = all_bases d.base.order (located_cells (d.found StrOffsets)) r.units;
  contributions = contributions_in d.base.order r.offsets;
  uses = index_uses d.base.order r.units;
}

-- where the macro units of debug data start
abbrev pub macro_places : DebugData → DataReadings → MacroPlaces
macro_places d r = record { first = first_macros (d.found Macro); starts = macro_starts r.macros }

-- what no edit changes of the sections of a kind of debug data that were read so
abbrev pub kept_of : DebugData → DataReadings → (s : DebugSection) → Kept s
kept_of d r Info = record { entries = all_places r.units; infos = info_numbers (d.found Info) }
kept_of d r Types = tt
kept_of d r Abbrev = tt
kept_of d r Str = tt
kept_of d r LineStr = tt
kept_of d r StrOffsets = indexing_of d r
kept_of d r Line = tt
kept_of d r Macro = macro_places d r
kept_of d r Names = tt

-- and what else values refer to in them
abbrev pub standing_of : DebugData → DataReadings → (s : DebugSection) → Stands s
standing_of d r Info = tt
standing_of d r Types = tt
standing_of d r Abbrev = tt
standing_of d r Str = d.found Str
standing_of d r LineStr = d.found LineStr
standing_of d r StrOffsets = slot_texts d.base.order (d.found Str) r.offsets
standing_of d r Line = record { located = located_cells (d.found Line); cells = (d.found Line).contents; starts = table_starts r.lines }
standing_of d r Macro = tt
standing_of d r Names = tt

-- what stands around the units of debug data that were read so
abbrev pub around_of : DebugData → DataReadings → Around
around_of d r = record { lasting = record { base = d.base; kept = kept_of d r }; stands = standing_of d r }

-- what the line tables of debug data are read from
abbrev pub line_source : DebugData → LineSource
line_source d = record {
  order = d.base.order;
  number = (d.found Line).number;
  is_read = true;
  bytes = (located_cells (d.found Line)).bytes;
  cells = (d.found Line).contents;
  str = d.found Str;
  line_str = d.found LineStr;
}
