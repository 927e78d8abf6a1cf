-- The debug data that an edit writes: each field of a text names it in a table that is built anew, a path's field the mapped text, that of a slot
-- too, each path that stands in its value is mapped there, and all else stays; and when debug data can be read and mapped.
use Rattle.std.specs.Prelude.{ℕ, ◌==◌, if◌then◌else◌, List, [], ◌∷◌, ◌++◌, ⊤}
use Rattle.dw_base.specs.Cells.{Cell, Located, bytes_of}
use Rattle.dw_base.specs.DebugData.{DebugData, DataReadings, Around, around_of, indexing_of, line_source, path_slots, source_around, ReadsAll}
use Rattle.dw_base.specs.IndexFails.{SlotFits}
use Rattle.dw_base.specs.TextLineChanges.{tables_by_texts, text_place}
use Rattle.dw_base.specs.LineReadings.{LineReading, AreTables, all_lines, table_read}
use Rattle.dw_base.specs.TextWriteFails.{CanWriteTexts}
use Rattle.dw_base.specs.MacroReadings.{MacroReading, ReadsAllMacros, EachMacro}
use Rattle.dw_base.specs.NamePieces.{NameState, ReadsNames}
use Rattle.dw_meaning.specs.NewAddends.{AddendsFit}
use Rattle.dw_base.specs.OffsetPieces.{OffsetState, ReadsOffsets}
use Rattle.dw_base.specs.Paths.{PathMap}
use Rattle.dw_base.specs.Pieces.{Piece, EachPiece, joined}
use Rattle.dw_base.specs.Readings.{Reading, Readings, EachReading}
use Rattle.dw_base.specs.SectionTexts.{slot_role, name_role, macro_role, file_mentions, edited_with, edited_macros, NameTexts}
use Rattle.dw_base.specs.StringTables.{new_texts}
use Rattle.dw_base.specs.TableStarts.{HasStartForm, NamesMacro, NamesImport}
use Rattle.dw_base.specs.TextChanges.{Changed, TableChanges, edited_all, NamesTextBy, NamesText, InlineFits}
use Rattle.dw_base.specs.TextIndexes.{EachUse, NamesSlot, index_uses}
use Rattle.dw_base.specs.Texts.{laid_texts}
use Rattle.dw_base.specs.declared.debug_sections.DebugSection.{DebugSection}
use Rattle.dw_base.specs.declared.debug_sections.DebugSection.TheVariants.{Info, Types, Abbrev, Str, LineStr, StrOffsets, Line, Macro, Names}
use Rattle.dw_base.specs.declared.texts.TextSection.{TextSection}
use Rattle.dw_base.specs.declared.texts.TextSection.TheVariants.{InStr, InLineStr}

-- debug data can be read: units, string offsets, macro units and name tables are these pieces, line tables fill their section, each offset
-- names a text that ends, each value by index a slot, each value that is to say where a line table or a macro unit starts says it, and so
-- do the offsets of line tables and of imports in macro units
pub record DataReads (d : DebugData) (r : DataReadings) : Type 0 where
  pub units : ReadsAll d.base 0 (d.found Info) r.units
  pub offsets : ReadsOffsets d.base.order (d.found StrOffsets).contents r.offsets
  pub lines : AreTables (line_source d) r.lines
  pub macros : ReadsAllMacros d.base.order (d.found Macro) r.macros
  pub names : ReadsNames d.base.order (d.found Names).contents r.names
  pub texts : EachReading (NamesText (around_of d r)) r.units
  pub slot_texts : NameTexts (slot_role (path_slots (around_of d r))) (around_of d r) r.offsets
  pub macro_texts : EachMacro (λ x. NamesTextBy (macro_role x.state) (around_of d r) x.cells) r.macros
  pub name_texts : NameTexts name_role (around_of d r) r.names
  pub indexes : EachUse (NamesSlot (indexing_of d r)) (index_uses d.base.order r.units)
  pub forms : EachReading HasStartForm r.units
  pub macro_values : EachReading (NamesMacro (around_of d r).lasting) r.units
  pub imports : EachMacro (NamesImport (around_of d r).lasting) r.macros

-- what becomes of a table: it is built from the texts that fields name after mapping, each once, in order of first mention
unfoldable pub table_change : PathMap → TextSection → Around → DataReadings → List (List ℕ)
table_change m table around r = new_texts m (file_mentions table around r)

-- the new line tables
abbrev pub new_lines : PathMap → Around → DataReadings → List (List ℕ)
new_lines m around r = tables_by_texts m (table_change m InStr around r) (table_change m InLineStr around r) (source_around around) r.lines

-- what is new in the sections of a kind
abbrev pub changed_by : PathMap → Around → DataReadings → (s : DebugSection) → Changed s
changed_by m around r Info = tt
changed_by m around r Types = tt
changed_by m around r Abbrev = tt
changed_by m around r Str = table_change m InStr around r
changed_by m around r LineStr = table_change m InLineStr around r
changed_by m around r StrOffsets = tt
changed_by m around r Line = new_lines m around r
changed_by m around r Macro = tt
changed_by m around r Names = tt

abbrev pub changes_of : PathMap → Around → DataReadings → TableChanges
changes_of m around r = record { map = m; new = changed_by m around r }

-- each line table can be written with its texts moved
abbrev pub EachWritable : PathMap → TableChanges → Around → List LineReading → Type 0
EachWritable m c around [] = ⊤
EachWritable m c around (r ∷ rs) =
    CanWriteTexts (source_around around) m (text_place m (c.new Str) (c.new LineStr) (source_around around)) (table_read (source_around around) r) × EachWritable m c around rs

-- and paths outside line tables be mapped: each that stands in its value fits its room, and no slot is named by a path whose text changes
-- and by a value that isn't a path
pub record PathsFit (m : PathMap) (d : DebugData) (r : DataReadings) : Type 0 where
  pub inline : EachReading (InlineFits m) r.units
  pub slots : EachPiece (SlotFits m (around_of d r)) r.offsets

-- and so can all: each line table can be written too, and the addends of relocations make the new offsets
pub record DataFits (m : PathMap) (d : DebugData) (r : DataReadings) : Type 0 where
  pub inline : EachReading (InlineFits m) r.units
  pub slots : EachPiece (SlotFits m (around_of d r)) r.offsets
  pub lines : EachWritable m (changes_of m (around_of d r) r) (around_of d r) r.lines
  pub addends : AddendsFit (changes_of m (around_of d r) r) d (around_of d r) r

-- a section and its new bytes
pub record Body : Type 0 where
  pub number : ℕ
  pub bytes : List ℕ

abbrev pub unit_body : TableChanges → Around → Reading → Body
unit_body changes around r = record { number = r.number; bytes = bytes_of (joined (edited_all changes around r.pieces)) }

abbrev pub unit_bodies : TableChanges → Around → Readings → List Body
unit_bodies changes around [] = []
unit_bodies changes around (r ∷ rs) = unit_body changes around r ∷ unit_bodies changes around rs

abbrev pub table_body : Located → List (List ℕ) → Body
table_body z ts = record { number = z.number; bytes = laid_texts ts }

-- string offsets, and name tables, with their fields moved
abbrev pub offsets_after : TableChanges → Around → DataReadings → List (Piece OffsetState)
offsets_after changes around r = edited_with (slot_role (path_slots around)) changes around r.offsets

abbrev pub names_after : TableChanges → Around → DataReadings → List (Piece NameState)
names_after changes around r = edited_with name_role changes around r.names

-- macro units with the offsets of texts and line tables moved
abbrev pub macros_after : TableChanges → Around → DataReadings → List MacroReading
macros_after changes around r = edited_macros changes around r.macros

abbrev pub cells_body : ℕ → List Cell → Body
cells_body i p = record { number = i; bytes = bytes_of p }

abbrev pub macro_bodies : List MacroReading → List Body
macro_bodies [] = []
macro_bodies (r ∷ rs) = cells_body r.number (joined r.pieces) ∷ macro_bodies rs

abbrev pub lines_body : TableChanges → DebugData → Body
lines_body changes d = record { number = (d.found Line).number; bytes = all_lines (changes.new Line) }

-- what is new in a section that is read, by its kind: a section and its new bytes, or several in the order of their numbers. The
-- sections of units of both kinds stand with `.debug_info`; abbreviations stay.
abbrev pub bodies_of : TableChanges → DebugData → Around → DataReadings → DebugSection → List Body
bodies_of changes d around r Info = unit_bodies changes around r.units
bodies_of changes d around r Types = []
bodies_of changes d around r Abbrev = []
bodies_of changes d around r Str = table_body (around.stands Str) (changes.new Str) ∷ []
bodies_of changes d around r LineStr = table_body (around.stands LineStr) (changes.new LineStr) ∷ []
bodies_of changes d around r StrOffsets = cells_body (d.found StrOffsets).number (joined (offsets_after changes around r)) ∷ []
bodies_of changes d around r Line = lines_body changes d ∷ []
bodies_of changes d around r Macro = macro_bodies (macros_after changes around r)
bodies_of changes d around r Names = cells_body (d.found Names).number (joined (names_after changes around r)) ∷ []

-- the kinds, in the order in which their bodies are given
abbrev pub body_order : List DebugSection
body_order = Str ∷ LineStr ∷ StrOffsets ∷ Line ∷ Names ∷ Macro ∷ Info ∷ []

-- the lists of these kinds, one behind another
abbrev pub listed_by : {X : Type 0} → (DebugSection → List X) → List DebugSection → List X
listed_by list [] = []
listed_by list (s ∷ []) = list s
listed_by list (s ∷ t ∷ ss) = list s ++ listed_by list (t ∷ ss)

-- the sections with new bytes
abbrev pub bodies_by : TableChanges → DebugData → Around → DataReadings → List Body
bodies_by changes d around r = listed_by (bodies_of changes d around r) body_order

unfoldable pub new_bodies : PathMap → DebugData → DataReadings → List Body
new_bodies m d r = bodies_by (changes_of m (around_of d r) r) d (around_of d r) r

-- the bytes of a section of a number: its new ones, or those that it has
abbrev pub body_in : List Body → (ℕ → List ℕ) → ℕ → List ℕ
body_in [] old i = old i
body_in (x ∷ xs) old i = if i == x.number then x.bytes else body_in xs old i
