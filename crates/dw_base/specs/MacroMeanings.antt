-- What macro units mean (DWARF 5, 6.3): of each its version, the number of its line table, and its events with their texts.
use Rattle.std.specs.Prelude.{Bool, true, false, ℕ, List, [], ◌∷◌, ◌++◌, take, drop, slice_index, Option, Some, None}
use Rattle.dw_base.specs.Cells.{Cell, bytes_of}
use Rattle.dw_base.specs.DebugData.{Around, line_table, macro_unit}
use Rattle.dw_base.specs.MacroOperations.{operation_of}
use Rattle.dw_base.specs.MacroPieces.{OffsetUse, of_text, of_unit, MacroMode, at_unit, at_line, at_operation, at_offset, MacroState}
use Rattle.dw_base.specs.MacroReadings.{MacroReading}
use Rattle.dw_base.specs.Numbers.{spelled}
use Rattle.dw_base.specs.Pieces.{Piece}
use Rattle.dw_base.specs.SlotTexts.{field_text}
use Rattle.dw_base.specs.declared.debug_sections.DebugSection.TheVariants.{Str}
use Rattle.dw_base.specs.declared.macro_units.MacroOperation.{MacroOperation}
use Rattle.dw_base.specs.declared.macro_units.MacroOperation.TheVariants.{End, Inline, Named, Enter, Leave, Bring, Foreign}
use Rattle.dw_base.specs.declared.shared.Width.TheVariants.{W32}

-- an event: a definition, or its end, with its line and text; a file that begins, by the line that includes it and its number in the
-- line table; the end of a file; or the events of another unit, by its number
pub data EventMeaning : Type 0 where
  defined : ℕ → List ℕ → EventMeaning
  undefined : ℕ → List ℕ → EventMeaning
  begun : ℕ → ℕ → EventMeaning
  ended : EventMeaning
  brought : Option ℕ → EventMeaning

-- a unit: its version, the number of the line table that it names, and its events
pub record MacroMeaning : Type 0 where
  pub version : ℕ
  pub line : Option ℕ
  pub events : List EventMeaning

-- what a piece is: a unit begins; the number of its line table; an event; or nothing by itself
pub data MacroMark : Type 0 where
  begins_unit : ℕ → MacroMark
  has_line : Option ℕ → MacroMark
  has_event : EventMeaning → MacroMark
  no_event : MacroMark

abbrev pub text_event : Bool → ℕ → List ℕ → EventMeaning
text_event true line t = defined line t
text_event false line t = undefined line t

-- an operation of these bytes; of one whose text or unit an offset names the offset is the event
abbrev pub operation_mark : List ℕ → MacroOperation → MacroMark
operation_mark bytes End = no_event
operation_mark bytes (Inline defines line at len) = has_event (text_event defines line (take len (drop at bytes)))
operation_mark bytes (Named defines line field) = no_event
operation_mark bytes (Enter line file) = has_event (begun line file)
operation_mark bytes Leave = has_event ended
operation_mark bytes (Bring field) = no_event
operation_mark bytes Foreign = no_event

abbrev pub read_mark : List ℕ → Option (MacroOperation × ℕ) → MacroMark
read_mark bytes None = no_event
read_mark bytes (Some o) = operation_mark bytes o.0

unfoldable pub front_mark : List ℕ → MacroMark
front_mark bytes = read_mark bytes (operation_of bytes W32 (slice_index bytes 0) 1)

abbrev pub offset_mark : OffsetUse → Around → List Cell → MacroMark
offset_mark (of_text defines line) around p = has_event (text_event defines line (field_text around.lasting.base.order (around.stands Str) p))
offset_mark of_unit around p = has_event (brought (macro_unit around.lasting p))

abbrev pub macro_mark_by : MacroMode → Around → List Cell → MacroMark
macro_mark_by at_unit around p = begins_unit (spelled around.lasting.base.order (bytes_of p) 0 2)
macro_mark_by (at_line width) around p = has_line (line_table around p)
macro_mark_by (at_operation width) around p = front_mark (bytes_of p)
macro_mark_by (at_offset width names) around p = offset_mark names around p
macro_mark_by m around p = no_event

-- what follows a place of a section, which is read from its end: what is left of the unit at the place, and the units behind it
pub record MacrosBehind : Type 0 where
  pub line : Option ℕ
  pub events : List EventMeaning
  pub units : List MacroMeaning

abbrev pub no_macros_behind : MacrosBehind
no_macros_behind = record { line = None; events = []; units = [] }

abbrev pub begun_unit : ℕ → MacrosBehind → MacroMeaning
begun_unit version r = record { version = version; line = r.line; events = r.events }

-- what follows the place in front of a piece
abbrev pub with_macro_mark : MacroMark → MacrosBehind → MacrosBehind
with_macro_mark (begins_unit version) r = record { line = None; events = []; units = begun_unit version r ∷ r.units }
with_macro_mark (has_line k) r = record { line = k; events = r.events; units = r.units }
with_macro_mark (has_event e) r = record { line = r.line; events = e ∷ r.events; units = r.units }
with_macro_mark no_event r = r

abbrev pub macros_behind : Around → List (Piece MacroState) → MacrosBehind
macros_behind around [] = no_macros_behind
macros_behind around (x ∷ xs) = with_macro_mark (macro_mark_by x.state.mode around x.cells) (macros_behind around xs)

-- the units of all sections, in order
abbrev pub macro_meanings : Around → List MacroReading → List MacroMeaning
macro_meanings around [] = []
macro_meanings around (r ∷ rs) = (macros_behind around r.pieces).units ++ macro_meanings around rs
