-- What the macro units of a view say of line tables and texts: the fields of their offsets (DWARF 5, 6.3).
use Rattle.std.specs.Prelude.{false, ℕ, ◌==◌, if◌then◌else◌, List, [], ◌∷◌, ◌++◌, length, Option, Some, None}
use Rattle.dw_base.specs.FileViews.{View}
use Rattle.dw_base.specs.Forms.{width_size}
use Rattle.dw_base.specs.MacroPieces.{MacroState}
use Rattle.dw_base.specs.MacroReadings.{MacroReading}
use Rattle.dw_base.specs.Pieces.{Piece}
use Rattle.dw_base.specs.SectionTexts.{macro_role}
use Rattle.dw_base.specs.declared.line_tables.TextPlace.{TextPlace}
use Rattle.dw_base.specs.declared.macro_units.MacroEvent.{MacroEvent}
use Rattle.dw_base.specs.declared.macro_units.MacroEvent.TheVariants.{Define, Undef}
use Rattle.dw_base.specs.declared.macro_units.MacroUnit.{MacroUnit}
use Rattle.dw_base.specs.declared.shared.Width.{Width}
use Rattle.dw_base.specs.declared.debug_sections.DebugSection.{DebugSection}
use Rattle.dw_base.specs.declared.debug_sections.DebugSection.TheVariants.{Str, Line}
use Rattle.dw_base.specs.declared.texts.TextSection.{TextSection}
use Rattle.dw_base.specs.declared.texts.TextSection.TheVariants.{InStr}
use Rattle.dw_macros.specs.MacroEvents.{unit_events}
use Rattle.dw_offsets.specs.declared.fields.OffsetField.{OffsetField}
use Rattle.dw_unit_fields.specs.SectionFields.{SectionFields, field_by, start_by, lists_by}
use Rattle.dw_starts.specs.MacroSections.{SectionUnits}

-- the field of the offset of a unit's line table, where it has one
abbrev pub line_field : Option ℕ → ℕ → Width → List OffsetField
line_field None at w = []
line_field (Some line) at w = record { at = at; size = width_size w; path = false } ∷ []

abbrev pub line_fields : List MacroUnit → List OffsetField
line_fields [] = []
line_fields (u ∷ us) = line_field u.line u.line_field u.width ++ line_fields us

-- the field of a text's offset, where the text stands in a table of texts: not in the unit's own section, which has a number
abbrev pub place_field : ℕ → Width → TextPlace → List OffsetField
place_field section w text = if text.section == section then [] else record { at = text.field; size = width_size w; path = false } ∷ []

-- that of an event, where it defines a name or ends its definition; and those of events and of units
abbrev pub event_field : ℕ → Width → MacroEvent → List OffsetField
event_field section w (Define line text) = place_field section w text
event_field section w (Undef line text) = place_field section w text
event_field section w e = []

abbrev pub event_fields : ℕ → Width → List MacroEvent → List OffsetField
event_fields section w [] = []
event_fields section w (e ∷ es) = event_field section w e ++ event_fields section w es

abbrev pub named_texts : View → List MacroUnit → List OffsetField
named_texts v [] = []
named_texts v (u ∷ us) = event_fields u.section u.width (unit_events v u) ++ named_texts v us

-- what a section of macro units says of line tables and texts: where these start, by the fields of their offsets into `.debug_line`, and the
-- fields of offsets into `.debug_str`
abbrev pub macros_into : List OffsetField → List OffsetField → DebugSection → List OffsetField
macros_into starts texts Str = texts
macros_into starts texts Line = starts
macros_into starts texts s = []

abbrev pub macros_with : ℕ → List OffsetField → List OffsetField → SectionFields
macros_with number starts texts = record { number = number; fields = lists_by (macros_into starts texts); inline = []; stray = None }

abbrev pub macros_of : View → List SectionUnits → List SectionFields
macros_of v [] = []
macros_of v (s ∷ ss) = macros_with s.number (line_fields s.units) (named_texts v s.units) ∷ macros_of v ss

-- the same by what was read
abbrev pub macro_starts : List (Piece MacroState) → List OffsetField
macro_starts [] = []
macro_starts (x ∷ xs) = start_by (macro_role x.state) x.state.place (length x.cells) ++ macro_starts xs

abbrev pub macro_texts : TextSection → List (Piece MacroState) → List OffsetField
macro_texts table [] = []
macro_texts table (x ∷ xs) = field_by table (macro_role x.state) x.state.place (length x.cells) ++ macro_texts table xs

abbrev pub macros_read : List MacroReading → List SectionFields
macros_read [] = []
macros_read (r ∷ rs) = macros_with r.number (macro_starts r.pieces) (macro_texts InStr r.pieces) ∷ macros_read rs
