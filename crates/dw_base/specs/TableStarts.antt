-- What says where a line table or a macro unit starts (DWARF 5, 3.1.1, 6.3.1 and 6.3.2): which forms values may have, and why a field names no
-- table and no unit.
use Rattle.std.specs.Prelude.{Bool, true, false, ◌≡◌, ◌==◌, ◌||◌, if◌then◌else◌, List, ◌∷◌, ◌++◌, IsTrue, ⊤, ℕ}
use Rattle.dw_base.specs.Cells.{Cell, field_of, is_placed}
use Rattle.dw_base.specs.DebugData.{Lasting, Around, line_table, macro_unit}
use Rattle.dw_base.specs.Forms.{ValueKind, number_of, form_in_front, kind_in}
use Rattle.dw_base.specs.Lebs.{uleb_at}
use Rattle.dw_base.specs.LineMeanings.{is_there}
use Rattle.dw_base.specs.MacroPieces.{of_unit, MacroMode, at_line, at_offset, MacroState}
use Rattle.dw_base.specs.MacroReadings.{MacroReading}
use Rattle.dw_base.specs.Pieces.{Piece}
use Rattle.dw_base.specs.Readings.{Reading, Readings}
use Rattle.dw_base.specs.Refusals.{at}
use Rattle.dw_base.specs.Roles.{use_of, is_line_start, is_macro_start, line_start, role_of}
use Rattle.dw_base.specs.UnitStates.{Mode, at_values, at_chosen, UnitState, read_value}
use Rattle.dw_base.specs.declared.dwarf_numbers.TheConstants.{DW_FORM_data4, DW_FORM_data8, DW_FORM_indirect, DW_FORM_sec_offset}
use Rattle.dw_base.specs.declared.fault.Kind.TheVariants.{Stray}
use Rattle.dw_base.specs.declared.fault.Refusal.{Refusal}
use Rattle.dw_base.specs.declared.shared.Params.{Params}
use Rattle.dw_base.specs.declared.shared.Width.{Width}
use Rattle.dw_base.specs.declared.values.Spec.{Spec}
use Rattle.dw_base.specs.declared.values.AttributeUse.{AttributeUse}
use Rattle.dw_base.specs.declared.values.AttributeUse.TheVariants.{NamesLineTable, NamesMacroUnit}

-- the form of a value that stands at a place: its attribute's, or the one in front of it (DWARF 5, 7.5.3)
abbrev pub own_form : Spec → List ℕ → ℕ → ℕ
own_form x bytes place = if x.form == DW_FORM_indirect then read_value (uleb_at bytes place) else x.form

-- a form that can say where a line table or a macro unit starts (DWARF 5, 3.1.1; before version 4 a number of 4 or 8 bytes)
abbrev pub is_start_form : ℕ → Bool
is_start_form form = form == DW_FORM_sec_offset || form == DW_FORM_data4 || form == DW_FORM_data8

-- a value of a kind can say where a line table starts, and where a macro unit does
abbrev pub can_start : ValueKind → Bool
can_start (number_of class n) = is_line_start NamesLineTable class n
can_start k = false

abbrev pub can_start_unit : ValueKind → Bool
can_start_unit (number_of class n) = is_macro_start NamesMacroUnit class n
can_start_unit k = false

abbrev pub start_form_by : ValueKind → AttributeUse → Bool
start_form_by form_in_front u = true
start_form_by k NamesLineTable = can_start k
start_form_by k NamesMacroUnit = can_start_unit k
start_form_by k u = true

abbrev pub start_form_in : Mode → Params → Bool
start_form_in (at_values number tag (x ∷ xs)) params = start_form_by (kind_in params x.form) (use_of number tag x.name)
start_form_in (at_chosen number tag start x xs) params = start_form_by (kind_in params x.form) (use_of number tag x.name)
start_form_in m params = true

-- the piece is no value that is to say where a line table or a macro unit starts, or one of a form that can
abbrev pub has_start_form : Piece UnitState → Bool
has_start_form x = start_form_in x.state.mode x.state.header.params

abbrev pub HasStartForm : Piece UnitState → Type 0
HasStartForm x = IsTrue (has_start_form x)

-- the piece is a value that says where a macro unit starts
abbrev pub macro_value_by : ValueKind → AttributeUse → Bool
macro_value_by (number_of class n) u = is_macro_start u class n
macro_value_by k u = false

abbrev pub macro_value_in : Mode → Params → Bool
macro_value_in (at_values number tag (x ∷ xs)) params = macro_value_by (kind_in params x.form) (use_of number tag x.name)
macro_value_in (at_chosen number tag start x xs) params = macro_value_by (kind_in params x.form) (use_of number tag x.name)
macro_value_in m params = false

abbrev pub is_macro_value : Piece UnitState → Bool
is_macro_value x = macro_value_in x.state.mode x.state.header.params

-- cells that are to name a macro unit name one
abbrev pub NamesUnitIf : Bool → Lasting → List Cell → Type 0
NamesUnitIf true g p = IsTrue (is_there (macro_unit g p))
NamesUnitIf false g p = ⊤

abbrev pub NamesMacro : Lasting → Piece UnitState → Type 0
NamesMacro g x = NamesUnitIf (is_macro_value x) g x.cells

-- a piece of macro units is the offset of a unit that is imported
abbrev pub is_import : MacroMode → Bool
is_import (at_offset width of_unit) = true
is_import m = false

abbrev pub NamesImport : Lasting → Piece MacroState → Type 0
NamesImport g x = NamesUnitIf (is_import x.state.mode) g x.cells

-- a piece among all that were read of units
pub record HasUnitPiece (rs : Readings) (x : Piece UnitState) : Type 0 where
  pub before : Readings
  pub behind : Readings
  pub section : Reading
  pub sections : rs ≡ before ++ section ∷ behind
  pub front : List (Piece UnitState)
  pub rest : List (Piece UnitState)
  pub pieces : section.pieces ≡ front ++ x ∷ rest

-- where a value begins: with the form in front of it, where that says its kind
abbrev pub begin_in : Mode → ℕ → ℕ
begin_in (at_chosen number tag start x xs) place = start
begin_in m place = place

abbrev pub value_begin : UnitState → ℕ
value_begin s = begin_in s.mode s.place

-- the rows of such values: it has a form that can't say an offset, where it begins; no line table or macro unit starts where it says, at the offset.
-- A symbol without a place is no offset.
pub data StrayFails (around : Around) (rs : Readings) : Refusal → Type 0 where
  other_form : (x : Piece UnitState) → HasUnitPiece rs x → has_start_form x ≡ false → StrayFails around rs (at Stray x.state.section (value_begin x.state))
  no_table : (x : Piece UnitState) → HasUnitPiece rs x → role_of x ≡ line_start → is_placed (field_of around.lasting.base.order x.cells) ≡ true
      → is_there (line_table around x.cells) ≡ false
      → StrayFails around rs (at Stray x.state.section x.state.place)
  no_unit : (x : Piece UnitState) → HasUnitPiece rs x → is_macro_value x ≡ true → is_placed (field_of around.lasting.base.order x.cells) ≡ true
      → is_there (macro_unit around.lasting x.cells) ≡ false
      → StrayFails around rs (at Stray x.state.section x.state.place)

-- a piece of a section among all that were read of macro units
pub record HasMacroPiece (rs : List MacroReading) (section : MacroReading) (x : Piece MacroState) : Type 0 where
  pub before : List MacroReading
  pub behind : List MacroReading
  pub sections : rs ≡ before ++ section ∷ behind
  pub front : List (Piece MacroState)
  pub rest : List (Piece MacroState)
  pub pieces : section.pieces ≡ front ++ x ∷ rest

-- the rows of macro units, at the offset: no line table starts where that of a unit says, or no unit where that of an import does
pub data MacroStrayFails (around : Around) (rs : List MacroReading) : Refusal → Type 0 where
  no_line : (r : MacroReading) (x : Piece MacroState) (width : Width) → HasMacroPiece rs r x → x.state.mode ≡ at_line width
      → is_placed (field_of around.lasting.base.order x.cells) ≡ true → is_there (line_table around x.cells) ≡ false → MacroStrayFails around rs (at Stray r.number x.state.place)
  no_import : (r : MacroReading) (x : Piece MacroState) (width : Width) → HasMacroPiece rs r x → x.state.mode ≡ at_offset width of_unit
      → is_placed (field_of around.lasting.base.order x.cells) ≡ true → is_there (macro_unit around.lasting x.cells) ≡ false → MacroStrayFails around rs (at Stray r.number x.state.place)
