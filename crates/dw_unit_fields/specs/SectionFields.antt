-- What a unit section says of texts, by its pieces: the fields that hold their offsets, table by table, and the source paths
-- that stand in their values (DWARF 5, 7.5.5, class string); and the section with new ones.
use Rattle.std.specs.Prelude.{Bool, true, false, ℕ, List, [], ◌∷◌, ◌++◌, length, get_or, map, slice_set, take, drop, if◌then◌else◌, Option, Some, None}
use Rattle.dw_base.specs.Cells.{Cell, bytes_of}
use Rattle.dw_base.specs.DebugSections.{read_sections}
use Rattle.dw_base.specs.Readings.{Reading, Readings}
use Rattle.dw_base.specs.Pieces.{Piece}
use Rattle.dw_base.specs.Roles.{Role, offset, inline_path, line_start, role_of}
use Rattle.dw_base.specs.TableStarts.{has_start_form, is_macro_value, value_begin}
use Rattle.dw_base.specs.Texts.{text}
use Rattle.dw_base.specs.UnitStates.{UnitState}
use Rattle.dw_base.specs.declared.debug_sections.DebugSection.{DebugSection}
use Rattle.dw_base.specs.declared.debug_sections.DebugSection.TheVariants.{Info, Types, Abbrev, Str, LineStr, StrOffsets, Line, Macro, Names}
use Rattle.dw_offsets.specs.declared.fields.OffsetField.{OffsetField}
use Rattle.dw_base.specs.declared.texts.TextSection.{TextSection}
use Rattle.dw_base.specs.declared.texts.TextSection.TheVariants.{InStr, InLineStr}
use Rattle.dw_unit_fields.specs.declared.fields.InlinePath.{InlinePath}

-- the field of a text's offset into a table that a piece of a role is, at a place and of so many bytes
abbrev pub field_by : TextSection → Role → ℕ → ℕ → List OffsetField
field_by InStr (offset InStr path) at size = record { at = at; size = size; path = path } ∷ []
field_by InLineStr (offset InLineStr path) at size = record { at = at; size = size; path = path } ∷ []
field_by table r at size = []

-- those of pieces, in order
abbrev pub piece_fields : TextSection → List (Piece UnitState) → List OffsetField
piece_fields table [] = []
piece_fields table (x ∷ xs) = field_by table (role_of x) x.state.place (length x.cells) ++ piece_fields table xs

-- the path that stands in a piece of a role
abbrev pub inline_by : Role → ℕ → List Cell → List InlinePath
inline_by inline_path at p = record { at = at; len = length (text (bytes_of p)) } ∷ []
inline_by r at p = []

-- those of pieces, in order
abbrev pub inline_paths : List (Piece UnitState) → List InlinePath
inline_paths [] = []
inline_paths (x ∷ xs) = inline_by (role_of x) x.state.place x.cells ++ inline_paths xs

-- the field that says where a line table starts
abbrev pub start_by : Role → ℕ → ℕ → List OffsetField
start_by line_start at size = record { at = at; size = size; path = false } ∷ []
start_by r at size = []

-- those of pieces, in order
abbrev pub start_fields : List (Piece UnitState) → List OffsetField
start_fields [] = []
start_fields (x ∷ xs) = start_by (role_of x) x.state.place (length x.cells) ++ start_fields xs

-- the field that says where a macro unit starts
abbrev pub macro_by : Bool → ℕ → ℕ → List OffsetField
macro_by true at size = record { at = at; size = size; path = false } ∷ []
macro_by false at size = []

-- those of pieces, in order
abbrev pub macro_fields : List (Piece UnitState) → List OffsetField
macro_fields [] = []
macro_fields (x ∷ xs) = macro_by (is_macro_value x) x.state.place (length x.cells) ++ macro_fields xs

-- where the first value begins that is to say where a line table or a macro unit starts, and has a form that can't
abbrev pub stray_among : List (Piece UnitState) → Option ℕ
stray_among [] = None
stray_among (x ∷ xs) = if has_start_form x then stray_among xs else Some (value_begin x.state)

-- the fields of pieces that hold offsets into a section of debug data: those of texts into their tables, and those that say where line tables and
-- macro units start
abbrev pub pieces_into : List (Piece UnitState) → DebugSection → List OffsetField
pieces_into ps Str = piece_fields InStr ps
pieces_into ps LineStr = piece_fields InLineStr ps
pieces_into ps Line = start_fields ps
pieces_into ps Macro = macro_fields ps
pieces_into ps s = []

-- what a section says of texts, line tables and macro units: its number, for each section of debug data in the order of the table the fields that hold
-- offsets into it, the paths that stand in their values, and the first value that is to say a start and can't
pub record SectionFields : Type 0 where
  pub number : ℕ
  pub fields : List (List OffsetField)
  pub inline : List InlinePath
  pub stray : Option ℕ

-- the place of a section in the table
abbrev pub table_place : DebugSection → ℕ
table_place Info = 0
table_place Types = 1
table_place Abbrev = 2
table_place Str = 3
table_place LineStr = 4
table_place StrOffsets = 5
table_place Line = 6
table_place Macro = 7
table_place Names = 8

-- the fields that hold offsets into a section, and the lists of those of all
abbrev pub fields_into : SectionFields → DebugSection → List OffsetField
fields_into u s = get_or u.fields (table_place s) []

abbrev pub lists_by : (DebugSection → List OffsetField) → List (List OffsetField)
lists_by into = map into read_sections

abbrev pub paths_in : Reading → SectionFields
paths_in r = record {
  number = r.number;
  fields = lists_by (pieces_into r.pieces);
  inline = inline_paths r.pieces;
  stray = stray_among r.pieces;
}

abbrev pub paths_of : Readings → List SectionFields
paths_of [] = []
paths_of (r ∷ rs) = paths_in r ∷ paths_of rs

-- what a section says, with these fields that hold offsets into a section of debug data in the stead of others, and with one more behind them
abbrev pub with_fields : SectionFields → DebugSection → List OffsetField → SectionFields
with_fields u into fs = record { number = u.number; fields = slice_set u.fields (table_place into) fs; inline = u.inline; stray = u.stray }

abbrev pub with_field : SectionFields → DebugSection → OffsetField → SectionFields
with_field u into f = with_fields u into (fields_into u into ++ f ∷ [])

-- with one more path that stands in its value
abbrev pub with_inline : SectionFields → InlinePath → SectionFields
with_inline u p = record { number = u.number; fields = u.fields; inline = u.inline ++ p ∷ []; stray = u.stray }

-- with the first place of a value that can't say a start
abbrev pub stray_first : Option ℕ → ℕ → Option ℕ
stray_first None place = Some place
stray_first (Some n) place = Some n

abbrev pub with_stray_at : SectionFields → ℕ → SectionFields
with_stray_at u place = record { number = u.number; fields = u.fields; inline = u.inline; stray = stray_first u.stray place }

-- what a section says, by the lists of fields that units have
abbrev pub found_with : ℕ → List OffsetField → List OffsetField → List OffsetField → List OffsetField → List InlinePath → Option ℕ → SectionFields
found_with number str line_str lines macros inline stray = record {
  number = number;
  fields = [] ∷ [] ∷ [] ∷ str ∷ line_str ∷ [] ∷ lines ∷ macros ∷ [] ∷ [];
  inline = inline;
  stray = stray;
}

-- lists of fields, with others behind each
abbrev pub each_behind : List (List OffsetField) → List (List OffsetField) → List (List OffsetField)
each_behind [] ys = []
each_behind (x ∷ xs) [] = x ∷ xs
each_behind (x ∷ xs) (y ∷ ys) = (x ++ y) ∷ each_behind xs ys

-- the text of a path that stands in its value
abbrev pub inline_text : List ℕ → InlinePath → List ℕ
inline_text info p = take p.len (drop p.at info)
