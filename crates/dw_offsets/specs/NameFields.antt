-- The fields of the string offsets of name tables (DWARF 5, 6.1.1.4.6), by tables and by pieces; and that they lie below a place.
use Rattle.std.specs.Prelude.{false, ℕ, zero, suc, ◌+◌, ◌*◌, ◌≤◌, List, [], ◌∷◌, ◌++◌, length, ⊤}
use Rattle.dw_base.specs.Forms.{width_size}
use Rattle.dw_base.specs.NamePieces.{NameMode, at_string, NameState}
use Rattle.dw_base.specs.Pieces.{Piece}
use Rattle.dw_base.specs.declared.name_tables.NameTable.{NameTable}
use Rattle.dw_base.specs.declared.shared.Width.{Width}
use Rattle.dw_offsets.specs.declared.fields.OffsetField.{OffsetField}

-- so many string offsets of a width, one behind another from a place on
abbrev pub string_fields : Width → ℕ → ℕ → List OffsetField
string_fields w zero place = []
string_fields w (suc left) place = record { at = place; size = width_size w; path = false } ∷ string_fields w left (place + width_size w)

-- those of tables
abbrev pub fields_of_names : List NameTable → List OffsetField
fields_of_names [] = []
fields_of_names (t ∷ ts) = string_fields t.width t.names t.strings ++ fields_of_names ts

-- the string offsets of each table lie below a place
abbrev pub AllFit : ℕ → List NameTable → Type 0
AllFit n [] = ⊤
AllFit n (t ∷ ts) = (t.strings + t.names * width_size t.width ≤ n) × AllFit n ts

-- the same by pieces: that of a piece, and those of pieces
abbrev pub string_field : NameMode → ℕ → ℕ → List OffsetField
string_field (at_string w left end) place size = record { at = place; size = size; path = false } ∷ []
string_field m place size = []

abbrev pub piece_strings : List (Piece NameState) → List OffsetField
piece_strings [] = []
piece_strings (x ∷ xs) = string_field x.state.mode x.state.place (length x.cells) ++ piece_strings xs
