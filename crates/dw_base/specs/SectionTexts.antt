-- The texts that a file names (DWARF 5, 7.26, 6.1.1.4 and 6.3): what an edit may do to a piece of string offsets, of macro units or of
-- name tables, which texts are named and in which order, and what becomes of these pieces.
use Rattle.std.specs.Prelude.{false, ℕ, List, [], ◌∷◌, ◌++◌}
use Rattle.dw_base.specs.DebugData.{Around, DataReadings, path_slots, source_around}
use Rattle.dw_base.specs.TextLineChanges.{all_texts_mentions}
use Rattle.dw_base.specs.MacroPieces.{of_text, MacroMode, at_line, at_offset, MacroState}
use Rattle.dw_base.specs.MacroReadings.{MacroReading}
use Rattle.dw_base.specs.NamePieces.{NameMode, at_string, NameState}
use Rattle.dw_base.specs.OffsetPieces.{OffsetMode, at_slot, OffsetState}
use Rattle.dw_base.specs.Pieces.{Piece, EachPiece}
use Rattle.dw_base.specs.Roles.{Role, fixed, offset, line_start}
use Rattle.dw_base.specs.StringTables.{Mention}
use Rattle.dw_base.specs.TextChanges.{TableChanges, all_mentions, edited_by, mentions_by, NamesTextBy}
use Rattle.dw_base.specs.TextIndexes.{holds_number}
use Rattle.dw_base.specs.declared.texts.TextSection.{TextSection}
use Rattle.dw_base.specs.declared.texts.TextSection.TheVariants.{InStr}

-- what an edit may do to a piece of string offsets: a slot is a path's where a path names it
abbrev pub offset_role : List ℕ → OffsetMode → ℕ → Role
offset_role paths (at_slot width end) n = offset InStr (holds_number paths n)
offset_role paths m n = fixed

abbrev pub slot_role : List ℕ → OffsetState → Role
slot_role paths s = offset_role paths s.mode s.slot

-- and to one of name tables: no string offset is a path's
abbrev pub name_role_by : NameMode → Role
name_role_by (at_string width left end) = offset InStr false
name_role_by m = fixed

abbrev pub name_role : NameState → Role
name_role s = name_role_by s.mode

-- and to one of macro units: the offset of a line table follows the table, that of a definition's text isn't a path's, and units stay
-- where they are
abbrev pub macro_role_by : MacroMode → Role
macro_role_by (at_line width) = line_start
macro_role_by (at_offset width (of_text defines line)) = offset InStr false
macro_role_by m = fixed

abbrev pub macro_role : MacroState → Role
macro_role s = macro_role_by s.mode

-- the mentions of texts of a table in pieces of roles, in order
abbrev pub mentions_with : {S : Type 0} → (S → Role) → TextSection → Around → List (Piece S) → List Mention
mentions_with role table around [] = []
mentions_with role table around (x ∷ xs) = mentions_by (role x.state) table around x.cells ++ mentions_with role table around xs

abbrev pub macro_mentions : TextSection → Around → List MacroReading → List Mention
macro_mentions table around [] = []
macro_mentions table around (r ∷ rs) = mentions_with macro_role table around r.pieces ++ macro_mentions table around rs

-- the mentions of a table in a file: of units, of slots, of line tables, of macro units, then of name tables. A value by index names no
-- text itself.
abbrev pub file_mentions : TextSection → Around → DataReadings → List Mention
file_mentions table around r =
    all_mentions table around r.units
    ++ (mentions_with (slot_role (path_slots around)) table around r.offsets
    ++ (all_texts_mentions (source_around around) table r.lines
    ++ (macro_mentions table around r.macros ++ mentions_with name_role table around r.names)))

-- what becomes of pieces of roles
abbrev pub edited_with : {S : Type 0} → (S → Role) → TableChanges → Around → List (Piece S) → List (Piece S)
edited_with role changes around [] = []
edited_with role changes around (x ∷ xs) =
    record { state = x.state; cells = edited_by (role x.state) changes around x.cells } ∷ edited_with role changes around xs

-- each offset of a text among pieces of roles names one that ends in its table
abbrev pub NameTexts : {S : Type 0} → (S → Role) → Around → List (Piece S) → Type 0
NameTexts role around xs = EachPiece (λ x. NamesTextBy (role x.state) around x.cells) xs

-- the sections of macro units with their fields moved
abbrev pub edited_macros : TableChanges → Around → List MacroReading → List MacroReading
edited_macros changes around [] = []
edited_macros changes around (r ∷ rs) =
    record { number = r.number; pieces = edited_with macro_role changes around r.pieces } ∷ edited_macros changes around rs
