-- The texts that pieces of units name, and what becomes of the pieces when the tables of texts change. The offset in a field
-- is read and written by words of their own.
use Rattle.std.specs.Prelude.{Bool, ℕ, List, [], ◌∷◌, ◌++◌, get_or, IsTrue, ⊤, Option, Some, None}
use Rattle.dw_base.specs.Cells.{Cell, bytes_of, with_bytes, offset_of}
use Rattle.dw_base.specs.DebugData.{Around, line_table, table_of}
use Rattle.dw_base.specs.Readings.{Readings}
use Rattle.dw_base.specs.InlinePaths.{inline_fits, mapped_inline}
use Rattle.dw_base.specs.NewOffsets.{with_offset}
use Rattle.dw_base.specs.Paths.{PathMap}
use Rattle.dw_base.specs.Pieces.{Piece}
use Rattle.dw_base.specs.LineMeanings.{is_there}
use Rattle.dw_base.specs.LineReadings.{starts_from}
use Rattle.dw_base.specs.Roles.{Role, fixed, offset, inline_path, line_start, role_of}
use Rattle.dw_base.specs.StringTables.{Mention, new_place}
use Rattle.dw_base.specs.Texts.{text, text_in, ends_in}
use Rattle.dw_base.specs.UnitStates.{UnitState}
use Rattle.dw_base.specs.declared.debug_sections.DebugSection.{DebugSection}
use Rattle.dw_base.specs.declared.debug_sections.DebugSection.TheVariants.{Str, LineStr, Line}
use Rattle.dw_base.specs.declared.shared.Order.{Order}
use Rattle.dw_base.specs.declared.texts.TextSection.{TextSection}
use Rattle.dw_base.specs.declared.texts.TextSection.TheVariants.{InStr, InLineStr}

-- the offset that a field holds into a table
abbrev pub offset_in : Around → TextSection → List Cell → ℕ
offset_in around table p = offset_of around.lasting.base.order (table_of around table) p

-- the mention that a field of an offset into a table makes
abbrev pub mention_at : Around → TextSection → Bool → List Cell → Mention
mention_at around table path p = record { path = path; text = text_in (table_of around table).bytes (offset_in around table p) }

-- the mentions of texts of a table in pieces, in order
abbrev pub mentions_by : Role → TextSection → Around → List Cell → List Mention
mentions_by (offset InStr path) InStr around p = mention_at around InStr path p ∷ []
mentions_by (offset InLineStr path) InLineStr around p = mention_at around InLineStr path p ∷ []
mentions_by r table around p = []

abbrev pub mentions_of : TextSection → Around → List (Piece UnitState) → List Mention
mentions_of table around [] = []
mentions_of table around (x ∷ xs) = mentions_by (role_of x) table around x.cells ++ mentions_of table around xs

abbrev pub all_mentions : TextSection → Around → Readings → List Mention
all_mentions table around [] = []
all_mentions table around (r ∷ rs) = mentions_of table around r.pieces ++ all_mentions table around rs

-- what is new in the sections of a kind that others name: the new texts of a table of texts, and the new line tables
abbrev pub Changed : DebugSection → Type 0
Changed Str = List (List ℕ)
Changed LineStr = List (List ℕ)
Changed Line = List (List ℕ)
Changed s = ⊤

-- the map of paths, and what is new in the sections of each kind
pub record TableChanges : Type 0 where
  pub map : PathMap
  pub new : (s : DebugSection) → Changed s

-- the new texts of a table
abbrev pub change_of : TableChanges → TextSection → List (List ℕ)
change_of changes InStr = changes.new Str
change_of changes InLineStr = changes.new LineStr

-- a field has the new place of its mention
abbrev pub moved_field : List (List ℕ) → PathMap → Order → Mention → List Cell → List Cell
moved_field texts m order mention p = with_offset order p (new_place m texts mention)

-- the start of a line table in a field becomes the new one
abbrev pub moved_start : List ℕ → Order → Option ℕ → List Cell → List Cell
moved_start starts order None p = p
moved_start starts order (Some k) p = with_offset order p (get_or starts k 0)

-- what becomes of cells of a role
abbrev pub edited_by : Role → TableChanges → Around → List Cell → List Cell
edited_by fixed changes around p = p
edited_by (offset table path) changes around p =
    moved_field (change_of changes table) changes.map around.lasting.base.order (mention_at around table path p) p
edited_by inline_path changes around p = with_bytes p (mapped_inline changes.map (text (bytes_of p)))
edited_by line_start changes around p = moved_start (starts_from 0 (changes.new Line)) around.lasting.base.order (line_table around p) p

abbrev pub edited : TableChanges → Around → Piece UnitState → Piece UnitState
edited changes around x = record { state = x.state; cells = edited_by (role_of x) changes around x.cells }

abbrev pub edited_all : TableChanges → Around → List (Piece UnitState) → List (Piece UnitState)
edited_all changes around [] = []
edited_all changes around (x ∷ xs) = edited changes around x ∷ edited_all changes around xs

-- an offset of a text names one that ends in its table, and the start of a line table names one
abbrev pub NamesTextBy : Role → Around → List Cell → Type 0
NamesTextBy (offset table path) around p = IsTrue (ends_in (table_of around table).bytes (offset_in around table p))
NamesTextBy line_start around p = IsTrue (is_there (line_table around p))
NamesTextBy r around p = ⊤

abbrev pub NamesText : Around → Piece UnitState → Type 0
NamesText around x = NamesTextBy (role_of x) around x.cells

-- a mapped path fits the room of one that stands in its value
abbrev pub InlineFitsBy : Role → PathMap → List Cell → Type 0
InlineFitsBy inline_path m p = IsTrue (inline_fits m (text (bytes_of p)))
InlineFitsBy r m p = ⊤

abbrev pub InlineFits : PathMap → Piece UnitState → Type 0
InlineFits m x = InlineFitsBy (role_of x) m x.cells
