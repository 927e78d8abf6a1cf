-- The section of name tables as pieces (DWARF 5, 6.1.1.4): of each table what stands in front of its string offsets, each string
-- offset, and what stands behind them.
use Rattle.std.specs.Prelude.{◌≡◌, ℕ, zero, suc, ◌+◌, ◌≤◌, List, length, Option, Some, None}
use Rattle.dw_base.specs.Cells.{Cell, bytes_of}
use Rattle.dw_base.specs.Forms.{width_size}
use Rattle.dw_base.specs.Lebs.{initial_length_at}
use Rattle.dw_base.specs.Numbers.{spelled}
use Rattle.dw_base.specs.Pieces.{Grammar, Piece, Chain, joined}
use Rattle.dw_base.specs.declared.shared.Order.{Order}
use Rattle.dw_base.specs.declared.shared.Width.{Width}
use Rattle.dw_base.specs.NameHeaders.{name_counts, before_strings, from_strings}
use Rattle.dw_base.specs.declared.name_tables.NameCounts.{NameCounts}

-- what comes next: the front of a table; a string offset of a width, with how many are left behind it, of a table that ends at a
-- place; what is left of that table; or nothing that could
pub data NameMode : Type 0 where
  at_table : NameMode
  at_string : Width → ℕ → ℕ → NameMode
  at_rest : ℕ → NameMode
  no_names : NameMode

-- a place between pieces: the section's length, and where the place is
pub record NameState : Type 0 where
  pub whole : ℕ
  pub place : ℕ
  pub mode : NameMode

abbrev pub names_at : ℕ → ℕ → NameMode → NameState
names_at whole place mode = record { whole = whole; place = place; mode = mode }

-- before so many string offsets, or behind the last what is left of the table
abbrev pub before_strings_of : ℕ → ℕ → Width → ℕ → ℕ → NameState
before_strings_of whole place width zero end = names_at whole place (at_rest end)
before_strings_of whole place width (suc left) end = names_at whole place (at_string width left end)

-- the cells are the front of a table, and the table lies in the section: its version is 5, and all its parts fit
pub record IsTableFront (order : Order) (s : NameState) (p : List Cell) : Type 0 where
  pub lengths : Width × ℕ × ℕ
  pub length_is : initial_length_at order (bytes_of p) 0 ≡ Some lengths
  pub header : lengths.2 + 32 ≤ length p
  pub size : length p ≡ lengths.2 + 32 + before_strings lengths.0 (name_counts order (bytes_of p) lengths.2)
  pub within : s.place + lengths.2 + lengths.1 ≤ s.whole
  pub version : spelled order (bytes_of p) lengths.2 2 ≡ 5
  pub parts : length p + from_strings lengths.0 (name_counts order (bytes_of p) lengths.2) ≤ lengths.2 + lengths.1

-- the cells are a string offset, in its table
pub record IsString (s : NameState) (width : Width) (end : ℕ) (p : List Cell) : Type 0 where
  pub size : length p ≡ width_size width
  pub before : s.place + length p ≤ end

abbrev pub FitsNames : NameMode → Order → NameState → List Cell → Type 0
FitsNames at_table order s p = IsTableFront order s p
FitsNames (at_string width left end) order s p = IsString s width end p
FitsNames (at_rest end) order s p = s.place + length p ≡ end
FitsNames no_names order s p = ⊥

-- after the front of a table, by its length: width, length, and the size of the length's field
abbrev pub after_front : Order → NameState → List Cell → Option (Width × ℕ × ℕ) → NameState
after_front order s p None = names_at s.whole (s.place + length p) no_names
after_front order s p (Some l) =
    let counts : NameCounts = name_counts order (bytes_of p) l.2 in
    before_strings_of s.whole (s.place + length p) l.0 counts.names (s.place + l.2 + l.1)

abbrev pub past_names : NameMode → Order → NameState → List Cell → NameState
past_names at_table order s p = after_front order s p (initial_length_at order (bytes_of p) 0)
past_names (at_string width left end) order s p = before_strings_of s.whole (s.place + length p) width left end
past_names (at_rest end) order s p = names_at s.whole end at_table
past_names no_names order s p = s

-- a section may end before a table, at its last byte
pub record EndsNames (s : NameState) : Type 0 where
  pub mode : s.mode ≡ at_table
  pub place : s.place ≡ s.whole

-- the grammar of the section
abbrev pub name_grammar : Order → Grammar
name_grammar order = record {
  State = NameState;
  Fits = λ s p. FitsNames s.mode order s p;
  next = λ s p. past_names s.mode order s p;
  Ends = EndsNames;
}

-- the contents are these pieces
pub record ReadsNames (order : Order) (contents : List Cell) (xs : List (Piece NameState)) : Type 0 where
  pub chain : Chain (name_grammar order) (names_at (length contents) 0 at_table) xs
  pub cells : joined xs ≡ contents
