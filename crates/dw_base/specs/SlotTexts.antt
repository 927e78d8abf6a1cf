-- What is read of string offsets and name tables (DWARF 5, 7.26 and 6.1.1.4): the contributions, the texts of the slots, and the
-- parts of name tables.
use Rattle.std.specs.Prelude.{ℕ, List, [], ◌∷◌, ◌++◌, Option, Some, None}
use Rattle.dw_base.specs.Cells.{Cell, Located, bytes_of, offset_of}
use Rattle.dw_base.specs.Lebs.{initial_length_at}
use Rattle.dw_base.specs.NamePieces.{NameMode, at_string, NameState}
use Rattle.dw_base.specs.OffsetPieces.{OffsetMode, at_contribution, at_slot, OffsetState}
use Rattle.dw_base.specs.Pieces.{Piece}
use Rattle.dw_base.specs.StringOffsets.{contribution_from}
use Rattle.dw_base.specs.Texts.{text_in}
use Rattle.dw_base.specs.declared.shared.Order.{Order}
use Rattle.dw_base.specs.declared.shared.Width.{Width}
use Rattle.dw_base.specs.declared.string_offsets.Contribution.{Contribution}

-- the contributions whose headers are among pieces, in order
abbrev pub contribution_by : ℕ → Option (Width × ℕ × ℕ) → List Contribution
contribution_by place None = []
contribution_by place (Some l) = contribution_from place l ∷ []

abbrev pub begun_by : OffsetMode → Order → ℕ → List Cell → List Contribution
begun_by at_contribution order place p = contribution_by place (initial_length_at order (bytes_of p) 0)
begun_by m order place p = []

abbrev pub contributions_in : Order → List (Piece OffsetState) → List Contribution
contributions_in order [] = []
contributions_in order (x ∷ xs) = begun_by x.state.mode order x.state.place x.cells ++ contributions_in order xs

-- the text that the field of an offset names in a table
abbrev pub field_text : Order → Located → List Cell → List ℕ
field_text order z p = text_in z.bytes (offset_of order z p)

-- the texts of the slots, in order
abbrev pub slot_text : OffsetMode → Order → Located → List Cell → List (List ℕ)
slot_text (at_slot width end) order z p = field_text order z p ∷ []
slot_text m order z p = []

abbrev pub slot_texts : Order → Located → List (Piece OffsetState) → List (List ℕ)
slot_texts order z [] = []
slot_texts order z (x ∷ xs) = slot_text x.state.mode order z x.cells ++ slot_texts order z xs

-- what name tables mean, in order: the text of each string offset, and the bytes around them
pub data NamePart : Type 0 where
  raw_part : List Cell → NamePart
  text_part : List ℕ → NamePart

abbrev pub name_part : NameMode → Order → Located → List Cell → NamePart
name_part (at_string width left end) order z p = text_part (field_text order z p)
name_part m order z p = raw_part p

abbrev pub name_parts : Order → Located → List (Piece NameState) → List NamePart
name_parts order z [] = []
name_parts order z (x ∷ xs) = name_part x.state.mode order z x.cells ∷ name_parts order z xs
