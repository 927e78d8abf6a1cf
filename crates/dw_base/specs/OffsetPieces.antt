-- The section of string offsets as pieces (DWARF 5, 7.26): each a contribution's header, or a slot.
use Rattle.std.specs.Prelude.{◌≡◌, ℕ, ◌+◌, ◌-◌, ◌%◌, ◌≤◌, ◌==◌, if◌then◌else◌, List, length, Option, Some, None}
use Rattle.dw_base.specs.Cells.{Cell, bytes_of}
use Rattle.dw_base.specs.Forms.{width_size}
use Rattle.dw_base.specs.Lebs.{initial_length_at}
use Rattle.dw_base.specs.Numbers.{spelled}
use Rattle.dw_base.specs.Pieces.{Grammar, Piece, Chain, joined}
use Rattle.dw_base.specs.declared.shared.Order.{Order}
use Rattle.dw_base.specs.declared.shared.Width.{Width}

-- what comes next: a contribution's header; a slot of a contribution with offsets of a width, that ends at a place; or nothing
-- that could
pub data OffsetMode : Type 0 where
  at_contribution : OffsetMode
  at_slot : Width → ℕ → OffsetMode
  no_offsets : OffsetMode

-- a place between pieces: the section's length, where the place is, and the number of the next slot
pub record OffsetState : Type 0 where
  pub whole : ℕ
  pub place : ℕ
  pub slot : ℕ
  pub mode : OffsetMode

abbrev pub offsets_at : ℕ → ℕ → ℕ → OffsetMode → OffsetState
offsets_at whole place slot mode = record { whole = whole; place = place; slot = slot; mode = mode }

-- before a slot, or at the end of a contribution the next one
unfoldable pub before_slot : ℕ → ℕ → ℕ → Width → ℕ → OffsetState
before_slot whole place slot width end =
    if place == end then offsets_at whole place slot at_contribution else offsets_at whole place slot (at_slot width end)

-- the cells are a contribution's header, and the contribution lies in the section: its version is 5, and whole offsets fill it
pub record IsOffsetsHeader (order : Order) (s : OffsetState) (p : List Cell) : Type 0 where
  pub lengths : Width × ℕ × ℕ
  pub length_is : initial_length_at order (bytes_of p) 0 ≡ Some lengths
  pub size : length p ≡ lengths.2 + 4
  pub within : s.place + lengths.2 + lengths.1 ≤ s.whole
  pub room : 4 ≤ lengths.1
  pub version : spelled order (bytes_of p) lengths.2 2 ≡ 5
  pub whole : (lengths.1 - 4) % width_size lengths.0 ≡ 0

-- the cells are a slot, in its contribution
pub record IsSlot (s : OffsetState) (width : Width) (end : ℕ) (p : List Cell) : Type 0 where
  pub size : length p ≡ width_size width
  pub before : s.place + length p ≤ end

abbrev pub FitsOffsets : OffsetMode → Order → OffsetState → List Cell → Type 0
FitsOffsets at_contribution order s p = IsOffsetsHeader order s p
FitsOffsets (at_slot width end) order s p = IsSlot s width end p
FitsOffsets no_offsets order s p = ⊥

-- after a header, by its length: width, length, and the size of the length's field
abbrev pub after_offsets_header : OffsetState → ℕ → Option (Width × ℕ × ℕ) → OffsetState
after_offsets_header s place None = offsets_at s.whole place s.slot no_offsets
after_offsets_header s place (Some l) = before_slot s.whole place s.slot l.0 (s.place + l.2 + l.1)

abbrev pub past_offsets : OffsetMode → Order → OffsetState → List Cell → OffsetState
past_offsets at_contribution order s p = after_offsets_header s (s.place + length p) (initial_length_at order (bytes_of p) 0)
past_offsets (at_slot width end) order s p = before_slot s.whole (s.place + length p) (s.slot + 1) width end
past_offsets no_offsets order s p = s

-- a section may end before a contribution, at its last byte
pub record EndsOffsets (s : OffsetState) : Type 0 where
  pub mode : s.mode ≡ at_contribution
  pub place : s.place ≡ s.whole

-- the grammar of the section
abbrev pub offset_grammar : Order → Grammar
offset_grammar order = record {
  State = OffsetState;
  Fits = λ s p. FitsOffsets s.mode order s p;
  next = λ s p. past_offsets s.mode order s p;
  Ends = EndsOffsets;
}

-- the contents are these pieces
pub record ReadsOffsets (order : Order) (contents : List Cell) (xs : List (Piece OffsetState)) : Type 0 where
  pub chain : Chain (offset_grammar order) (offsets_at (length contents) 0 0 at_contribution) xs
  pub cells : joined xs ≡ contents
