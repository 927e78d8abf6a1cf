-- Why texts by index and texts outside of entries can't be read or mapped: an index without a slot, a field of an offset behind
-- which no text ends, and a slot that a path and something else name.
use Rattle.std.specs.Prelude.{true, false, ◌≡◌, ◌≢◌, ℕ, List, ◌∷◌, ◌++◌, ⊤, None}
use Rattle.dw_base.specs.Cells.{Cell, field_of, is_placed}
use Rattle.dw_base.specs.DebugData.{Around, path_slots, other_slots}
use Rattle.dw_base.specs.OffsetPieces.{OffsetMode, at_slot, OffsetState}
use Rattle.dw_base.specs.Paths.{PathMap, mapped_path}
use Rattle.dw_base.specs.Pieces.{Piece}
use Rattle.dw_base.specs.Refusals.{at}
use Rattle.dw_base.specs.SlotTexts.{field_text}
use Rattle.dw_base.specs.TextChanges.{offset_in}
use Rattle.dw_base.specs.TextIndexes.{Indexing, IndexUse, placed_of, slot_of, holds_number}
use Rattle.dw_base.specs.Texts.{ends_in}
use Rattle.dw_base.specs.declared.debug_sections.DebugSection.TheVariants.{Str}
use Rattle.dw_base.specs.declared.fault.Kind.TheVariants.{StringOffset, StringTable, SharedIndex}
use Rattle.dw_base.specs.declared.fault.Refusal.{Refusal}
use Rattle.dw_base.specs.declared.shared.Width.{Width}
use Rattle.dw_base.specs.declared.texts.TextSection.TheVariants.{InStr}

-- the row of indexes, at the value: its unit has no base, no contribution has that base, or it has no such slot. Of a base that is a symbol
-- without a place another row holds.
pub data IndexFails (g : Indexing) : Refusal → Type 0 where
  no_slot : (before behind : List IndexUse) (u : IndexUse) → g.uses ≡ before ++ u ∷ behind → placed_of g.bases u.unit ≡ true
      → slot_of g u.unit u.index ≡ None → IndexFails g (at StringTable u.section u.place)

-- a slot among pieces
pub record HasSlot (xs : List (Piece OffsetState)) (x : Piece OffsetState) : Type 0 where
  pub before : List (Piece OffsetState)
  pub behind : List (Piece OffsetState)
  pub pieces : xs ≡ before ++ x ∷ behind
  pub width : Width
  pub end : ℕ
  pub mode : x.state.mode ≡ at_slot width end

-- the row of slots, at the slot: its offset names no text; a symbol without a place is no offset
pub data SlotFails (section : ℕ) (around : Around) (xs : List (Piece OffsetState)) : Refusal → Type 0 where
  no_text : (x : Piece OffsetState) → HasSlot xs x → is_placed (field_of around.lasting.base.order x.cells) ≡ true
      → ends_in (around.stands Str).bytes (offset_in around InStr x.cells) ≡ false
      → SlotFails section around xs (at StringOffset section x.state.place)

-- the slot of a number may have another text: no value names it that isn't a path, or the text stays when it is mapped
abbrev pub MayMap : PathMap → List ℕ → List ℕ → ℕ → List ℕ → Type 0
MayMap m paths others n t = holds_number paths n ≡ true → holds_number others n ≡ true → mapped_path m t ≡ t

abbrev pub SlotFitsBy : OffsetMode → PathMap → Around → ℕ → List Cell → Type 0
SlotFitsBy (at_slot width end) m around n p =
    MayMap m (path_slots around) (other_slots around) n (field_text around.lasting.base.order (around.stands Str) p)
SlotFitsBy k m around n p = ⊤

-- no slot is named by a path whose text changes and by a value that isn't a path
abbrev pub SlotFits : PathMap → Around → Piece OffsetState → Type 0
SlotFits m around x = SlotFitsBy x.state.mode m around x.state.slot x.cells

-- the row of shared slots, at the slot: a path whose text changes names it, and a value that isn't a path
pub data SharedFails (m : PathMap) (section : ℕ) (around : Around) (xs : List (Piece OffsetState)) : Refusal → Type 0 where
  shared : (x : Piece OffsetState) → HasSlot xs x → holds_number (path_slots around) x.state.slot ≡ true
      → holds_number (other_slots around) x.state.slot ≡ true
      → mapped_path m (field_text around.lasting.base.order (around.stands Str) x.cells) ≢ field_text around.lasting.base.order (around.stands Str) x.cells
      → SharedFails m section around xs (at SharedIndex section x.state.place)
