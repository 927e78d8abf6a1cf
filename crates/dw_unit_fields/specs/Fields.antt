-- Fields that hold the offsets of texts, or say where line tables start; and that no two have a byte in common.
use Rattle.std.specs.Prelude.{true, ◌≡◌, ◌⊎◌, ℕ, ◌+◌, ◌<◌, ◌≤◌, List, length, get_or, [], ◌∷◌, ⊤}
use Rattle.dw_base.specs.Cells.{Cell, Located, cells_at, offset_of}
use Rattle.dw_base.specs.Texts.{ends_in}
use Rattle.dw_base.specs.declared.shared.Order.{Order}
use Rattle.dw_offsets.specs.declared.fields.OffsetField.{OffsetField}

-- a field holds the offset of a text, by the cells of the section: it has the size of an offset and lies in the section, and the offset names a
-- text of a table
pub record IsOffsetField (order : Order) (table : Located) (cells : List Cell) (f : OffsetField) : Type 0 where
  pub sized : (f.size ≡ 4) ⊎ (f.size ≡ 8)
  pub inside : f.at + f.size ≤ length cells
  pub ends : ends_in table.bytes (offset_of order table (cells_at cells f.at f.size)) ≡ true

-- each of these fields does
pub record AreOffsetFields (order : Order) (table : Located) (cells : List Cell) (fields : List OffsetField) : Type 0 where
  pub each : (k : ℕ) (d : OffsetField) → k < length fields → IsOffsetField order table cells (get_or fields k d)

-- a field that can say where a line table or a macro unit starts lies in the section
pub record IsStartField (info : List ℕ) (f : OffsetField) : Type 0 where
  pub sized : (f.size ≡ 4) ⊎ (f.size ≡ 8)
  pub inside : f.at + f.size ≤ length info

-- each of these does
pub record AreStartFields (info : List ℕ) (fields : List OffsetField) : Type 0 where
  pub each : (k : ℕ) (d : OffsetField) → k < length fields → IsStartField info (get_or fields k d)

-- two fields have no byte in common
abbrev pub AreApart : OffsetField → OffsetField → Type 0
AreApart f g = (g.at + g.size ≤ f.at) ⊎ (f.at + f.size ≤ g.at)

-- a field has none in common with any of these
abbrev pub IsApartFrom : OffsetField → List OffsetField → Type 0
IsApartFrom f [] = ⊤
IsApartFrom f (g ∷ gs) = AreApart f g × IsApartFrom f gs

-- no two of these have one in common
abbrev pub AllApart : List OffsetField → Type 0
AllApart [] = ⊤
AllApart (f ∷ fs) = IsApartFrom f fs × AllApart fs
