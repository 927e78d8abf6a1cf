-- The pieces that were read of unit sections.
use Rattle.std.specs.Prelude.{ℕ, List, [], ◌∷◌, ⊤}
use Rattle.dw_base.specs.Pieces.{Piece, EachPiece}
use Rattle.dw_base.specs.UnitStates.{UnitState}

-- a unit section that was read: its number, and its pieces
pub record Reading : Type 0 where
  pub number : ℕ
  pub pieces : List (Piece UnitState)

-- all that were read, in the order of their numbers
abbrev pub Readings : Type 0
Readings = List Reading

-- this holds of each piece of each section
abbrev pub EachReading : (Piece UnitState → Type 0) → Readings → Type 0
EachReading P [] = ⊤
EachReading P (r ∷ rs) = EachPiece P r.pieces × EachReading P rs
