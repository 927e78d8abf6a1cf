-- Units as the standard's grammar spells them (DWARF 5, 7.5.1 to 7.5.3): a header, and marks that spell the unit's forest.
use Rattle.std.specs.Prelude.{◌≡◌, ℕ, List, [], ◌∷◌, ◌++◌}
use Rattle.dw_base.specs.DebugData.{Around}
use Rattle.dw_base.specs.Forests.{Forest, HeadMeaning, Mark, begins, Spells}
use Rattle.dw_base.specs.Pieces.{Piece}
use Rattle.dw_base.specs.Readings.{Reading, Readings}
use Rattle.dw_base.specs.UnitMeanings.{UnitMeaning, mark_of}
use Rattle.dw_base.specs.UnitStates.{UnitState}

-- the marks of pieces
abbrev pub marks_of : Around → List (Piece UnitState) → List Mark
marks_of around [] = []
marks_of around (x ∷ xs) = mark_of around x ∷ marks_of around xs

-- the pieces of a section spell these units
pub data SpelledUnits (around : Around) (section : ℕ) : List (Piece UnitState) → List UnitMeaning → Type 0 where
  no_units : SpelledUnits around section [] []
  more_units : (x : Piece UnitState) (xs rest : List (Piece UnitState)) (head : HeadMeaning) (f : Forest) (units : List UnitMeaning)
      → mark_of around x ≡ begins head → Spells (marks_of around xs) f → SpelledUnits around section rest units
      → SpelledUnits around section (x ∷ xs ++ rest) (record { section = section; head = head; entries = f } ∷ units)

-- and so do those of each section that was read, the units of one section behind those of another
pub data AllSpelled (around : Around) : Readings → List UnitMeaning → Type 0 where
  no_sections : AllSpelled around [] []
  more_sections : (r : Reading) (rs : Readings) (own others : List UnitMeaning) → SpelledUnits around r.number r.pieces own → AllSpelled around rs others
      → AllSpelled around (r ∷ rs) (own ++ others)
