-- The sections of macro units that were read, and where their units start (DWARF 5, 6.3).
use Rattle.std.specs.Prelude.{◌≡◌, ℕ, List, [], ◌∷◌, ◌++◌, ⊤}
use Rattle.dw_base.specs.Cells.{CellSection}
use Rattle.dw_base.specs.MacroPieces.{MacroMode, at_unit, MacroState, ReadsMacros}
use Rattle.dw_base.specs.Pieces.{Piece, EachPiece}
use Rattle.dw_base.specs.declared.shared.Order.{Order}

-- a section of macro units that was read: its number, and its pieces
pub record MacroReading : Type 0 where
  pub number : ℕ
  pub pieces : List (Piece MacroState)

-- each section is the pieces at its place in the list
abbrev pub ReadsAllMacros : Order → List CellSection → List MacroReading → Type 0
ReadsAllMacros order [] [] = ⊤
ReadsAllMacros order [] (r ∷ rs) = ⊥
ReadsAllMacros order (z ∷ zs) [] = ⊥
ReadsAllMacros order (z ∷ zs) (r ∷ rs) = (r.number ≡ z.number) × ReadsMacros order z.contents r.pieces × ReadsAllMacros order zs rs

-- this holds of each piece of each section
abbrev pub EachMacro : (Piece MacroState → Type 0) → List MacroReading → Type 0
EachMacro P [] = ⊤
EachMacro P (r ∷ rs) = EachPiece P r.pieces × EachMacro P rs

-- where a unit starts: section and place
pub record MacroStart : Type 0 where
  pub section : ℕ
  pub place : ℕ

-- the units that start in pieces of a section of a number
abbrev pub started_by : MacroMode → ℕ → ℕ → List MacroStart
started_by at_unit section place = record { section = section; place = place } ∷ []
started_by m section place = []

abbrev pub starts_in : ℕ → List (Piece MacroState) → List MacroStart
starts_in section [] = []
starts_in section (x ∷ xs) = started_by x.state.mode section x.state.place ++ starts_in section xs

-- all units, in the order of their sections and places
abbrev pub macro_starts : List MacroReading → List MacroStart
macro_starts [] = []
macro_starts (r ∷ rs) = starts_in r.number r.pieces ++ macro_starts rs

-- the number of the first section, 0 where there is none
abbrev pub first_macros : List CellSection → ℕ
first_macros [] = 0
first_macros (z ∷ zs) = z.number

-- what names a macro unit goes by: the section that offsets without a relocation are of, and where all units start
pub record MacroPlaces : Type 0 where
  pub first : ℕ
  pub starts : List MacroStart
