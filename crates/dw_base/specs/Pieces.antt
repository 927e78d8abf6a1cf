-- Sections as pieces, one after another: which cells fit where, and what comes next. For any grammar.
use Rattle.std.specs.Prelude.{◌≡◌, List, [], ◌∷◌, ◌++◌, ⊤}
use Rattle.dw_base.specs.Cells.{Cell}

-- a grammar: the states between pieces, which cells fit a state, the state after them, and where a section may end
pub record Grammar : Type 1 where
  pub State : Type 0
  pub Fits : State → List Cell → Type 0
  pub next : State → List Cell → State
  pub Ends : State → Type 0

-- a piece: its cells, and the state that they were read in
pub record Piece (S : Type 0) : Type 0 where
  pub state : S
  pub cells : List Cell

-- the cells of pieces, joined
abbrev pub joined : {S : Type 0} → List (Piece S) → List Cell
joined [] = []
joined (x ∷ xs) = x.cells ++ joined xs

-- each piece fits its state, each state is the next of the piece before, and the last may end a section
abbrev pub Chain : (g : Grammar) → g.State → List (Piece g.State) → Type 0
Chain g s [] = g.Ends s
Chain g s (x ∷ xs) = (x.state ≡ s) × g.Fits x.state x.cells × Chain g (g.next x.state x.cells) xs

-- pieces that lead from one state to another
abbrev pub Leads : (g : Grammar) → g.State → List (Piece g.State) → g.State → Type 0
Leads g s [] t = s ≡ t
Leads g s (x ∷ xs) t = (x.state ≡ s) × g.Fits x.state x.cells × Leads g (g.next x.state x.cells) xs t

-- this holds of each piece
abbrev pub EachPiece : {S : Type 0} → (Piece S → Type 0) → List (Piece S) → Type 0
EachPiece P [] = ⊤
EachPiece P (x ∷ xs) = P x × EachPiece P xs
