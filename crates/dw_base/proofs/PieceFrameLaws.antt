-- The frame law, for any grammar: pieces whose bytes change in ways that the grammar doesn't see are pieces as they were.
use Rattle.std.proofs.Common.{◌≡◌, List, [], ◌∷◌, sym, ap, ◌∙◌, subst}
use Rattle.std.specs.Bool.{⊤}
use Rattle.dw_base.specs.Cells.{Cell}
use Rattle.dw_base.specs.Pieces.{Grammar, Piece, Chain}

-- a piece is another with bytes that it may become; its state stays
pub record Changed (S : Type 0) (R : S → List Cell → List Cell → Type 0) (x y : Piece S) : Type 0 where
  pub state : y.state ≡ x.state
  pub cells : R x.state x.cells y.cells

-- each piece is the one at its place in another list, changed
abbrev pub AllChanged : (S : Type 0) → (S → List Cell → List Cell → Type 0) → List (Piece S) → List (Piece S) → Type 0
AllChanged S R [] [] = ⊤
AllChanged S R [] (y ∷ ys) = ⊥
AllChanged S R (x ∷ xs) [] = ⊥
AllChanged S R (x ∷ xs) (y ∷ ys) = Changed S R x y × AllChanged S R xs ys

-- the grammar doesn't see the change: the new bytes fit where the old ones do, and the same state follows
pub record Preserves (g : Grammar) (R : g.State → List Cell → List Cell → Type 0) : Type 0 where
  pub fits : (s : g.State) (p q : List Cell) → R s p q → g.Fits s p → g.Fits s q
  pub next : (s : g.State) (p q : List Cell) → R s p q → g.Fits s p → g.next s q ≡ g.next s p

-- the frame law
pub chain-changed : (g : Grammar) (R : g.State → List Cell → List Cell → Type 0) → Preserves g R → (s : g.State) (xs ys : List (Piece g.State))
    → AllChanged g.State R xs ys → Chain g s xs → Chain g s ys
chain-changed g R law s [] [] h c = c
chain-changed g R law s [] (y ∷ ys) h c = absurd h
chain-changed g R law s (x ∷ xs) [] h c = absurd h
chain-changed g R law s (x ∷ xs) (y ∷ ys) h c =
    let fits : g.Fits y.state y.cells = subst (λ (z : g.State). g.Fits z y.cells) (sym h.0.state) (law.fits x.state x.cells y.cells h.0.cells c.1) in
    let next : g.next y.state y.cells ≡ g.next x.state x.cells =
    ap (λ (z : g.State). g.next z y.cells) h.0.state ∙ law.next x.state x.cells y.cells h.0.cells c.1 in
    (h.0.state ∙ c.0, fits, subst (λ (z : g.State). Chain g z ys) (sym next) (chain-changed g R law (g.next x.state x.cells) xs ys h.1 c.2))
