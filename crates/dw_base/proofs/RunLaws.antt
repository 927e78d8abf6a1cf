-- Runs of pieces of any grammar: pieces that lead from one state to another, and where their cells stand.
use Rattle.std.proofs.Common.{zero, suc, ◌≡◌, ℕ, ◌+◌, ◌≤◌, List, [], ◌∷◌, ◌++◌, length, take, drop, refl, sym, ap, ◌∙◌, subst, arith, append_assoc}
use Rattle.std.proofs.lemmas.List.{length-drop, length-take-le, take-append-drop, drop-drop}
use Rattle.dw_base.specs.Cells.{Cell, bytes_of}
use Rattle.dw_base.specs.Pieces.{Grammar, Piece, joined, Leads, Chain}

-- pieces that lead from one state to another, whose cells stand from one place of some cells to another
pub record Run (g : Grammar) (cells : List Cell) (s t : g.State) (a b : ℕ) : Type 0 where
  pub pieces : List (Piece g.State)
  pub leads : Leads g s pieces t
  pub covers : joined pieces ++ drop b cells ≡ drop a cells

leads-more : (g : Grammar) (s t u : g.State) (xs ys : List (Piece g.State)) → Leads g s xs t → Leads g t ys u → Leads g s (xs ++ ys) u
leads-more g s t u [] ys l m = subst (λ (z : g.State). Leads g z ys u) (sym l) m
leads-more g s t u (x ∷ xs) ys l m = (l.0, l.1, leads-more g (g.next x.state x.cells) t u xs ys l.2 m)

-- pieces that lead to where a section may end are a section
pub leads-chain : (g : Grammar) (s t : g.State) (xs : List (Piece g.State)) → Leads g s xs t → g.Ends t → Chain g s xs
leads-chain g s t [] l e = subst g.Ends (sym l) e
leads-chain g s t (x ∷ xs) l e = (l.0, l.1, leads-chain g (g.next x.state x.cells) t xs l.2 e)

joined-append : {S : Type 0} (xs ys : List (Piece S)) → joined (xs ++ ys) ≡ joined xs ++ joined ys
joined-append [] ys = refl
joined-append (x ∷ xs) ys = ap (λ (r : List Cell). x.cells ++ r) (joined-append xs ys) ∙ sym (append_assoc x.cells (joined xs) (joined ys))

-- one after another
pub run-more : (g : Grammar) (cells : List Cell) (s t u : g.State) (a b c : ℕ) → Run g cells s t a b → Run g cells t u b c → Run g cells s u a c
run-more g cells s t u a b c m n = record {
  pieces = m.pieces ++ n.pieces;
  leads = leads-more g s t u m.pieces n.pieces m.leads n.leads;
  covers =
      ap (λ (x : List Cell). x ++ drop c cells) (joined-append m.pieces n.pieces) ∙ append_assoc (joined m.pieces) (joined n.pieces) (drop c cells)
      ∙ ap (λ (x : List Cell). joined m.pieces ++ x) n.covers ∙ m.covers;
}

pub run-none : (g : Grammar) (cells : List Cell) (s t : g.State) (a : ℕ) → s ≡ t → Run g cells s t a a
run-none g cells s t a e = record { pieces = []; leads = e; covers = refl }

-- a piece of so many cells
pub run-one : (g : Grammar) (cells : List Cell) (s t : g.State) (a n : ℕ) → g.Fits s (take n (drop a cells)) → g.next s (take n (drop a cells)) ≡ t
    → Run g cells s t a (a + n)
run-one g cells s t a n fits next = record {
  pieces = record { state = s; cells = take n (drop a cells) } ∷ [];
  leads = (refl, fits, next);
  covers =
      append_assoc (take n (drop a cells)) [] (drop (a + n) cells)
      ∙ ap (λ (x : List Cell). take n (drop a cells) ++ x) (sym (drop-drop n a cells)) ∙ take-append-drop n (drop a cells);
}

bytes_of-take : (n : ℕ) (p : List Cell) → bytes_of (take n p) ≡ take n (bytes_of p)
bytes_of-take zero p = refl
bytes_of-take (suc n) [] = refl
bytes_of-take (suc n) (c ∷ cs) = ap (λ (bs : List ℕ). c.byte ∷ bs) (bytes_of-take n cs)

bytes_of-drop : (n : ℕ) (p : List Cell) → bytes_of (drop n p) ≡ drop n (bytes_of p)
bytes_of-drop zero p = refl
bytes_of-drop (suc n) [] = refl
bytes_of-drop (suc n) (c ∷ cs) = bytes_of-drop n cs

-- the bytes of a part
pub part-bytes : (n a : ℕ) (cells : List Cell) → bytes_of (take n (drop a cells)) ≡ take n (drop a (bytes_of cells))
part-bytes n a cells = bytes_of-take n (drop a cells) ∙ ap (take n) (bytes_of-drop a cells)

-- its length
pub part-length : (n a : ℕ) (cells : List Cell) → a + n ≤ length cells → length (take n (drop a cells)) ≡ n
part-length n a cells h = length-take-le n (drop a cells) (omega (arith, h, length-drop a cells))
