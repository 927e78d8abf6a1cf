-- Pieces that stand one after another, and the fields in them. For any grammar, and any word for the fields of a piece.
use Rattle.std.proofs.Common.{◌≡◌, ℕ, ◌+◌, List, [], ◌∷◌, ◌++◌, length, take, drop, refl, sym, ap, ◌∙◌, arith, append_assoc, append-nil}
use Rattle.std.proofs.lemmas.List.{drop-drop, drop_all, take-append-drop}
use Rattle.dw_base.specs.Cells.{Cell}
use Rattle.dw_base.specs.Pieces.{Chain, EachPiece, Grammar, Leads, Piece, joined}
use Rattle.dw_meaning.specs.PieceRuns.{all_of}
use Rattle.dw_meaning.proofs.PieceLaws.{joined-append, leads-chain, leads-more}

pub all-append : {S : Type 0} {T : Type 0} (field : Piece S → List T) (xs ys : List (Piece S)) → all_of field (xs ++ ys) ≡ all_of field xs ++ all_of field ys
all-append field [] ys = refl
all-append {S} {T} field (x ∷ xs) ys =
    ap (λ (l : List T). field x ++ l) (all-append field xs ys)
    ∙ sym (append_assoc (field x) (all_of field xs) (all_of field ys))

-- pieces that lead from one state to another, whose cells stand from one place of some cells to another, with these fields
pub record PieceRun {T : Type 0} (g : Grammar) (P : Piece g.State → Type 0) (field : Piece g.State → List T) (cells : List Cell) (s t : g.State) (a b : ℕ) (fs : List T) : Type 0 where
  pub pieces : List (Piece g.State)
  pub leads : Leads g s pieces t
  pub covers : joined pieces ++ drop b cells ≡ drop a cells
  pub fields : all_of field pieces ≡ fs
  pub each : EachPiece P pieces

pub each-append : {S : Type 0} (P : Piece S → Type 0) (xs ys : List (Piece S)) → EachPiece P xs → EachPiece P ys → EachPiece P (xs ++ ys)
each-append P [] ys a b = b
each-append P (x ∷ xs) ys a b = (a.0, each-append P xs ys a.1 b)

-- one after another
pub run-more : {T : Type 0} (g : Grammar) (P : Piece g.State → Type 0) (field : Piece g.State → List T) (cells : List Cell) (s t u : g.State) (a b c : ℕ) (fs gs : List T)
    → PieceRun g P field cells s t a b fs → PieceRun g P field cells t u b c gs → PieceRun g P field cells s u a c (fs ++ gs)
run-more {T} g P field cells s t u a b c fs gs m n = record {
  pieces = m.pieces ++ n.pieces;
  leads = leads-more g s t u m.pieces n.pieces m.leads n.leads;
  covers =
      ap (λ (x : List Cell). x ++ drop c cells) (joined-append m.pieces n.pieces) ∙ append_assoc (joined m.pieces) (joined n.pieces) (drop c cells)
      ∙ ap (λ (x : List Cell). joined m.pieces ++ x) n.covers ∙ m.covers;
  fields =
      all-append field m.pieces n.pieces ∙ ap (λ (l : List T). l ++ all_of field n.pieces) m.fields
      ∙ ap (λ (l : List T). fs ++ l) n.fields;
  each = each-append P m.pieces n.pieces m.each n.each;
}

pub run-none : {T : Type 0} (g : Grammar) (P : Piece g.State → Type 0) (field : Piece g.State → List T) (cells : List Cell) (s t : g.State) (a : ℕ) → s ≡ t → PieceRun g P field cells s t a a []
run-none {T} g P field cells s t a e = record { pieces = []; leads = e; covers = refl; fields = refl; each = tt }

-- a piece of so many cells
pub run-one : {T : Type 0} (g : Grammar) (P : Piece g.State → Type 0) (field : Piece g.State → List T) (cells : List Cell) (s t : g.State) (a n : ℕ) (fs : List T)
    → g.Fits s (take n (drop a cells)) → g.next s (take n (drop a cells)) ≡ t
    → field (record { state = s; cells = take n (drop a cells) }) ≡ fs → P (record { state = s; cells = take n (drop a cells) }) → PieceRun g P field cells s t a (a + n) fs
run-one {T} g P field cells s t a n fs fits next here holds = record {
  pieces = record { state = s; cells = take n (drop a cells) } ∷ [];
  leads = (refl, fits, next);
  covers =
      append_assoc (take n (drop a cells)) [] (drop (a + n) cells)
      ∙ ap (λ (x : List Cell). take n (drop a cells) ++ x) (sym (drop-drop n a cells)) ∙ take-append-drop n (drop a cells);
  fields = append-nil (field (record { state = s; cells = take n (drop a cells) })) ∙ here;
  each = (holds, tt);
}

-- pieces of a whole section
pub record WholeRun {T : Type 0} (g : Grammar) (P : Piece g.State → Type 0) (field : Piece g.State → List T) (cells : List Cell) (s : g.State) (fs : List T) : Type 0 where
  pub pieces : List (Piece g.State)
  pub chain : Chain g s pieces
  pub cells_are : joined pieces ≡ cells
  pub fields : all_of field pieces ≡ fs
  pub each : EachPiece P pieces

pub run-whole : {T : Type 0} (g : Grammar) (P : Piece g.State → Type 0) (field : Piece g.State → List T) (cells : List Cell) (s t : g.State) (b : ℕ) (fs : List T) → b ≡ length cells → g.Ends t
    → PieceRun g P field cells s t 0 b fs → WholeRun g P field cells s fs
run-whole {T} g P field cells s t b fs size ends m = record {
  pieces = m.pieces;
  chain = leads-chain g s t m.pieces m.leads ends;
  cells_are =
      sym (append-nil (joined m.pieces)) ∙ ap (λ (x : List Cell). joined m.pieces ++ x) (sym (drop_all b cells (omega (arith, size)))) ∙ m.covers;
  fields = m.fields;
  each = m.each;
}
