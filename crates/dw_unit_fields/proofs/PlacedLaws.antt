-- Pieces stand where their states say, one behind another.
use Rattle.std.proofs.Common.{Bool, true, false, ◌≡◌, ℕ, ◌+◌, ◌-◌, ◌==◌, List, [], ◌∷◌, ◌++◌, length, drop, Option, Some, None, cond, sym, ap, ◌∙◌, refl}
use Rattle.std.specs.Bool.{⊤}
use Rattle.std.proofs.Math.Seq.{drop-append_seam}
use Rattle.std.proofs.lemmas.List.{drop-drop}
use Rattle.dw_base.specs.AbbreviationTables.{Abbreviation, abbreviation_of}
use Rattle.dw_base.specs.Cells.{Cell, bytes_of}
use Rattle.dw_base.specs.EntryScans.{depth_behind}
use Rattle.dw_base.specs.Forms.{ValueKind, form_in_front, kind_in}
use Rattle.dw_base.specs.Pieces.{Piece, Chain, joined}
use Rattle.dw_base.specs.UnitHeaders.{UnitBase}
use Rattle.dw_base.specs.UnitPieces.{FitsMode, unit_grammar}
use Rattle.dw_base.specs.UnitStates.{Mode, at_header, at_code, at_values, at_chosen, stuck, UnitState, before_unit, in_unit, between, inside, headed, after_header, after_entry, after_code, after_value, code_value, piece_header, past}
use Rattle.dw_base.specs.declared.units.UnitHeader.{UnitHeader}
use Rattle.dw_base.specs.declared.values.Spec.{Spec}
use Rattle.dw_base.proofs.UnitEditLaws.{length-bytes_of}
use Rattle.dw_base.proofs.UnitHeaderLaws.{bytes_of-append}

-- the state between entries is at the place that it is given
at_between : (s : UnitState) (place entry depth : ℕ) → (between s place entry depth).place ≡ place
unfolding between
at_between s place entry depth = by_end (place == s.header.end) (depth == 0)
  where
    by_end : (last top : Bool)
        → (cond last (cond top (before_unit s.section s.kind s.whole place (s.unit + 1)) (in_unit s place entry depth stuck)) (in_unit s place entry depth at_code)).place ≡ place
    by_end true true = refl
    by_end true false = refl
    by_end false top = refl

-- and so are those inside an entry, behind a header, a code or a value
at_inside : (s : UnitState) (place entry depth number tag : ℕ) (specs : List Spec) → (inside s place entry depth number tag specs).place ≡ place
at_inside s place entry depth number tag [] = at_between s place entry depth
at_inside s place entry depth number tag (x ∷ xs) = refl

behind_header : (base : UnitBase) (s : UnitState) (place : ℕ) (h : Option UnitHeader) → (after_header base s place h).place ≡ place
behind_header base s place None = refl
behind_header base s place (Some h) = at_between (headed base s h) place 0 0

behind_entry : (s : UnitState) (place : ℕ) (a : Option Abbreviation) → (after_entry s place a).place ≡ place
behind_entry s place None = refl
behind_entry s place (Some a) = at_inside s place (s.entry + 1) (depth_behind a s.depth) s.entry a.tag a.specs

behind_code : (s : UnitState) (place n : ℕ) → (after_code s place n).place ≡ place
unfolding after_code
behind_code s place n = by_null (n == 0)
  where
    by_null : (null : Bool) → (cond null (between s place s.entry (s.depth - 1)) (after_entry s place (abbreviation_of s.table n))).place ≡ place
    by_null true = at_between s place s.entry (s.depth - 1)
    by_null false = behind_entry s place (abbreviation_of s.table n)

behind_value : (k : ValueKind) (s : UnitState) (place form number tag : ℕ) (x : Spec) (xs : List Spec) → (after_value k s place form number tag x xs).place ≡ place
behind_value form_in_front s place form number tag x xs = refl
behind_value k s place form number tag x xs = at_inside s place s.entry s.depth number tag xs

-- the state after a piece is behind it
at_past : (m : Mode) (base : UnitBase) (s : UnitState) (p : List Cell) → FitsMode m base s p → (past m base s p).place ≡ s.place + length p
at_past at_header base s p fit = behind_header base s (s.place + length p) (piece_header base s p)
at_past at_code base s p fit = behind_code s (s.place + length p) (code_value p)
at_past (at_values number tag []) base s p fit = absurd fit
at_past (at_values number tag (x ∷ xs)) base s p fit = behind_value (kind_in s.header.params x.form) s (s.place + length p) (code_value p) number tag x xs
at_past (at_chosen number tag start x xs) base s p fit = at_inside s (s.place + length p) s.entry s.depth number tag xs
at_past stuck base s p fit = absurd fit

-- each piece stands in the section where its state says
abbrev pub Placed : List ℕ → ℕ → List (Piece UnitState) → Type 0
Placed info place [] = ⊤
Placed info place (x ∷ xs) =
    (x.state.place ≡ place) × (bytes_of x.cells ++ bytes_of (joined xs) ≡ drop place info) × Placed info (place + length x.cells) xs

-- the pieces of a section do
pub placed : (base : UnitBase) (info : List ℕ) (s : UnitState) (place : ℕ) (xs : List (Piece UnitState)) → s.place ≡ place
    → Chain (unit_grammar base) s xs → bytes_of (joined xs) ≡ drop place info → Placed info place xs
placed base info s place [] at c e = tt
placed base info s place (x ∷ xs) at c e =
    let here : x.state.place ≡ place = ap (λ (z : UnitState). z.place) c.0 ∙ at in
    let parts : bytes_of x.cells ++ bytes_of (joined xs) ≡ drop place info = sym (bytes_of-append x.cells (joined xs)) ∙ e in
    let behind : bytes_of (joined xs) ≡ drop (place + length x.cells) info =
    sym (drop-append_seam (bytes_of x.cells) (bytes_of (joined xs))) ∙ ap (λ (n : ℕ). drop n (bytes_of x.cells ++ bytes_of (joined xs))) (length-bytes_of x.cells)
    ∙ ap (drop (length x.cells)) parts ∙ drop-drop (length x.cells) place info in
    let next : (past x.state.mode base x.state x.cells).place ≡ place + length x.cells =
    at_past x.state.mode base x.state x.cells c.1 ∙ ap (λ (i : ℕ). i + length x.cells) here in
    (here, parts, placed base info (past x.state.mode base x.state x.cells) (place + length x.cells) xs next c.2 behind)

-- the same, with the cells themselves
abbrev pub PlacedCells : List Cell → ℕ → List (Piece UnitState) → Type 0
PlacedCells cells place [] = ⊤
PlacedCells cells place (x ∷ xs) =
    (x.state.place ≡ place) × (x.cells ++ joined xs ≡ drop place cells) × PlacedCells cells (place + length x.cells) xs

pub placed-cells : (base : UnitBase) (cells : List Cell) (s : UnitState) (place : ℕ) (xs : List (Piece UnitState)) → s.place ≡ place
    → Chain (unit_grammar base) s xs → joined xs ≡ drop place cells → PlacedCells cells place xs
placed-cells base cells s place [] at c e = tt
placed-cells base cells s place (x ∷ xs) at c e =
    let here : x.state.place ≡ place = ap (λ (z : UnitState). z.place) c.0 ∙ at in
    let behind : joined xs ≡ drop (place + length x.cells) cells =
    sym (drop-append_seam x.cells (joined xs)) ∙ ap (drop (length x.cells)) e ∙ drop-drop (length x.cells) place cells in
    let next : (past x.state.mode base x.state x.cells).place ≡ place + length x.cells =
    at_past x.state.mode base x.state x.cells c.1 ∙ ap (λ (i : ℕ). i + length x.cells) here in
    (here, e, placed-cells base cells (past x.state.mode base x.state x.cells) (place + length x.cells) xs next c.2 behind)
