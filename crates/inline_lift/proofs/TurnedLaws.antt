-- What lifted pieces are, one by one, as the pieces that they were turned from; and so what no lift changes: where entries start, the bases of units,
-- and which values name texts by index.
use Rattle.std.proofs.Common.{Bool, true, false, ◌≡◌, ◌⊎◌, inl, inr, ℕ, ◌+◌, List, [], ◌∷◌, ◌++◌, length, Option, Some, None, refl, sym, ap, ◌∙◌, subst, if◌then◌else◌}
use Rattle.std.proofs.lemmas.Bool.{not-true}
use Rattle.dw_base.specs.Cells.{Cell, bytes_of}
use Rattle.dw_base.specs.Forms.{ValueKind, number_of, leb_number, signed_leb, block_of, counted, counted_leb, inline_text, text_offset, present, in_abbreviation, form_in_front, supplementary, unlisted, kind_in}
use Rattle.dw_base.specs.InlinePaths.{inline_fits}
use Rattle.dw_base.specs.Paths.{PathMap}
use Rattle.dw_base.specs.Pieces.{Chain, Piece}
use Rattle.dw_base.specs.Roles.{fixed, inline_path, is_line_start, is_path_use, line_start, role_of, role_of_kind, use_of}
use Rattle.dw_base.specs.Texts.{text}
use Rattle.dw_base.specs.UnitPieces.{FitsMode, IsHeader, unit_grammar}
use Rattle.dw_base.specs.UnitStates.{Mode, at_header, at_code, at_values, at_chosen, stuck, UnitState, after_value, code_value, of_chosen, past, piece_header}
use Rattle.dw_base.specs.declared.values.AttributeUse.{AttributeUse}
use Rattle.dw_base.specs.declared.values.Spec.{Spec}
use Rattle.dw_meaning.proofs.ScanPieceLaws.{is_front}
use Rattle.inline_lift.specs.GrowingPaths.{Fate, stays, grown, fate_if, fate_of, fates, grows, grows_by, is_grown, room_left, with_kind}
use Rattle.inline_lift.specs.LiftFails.{is_chosen}
use Rattle.inline_lift.specs.Lifted.{Lift, header_cells, lifted_pieces, lifted_state, lifted_value, own_table, pieces_by, pieces_if}
use Rattle.inline_lift.proofs.PieceLiftLaws.{EntryLifts, TableLifts, TextLifts, in_mode, value_state}
use Rattle.inline_lift.proofs.QuietLaws.{stays-none}
use Rattle.inline_lift.proofs.LiftingLaws.{AllLifting, Lifting}
use Rattle.inline_lift.proofs.StateLiftLaws.{kind-own}
use Rattle.inline_lift.proofs.UnitLiftLaws.{LiftsIf, PieceLifts, chosen-first, front-fixed, piece_of}

-- what a piece is turned into: itself; a header with another table; a code, a value or a value behind its form in a lifted state; or, of a path
-- that grows, an offset and what is left of the room. Where all is lifted for sure, no other path grows, and what is asked of the piece holds.
pub data Turned (l : Lift) (Sure : Type 0) : Piece UnitState → List (Piece UnitState) → Type 0 where
  itself : (x : Piece UnitState) → (Sure → grows l.map x ≡ false) → Turned l Sure x (x ∷ [])
  header : (table : ℕ) (s : UnitState) (p : List Cell) → IsHeader l.base (in_mode s at_header) p → (Sure → TableLifts l table)
      → Turned l Sure (record { state = in_mode s at_header; cells = p })
      (record { state = in_mode s at_header; cells = header_cells l.base.order table p (piece_header l.base (in_mode s at_header) p) } ∷ [])
  code : (table : ℕ) (gs : List Fate) (s : UnitState) (p : List Cell) → (Sure → EntryLifts l table gs s p) → Turned l Sure (record { state = in_mode s at_code; cells = p })
      (record { state = lifted_state l table [] (in_mode s at_code); cells = p } ∷ [])
  value : (table : ℕ) (gs : List Fate) (s : UnitState) (number tag : ℕ) (x : Spec) (xs : List Spec) (p : List Cell)
      → grows l.map (record { state = value_state s number tag x xs; cells = p }) ≡ false
      → Turned l Sure (record { state = value_state s number tag x xs; cells = p }) (record { state = lifted_state l table (stays ∷ gs) (value_state s number tag x xs); cells = p } ∷ [])
  chosen : (table : ℕ) (gs : List Fate) (s : UnitState) (number tag start : ℕ) (x : Spec) (xs : List Spec) (p : List Cell)
      → (Sure → grows l.map (record { state = in_mode s (at_chosen number tag start x xs); cells = p }) ≡ false)
      → Turned l Sure (record { state = in_mode s (at_chosen number tag start x xs); cells = p })
      (record { state = lifted_state l table (stays ∷ gs) (in_mode s (at_chosen number tag start x xs)); cells = p } ∷ [])
  path : (table : ℕ) (gs : List Fate) (s : UnitState) (number tag : ℕ) (x : Spec) (xs : List Spec) (p : List Cell)
      → grows l.map (record { state = value_state s number tag x xs; cells = p }) ≡ true → kind_in s.header.params x.form ≡ inline_text
      → is_path_use (use_of number tag x.name) ≡ true → inline_fits l.map (text (bytes_of p)) ≡ false → (Sure → TextLifts l s p)
      → Turned l Sure (record { state = value_state s number tag x xs; cells = p })
      (lifted_value (grown (room_left s p)) l (lifted_state l table (grown (room_left s p) ∷ gs) (value_state s number tag x xs)) p)

-- and all of them, in order
pub data AllTurned (l : Lift) (Sure : Type 0) : List (Piece UnitState) → List (Piece UnitState) → Type 0 where
  none_turned : AllTurned l Sure [] []
  more_turned : (x : Piece UnitState) (ys xs zs : List (Piece UnitState)) → Turned l Sure x ys → AllTurned l Sure xs zs → AllTurned l Sure (x ∷ xs) (ys ++ zs)

-- a path that grows stands in its value
pub record GrowsAt (k : ValueKind) (u : AttributeUse) (m : PathMap) (p : List Cell) : Type 0 where
  pub kind : k ≡ inline_text
  pub path : is_path_use u ≡ true
  pub fits : inline_fits m (text (bytes_of p)) ≡ false

pub grows-kind : (k : ValueKind) (u : AttributeUse) (m : PathMap) (p : List Cell) → grows_by (role_of_kind k u) m p ≡ true → GrowsAt k u m p
grows-kind (number_of class n) u m p e = by_start (is_line_start u class n) e
  where
    by_start : (b : Bool) → grows_by (if b then line_start else fixed) m p ≡ true → GrowsAt (number_of class n) u m p
    by_start true f = absurd cc
    by_start false f = absurd cc
grows-kind inline_text u m p e = by_path (is_path_use u) refl e
  where
    by_path : (b : Bool) → is_path_use u ≡ b → grows_by (if b then inline_path else fixed) m p ≡ true → GrowsAt inline_text u m p
    by_path true is f = record { kind = refl; path = is; fits = not-true (inline_fits m (text (bytes_of p))) f }
    by_path false is f = absurd cc
grows-kind (text_offset table n) u m p e = absurd cc
grows-kind (leb_number class) u m p e = absurd cc
grows-kind signed_leb u m p e = absurd cc
grows-kind (block_of n) u m p e = absurd cc
grows-kind (counted n) u m p e = absurd cc
grows-kind counted_leb u m p e = absurd cc
grows-kind present u m p e = absurd cc
grows-kind in_abbreviation u m p e = absurd cc
grows-kind form_in_front u m p e = absurd cc
grows-kind supplementary u m p e = absurd cc
grows-kind unlisted u m p e = absurd cc

grows-at : (m : PathMap) (s : UnitState) (number tag : ℕ) (x : Spec) (xs : List Spec) (p : List Cell) → grows m (record { state = value_state s number tag x xs; cells = p }) ≡ true
    → GrowsAt (kind_in s.header.params x.form) (use_of number tag x.name) m p
unfolding role_of
grows-at m s number tag x xs p e = grows-kind (kind_in s.header.params x.form) (use_of number tag x.name) m p e

-- a value that is no form in front of one
own-turned : (l : Lift) (Sure : Type 0) (table : ℕ) (gs : List Fate) (s : UnitState) (number tag : ℕ) (x : Spec) (xs : List Spec) (p : List Cell) (b : Bool)
    → grows l.map (record { state = value_state s number tag x xs; cells = p }) ≡ b
    → (Sure → is_grown (fate_if b (room_left s p)) ≡ true → TextLifts l (value_state s number tag x xs) p)
    → Turned l Sure (record { state = value_state s number tag x xs; cells = p })
    (lifted_value (fate_if b (room_left s p)) l (lifted_state l table (fate_if b (room_left s p) ∷ gs) (value_state s number tag x xs)) p)
own-turned l Sure table gs s number tag x xs p false e lifts = value table gs s number tag x xs p e
own-turned l Sure table gs s number tag x xs p true e lifts =
    let g = grows-at l.map s number tag x xs p e in
    path table gs s number tag x xs p e g.kind g.path g.fits
    (λ sure. record { room = (lifts sure refl).room; small = (lifts sure refl).small; order = (lifts sure refl).order })

mode-turned : (m : Mode) (l : Lift) (Sure : Type 0) (table : ℕ) (s : UnitState) (p : List Cell) (xs : List (Piece UnitState)) → FitsMode m l.base (in_mode s m) p
    → Chain (unit_grammar l.base) (past m l.base (in_mode s m) p) xs
    → (Sure → PieceLifts m l table (fates l.map xs) (fate_of l.map (piece_of s m p)) (in_mode s m) p)
    → (Sure → is_chosen m ≡ true → grows l.map (piece_of s m p) ≡ false)
    → Turned l Sure (piece_of s m p) (pieces_by m l table (fates l.map (piece_of s m p ∷ xs)) (fate_of l.map (piece_of s m p)) (in_mode s m) p)
mode-turned at_header l Sure table s p xs f c lifts own = header table s p f lifts
mode-turned at_code l Sure table s p xs f c lifts own = code table (fates l.map xs) s p lifts
mode-turned (at_values number tag []) l Sure table s p xs f c lifts own = absurd f
mode-turned (at_values number tag (x ∷ rest)) l Sure table s p xs f c lifts own = by_front (is_front (kind_in s.header.params x.form))
  where
    goal : List Fate → Fate → Type 0
    goal fs g = Turned l Sure (piece_of s (at_values number tag (x ∷ rest)) p) (lifted_value g l (lifted_state l table fs (value_state s number tag x rest)) p)

    by_front : (kind_in s.header.params x.form ≡ form_in_front) ⊎ (kind_in s.header.params x.form ≡ form_in_front → ⊥)
        → goal (with_kind (kind_in s.header.params x.form) (fate_of l.map (piece_of s (at_values number tag (x ∷ rest)) p)) (fates l.map xs)) (fate_of l.map (piece_of s (at_values number tag (x ∷ rest)) p))
    by_front (inl e) =
        let next : (past (at_values number tag (x ∷ rest)) l.base (value_state s number tag x rest) p).mode ≡ at_chosen number tag s.place (of_chosen x (code_value p)) rest =
        ap (λ (k : ValueKind). (after_value k (value_state s number tag x rest) (s.place + length p) (code_value p) number tag x rest).mode) e in
        let h = chosen-first l.base l.map (past (at_values number tag (x ∷ rest)) l.base (value_state s number tag x rest) p) number tag s.place (of_chosen x (code_value p)) rest xs next c in
        let fs : with_kind (kind_in s.header.params x.form) (fate_of l.map (piece_of s (at_values number tag (x ∷ rest)) p)) (fates l.map xs) ≡ stays ∷ h.0 =
        ap (λ (k : ValueKind). with_kind k (fate_of l.map (piece_of s (at_values number tag (x ∷ rest)) p)) (fates l.map xs)) e ∙ h.1 in
        let g : fate_of l.map (piece_of s (at_values number tag (x ∷ rest)) p) ≡ stays = front-fixed l.map s number tag x rest p e in
        subst (λ (gs : List Fate). goal gs (fate_of l.map (piece_of s (at_values number tag (x ∷ rest)) p))) (sym fs)
        (subst (goal (stays ∷ h.0)) (sym g)
        (value table h.0 s number tag x rest p (stays-none (grows l.map (piece_of s (at_values number tag (x ∷ rest)) p)) (room_left s p) g)))
    by_front (inr other) =
        subst (λ (gs : List Fate). goal gs (fate_of l.map (piece_of s (at_values number tag (x ∷ rest)) p)))
        (sym (kind-own (kind_in s.header.params x.form) (fate_of l.map (piece_of s (at_values number tag (x ∷ rest)) p)) (fates l.map xs) other))
        (own-turned l Sure table (fates l.map xs) s number tag x rest p (grows l.map (piece_of s (at_values number tag (x ∷ rest)) p)) refl lifts)
mode-turned (at_chosen number tag start x rest) l Sure table s p xs f c lifts own = chosen table (fates l.map xs) s number tag start x rest p (λ sure. own sure refl)
mode-turned stuck l Sure table s p xs f c lifts own = absurd f

if-turned : (o : Option ℕ) (l : Lift) (Sure : Type 0) (x : Piece UnitState) (xs : List (Piece UnitState)) → own_table l x.state.unit ≡ o → FitsMode x.state.mode l.base x.state x.cells
    → Chain (unit_grammar l.base) (past x.state.mode l.base x.state x.cells) xs → (Sure → Lifting l (fates l.map xs) x) → Turned l Sure x (pieces_if o l (fates l.map (x ∷ xs)) x)
if-turned None l Sure x xs e f c known = itself x (λ sure. (known sure).quiet e)
if-turned (Some table) l Sure x xs e f c known =
    mode-turned x.state.mode l Sure table x.state x.cells xs f c (λ sure. subst (λ (o : Option ℕ). LiftsIf o l (fates l.map xs) x) e (known sure).lifts) (λ sure. (known sure).own)

pub all-turned : (l : Lift) (Sure : Type 0) (s : UnitState) (xs : List (Piece UnitState)) → Chain (unit_grammar l.base) s xs → (Sure → AllLifting l xs)
    → AllTurned l Sure xs (lifted_pieces l xs)
all-turned l Sure s [] c known = none_turned
all-turned l Sure s (x ∷ xs) c known =
    more_turned x (pieces_if (own_table l x.state.unit) l (fates l.map (x ∷ xs)) x) xs (lifted_pieces l xs)
    (if-turned (own_table l x.state.unit) l Sure x xs refl c.1 c.2 (λ sure. (known sure).0))
    (all-turned l Sure (past x.state.mode l.base x.state x.cells) xs c.2 (λ sure. (known sure).1))
