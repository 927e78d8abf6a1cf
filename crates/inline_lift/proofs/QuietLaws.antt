-- In a unit without a table of its own no path grows: not in its first entry, and none behind that.
use Rattle.std.proofs.Common.{Bool, true, false, ◌≡◌, ◌≢◌, ◌⊎◌, inl, inr, ℕ, ◌+◌, List, [], ◌∷◌, length, Option, Some, None, refl, sym, ap, ◌∙◌}
use Rattle.std.specs.Prelude.{◌||◌}
use Rattle.std.proofs.lemmas.Bool.{or_parts}
use Rattle.dw_base.specs.AbbreviationTables.{Abbreviation}
use Rattle.dw_base.specs.Cells.{Cell}
use Rattle.dw_base.specs.Forms.{ValueKind, form_in_front, kind_in}
use Rattle.dw_base.specs.Paths.{PathMap}
use Rattle.dw_base.specs.Pieces.{Chain, Piece}
use Rattle.dw_base.specs.Roles.{role_of}
use Rattle.dw_base.specs.UnitHeaders.{UnitBase}
use Rattle.dw_base.specs.UnitPieces.{FitsMode, unit_grammar}
use Rattle.dw_base.specs.UnitStates.{Mode, at_header, at_code, at_values, at_chosen, stuck, UnitState, after_code, code_value, past}
use Rattle.dw_meaning.proofs.ScanPieceLaws.{is_front}
use Rattle.inline_lift.specs.GrowingPaths.{Fate, stays, any_grown, fate_if, fate_of, fates, grows, is_grown, room_left, with_fate, with_kind}
use Rattle.inline_lift.specs.LiftFails.{is_chosen}
use Rattle.inline_lift.specs.Lifted.{Lift, own_table}
use Rattle.inline_lift.proofs.AllLiftLaws.{Stage, at_unit, before_first, behind_first, between-after, none-own}
use Rattle.inline_lift.proofs.FateLaws.{AllStay, all-stay}
use Rattle.inline_lift.proofs.PieceLiftLaws.{in_mode}
use Rattle.inline_lift.proofs.RootLaws.{Known, Root}
use Rattle.inline_lift.proofs.StateLiftLaws.{kind-own}
use Rattle.inline_lift.proofs.UnitLiftLaws.{front-fixed, piece_of}

-- a unit without a table of its own has a first entry without one
pub none-grown : (l : Lift) (unit : ℕ) (list : List Abbreviation) (r : Root) → own_table l unit ≡ None → Known l unit list (Some r) → any_grown r.fates ≡ false
none-grown l unit list r none (inl k) = k.0
none-grown l unit list r none (inr k) = absurd (none-own l unit k.1.table none k.1.own)

-- nothing grows behind a piece of an entry in which nothing grows
kind-quiet : (k : ValueKind) (f : Fate) (fs : List Fate) → any_grown (with_kind k f fs) ≡ false → any_grown fs ≡ false
kind-quiet form_in_front f fs e = e
kind-quiet k f fs e = (or_parts (is_grown f) (any_grown fs) e).1

stay-quiet : (fs : List Fate) → AllStay fs → any_grown fs ≡ false
stay-quiet [] all = refl
stay-quiet (f ∷ fs) all = ap (λ (g : Fate). is_grown g || any_grown fs) all.0 ∙ stay-quiet fs all.1

pub later-quiet : (k : Mode) (m : PathMap) (base : UnitBase) (s : UnitState) (p : List Cell) (xs : List (Piece UnitState)) → k ≢ at_header → s.entry ≢ 0
    → FitsMode k base (in_mode s k) p → Chain (unit_grammar base) (past k base (in_mode s k) p) xs → any_grown (fates m (piece_of s k p ∷ xs)) ≡ false → any_grown (fates m xs) ≡ false
later-quiet at_header m base s p xs other some f c e = absurd (other refl)
later-quiet at_code m base s p xs other some f c e =
    stay-quiet (fates m xs)
    (all-stay m base (after_code (in_mode s at_code) (s.place + length p) (code_value p)) xs c (between-after (in_mode s at_code) (s.place + length p) (code_value p) some))
later-quiet (at_values number tag []) m base s p xs other some f c e = absurd f
later-quiet (at_values number tag (x ∷ ys)) m base s p xs other some f c e =
    kind-quiet (kind_in s.header.params x.form) (fate_of m (piece_of s (at_values number tag (x ∷ ys)) p)) (fates m xs) e
later-quiet (at_chosen number tag start x ys) m base s p xs other some f c e = e
later-quiet stuck m base s p xs other some f c e = absurd f

-- a value of which nothing becomes an offset is no path that grows
pub stays-none : (b : Bool) (r : ℕ) → fate_if b r ≡ stays → b ≡ false
stays-none true r e = absurd cc
stays-none false r e = refl

grown-none : (b : Bool) (r : ℕ) → is_grown (fate_if b r) ≡ false → b ≡ false
grown-none true r e = absurd cc
grown-none false r e = refl

pub quiet-mode : (k : Mode) (m : PathMap) (s : UnitState) (p : List Cell) (xs : List (Piece UnitState)) → any_grown (fates m (piece_of s k p ∷ xs)) ≡ false
    → (is_chosen k ≡ true → grows m (piece_of s k p) ≡ false) → grows m (piece_of s k p) ≡ false
unfolding role_of
quiet-mode at_header m s p xs e own = refl
quiet-mode at_code m s p xs e own = refl
quiet-mode (at_values number tag []) m s p xs e own = refl
quiet-mode (at_values number tag (x ∷ ys)) m s p xs e own = by_front (is_front (kind_in s.header.params x.form))
  where
    by_front : (kind_in s.header.params x.form ≡ form_in_front) ⊎ (kind_in s.header.params x.form ≡ form_in_front → ⊥)
        → grows m (piece_of s (at_values number tag (x ∷ ys)) p) ≡ false
    by_front (inl front) = stays-none (grows m (piece_of s (at_values number tag (x ∷ ys)) p)) (room_left s p) (front-fixed m s number tag x ys p front)
    by_front (inr other) =
        let both : any_grown (fate_of m (piece_of s (at_values number tag (x ∷ ys)) p) ∷ fates m xs) ≡ false =
        ap any_grown (sym (kind-own (kind_in s.header.params x.form) (fate_of m (piece_of s (at_values number tag (x ∷ ys)) p)) (fates m xs) other)) ∙ e in
        grown-none (grows m (piece_of s (at_values number tag (x ∷ ys)) p)) (room_left s p)
        (or_parts (is_grown (fate_of m (piece_of s (at_values number tag (x ∷ ys)) p))) (any_grown (fates m xs)) both).0
quiet-mode (at_chosen number tag start x ys) m s p xs e own = own refl
quiet-mode stuck m s p xs e own = refl

-- so nothing grows in what is left of the first entry
pub none-here : (l : Lift) (o : Option ℕ) (x : Piece UnitState) (xs : List (Piece UnitState)) → Stage l o (x ∷ xs) x.state → own_table l x.state.unit ≡ None → any_grown (fates l.map (x ∷ xs)) ≡ false
none-here l o x xs (at_unit is) none = ap (λ (k : Mode). any_grown (with_fate k x.state.header.params (fate_of l.map x) (fates l.map xs))) is
none-here l o x xs (before_first t is i known) none = ap (λ (u : UnitState). any_grown (with_fate u.mode u.header.params (fate_of l.map x) (fates l.map xs))) is
none-here l o x xs (behind_first r some other i known rooted quiet) none = quiet none
