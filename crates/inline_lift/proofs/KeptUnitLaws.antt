-- What no lift changes of units: where entries start, what says the bases of units, and which values name texts by index.
use Rattle.std.proofs.Common.{Bool, true, false, ◌≡◌, ℕ, zero, suc, ◌+◌, length, List, [], ◌∷◌, ◌++◌, Option, Some, None, refl, sym, ap, ◌∙◌, if◌then◌else◌, append_assoc, append-nil}
use Rattle.dw_base.specs.Cells.{Cell, Located}
use Rattle.dw_base.specs.DebugData.{EntryPlace, ReadsAll, all_places, entry_places, place_by, units_in}
use Rattle.dw_base.specs.Forms.{ValueKind, counted, inline_text, text_offset, kind_in, width_size}
use Rattle.dw_base.specs.Pieces.{Piece}
use Rattle.dw_base.specs.Readings.{Readings}
use Rattle.dw_base.specs.Roles.{is_path}
use Rattle.dw_base.specs.TextIndexes.{SaidBase, all_bases, base_placed, base_said, base_value, bases_by, bases_in, index_uses, index_value, said_by, use_by, uses_by, uses_in, IndexUse, is_base}
use Rattle.dw_base.specs.UnitHeaders.{UnitSection}
use Rattle.dw_base.specs.UnitStates.{UnitState, at_values, before_unit, in_unit}
use Rattle.dw_base.specs.declared.shared.Order.{Order}
use Rattle.dw_base.specs.declared.texts.TextSection.TheVariants.{InStr}
use Rattle.inline_lift.specs.GrowingPaths.{Fate, stays, grown, room_left}
use Rattle.inline_lift.specs.Lifted.{Lift, lifted_pieces, lifted_state, lifted_units, lifted_value}
use Rattle.inline_lift.specs.LiftedTables.{filler_form, filler_name, is_short, lifted_specs, plain_spec}
use Rattle.inline_lift.proofs.PieceLiftLaws.{count_size, filler-kind, strp-kind, value_state}
use Rattle.inline_lift.proofs.TurnedLaws.{AllTurned, Turned, all-turned, chosen, code, header, itself, more_turned, none_turned, path, value}

-- lists that say nothing
one-quiet : {T : Type 0} (a : List T) → a ≡ [] → a ++ [] ≡ []
one-quiet {T} a e = ap (λ (xs : List T). xs ++ []) e

two-quiet : {T : Type 0} (a b : List T) → a ≡ [] → b ≡ [] → a ++ (b ++ []) ≡ []
two-quiet {T} a b e f = ap (λ (xs : List T). xs ++ (b ++ [])) e ∙ one-quiet b f

-- where entries start
places-append : (xs ys : List (Piece UnitState)) → entry_places (xs ++ ys) ≡ entry_places xs ++ entry_places ys
places-append [] ys = refl
places-append (x ∷ xs) ys =
    ap (λ (ps : List EntryPlace). place_by x.state.mode x.state x.cells ++ ps) (places-append xs ys) ∙ sym (append_assoc (place_by x.state.mode x.state x.cells) (entry_places xs) (entry_places ys))

places-turned : (l : Lift) (Sure : Type 0) (x : Piece UnitState) (ys : List (Piece UnitState)) → Turned l Sure x ys → entry_places ys ≡ place_by x.state.mode x.state x.cells
places-turned l Sure x ys (itself y quiet) = append-nil (place_by x.state.mode x.state x.cells)
places-turned l Sure x ys (header table s p is_header lifts) = refl
places-turned l Sure x ys (code table gs s p lifts) = append-nil (place_by x.state.mode x.state x.cells)
places-turned l Sure x ys (value table gs s number tag y rest p quiet) = refl
places-turned l Sure x ys (chosen table gs s number tag start y rest p quiet) = refl
places-turned l Sure x ys (path table gs s number tag y rest p grew kind is fits lifts) = by_left (room_left s p)
  where
    by_left : (r : ℕ) → entry_places (lifted_value (grown r) l (lifted_state l table (grown r ∷ gs) (value_state s number tag y rest)) p) ≡ []
    by_left zero = refl
    by_left (suc n) = refl

places-all : (l : Lift) (Sure : Type 0) (xs ys : List (Piece UnitState)) → AllTurned l Sure xs ys → entry_places ys ≡ entry_places xs
places-all l Sure xs ys none_turned = refl
places-all l Sure xs ys (more_turned x front rest behind t all) =
    places-append front behind ∙ ap (λ (ps : List EntryPlace). ps ++ entry_places behind) (places-turned l Sure x front t)
    ∙ ap (λ (ps : List EntryPlace). place_by x.state.mode x.state x.cells ++ ps) (places-all l Sure rest behind all)

-- values that say no base and no index
quiet-base : (b : Bool) (unit : ℕ) (order : Order) (z : Located) (k : ValueKind) (p : List Cell) → base_value order z k p ≡ None → (if b then base_said unit order z k p else []) ≡ []
quiet-base true unit order z k p e = ap (said_by unit (base_placed order k p)) e
quiet-base false unit order z k p e = refl

base-kind : (b : Bool) (unit : ℕ) (order : Order) (z : Located) (k own : ValueKind) (p : List Cell) → k ≡ own → base_value order z own p ≡ None
    → (if b then base_said unit order z k p else []) ≡ []
base-kind b unit order z k own p e none = ap (λ (j : ValueKind). if b then base_said unit order z j p else []) e ∙ quiet-base b unit order z own p none

use-kind : (s : UnitState) (place : ℕ) (is : Bool) (order : Order) (k own : ValueKind) (p : List Cell) → k ≡ own → index_value order own p ≡ None
    → use_by s place is (index_value order k p) ≡ []
use-kind s place is order k own p e none = ap (λ (j : ValueKind). use_by s place is (index_value order j p)) e ∙ ap (use_by s place is) none

-- the bases of units
bases-append : (order : Order) (z : Located) (xs ys : List (Piece UnitState)) → bases_in order z (xs ++ ys) ≡ bases_in order z xs ++ bases_in order z ys
bases-append order z [] ys = refl
bases-append order z (x ∷ xs) ys =
    ap (λ (bs : List SaidBase). bases_by x.state.mode order z x.state x.cells ++ bs) (bases-append order z xs ys)
    ∙ sym (append_assoc (bases_by x.state.mode order z x.state x.cells) (bases_in order z xs) (bases_in order z ys))

bases-turned : (l : Lift) (Sure : Type 0) (order : Order) (z : Located) (x : Piece UnitState) (ys : List (Piece UnitState)) → Turned l Sure x ys → bases_in order z ys ≡ bases_by x.state.mode order z x.state x.cells
bases-turned l Sure order z x ys (itself y quiet) = append-nil (bases_by x.state.mode order z x.state x.cells)
bases-turned l Sure order z x ys (header table s p is_header lifts) = refl
bases-turned l Sure order z x ys (code table gs s p lifts) = refl
bases-turned l Sure order z x ys (value table gs s number tag y rest p quiet) = append-nil (bases_by x.state.mode order z x.state x.cells)
bases-turned l Sure order z x ys (chosen table gs s number tag start y rest p quiet) = append-nil (bases_by x.state.mode order z x.state x.cells)
bases-turned l Sure order z x ys (path table gs s number tag y rest p grew kind is fits lifts) =
    by_left (room_left s p) ∙ sym (base-kind (is_base number y.name) s.unit order z (kind_in s.header.params y.form) inline_text p kind refl)
  where
    first : (r : ℕ) (q : List Cell) → (if is_base number y.name then base_said s.unit order z (kind_in s.header.params 0x0e) q else []) ≡ []
    first r q = base-kind (is_base number y.name) s.unit order z (kind_in s.header.params 0x0e) (text_offset InStr (width_size s.header.params.width)) q (strp-kind s.header.params) refl

    second : (n : ℕ) (q : List Cell) → (if is_base number filler_name then base_said s.unit order z (kind_in s.header.params (filler_form n)) q else []) ≡ []
    second n q = base-kind (is_base number filler_name) s.unit order z (kind_in s.header.params (filler_form n)) (counted (count_size (is_short n))) q (filler-kind s.header.params n) refl

    by_left : (r : ℕ) → bases_in order z (lifted_value (grown r) l (lifted_state l table (grown r ∷ gs) (value_state s number tag y rest)) p) ≡ []
    by_left zero = one-quiet _ (first zero _)
    by_left (suc n) = two-quiet _ _ (first (suc n) _) (second n _)

bases-all : (l : Lift) (Sure : Type 0) (order : Order) (z : Located) (xs ys : List (Piece UnitState)) → AllTurned l Sure xs ys → bases_in order z ys ≡ bases_in order z xs
bases-all l Sure order z xs ys none_turned = refl
bases-all l Sure order z xs ys (more_turned x front rest behind t all) =
    bases-append order z front behind ∙ ap (λ (bs : List SaidBase). bs ++ bases_in order z behind) (bases-turned l Sure order z x front t)
    ∙ ap (λ (bs : List SaidBase). bases_by x.state.mode order z x.state x.cells ++ bs) (bases-all l Sure order z rest behind all)

-- the values by index
uses-append : (order : Order) (xs ys : List (Piece UnitState)) → uses_in order (xs ++ ys) ≡ uses_in order xs ++ uses_in order ys
uses-append order [] ys = refl
uses-append order (x ∷ xs) ys =
    ap (λ (us : List IndexUse). uses_by x.state.mode order x.state x.cells ++ us) (uses-append order xs ys)
    ∙ sym (append_assoc (uses_by x.state.mode order x.state x.cells) (uses_in order xs) (uses_in order ys))

use-state : (l : Lift) (table : ℕ) (gs : List Fate) (s : UnitState) (place : ℕ) (is : Bool) (o : Option ℕ)
    → use_by (lifted_state l table (stays ∷ gs) s) place is o ++ [] ≡ use_by s place is o
use-state l table gs s place is None = refl
use-state l table gs s place is (Some n) = refl

uses-turned : (l : Lift) (Sure : Type 0) (order : Order) (x : Piece UnitState) (ys : List (Piece UnitState)) → Turned l Sure x ys → uses_in order ys ≡ uses_by x.state.mode order x.state x.cells
uses-turned l Sure order x ys (itself y quiet) = append-nil (uses_by x.state.mode order x.state x.cells)
uses-turned l Sure order x ys (header table s p is_header lifts) = refl
uses-turned l Sure order x ys (code table gs s p lifts) = refl
uses-turned l Sure order x ys (value table gs s number tag y rest p quiet) = use-state l table gs (value_state s number tag y rest) s.place (is_path number tag y.name) (index_value order (kind_in s.header.params y.form) p)
uses-turned l Sure order x ys (chosen table gs s number tag start y rest p quiet) =
    use-state l table gs s start (is_path number tag y.name) (index_value order (kind_in s.header.params y.form) p)
uses-turned l Sure order x ys (path table gs s number tag y rest p grew kind is fits lifts) =
    by_left (room_left s p) ∙ sym (use-kind s s.place (is_path number tag y.name) order (kind_in s.header.params y.form) inline_text p kind refl)
  where
    first : (t : UnitState) (q : List Cell) → use_by t s.place (is_path number tag y.name) (index_value order (kind_in s.header.params 0x0e) q) ≡ []
    first t q = use-kind t s.place (is_path number tag y.name) order (kind_in s.header.params 0x0e) (text_offset InStr (width_size s.header.params.width)) q (strp-kind s.header.params) refl

    second : (t : UnitState) (place n : ℕ) (q : List Cell) → use_by t place (is_path number tag filler_name) (index_value order (kind_in s.header.params (filler_form n)) q) ≡ []
    second t place n q = use-kind t place (is_path number tag filler_name) order (kind_in s.header.params (filler_form n)) (counted (count_size (is_short n))) q (filler-kind s.header.params n) refl

    by_left : (r : ℕ) → uses_in order (lifted_value (grown r) l (lifted_state l table (grown r ∷ gs) (value_state s number tag y rest)) p) ≡ []
    by_left zero = one-quiet _ (first (lifted_state l table (grown zero ∷ gs) (value_state s number tag y rest)) _)
    by_left (suc n) =
        two-quiet _ _ (first (lifted_state l table (grown (suc n) ∷ gs) (value_state s number tag y rest)) _)
        (second (in_unit (lifted_state l table (grown (suc n) ∷ gs) (value_state s number tag y rest)) (s.place + width_size s.header.params.width) s.entry s.depth
        (at_values number tag (plain_spec filler_name (filler_form n) ∷ lifted_specs gs rest))) (s.place + width_size s.header.params.width) n _)

uses-all : (l : Lift) (Sure : Type 0) (order : Order) (xs ys : List (Piece UnitState)) → AllTurned l Sure xs ys → uses_in order ys ≡ uses_in order xs
uses-all l Sure order xs ys none_turned = refl
uses-all l Sure order xs ys (more_turned x front rest behind t all) =
    uses-append order front behind ∙ ap (λ (us : List IndexUse). us ++ uses_in order behind) (uses-turned l Sure order x front t)
    ∙ ap (λ (us : List IndexUse). uses_by x.state.mode order x.state x.cells ++ us) (uses-all l Sure order rest behind all)

-- of all sections
pub places-kept : (l : Lift) (first : ℕ) (zs : List UnitSection) (rs : Readings) → ReadsAll l.base first zs rs → all_places (lifted_units l rs) ≡ all_places rs
places-kept l first [] [] reads = refl
places-kept l first [] (r ∷ rs) reads = absurd reads
places-kept l first (z ∷ zs) [] reads = absurd reads
places-kept l first (z ∷ zs) (r ∷ rs) reads =
    ap (λ (ps : List EntryPlace). ps ++ all_places (lifted_units l rs))
    (places-all l ⊥ r.pieces (lifted_pieces l r.pieces) (all-turned l ⊥ (before_unit z.number z.kind (length z.contents) 0 first) r.pieces reads.1.chain (λ no. absurd no)))
    ∙ ap (λ (ps : List EntryPlace). entry_places r.pieces ++ ps) (places-kept l (first + units_in r.pieces) zs rs reads.2)

pub bases-kept : (l : Lift) (order : Order) (t : Located) (first : ℕ) (zs : List UnitSection) (rs : Readings) → ReadsAll l.base first zs rs
    → all_bases order t (lifted_units l rs) ≡ all_bases order t rs
bases-kept l order t first [] [] reads = refl
bases-kept l order t first [] (r ∷ rs) reads = absurd reads
bases-kept l order t first (z ∷ zs) [] reads = absurd reads
bases-kept l order t first (z ∷ zs) (r ∷ rs) reads =
    ap (λ (bs : List SaidBase). bs ++ all_bases order t (lifted_units l rs))
    (bases-all l ⊥ order t r.pieces (lifted_pieces l r.pieces) (all-turned l ⊥ (before_unit z.number z.kind (length z.contents) 0 first) r.pieces reads.1.chain (λ no. absurd no)))
    ∙ ap (λ (bs : List SaidBase). bases_in order t r.pieces ++ bs) (bases-kept l order t (first + units_in r.pieces) zs rs reads.2)

pub uses-kept : (l : Lift) (order : Order) (first : ℕ) (zs : List UnitSection) (rs : Readings) → ReadsAll l.base first zs rs
    → index_uses order (lifted_units l rs) ≡ index_uses order rs
uses-kept l order first [] [] reads = refl
uses-kept l order first [] (r ∷ rs) reads = absurd reads
uses-kept l order first (z ∷ zs) [] reads = absurd reads
uses-kept l order first (z ∷ zs) (r ∷ rs) reads =
    ap (λ (us : List IndexUse). us ++ index_uses order (lifted_units l rs))
    (uses-all l ⊥ order r.pieces (lifted_pieces l r.pieces) (all-turned l ⊥ (before_unit z.number z.kind (length z.contents) 0 first) r.pieces reads.1.chain (λ no. absurd no)))
    ∙ ap (λ (us : List IndexUse). uses_in order r.pieces ++ us) (uses-kept l order (first + units_in r.pieces) zs rs reads.2)
