-- What is asked of the values of units is asked of lifted ones: those that say where a line table or a macro unit starts have a form that can, macro
-- units are named, and offsets of texts name texts that end.
use Rattle.std.proofs.Common.{Bool, true, false, ◌≡◌, ℕ, zero, suc, ◌+◌, ◌==◌, List, [], ◌∷◌, ◌++◌, length, refl, sym, ap, ◌∙◌, subst, if◌then◌else◌}
use Rattle.std.specs.Prelude.{◌&&◌}
use Rattle.dw_base.specs.Cells.{Cell, bytes_of}
use Rattle.dw_base.specs.DebugData.{ReadsAll, units_in}
use Rattle.dw_base.specs.Forms.{ValueKind, counted, text_offset, kind_in, width_size}
use Rattle.dw_base.specs.Pieces.{EachPiece, Piece}
use Rattle.dw_base.specs.Readings.{EachReading, Readings}
use Rattle.dw_base.specs.Roles.{is_path_use, is_unit_tag, role_of, role_of_kind, use_of}
use Rattle.dw_base.specs.TableStarts.{HasStartForm, NamesMacro, NamesUnitIf, is_macro_value, macro_value_by, start_form_by}
use Rattle.dw_base.specs.TextChanges.{NamesText, NamesTextBy}
use Rattle.dw_base.specs.Texts.{ends_in, text}
use Rattle.dw_base.specs.UnitHeaders.{UnitSection}
use Rattle.dw_base.specs.UnitStates.{UnitState, before_unit}
use Rattle.dw_base.specs.declared.texts.TextSection.TheVariants.{InStr}
use Rattle.dw_base.specs.declared.values.AttributeUse.{AttributeUse}
use Rattle.dw_base.specs.declared.values.AttributeUse.TheVariants.{NamesPath, NamesLineTable, NamesMacroUnit, NamesOther}
use Rattle.inline_lift.specs.GrowingPaths.{grown, room_left}
use Rattle.inline_lift.specs.Lifted.{Lift, lifted_pieces, lifted_state, lifted_str, lifted_units, lifted_value, offset_cells}
use Rattle.inline_lift.specs.LiftedTables.{filler_form, filler_name, is_short}
use Rattle.inline_lift.proofs.PieceLiftLaws.{count_size, filler-kind, strp-kind, value_state}
use Rattle.inline_lift.proofs.LiftingLaws.{EachLifting}
use Rattle.inline_lift.proofs.SurroundingLaws.{Holds, IsSmall, Standing, held-ends, named-kept, new_around, offset-held, old_around, unit-kept}
use Rattle.inline_lift.proofs.TurnedLaws.{AllTurned, Turned, all-turned, chosen, code, header, itself, more_turned, none_turned, path, value}

-- what holds of what each piece is turned into holds of all pieces
each-append : (P : Piece UnitState → Type 0) (xs ys : List (Piece UnitState)) → EachPiece P xs → EachPiece P ys → EachPiece P (xs ++ ys)
each-append P [] ys h k = k
each-append P (x ∷ xs) ys h k = (h.0, each-append P xs ys h.1 k)

each-turned : (l : Lift) (Sure : Type 0) (P Q : Piece UnitState → Type 0) → ((x : Piece UnitState) (ys : List (Piece UnitState)) → Turned l Sure x ys → P x → EachPiece Q ys)
    → (xs ys : List (Piece UnitState)) → AllTurned l Sure xs ys → EachPiece P xs → EachPiece Q ys
each-turned l Sure P Q step xs ys none_turned h = tt
each-turned l Sure P Q step xs ys (more_turned x front rest behind t all) h =
    each-append Q front behind (step x front t h.0) (each-turned l Sure P Q step rest behind all h.1)

pub readings-turned : (l : Lift) (Sure : Type 0) (P Q : Piece UnitState → Type 0) → ((x : Piece UnitState) (ys : List (Piece UnitState)) → Turned l Sure x ys → P x → EachPiece Q ys)
    → (first : ℕ) (zs : List UnitSection) (rs : Readings) → ReadsAll l.base first zs rs → (Sure → EachLifting l rs) → EachReading P rs → EachReading Q (lifted_units l rs)
readings-turned l Sure P Q step first [] [] reads known h = tt
readings-turned l Sure P Q step first [] (r ∷ rs) reads known h = absurd reads
readings-turned l Sure P Q step first (z ∷ zs) [] reads known h = absurd reads
readings-turned l Sure P Q step first (z ∷ zs) (r ∷ rs) reads known h = (
  each-turned l Sure P Q step r.pieces (lifted_pieces l r.pieces)
      (all-turned l Sure (before_unit z.number z.kind (length z.contents) 0 first) r.pieces reads.1.chain (λ sure. (known sure).0)) h.0,
  readings-turned l Sure P Q step (first + units_in r.pieces) zs rs reads.2 (λ sure. (known sure).1) h.1,
)

-- the use of a path, and of what is left of its room
pub path-use : (u : AttributeUse) → is_path_use u ≡ true → u ≡ NamesPath
path-use NamesPath e = refl
path-use NamesLineTable e = absurd cc
path-use NamesMacroUnit e = absurd cc
path-use NamesOther e = absurd cc

and-none : (b : Bool) → (b && false) ≡ false
and-none true = refl
and-none false = refl

pub filler-use : (number tag : ℕ) → use_of number tag filler_name ≡ NamesOther
filler-use number tag = ap (λ (b : Bool). if b then NamesPath else NamesOther) (and-none (number == 0 && is_unit_tag tag))

-- the forms of values that say where something starts
form-turned : (l : Lift) (Sure : Type 0) (x : Piece UnitState) (ys : List (Piece UnitState)) → Turned l Sure x ys → HasStartForm x → EachPiece HasStartForm ys
form-turned l Sure x ys (itself y quiet) h = (h, tt)
form-turned l Sure x ys (header table s p is_header lifts) h = (refl, tt)
form-turned l Sure x ys (code table gs s p lifts) h = (refl, tt)
form-turned l Sure x ys (value table gs s number tag y rest p quiet) h = (h, tt)
form-turned l Sure x ys (chosen table gs s number tag start y rest p quiet) h = (h, tt)
form-turned l Sure x ys (path table gs s number tag y rest p grew kind is fits lifts) h = by_left (room_left s p)
  where
    first : start_form_by (kind_in s.header.params 0x0e) (use_of number tag y.name) ≡ true
    first =
        ap (λ (k : ValueKind). start_form_by k (use_of number tag y.name)) (strp-kind s.header.params)
        ∙ ap (start_form_by (text_offset InStr (width_size s.header.params.width))) (path-use (use_of number tag y.name) is)

    second : (n : ℕ) → start_form_by (kind_in s.header.params (filler_form n)) (use_of number tag filler_name) ≡ true
    second n =
        ap (λ (k : ValueKind). start_form_by k (use_of number tag filler_name)) (filler-kind s.header.params n)
        ∙ ap (start_form_by (counted (count_size (is_short n)))) (filler-use number tag)

    by_left : (r : ℕ) → EachPiece HasStartForm (lifted_value (grown r) l (lifted_state l table (grown r ∷ gs) (value_state s number tag y rest)) p)
    by_left zero = (first, tt)
    by_left (suc n) = (first, (second n, tt))

pub forms-kept : (l : Lift) (first : ℕ) (zs : List UnitSection) (rs : Readings) → ReadsAll l.base first zs rs → EachReading HasStartForm rs → EachReading HasStartForm (lifted_units l rs)
forms-kept l first zs rs reads h = readings-turned l ⊥ HasStartForm HasStartForm (form-turned l ⊥) first zs rs reads (λ no. absurd no) h

-- values that say where macro units start
macro-turned : (l : Lift) (Sure : Type 0) (g : Standing) (x : Piece UnitState) (ys : List (Piece UnitState)) → Turned l Sure x ys → NamesMacro (old_around l g).lasting x
    → EachPiece (NamesMacro (new_around l g).lasting) ys
macro-turned l Sure g x ys (itself y quiet) h = (unit-kept (is_macro_value x) l g x.cells h, tt)
macro-turned l Sure g x ys (header table s p is_header lifts) h = (tt, tt)
macro-turned l Sure g x ys (code table gs s p lifts) h = (tt, tt)
macro-turned l Sure g x ys (value table gs s number tag y rest p quiet) h =
    (unit-kept (macro_value_by (kind_in s.header.params y.form) (use_of number tag y.name)) l g p h, tt)
macro-turned l Sure g x ys (chosen table gs s number tag start y rest p quiet) h =
    (unit-kept (macro_value_by (kind_in s.header.params y.form) (use_of number tag y.name)) l g p h, tt)
macro-turned l Sure g x ys (path table gs s number tag y rest p grew kind is fits lifts) h = by_left (room_left s p)
  where
    first : (q : List Cell) → NamesUnitIf (macro_value_by (kind_in s.header.params 0x0e) (use_of number tag y.name)) (new_around l g).lasting q
    first q = subst (λ (k : ValueKind). NamesUnitIf (macro_value_by k (use_of number tag y.name)) (new_around l g).lasting q) (sym (strp-kind s.header.params)) tt

    second : (n : ℕ) (q : List Cell) → NamesUnitIf (macro_value_by (kind_in s.header.params (filler_form n)) (use_of number tag filler_name)) (new_around l g).lasting q
    second n q = subst (λ (k : ValueKind). NamesUnitIf (macro_value_by k (use_of number tag filler_name)) (new_around l g).lasting q) (sym (filler-kind s.header.params n)) tt

    by_left : (r : ℕ) → EachPiece (NamesMacro (new_around l g).lasting) (lifted_value (grown r) l (lifted_state l table (grown r ∷ gs) (value_state s number tag y rest)) p)
    by_left zero = (first _, tt)
    by_left (suc n) = (first _, (second n _, tt))

pub macros-kept : (l : Lift) (g : Standing) (first : ℕ) (zs : List UnitSection) (rs : Readings) → ReadsAll l.base first zs rs → EachReading (NamesMacro (old_around l g).lasting) rs
    → EachReading (NamesMacro (new_around l g).lasting) (lifted_units l rs)
macros-kept l g first zs rs reads h =
    readings-turned l ⊥ (NamesMacro (old_around l g).lasting) (NamesMacro (new_around l g).lasting) (macro-turned l ⊥ g) first zs rs reads (λ no. absurd no) h

-- offsets of texts
text-turned : (l : Lift) (Sure : Type 0) (g : Standing) → IsSmall l → (x : Piece UnitState) (ys : List (Piece UnitState)) → Turned l Sure x ys
    → NamesText (old_around l g) x × Holds l x → EachPiece (NamesText (new_around l g)) ys
unfolding role_of
text-turned l Sure g small x ys (itself y quiet) h = (named-kept (role_of x) l g x.cells h.0, tt)
text-turned l Sure g small x ys (header table s p is_header lifts) h = (tt, tt)
text-turned l Sure g small x ys (code table gs s p lifts) h = (tt, tt)
text-turned l Sure g small x ys (value table gs s number tag y rest p quiet) h =
    (named-kept (role_of_kind (kind_in s.header.params y.form) (use_of number tag y.name)) l g p h.0, tt)
text-turned l Sure g small x ys (chosen table gs s number tag start y rest p quiet) h =
    (named-kept (role_of_kind (kind_in s.header.params y.form) (use_of number tag y.name)) l g p h.0, tt)
text-turned l Sure g small x ys (path table gs s number tag y rest p grew kind is fits lifts) h = by_left (room_left s p)
  where
    named : (r : ℕ) → NamesTextBy (role_of_kind (kind_in s.header.params 0x0e) (use_of number tag y.name)) (new_around l g)
        (offset_cells l (lifted_state l table (grown r ∷ gs) (value_state s number tag y rest)) p)
    named r =
        subst (λ (k : ValueKind). NamesTextBy (role_of_kind k (use_of number tag y.name)) (new_around l g) (offset_cells l (lifted_state l table (grown r ∷ gs) (value_state s number tag y rest)) p))
        (sym (strp-kind s.header.params))
        (ap (ends_in (lifted_str l))
        (offset-held l (record { number = g.number; bytes = lifted_str l }) (lifted_state l table (grown r ∷ gs) (value_state s number tag y rest)) p small (h.1 grew))
        ∙ held-ends l (text (bytes_of p)) (h.1 grew))

    quiet_role : (n : ℕ) (q : List Cell) → NamesTextBy (role_of_kind (kind_in s.header.params (filler_form n)) (use_of number tag filler_name)) (new_around l g) q
    quiet_role n q = subst (λ (k : ValueKind). NamesTextBy (role_of_kind k (use_of number tag filler_name)) (new_around l g) q) (sym (filler-kind s.header.params n)) tt

    by_left : (r : ℕ) → EachPiece (NamesText (new_around l g)) (lifted_value (grown r) l (lifted_state l table (grown r ∷ gs) (value_state s number tag y rest)) p)
    by_left zero = (named zero, tt)
    by_left (suc n) = (named (suc n), (quiet_role n _, tt))

both-pieces : (P Q : Piece UnitState → Type 0) (xs : List (Piece UnitState)) → EachPiece P xs → EachPiece Q xs → EachPiece (λ x. P x × Q x) xs
both-pieces P Q [] h k = tt
both-pieces P Q (x ∷ xs) h k = ((h.0, k.0), both-pieces P Q xs h.1 k.1)

pub both-readings : (P Q : Piece UnitState → Type 0) (rs : Readings) → EachReading P rs → EachReading Q rs → EachReading (λ x. P x × Q x) rs
both-readings P Q [] h k = tt
both-readings P Q (r ∷ rs) h k = (both-pieces P Q r.pieces h.0 k.0, both-readings P Q rs h.1 k.1)

pub texts-kept : (l : Lift) (g : Standing) (first : ℕ) (zs : List UnitSection) (rs : Readings) → IsSmall l → ReadsAll l.base first zs rs
    → EachReading (NamesText (old_around l g)) rs → EachReading (Holds l) rs → EachReading (NamesText (new_around l g)) (lifted_units l rs)
texts-kept l g first zs rs small reads h held =
    readings-turned l ⊥ (λ x. NamesText (old_around l g) x × Holds l x) (NamesText (new_around l g)) (text-turned l ⊥ g small) first zs rs reads (λ no. absurd no)
    (both-readings (NamesText (old_around l g)) (Holds l) rs h held)
