-- The fates of an entry's attributes: one that becomes an offset has no number in its abbreviation, there are no more fates than attributes, and
-- those of an entry behind the first all stay.
use Rattle.std.proofs.Common.{Bool, true, false, ◌≡◌, ◌≢◌, ◌⊎◌, inl, inr, ℕ, ◌+◌, ◌==◌, List, [], ◌∷◌, ◌++◌, length, refl, sym, ap, ◌∙◌, subst, if◌then◌else◌}
use Rattle.std.specs.Prelude.{⊤, ◌&&◌, ◌||◌}
use Rattle.std.proofs.lemmas.Bool.{ne_eqb}
use Rattle.dw_base.specs.Cells.{Cell}
use Rattle.dw_base.specs.Forms.{ValueKind, number_of, inline_text, text_offset, in_abbreviation, form_in_front, form_rows, kind_in}
use Rattle.dw_base.specs.Paths.{PathMap}
use Rattle.dw_base.specs.Pieces.{Chain, Piece}
use Rattle.dw_base.specs.Roles.{fixed, inline_path, line_start, is_line_start, is_macros, is_path_use, is_unit_tag, role_of, role_of_kind, use_of}
use Rattle.dw_base.specs.UnitHeaders.{UnitBase}
use Rattle.dw_base.specs.UnitPieces.{FitsMode, unit_grammar}
use Rattle.dw_base.specs.UnitStates.{Mode, at_header, at_code, at_values, at_chosen, stuck, UnitState, after_value, before_unit, between, code_value, in_unit, inside, of_chosen, past}
use Rattle.dw_base.specs.declared.dwarf_numbers.TheConstants.{DW_AT_comp_dir, DW_AT_name, DW_AT_stmt_list, DW_FORM_implicit_const}
use Rattle.dw_base.specs.declared.shared.Params.{Params}
use Rattle.dw_base.specs.declared.values.AttributeUse.{AttributeUse}
use Rattle.dw_base.specs.declared.values.AttributeUse.TheVariants.{NamesPath, NamesLineTable, NamesMacroUnit, NamesOther}
use Rattle.dw_base.specs.declared.values.Spec.{Spec}
use Rattle.dw_meaning.proofs.ScanPieceLaws.{is_front}
use Rattle.inline_lift.specs.GrowingPaths.{Fate, stays, grown, fate_if, fate_of, fates, grows_by, room_left, with_fate, with_kind}
use Rattle.inline_lift.specs.LiftedTables.{lifted_spec, lifted_specs, nth_fate}
use Rattle.inline_lift.proofs.LiftedSpecLaws.{CanGrow, SpecsCanGrow}
use Rattle.inline_lift.proofs.PieceLiftLaws.{in_mode, value_state}
use Rattle.inline_lift.proofs.StateLiftLaws.{after-own, kind-own}
use Rattle.inline_lift.proofs.UnitLiftLaws.{piece_of}

-- behind an entry there are no fates
between-none : (s : UnitState) (place entry depth : ℕ) (params : Params) (f : Fate) (fs : List Fate) → with_fate (between s place entry depth).mode params f fs ≡ []
unfolding between
between-none s place entry depth params f fs = by_end (place == s.header.end) (depth == 0)
  where
    by_end : (a b : Bool) → with_fate (if a then (if b then before_unit s.section s.kind s.whole place (s.unit + 1) else in_unit s place entry depth stuck) else in_unit s place entry depth at_code).mode params f fs ≡ []
    by_end true true = refl
    by_end true false = refl
    by_end false b = refl

-- an attribute whose number stands in the abbreviation stays
number-kind : (params : Params) → kind_in params DW_FORM_implicit_const ≡ in_abbreviation
unfolding kind_in form_rows
number-kind params = refl

number-stays : (m : PathMap) (s : UnitState) (number tag : ℕ) (x : Spec) (xs : List Spec) (p : List Cell) → x.form ≡ DW_FORM_implicit_const
    → fate_of m (record { state = value_state s number tag x xs; cells = p }) ≡ stays
unfolding role_of
number-stays m s number tag x xs p e =
    ap (λ (k : ValueKind). fate_if (grows_by (role_of_kind k (use_of number tag x.name)) m p) (room_left s p)) (ap (kind_in s.header.params) e ∙ number-kind s.header.params)

can-grow : (f : Fate) (x : Spec) → (x.form ≡ DW_FORM_implicit_const → f ≡ stays) → CanGrow f x
can-grow stays x h g = absurd cc
can-grow (grown r) x h g = λ e. let none : grown r ≡ stays = h e in cc

-- the fates of values that follow: they fit the attributes that are left, and end with them
abbrev pub FatesFit : List Fate → List Spec → Type 0
FatesFit fs xs = SpecsCanGrow fs xs × (nth_fate fs (length xs) ≡ stays)

nth-next : (f : Fate) (fs : List Fate) (xs : List Spec) (x : Spec) → nth_fate fs (length xs) ≡ stays → nth_fate (f ∷ fs) (length (x ∷ xs)) ≡ stays
nth-next f fs xs x e = e

-- pieces whose first one is in a state, and fits it
abbrev Behind : UnitBase → UnitState → List Cell → List (Piece UnitState) → Type 0
Behind base u p xs = FitsMode u.mode base u p × Chain (unit_grammar base) (past u.mode base u p) xs

-- no fates where no attributes are left
none-left : (m : PathMap) (base : UnitBase) (s : UnitState) (place entry depth : ℕ) (xs : List (Piece UnitState)) → Chain (unit_grammar base) (between s place entry depth) xs → fates m xs ≡ []
none-left m base s place entry depth [] c = refl
none-left m base s place entry depth (x ∷ xs) c =
    ap (λ (u : UnitState). with_fate u.mode u.header.params (fate_of m x) (fates m xs)) c.0
    ∙ between-none s place entry depth (between s place entry depth).header.params (fate_of m x) (fates m xs)

-- one value more in front of what fits
values-fit : (m : PathMap) (base : UnitBase) (s : UnitState) (number tag : ℕ) (x : Spec) (rest : List Spec) (p : List Cell) (xs : List (Piece UnitState))
    → ((t : UnitState) (place entry depth : ℕ) (ys : List (Piece UnitState)) → Chain (unit_grammar base) (inside t place entry depth number tag rest) ys → FatesFit (fates m ys) rest)
    → Behind base (value_state s number tag x rest) p xs → FatesFit (fates m (record { state = value_state s number tag x rest; cells = p } ∷ xs)) (x ∷ rest)
values-fit m base s number tag x rest p xs others b = by_front (is_front (kind_in s.header.params x.form))
  where
    f : Fate
    f = fate_of m (record { state = value_state s number tag x rest; cells = p })

    next : UnitState
    next = past (at_values number tag (x ∷ rest)) base (value_state s number tag x rest) p

    chosen : (ys : List (Piece UnitState)) → Chain (unit_grammar base) (in_unit s (s.place + length p) s.entry s.depth (at_chosen number tag s.place (of_chosen x (code_value p)) rest)) ys
        → FatesFit (fates m ys) (x ∷ rest)
    chosen [] c = let none : at_chosen number tag s.place (of_chosen x (code_value p)) rest ≡ at_header = c.mode in absurd cc
    chosen (y ∷ ys) c =
        let first : fates m (y ∷ ys) ≡ stays ∷ fates m ys = ap (λ (u : UnitState). with_fate u.mode u.header.params (fate_of m y) (fates m ys)) c.0 in
        let tail : Chain (unit_grammar base) (past (at_chosen number tag s.place (of_chosen x (code_value p)) rest) base
        (in_unit s (s.place + length p) s.entry s.depth (at_chosen number tag s.place (of_chosen x (code_value p)) rest)) y.cells) ys =
        subst (λ (u : UnitState). Chain (unit_grammar base) (past u.mode base u y.cells) ys) c.0 c.2 in
        let fit = others (in_unit s (s.place + length p) s.entry s.depth (at_chosen number tag s.place (of_chosen x (code_value p)) rest)) (s.place + length p + length y.cells) s.entry s.depth ys tail in
        subst (λ (fs : List Fate). FatesFit fs (x ∷ rest)) (sym first) (((λ g. absurd cc), fit.0), fit.1)

    by_front : (kind_in s.header.params x.form ≡ form_in_front) ⊎ (kind_in s.header.params x.form ≡ form_in_front → ⊥)
        → FatesFit (with_kind (kind_in s.header.params x.form) f (fates m xs)) (x ∷ rest)
    by_front (inl e) =
        subst (λ (k : ValueKind). FatesFit (with_kind k f (fates m xs)) (x ∷ rest)) (sym e)
        (chosen xs (subst (λ (k : ValueKind). Chain (unit_grammar base) (after_value k (value_state s number tag x rest) (s.place + length p) (code_value p) number tag x rest) xs) e b.1))
    by_front (inr other) =
        let tail : Chain (unit_grammar base) (inside (value_state s number tag x rest) (s.place + length p) s.entry s.depth number tag rest) xs =
        subst (λ (u : UnitState). Chain (unit_grammar base) u xs) (after-own (kind_in s.header.params x.form) (value_state s number tag x rest) (s.place + length p) (code_value p) number tag x rest other) b.1 in
        let fit = others (value_state s number tag x rest) (s.place + length p) s.entry s.depth xs tail in
        subst (λ (fs : List Fate). FatesFit fs (x ∷ rest)) (sym (kind-own (kind_in s.header.params x.form) f (fates m xs) other))
        ((can-grow f x (number-stays m s number tag x rest p), fit.0), fit.1)

pub fates-fit : (m : PathMap) (base : UnitBase) (s : UnitState) (place entry depth number tag : ℕ) (specs : List Spec) (xs : List (Piece UnitState))
    → Chain (unit_grammar base) (inside s place entry depth number tag specs) xs → FatesFit (fates m xs) specs
fates-fit m base s place entry depth number tag [] xs c =
    let none : fates m xs ≡ [] = none-left m base s place entry depth xs c in
    (tt, ap (λ (fs : List Fate). nth_fate fs 0) none)
fates-fit m base s place entry depth number tag (x ∷ rest) [] c = let none : at_values number tag (x ∷ rest) ≡ at_header = c.mode in absurd cc
fates-fit m base s place entry depth number tag (x ∷ rest) (y ∷ ys) c =
    subst (λ (u : UnitState). Behind base u y.cells ys → FatesFit (fates m (record { state = u; cells = y.cells } ∷ ys)) (x ∷ rest)) (sym c.0)
    (values-fit m base (in_unit s place entry depth (at_values number tag (x ∷ rest))) number tag x rest y.cells ys
    (λ t place entry depth zs. fates-fit m base t place entry depth number tag rest zs))
    (c.1, c.2)

-- behind the first entry no attribute is a path of the unit
abbrev pub AllStay : List Fate → Type 0
AllStay [] = ⊤
AllStay (f ∷ fs) = (f ≡ stays) × AllStay fs

pub specs-stay : (fs : List Fate) (xs : List Spec) → AllStay fs → lifted_specs fs xs ≡ xs
specs-stay fs [] all = refl
specs-stay [] (x ∷ xs) all = ap (λ (ys : List Spec). x ∷ ys) (specs-stay [] xs tt)
specs-stay (f ∷ fs) (x ∷ xs) all =
    ap (λ (g : Fate). lifted_spec g x ++ lifted_specs fs xs) all.0 ∙ ap (λ (ys : List Spec). x ∷ ys) (specs-stay fs xs all.1)

pub path-other : (number tag name : ℕ) → number ≢ 0 → is_path_use (use_of number tag name) ≡ false
path-other number tag name other =
    ap (λ (b : Bool). is_path_use (if (b && is_unit_tag tag) && (name == DW_AT_name || name == DW_AT_comp_dir) then NamesPath else
    (if name == DW_AT_stmt_list then NamesLineTable else (if is_macros name then NamesMacroUnit else NamesOther)))) (ne_eqb number 0 other)
    ∙ by_name (name == DW_AT_stmt_list) (is_macros name)
  where
    by_name : (a b : Bool) → is_path_use (if a then NamesLineTable else (if b then NamesMacroUnit else NamesOther)) ≡ false
    by_name true b = refl
    by_name false true = refl
    by_name false false = refl

kind-other : (k : ValueKind) (u : AttributeUse) (m : PathMap) (p : List Cell) → is_path_use u ≡ false → grows_by (role_of_kind k u) m p ≡ false
kind-other (number_of class n) u m p e = by_start (is_line_start u class n)
  where
    by_start : (b : Bool) → grows_by (if b then line_start else fixed) m p ≡ false
    by_start true = refl
    by_start false = refl
kind-other inline_text u m p e = ap (λ (b : Bool). grows_by (if b then inline_path else fixed) m p) e
kind-other (text_offset table n) u m p e = refl
kind-other k u m p e = refl

other-stays : (m : PathMap) (s : UnitState) (number tag : ℕ) (x : Spec) (xs : List Spec) (p : List Cell) → number ≢ 0
    → fate_of m (record { state = value_state s number tag x xs; cells = p }) ≡ stays
unfolding role_of
other-stays m s number tag x xs p other =
    ap (λ (b : Bool). fate_if b (room_left s p)) (kind-other (kind_in s.header.params x.form) (use_of number tag x.name) m p (path-other number tag x.name other))

-- a state isn't among the values of the first entry
abbrev pub NotFirst : Mode → Type 0
NotFirst (at_values number tag xs) = number ≢ 0
NotFirst (at_chosen number tag start x xs) = number ≢ 0
NotFirst m = ⊤

between-other : (s : UnitState) (place entry depth : ℕ) → NotFirst (between s place entry depth).mode
unfolding between
between-other s place entry depth = by_end (place == s.header.end) (depth == 0)
  where
    by_end : (a b : Bool) → NotFirst (if a then (if b then before_unit s.section s.kind s.whole place (s.unit + 1) else in_unit s place entry depth stuck) else in_unit s place entry depth at_code).mode
    by_end true true = tt
    by_end true false = tt
    by_end false b = tt

pub inside-other : (s : UnitState) (place entry depth number tag : ℕ) (xs : List Spec) → number ≢ 0 → NotFirst (inside s place entry depth number tag xs).mode
inside-other s place entry depth number tag [] other = between-other s place entry depth
inside-other s place entry depth number tag (x ∷ xs) other = other

value-other : (k : ValueKind) (s : UnitState) (place form number tag : ℕ) (x : Spec) (xs : List Spec) → number ≢ 0 → NotFirst (after_value k s place form number tag x xs).mode
value-other form_in_front s place form number tag x xs other = other
value-other k s place form number tag x xs other = inside-other s place s.entry s.depth number tag xs other

kind-stay : (k : ValueKind) (f : Fate) (fs : List Fate) → f ≡ stays → AllStay fs → AllStay (with_kind k f fs)
kind-stay form_in_front f fs e all = all
kind-stay k f fs e all = (e, all)

stay-step : (k : Mode) (m : PathMap) (base : UnitBase) (s : UnitState) (p : List Cell) (xs : List (Piece UnitState)) → NotFirst k
    → (NotFirst (past k base (in_mode s k) p).mode → AllStay (fates m xs)) → AllStay (fates m (piece_of s k p ∷ xs))
stay-step at_header m base s p xs other rest = tt
stay-step at_code m base s p xs other rest = tt
stay-step (at_values number tag []) m base s p xs other rest = tt
stay-step (at_values number tag (x ∷ ys)) m base s p xs other rest =
    kind-stay (kind_in s.header.params x.form) (fate_of m (piece_of s (at_values number tag (x ∷ ys)) p)) (fates m xs) (other-stays m s number tag x ys p other)
    (rest (value-other (kind_in s.header.params x.form) (value_state s number tag x ys) (s.place + length p) (code_value p) number tag x ys other))
stay-step (at_chosen number tag start x ys) m base s p xs other rest =
    (refl, rest (inside-other (in_mode s (at_chosen number tag start x ys)) (s.place + length p) s.entry s.depth number tag ys other))
stay-step stuck m base s p xs other rest = tt

pub all-stay : (m : PathMap) (base : UnitBase) (t : UnitState) (xs : List (Piece UnitState)) → Chain (unit_grammar base) t xs → NotFirst t.mode → AllStay (fates m xs)
all-stay m base t [] c other = tt
all-stay m base t (x ∷ xs) c other =
    stay-step x.state.mode m base x.state x.cells xs (subst (λ (u : UnitState). NotFirst u.mode) (sym c.0) other)
    (λ next. all-stay m base (past x.state.mode base x.state x.cells) xs c.2 next)
