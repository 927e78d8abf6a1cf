-- Lifted units are units: pieces that are read with the old abbreviations become pieces that are read with the new ones.
use Rattle.std.proofs.Common.{Bool, true, false, ◌≡◌, ◌≢◌, ◌⊎◌, inl, inr, ℕ, ◌+◌, ◌-◌, ◌≤◌, ◌==◌, not, List, [], ◌∷◌, ◌++◌, length, Option, Some, None, refl, sym, ap, ◌∙◌, subst, arith, if◌then◌else◌}
use Rattle.std.specs.Prelude.{⊤}
use Rattle.dw_base.specs.AbbreviationBytes.{abbreviations_at}
use Rattle.dw_base.specs.AbbreviationTables.{Abbreviation, Declares, IsTable, abbreviation_of, more_abbreviations, no_abbreviations}
use Rattle.dw_base.specs.Cells.{Cell, Located, bytes_of, cells_at, field_of, is_elsewhere}
use Rattle.dw_base.specs.EntryScans.{depth_behind}
use Rattle.dw_base.specs.Forms.{ValueKind, form_in_front, kind_in, width_size}
use Rattle.dw_base.specs.Lebs.{initial_length_at, uleb_at}
use Rattle.dw_base.specs.Numbers.{spelled}
use Rattle.dw_base.specs.Paths.{PathMap}
use Rattle.dw_base.specs.Pieces.{Chain, Grammar, Leads, Piece}
use Rattle.dw_base.specs.Roles.{role_of, role_of_kind, use_of}
use Rattle.dw_base.specs.UnitHeaders.{SectionKind, UnitBase, header_if, header_of_length, header_of_version, header_places, unit_header}
use Rattle.dw_base.specs.UnitPieces.{EndsSection, FitsKind, FitsMode, IsHeader, unit_grammar}
use Rattle.dw_base.specs.UnitStates.{Mode, at_header, at_code, at_values, at_chosen, stuck, UnitState, after_code, after_entry, after_header, after_value, before_unit, between, code_value, headed, in_unit, inside, of_chosen, past, piece_header}
use Rattle.dw_base.specs.declared.shared.Width.{Width}
use Rattle.dw_base.specs.declared.units.UnitHeader.{UnitHeader}
use Rattle.dw_base.specs.declared.values.Spec.{Spec}
use Rattle.dw_base.specs.declared.view_fields.Field.{Field}
use Rattle.dw_base.specs.declared.view_fields.Field.TheVariants.{Num, Into, Sym}
use Rattle.dw_base.proofs.AbbreviationLaws.{table-found}
use Rattle.dw_base.proofs.LebLaws.{uleb-inside}
use Rattle.dw_meaning.proofs.ScanPieceLaws.{is_front}
use Rattle.inline_lift.specs.GrowingPaths.{Fate, stays, fate_if, fate_of, fates, grows, grows_by, is_grown, room_left, with_fate, with_kind}
use Rattle.inline_lift.specs.Lifted.{Lift, lifted_abbrevs, lifted_base, lifted_pieces, lifted_state, lifted_value, own_table, pieces_by, pieces_if}
use Rattle.inline_lift.specs.LiftedTables.{copy_bytes}
use Rattle.inline_lift.proofs.CopiedTableLaws.{table-append}
use Rattle.inline_lift.proofs.PieceLiftLaws.{EntryLifts, TableLifts, TextLifts, chosen-step, code-step, front-step, grown-step, header-step, in_mode, own-step, value_state}
use Rattle.inline_lift.proofs.StateLiftLaws.{after-own, kind-own, state_by, state_if, value-own}

-- pieces, and more of them up to the end of a section
pub leads-then : (g : Grammar) (s t : g.State) (xs ys : List (Piece g.State)) → Leads g s xs t → Chain g t ys → Chain g s (xs ++ ys)
leads-then g s t [] ys l c = subst (λ (z : g.State). Chain g z ys) (sym l) c
leads-then g s t (x ∷ xs) ys l c = (l.0, l.1, leads-then g (g.next x.state x.cells) t xs ys l.2 c)

-- a unit without a table of its own: its header is read as it was
elsewhere-same : (z y : Located) (f : Field) → z.number ≡ y.number → is_elsewhere z f ≡ is_elsewhere y f
elsewhere-same z y (Num n) e = refl
elsewhere-same z y (Into s n) e = ap (λ (k : ℕ). not (s == k)) e
elsewhere-same z y (Sym s k a) e = refl

pub header-same : (l : Lift) (kind : SectionKind) (section start : ℕ) (p : List Cell)
    → unit_header (lifted_base l) kind section start p ≡ unit_header l.base kind section start p
unfolding unit_header
header-same l kind section start p = by_length (initial_length_at l.base.order (bytes_of p) 0)
  where
    by_length : (o : Option (Width × ℕ × ℕ)) → header_of_length (lifted_base l) kind section start p o ≡ header_of_length l.base kind section start p o
    by_length None = refl
    by_length (Some (width, n, at)) =
        ap (λ (b : Bool). header_if kind p (record (header_of_version l.base kind section start p width (at + n) at (spelled l.base.order (bytes_of p) at 2)) { elsewhere = b }))
        (elsewhere-same (lifted_base l).abbrevs l.base.abbrevs
        (field_of l.base.order (cells_at p (header_places width (spelled l.base.order (bytes_of p) at 2) at).abbrevs (width_size width))) refl)

-- and its table stands as it was
declares-inside : (bytes : List ℕ) (start : ℕ) (list : List Abbreviation) (at v n : ℕ) → Declares bytes start list at → uleb_at bytes at ≡ Some (v, n) → start ≤ length bytes
declares-inside bytes start list at v n no_abbreviations e = omega (arith, uleb-inside bytes start v n e)
declares-inside bytes start list z v n (more_abbreviations before a at next d s new) e =
    declares-inside bytes start before at a.code s.head.code_size d s.head.code_spells

pub table-inside : (bytes : List ℕ) (start : ℕ) (list : List Abbreviation) → IsTable bytes start list → start ≤ length bytes
table-inside bytes start list t = declares-inside bytes start list t.last 0 t.size t.declares t.ends

pub table-kept : (l : Lift) (start : ℕ) (list : List Abbreviation) → IsTable l.base.abbrevs.bytes start list
    → IsTable (lifted_abbrevs l) start list × (abbreviations_at (lifted_abbrevs l) start ≡ list)
table-kept l start list t =
    let more : IsTable (lifted_abbrevs l) start list = table-append l.base.abbrevs.bytes (copy_bytes l.copies) start list (table-inside l.base.abbrevs.bytes start list t) t in
    (more, table-found (lifted_abbrevs l) start list more)

plain-header : (l : Lift) (s : UnitState) (p : List Cell) → IsHeader l.base s p → IsHeader (lifted_base l) s p
plain-header l s p f =
    let kept = table-kept l f.header.abbrevs (abbreviations_at l.base.abbrevs.bytes f.header.abbrevs) f.table.is in
    record {
      header = f.header;
      is = header-same l s.kind s.section s.place p ∙ f.is;
      size = f.size;
      own = f.own;
      within = f.within;
      table = record { here = f.table.here; is = subst (λ (list : List Abbreviation). IsTable (lifted_abbrevs l) f.header.abbrevs list) (sym kept.1) kept.0 };
    }

plain-fits : (m : Mode) (l : Lift) (s : UnitState) (p : List Cell) → FitsMode m l.base s p → FitsMode m (lifted_base l) s p
plain-fits at_header l s p f = plain-header l s p f
plain-fits at_code l s p f = f
plain-fits (at_values number tag []) l s p f = f
plain-fits (at_values number tag (x ∷ xs)) l s p f = f
plain-fits (at_chosen number tag start x xs) l s p f = f
plain-fits stuck l s p f = f

plain-next : (m : Mode) (l : Lift) (s : UnitState) (p : List Cell) → FitsMode m l.base s p → past m (lifted_base l) s p ≡ past m l.base s p
plain-next at_header l s p f =
    let kept = table-kept l f.header.abbrevs (abbreviations_at l.base.abbrevs.bytes f.header.abbrevs) f.table.is in
    ap (after_header (lifted_base l) s (s.place + length p)) (header-same l s.kind s.section s.place p ∙ f.is)
    ∙ ap (λ (list : List Abbreviation). between (record (headed l.base s f.header) { table = list }) (s.place + length p) 0 0) kept.1
    ∙ ap (after_header l.base s (s.place + length p)) (sym f.is)
plain-next at_code l s p f = refl
plain-next (at_values number tag []) l s p f = refl
plain-next (at_values number tag (x ∷ xs)) l s p f = refl
plain-next (at_chosen number tag start x xs) l s p f = refl
plain-next stuck l s p f = refl

-- behind a piece the unit is the same, or a header comes next
abbrev Stays : UnitState → UnitState → Type 0
Stays s t = (t.mode ≡ at_header) ⊎ (t.unit ≡ s.unit)

between-unit : (s : UnitState) (place entry depth : ℕ) → Stays s (between s place entry depth)
unfolding between
between-unit s place entry depth = by_end (place == s.header.end) (depth == 0)
  where
    by_end : (a b : Bool) → Stays s (if a then (if b then before_unit s.section s.kind s.whole place (s.unit + 1) else in_unit s place entry depth stuck) else in_unit s place entry depth at_code)
    by_end true true = inl refl
    by_end true false = inr refl
    by_end false b = inr refl

inside-unit : (s : UnitState) (place entry depth number tag : ℕ) (xs : List Spec) → Stays s (inside s place entry depth number tag xs)
inside-unit s place entry depth number tag [] = between-unit s place entry depth
inside-unit s place entry depth number tag (x ∷ xs) = inr refl

header-unit : (base : UnitBase) (s : UnitState) (place : ℕ) (o : Option UnitHeader) → Stays s (after_header base s place o)
header-unit base s place None = inr refl
header-unit base s place (Some h) = between-unit (headed base s h) place 0 0

entry-unit : (s : UnitState) (place : ℕ) (o : Option Abbreviation) → Stays s (after_entry s place o)
entry-unit s place None = inr refl
entry-unit s place (Some a) = inside-unit s place (s.entry + 1) (depth_behind a s.depth) s.entry a.tag a.specs

code-unit : (s : UnitState) (place n : ℕ) → Stays s (after_code s place n)
unfolding after_code
code-unit s place n = by_zero (n == 0)
  where
    by_zero : (z : Bool) → Stays s (if z then between s place s.entry (s.depth - 1) else after_entry s place (abbreviation_of s.table n))
    by_zero true = between-unit s place s.entry (s.depth - 1)
    by_zero false = entry-unit s place (abbreviation_of s.table n)

value-unit : (k : ValueKind) (s : UnitState) (place form number tag : ℕ) (x : Spec) (xs : List Spec) → Stays s (after_value k s place form number tag x xs)
value-unit form_in_front s place form number tag x xs = inr refl
value-unit k s place form number tag x xs = inside-unit s place s.entry s.depth number tag xs

past-unit : (m : Mode) (base : UnitBase) (s : UnitState) (p : List Cell) → Stays s (past m base s p)
past-unit at_header base s p = header-unit base s (s.place + length p) (piece_header base s p)
past-unit at_code base s p = code-unit s (s.place + length p) (code_value p)
past-unit (at_values number tag []) base s p = inr refl
past-unit (at_values number tag (x ∷ xs)) base s p = value-unit (kind_in s.header.params x.form) s (s.place + length p) (code_value p) number tag x xs
past-unit (at_chosen number tag start x xs) base s p = inside-unit s (s.place + length p) s.entry s.depth number tag xs
past-unit stuck base s p = inr refl

-- so its state is that of the unit
pub header-if : (o : Option ℕ) (l : Lift) (gs : List Fate) (t : UnitState) → t.mode ≡ at_header → state_if o l gs t ≡ t
header-if None l gs t e = refl
header-if (Some table) l gs t e = ap (λ (m : Mode). state_by m l table gs t) e

stays-plain : (l : Lift) (gs : List Fate) (s t : UnitState) → own_table l s.unit ≡ None → Stays s t → state_if (own_table l t.unit) l gs t ≡ t
stays-plain l gs s t none (inl e) = header-if (own_table l t.unit) l gs t e
stays-plain l gs s t none (inr e) = ap (λ (o : Option ℕ). state_if o l gs t) (ap (own_table l) e ∙ none)

stays-lifted : (l : Lift) (table : ℕ) (gs : List Fate) (s t : UnitState) → own_table l s.unit ≡ Some table → Stays s t
    → state_if (own_table l t.unit) l gs t ≡ state_by t.mode l table gs t
stays-lifted l table gs s t some (inl e) = header-if (own_table l t.unit) l gs t e ∙ sym (header-if (Some table) l gs t e)
stays-lifted l table gs s t some (inr e) = ap (λ (o : Option ℕ). state_if o l gs t) (ap (own_table l) e ∙ some)

-- what is asked of a piece of a unit with a table of its own, in front of attributes of these fates
abbrev pub PieceLifts : Mode → Lift → ℕ → List Fate → Fate → UnitState → List Cell → Type 0
PieceLifts at_header l table gs f s p = TableLifts l table
PieceLifts at_code l table gs f s p = EntryLifts l table gs s p
PieceLifts (at_values number tag xs) l table gs f s p = is_grown f ≡ true → TextLifts l s p
PieceLifts m l table gs f s p = ⊤

abbrev pub LiftsIf : Option ℕ → Lift → List Fate → Piece UnitState → Type 0
LiftsIf None l gs x = ⊤
LiftsIf (Some table) l gs x = PieceLifts x.state.mode l table gs (fate_of l.map x) x.state x.cells

abbrev pub AllLift : Lift → List (Piece UnitState) → Type 0
AllLift l [] = ⊤
AllLift l (x ∷ xs) = LiftsIf (own_table l x.state.unit) l (fates l.map xs) x × AllLift l xs

-- a value of any kind but a form in front of one
fate-step : (l : Lift) (table : ℕ) (gs : List Fate) (s : UnitState) (number tag : ℕ) (x : Spec) (xs : List Spec) (p : List Cell) (b : Bool)
    → kind_in s.header.params x.form ≢ form_in_front → FitsKind (kind_in s.header.params x.form) (value_state s number tag x xs) x p
    → (is_grown (fate_if b (room_left s p)) ≡ true → TextLifts l s p)
    → Leads (unit_grammar (lifted_base l)) (lifted_state l table (fate_if b (room_left s p) ∷ gs) (value_state s number tag x xs))
    (lifted_value (fate_if b (room_left s p)) l (lifted_state l table (fate_if b (room_left s p) ∷ gs) (value_state s number tag x xs)) p)
    (state_by (past (at_values number tag (x ∷ xs)) l.base (value_state s number tag x xs) p).mode l table gs (past (at_values number tag (x ∷ xs)) l.base (value_state s number tag x xs) p))
fate-step l table gs s number tag x xs p b other fits lifts =
    subst (λ (u : UnitState). Leads (unit_grammar (lifted_base l)) (lifted_state l table (fate_if b (room_left s p) ∷ gs) (value_state s number tag x xs))
    (lifted_value (fate_if b (room_left s p)) l (lifted_state l table (fate_if b (room_left s p) ∷ gs) (value_state s number tag x xs)) p) (state_by u.mode l table gs u))
    (sym (after-own (kind_in s.header.params x.form) (value_state s number tag x xs) (s.place + length p) (code_value p) number tag x xs other))
    (by_grown b lifts)
  where
    by_grown : (b : Bool) → (is_grown (fate_if b (room_left s p)) ≡ true → TextLifts l s p)
        → Leads (unit_grammar (lifted_base l)) (lifted_state l table (fate_if b (room_left s p) ∷ gs) (value_state s number tag x xs))
        (lifted_value (fate_if b (room_left s p)) l (lifted_state l table (fate_if b (room_left s p) ∷ gs) (value_state s number tag x xs)) p)
        (state_by (inside (value_state s number tag x xs) (s.place + length p) s.entry s.depth number tag xs).mode l table gs (inside (value_state s number tag x xs) (s.place + length p) s.entry s.depth number tag xs))
    by_grown false lifts =
        let v = value-own (kind_in s.header.params x.form) (value_state s number tag x xs) x p other fits in
        own-step l table gs s number tag x xs p other (record { value = v.value; is = v.is; size = v.size; before = v.before })
    by_grown true lifts =
        let v = value-own (kind_in s.header.params x.form) (value_state s number tag x xs) x p other fits in
        let t : TextLifts l s p = lifts refl in
        grown-step l table gs s number tag (room_left s p) x xs p t.order (omega (arith, t.small, t.room)) (omega (arith, t.room)) v.before

-- in front of a value whose form stands before it no path grows, and the value behind it stays
pub front-fixed : (m : PathMap) (s : UnitState) (number tag : ℕ) (x : Spec) (xs : List Spec) (p : List Cell) → kind_in s.header.params x.form ≡ form_in_front
    → fate_of m (record { state = value_state s number tag x xs; cells = p }) ≡ stays
unfolding role_of
front-fixed m s number tag x xs p e =
    ap (λ (k : ValueKind). fate_if (grows_by (role_of_kind k (use_of number tag x.name)) m p) (room_left s p)) e

pub chosen-first : (base : UnitBase) (m : PathMap) (t : UnitState) (number tag start : ℕ) (x : Spec) (xs : List Spec) (ys : List (Piece UnitState)) → t.mode ≡ at_chosen number tag start x xs
    → Chain (unit_grammar base) t ys → (hs : List Fate) × (fates m ys ≡ stays ∷ hs)
chosen-first base m t number tag start x xs [] e c = let none : at_chosen number tag start x xs ≡ at_header = sym e ∙ c.mode in absurd cc
chosen-first base m t number tag start x xs (y ∷ ys) e c = (
  fates m ys,
  ap (λ (u : UnitState). with_fate u.mode u.header.params (fate_of m y) (fates m ys)) c.0
      ∙ ap (λ (k : Mode). with_fate k t.header.params (fate_of m y) (fates m ys)) e,
)

-- what becomes of a piece in front of others leads to the state in front of what becomes of the next
abbrev pub piece_of : UnitState → Mode → List Cell → Piece UnitState
piece_of s m p = record { state = in_mode s m; cells = p }

step-lifted : (m : Mode) (l : Lift) (table : ℕ) (s : UnitState) (p : List Cell) (xs : List (Piece UnitState)) → FitsMode m l.base (in_mode s m) p
    → Chain (unit_grammar l.base) (past m l.base (in_mode s m) p) xs → PieceLifts m l table (fates l.map xs) (fate_of l.map (piece_of s m p)) (in_mode s m) p
    → Leads (unit_grammar (lifted_base l)) (state_by m l table (fates l.map (piece_of s m p ∷ xs)) (in_mode s m))
    (pieces_by m l table (fates l.map (piece_of s m p ∷ xs)) (fate_of l.map (piece_of s m p)) (in_mode s m) p)
    (state_by (past m l.base (in_mode s m) p).mode l table (fates l.map xs) (past m l.base (in_mode s m) p))
step-lifted at_header l table s p xs fits c lifts = header-step l table (fates l.map xs) s p lifts fits
step-lifted at_code l table s p xs fits c lifts = code-step l table [] (fates l.map xs) s p lifts fits
step-lifted (at_values number tag []) l table s p xs fits c lifts = absurd fits
step-lifted (at_values number tag (x ∷ rest)) l table s p xs fits c lifts = by_front (is_front (kind_in s.header.params x.form))
  where
    goal : List Fate → Fate → Type 0
    goal fs f =
        Leads (unit_grammar (lifted_base l)) (lifted_state l table fs (value_state s number tag x rest))
        (lifted_value f l (lifted_state l table fs (value_state s number tag x rest)) p)
        (state_by (past (at_values number tag (x ∷ rest)) l.base (value_state s number tag x rest) p).mode l table (fates l.map xs) (past (at_values number tag (x ∷ rest)) l.base (value_state s number tag x rest) p))

    front : kind_in s.header.params x.form ≡ form_in_front
        → (e : (hs : List Fate) × (fates l.map xs ≡ stays ∷ hs))
        → goal (with_kind (kind_in s.header.params x.form) (fate_of l.map (piece_of s (at_values number tag (x ∷ rest)) p)) (fates l.map xs)) (fate_of l.map (piece_of s (at_values number tag (x ∷ rest)) p))
    front e h =
        let next : past (at_values number tag (x ∷ rest)) l.base (value_state s number tag x rest) p
        ≡ in_unit s (s.place + length p) s.entry s.depth (at_chosen number tag s.place (of_chosen x (code_value p)) rest) =
        ap (λ (k : ValueKind). after_value k (value_state s number tag x rest) (s.place + length p) (code_value p) number tag x rest) e in
        let fs : with_kind (kind_in s.header.params x.form) (fate_of l.map (piece_of s (at_values number tag (x ∷ rest)) p)) (fates l.map xs) ≡ stays ∷ h.0 =
        ap (λ (k : ValueKind). with_kind k (fate_of l.map (piece_of s (at_values number tag (x ∷ rest)) p)) (fates l.map xs)) e ∙ h.1 in
        let f : fate_of l.map (piece_of s (at_values number tag (x ∷ rest)) p) ≡ stays = front-fixed l.map s number tag x rest p e in
        let made : goal (stays ∷ h.0) stays =
        subst (λ (u : UnitState). Leads (unit_grammar (lifted_base l)) (lifted_state l table (stays ∷ h.0) (value_state s number tag x rest))
        (lifted_value stays l (lifted_state l table (stays ∷ h.0) (value_state s number tag x rest)) p) (state_by u.mode l table (fates l.map xs) u)) (sym next)
        (subst (λ (gs : List Fate). Leads (unit_grammar (lifted_base l)) (lifted_state l table (stays ∷ h.0) (value_state s number tag x rest))
        (lifted_value stays l (lifted_state l table (stays ∷ h.0) (value_state s number tag x rest)) p)
        (lifted_state l table gs (in_unit s (s.place + length p) s.entry s.depth (at_chosen number tag s.place (of_chosen x (code_value p)) rest)))) (sym h.1)
        (front-step l table h.0 s number tag x rest p e (subst (λ (k : ValueKind). FitsKind k (value_state s number tag x rest) x p) e fits))) in
        subst (λ (fs : List Fate). goal fs (fate_of l.map (piece_of s (at_values number tag (x ∷ rest)) p))) (sym fs) (subst (goal (stays ∷ h.0)) (sym f) made)

    by_front : (kind_in s.header.params x.form ≡ form_in_front) ⊎ (kind_in s.header.params x.form ≡ form_in_front → ⊥)
        → goal (with_kind (kind_in s.header.params x.form) (fate_of l.map (piece_of s (at_values number tag (x ∷ rest)) p)) (fates l.map xs)) (fate_of l.map (piece_of s (at_values number tag (x ∷ rest)) p))
    by_front (inl e) =
        let next : (past (at_values number tag (x ∷ rest)) l.base (value_state s number tag x rest) p).mode
        ≡ at_chosen number tag s.place (of_chosen x (code_value p)) rest =
        ap (λ (k : ValueKind). (after_value k (value_state s number tag x rest) (s.place + length p) (code_value p) number tag x rest).mode) e in
        front e (chosen-first l.base l.map (past (at_values number tag (x ∷ rest)) l.base (value_state s number tag x rest) p) number tag s.place (of_chosen x (code_value p)) rest xs next c)
    by_front (inr other) =
        subst (λ (fs : List Fate). goal fs (fate_of l.map (piece_of s (at_values number tag (x ∷ rest)) p)))
        (sym (kind-own (kind_in s.header.params x.form) (fate_of l.map (piece_of s (at_values number tag (x ∷ rest)) p)) (fates l.map xs) other))
        (fate-step l table (fates l.map xs) s number tag x rest p (grows l.map (piece_of s (at_values number tag (x ∷ rest)) p)) other fits
        (λ g. record { room = (lifts g).room; small = (lifts g).small; order = (lifts g).order }))
step-lifted (at_chosen number tag start x rest) l table s p xs fits c lifts = chosen-step l table (fates l.map xs) s number tag start x rest p fits
step-lifted stuck l table s p xs fits c lifts = absurd fits

-- and in a unit that has no table of its own the piece does
if-lifted : (o : Option ℕ) (l : Lift) (x : Piece UnitState) (xs : List (Piece UnitState)) → own_table l x.state.unit ≡ o → FitsMode x.state.mode l.base x.state x.cells
    → Chain (unit_grammar l.base) (past x.state.mode l.base x.state x.cells) xs → LiftsIf o l (fates l.map xs) x
    → Leads (unit_grammar (lifted_base l)) (state_if o l (fates l.map (x ∷ xs)) x.state) (pieces_if o l (fates l.map (x ∷ xs)) x)
    (state_if (own_table l (past x.state.mode l.base x.state x.cells).unit) l (fates l.map xs) (past x.state.mode l.base x.state x.cells))
if-lifted None l x xs o fits c lifts = (
  refl,
  plain-fits x.state.mode l x.state x.cells fits,
  plain-next x.state.mode l x.state x.cells fits
      ∙ sym (stays-plain l (fates l.map xs) x.state (past x.state.mode l.base x.state x.cells) o (past-unit x.state.mode l.base x.state x.cells)),
)
if-lifted (Some table) l x xs o fits c lifts =
    subst (λ (u : UnitState). Leads (unit_grammar (lifted_base l)) (state_by x.state.mode l table (fates l.map (x ∷ xs)) x.state)
    (pieces_by x.state.mode l table (fates l.map (x ∷ xs)) (fate_of l.map x) x.state x.cells) u)
    (sym (stays-lifted l table (fates l.map xs) x.state (past x.state.mode l.base x.state x.cells) o (past-unit x.state.mode l.base x.state x.cells)))
    (step-lifted x.state.mode l table x.state x.cells xs fits c lifts)

-- where a section may end it may end when it is lifted
ends-lifted : (o : Option ℕ) (l : Lift) (s : UnitState) → EndsSection s → EndsSection (state_if o l [] s)
ends-lifted o l s e = subst EndsSection (sym (header-if o l [] s e.mode)) e

-- pieces of a section, lifted
pub chain-lifted : (l : Lift) (s : UnitState) (xs : List (Piece UnitState)) → Chain (unit_grammar l.base) s xs → AllLift l xs
    → Chain (unit_grammar (lifted_base l)) (state_if (own_table l s.unit) l (fates l.map xs) s) (lifted_pieces l xs)
chain-lifted l s [] c all = ends-lifted (own_table l s.unit) l s c
chain-lifted l s (x ∷ xs) c all =
    let rest : Chain (unit_grammar (lifted_base l)) (state_if (own_table l (past x.state.mode l.base x.state x.cells).unit) l (fates l.map xs) (past x.state.mode l.base x.state x.cells)) (lifted_pieces l xs) =
    chain-lifted l (past x.state.mode l.base x.state x.cells) xs c.2 all.1 in
    let first = if-lifted (own_table l x.state.unit) l x xs refl c.1 c.2 all.0 in
    subst (λ (u : UnitState). Chain (unit_grammar (lifted_base l)) (state_if (own_table l u.unit) l (fates l.map (x ∷ xs)) u) (lifted_pieces l (x ∷ xs))) c.0
    (leads-then (unit_grammar (lifted_base l)) (state_if (own_table l x.state.unit) l (fates l.map (x ∷ xs)) x.state)
    (state_if (own_table l (past x.state.mode l.base x.state x.cells).unit) l (fates l.map xs) (past x.state.mode l.base x.state x.cells))
    (pieces_if (own_table l x.state.unit) l (fates l.map (x ∷ xs)) x) (lifted_pieces l xs) first rest)
