-- Where no row of the lift holds, units can be lifted; and where a path grows in them, the file is loaded as it stands and has a .debug_str.
use Rattle.std.proofs.Common.{Bool, true, false, ◌≡◌, ◌≢◌, ◌⊎◌, inl, inr, ℕ, ◌+◌, ◌-◌, ◌^◌, ◌<◌, ◌==◌, not, List, [], ◌∷◌, length, Option, Some, None, refl, sym, ap, ◌∙◌, subst, arith, if◌then◌else◌}
use Rattle.std.specs.Prelude.{◌||◌, ◌&&◌}
use Rattle.std.proofs.lemmas.Bool.{cases_lt, eqb-true, ne_eqb}
use Rattle.dw_base.specs.AbbreviationTables.{Abbreviation, abbreviation_of}
use Rattle.dw_base.specs.Cells.{Cell}
use Rattle.dw_base.specs.DebugData.{DebugData, DataReadings, ReadsAll, units_in}
use Rattle.dw_base.specs.Elf.{e_type}
use Rattle.dw_base.specs.EntryScans.{depth_behind}
use Rattle.dw_base.specs.Forms.{ValueKind, form_in_front, inline_text, kind_in}
use Rattle.dw_base.specs.Layout.{is_loaded_kind}
use Rattle.dw_base.specs.Paths.{PathMap}
use Rattle.dw_base.specs.Pieces.{Chain, EachPiece, Piece}
use Rattle.dw_base.specs.Readings.{EachReading, Readings}
use Rattle.dw_base.specs.Refusals.{at}
use Rattle.dw_base.specs.Roles.{role_of, use_of}
use Rattle.dw_base.specs.UnitHeaders.{UnitBase, UnitSection}
use Rattle.dw_base.specs.UnitPieces.{FitsMode, unit_grammar}
use Rattle.dw_base.specs.UnitStates.{Mode, at_header, at_code, at_values, at_chosen, stuck, UnitState, after_code, after_entry, after_value, before_unit, between, code_value, in_unit, inside, past}
use Rattle.dw_base.specs.declared.debug_sections.DebugSection.TheVariants.{Info, Str}
use Rattle.dw_base.specs.declared.elf_numbers.TheConstants.{ET_REL}
use Rattle.dw_base.specs.declared.fault.Kind.TheVariants.{InlineGrows}
use Rattle.dw_base.specs.declared.units.UnitHeader.{UnitHeader}
use Rattle.dw_base.specs.declared.values.Spec.{Spec}
use Rattle.dw_meaning.proofs.ScanPieceLaws.{is_front}
use Rattle.dw_meaning.specs.FileMeanings.{FileReads, file_data}
use Rattle.inline_lift.specs.GrowingPaths.{any_grown, any_grows, fate_if, fate_of, fates, grows, is_grown, room_left, some_path_grows, with_fate, with_kind}
use Rattle.inline_lift.specs.LiftFails.{AllCodesLift, CodeLifts, CodesLift, UnitsLift, ValueLifts, hindered, no_texts, relocatable, root_behind, root_if}
use Rattle.inline_lift.proofs.AllLiftLaws.{found-code}
use Rattle.inline_lift.proofs.GrowingRowLaws.{AllKnown, EachSaid, Holds, KnownOf, NoRow, RootGrows, all-known, code_said, said_kind, value_said}
use Rattle.inline_lift.proofs.LiftedFileLaws.{FileLifts}
use Rattle.inline_lift.proofs.PieceLiftLaws.{in_mode}
use Rattle.inline_lift.proofs.StateLiftLaws.{kind-own}
use Rattle.inline_lift.proofs.TurnedLaws.{grows-kind}
use Rattle.inline_lift.proofs.UnitLiftLaws.{piece_of}

-- Values
no-front : (k : ValueKind) → k ≡ inline_text → k ≢ form_in_front
no-front k e f = let both : inline_text ≡ form_in_front = sym e ∙ f in absurd cc

kind-growing : (k : ValueKind) (m : PathMap) (d : DebugData) (z : UnitSection) (h : UnitHeader) (table : List Abbreviation) (number tag name : ℕ) (p : List Cell) → k ≢ form_in_front
    → EachSaid (Holds m d z) (said_kind k h table number tag name p) → Holds m d z (value_said h table number tag name k false p)
kind-growing form_in_front m d z h table number tag name p other e = absurd (other refl)
kind-growing k m d z h table number tag name p other e = e.0

values-mode : (k : Mode) (m : PathMap) (d : DebugData) (z : UnitSection) (s : UnitState) (p : List Cell) → KnownOf m d z (piece_of s k p) → ValueLifts m (piece_of s k p)
unfolding role_of
values-mode at_header m d z s p h = record { own_form = λ e. absurd cc; room = λ e. absurd cc }
values-mode at_code m d z s p h = record { own_form = λ e. absurd cc; room = λ e. absurd cc }
values-mode (at_values number tag []) m d z s p h = record { own_form = λ e. absurd cc; room = λ e. absurd cc }
values-mode (at_values number tag (x ∷ xs)) m d z s p h = record {
  own_form = λ e. refl;
  room = λ e.
      let g = grows-kind (kind_in s.header.params x.form) (use_of number tag x.name) m p e in
      (kind-growing (kind_in s.header.params x.form) m d z s.header s.table number tag x.name p (no-front (kind_in s.header.params x.form) g.kind) h e).room;
}
values-mode (at_chosen number tag start x xs) m d z s p h = record {
  own_form = λ e. let no : true ≡ false = (h.0 e).own in absurd cc;
  room = λ e. (h.0 e).room;
}
values-mode stuck m d z s p h = record { own_form = λ e. absurd cc; room = λ e. absurd cc }

pieces-values : (m : PathMap) (d : DebugData) (z : UnitSection) (xs : List (Piece UnitState)) → EachPiece (KnownOf m d z) xs → EachPiece (ValueLifts m) xs
pieces-values m d z [] h = tt
pieces-values m d z (x ∷ xs) h = (values-mode x.state.mode m d z x.state x.cells h.0, pieces-values m d z xs h.1)

-- the first entry of a unit in which one grows
record Rooted (m : PathMap) (d : DebugData) (z : UnitSection) : Type 0 where
  header : UnitHeader
  table : List Abbreviation
  root : RootGrows m d z header table

root-mode : (k : Mode) (m : PathMap) (d : DebugData) (z : UnitSection) (s : UnitState) (p : List Cell) → KnownOf m d z (piece_of s k p) → grows m (piece_of s k p) ≡ true
    → RootGrows m d z s.header s.table
unfolding role_of
root-mode at_header m d z s p h e = absurd cc
root-mode at_code m d z s p h e = absurd cc
root-mode (at_values number tag []) m d z s p h e = absurd cc
root-mode (at_values number tag (x ∷ xs)) m d z s p h e =
    let g = grows-kind (kind_in s.header.params x.form) (use_of number tag x.name) m p e in
    (kind-growing (kind_in s.header.params x.form) m d z s.header s.table number tag x.name p (no-front (kind_in s.header.params x.form) g.kind) h e).root
root-mode (at_chosen number tag start x xs) m d z s p h e = (h.0 e).root
root-mode stuck m d z s p h e = absurd cc

pieces-root : (m : PathMap) (d : DebugData) (z : UnitSection) (xs : List (Piece UnitState)) → EachPiece (KnownOf m d z) xs → any_grows m xs ≡ true → Rooted m d z
pieces-root m d z [] h e = absurd cc
pieces-root m d z (x ∷ xs) h e = by_here (grows m x) refl e (λ f. pieces-root m d z xs h.1 f)
  where
    by_here : (b : Bool) → grows m x ≡ b → (b || any_grows m xs) ≡ true → (any_grows m xs ≡ true → Rooted m d z) → Rooted m d z
    by_here true is f rest = record { header = x.state.header; table = x.state.table; root = root-mode x.state.mode m d z x.state x.cells h.0 is }
    by_here false is f rest = rest f

-- Codes: a state behind another in the same unit
abbrev SameUnit : UnitState → UnitState → Type 0
SameUnit s t = (t.mode ≡ at_header) ⊎ ((t.header ≡ s.header) × (t.table ≡ s.table))

between-same : (s : UnitState) (place e depth : ℕ) → SameUnit s (between s place e depth)
unfolding between
between-same s place e depth = by_end (place == s.header.end) (depth == 0)
  where
    by_end : (a b : Bool) → SameUnit s (if a then (if b then before_unit s.section s.kind s.whole place (s.unit + 1) else in_unit s place e depth stuck) else in_unit s place e depth at_code)
    by_end true true = inl refl
    by_end true false = inr (refl, refl)
    by_end false b = inr (refl, refl)

inside-unit : (s : UnitState) (place e depth number tag : ℕ) (xs : List Spec) → SameUnit s (inside s place e depth number tag xs)
inside-unit s place e depth number tag [] = between-same s place e depth
inside-unit s place e depth number tag (x ∷ xs) = inr (refl, refl)

entry-unit : (s : UnitState) (place : ℕ) (o : Option Abbreviation) → SameUnit s (after_entry s place o)
entry-unit s place None = inr (refl, refl)
entry-unit s place (Some a) = inside-unit s place (s.entry + 1) (depth_behind a s.depth) s.entry a.tag a.specs

code-unit : (s : UnitState) (place n : ℕ) → SameUnit s (after_code s place n)
unfolding after_code
code-unit s place n = by_zero (n == 0)
  where
    by_zero : (b : Bool) → SameUnit s (if b then between s place s.entry (s.depth - 1) else after_entry s place (abbreviation_of s.table n))
    by_zero true = between-same s place s.entry (s.depth - 1)
    by_zero false = entry-unit s place (abbreviation_of s.table n)

value-unit : (k : ValueKind) (s : UnitState) (place form number tag : ℕ) (x : Spec) (xs : List Spec) → SameUnit s (after_value k s place form number tag x xs)
value-unit form_in_front s place form number tag x xs = inr (refl, refl)
value-unit k s place form number tag x xs = inside-unit s place s.entry s.depth number tag xs

past-same : (k : Mode) (base : UnitBase) (s : UnitState) (p : List Cell) → k ≢ at_header → FitsMode k base s p → SameUnit s (past k base s p)
past-same at_header base s p other f = absurd (other refl)
past-same at_code base s p other f = code-unit s (s.place + length p) (code_value p)
past-same (at_values number tag []) base s p other f = absurd f
past-same (at_values number tag (x ∷ xs)) base s p other f = value-unit (kind_in s.header.params x.form) s (s.place + length p) (code_value p) number tag x xs
past-same (at_chosen number tag start x xs) base s p other f = inside-unit s (s.place + length p) s.entry s.depth number tag xs
past-same stuck base s p other f = absurd f

-- where some attribute ahead becomes an offset, a path of the unit's first entry grows
header-none : (m : PathMap) (base : UnitBase) (t : UnitState) (xs : List (Piece UnitState)) → t.mode ≡ at_header → Chain (unit_grammar base) t xs → any_grown (fates m xs) ≡ false
header-none m base t [] e c = refl
header-none m base t (x ∷ xs) e c =
    ap (λ (k : Mode). any_grown (with_fate k x.state.header.params (fate_of m x) (fates m xs))) (ap (λ (u : UnitState). u.mode) c.0 ∙ e)

root-ahead : (m : PathMap) (d : DebugData) (z : UnitSection) (base : UnitBase) (s t : UnitState) (xs : List (Piece UnitState)) → SameUnit s t → Chain (unit_grammar base) t xs
    → any_grown (fates m xs) ≡ true → RootGrows m d z t.header t.table → RootGrows m d z s.header s.table
root-ahead m d z base s t xs (inl e) c grown g = let no : true ≡ false = sym grown ∙ header-none m base t xs e c in absurd cc
root-ahead m d z base s t xs (inr same) c grown g =
    subst (λ (h : UnitHeader). RootGrows m d z h s.table) same.0 (subst (λ (table : List Abbreviation). RootGrows m d z t.header table) same.1 g)

fates-root : (m : PathMap) (d : DebugData) (z : UnitSection) (base : UnitBase) (t : UnitState) (xs : List (Piece UnitState)) → Chain (unit_grammar base) t xs → EachPiece (KnownOf m d z) xs
    → any_grown (fates m xs) ≡ true → RootGrows m d z t.header t.table
fates-root m d z base t [] c h grown = absurd cc
fates-root m d z base t (x ∷ xs) c h grown =
    subst (λ (u : UnitState). RootGrows m d z u.header u.table) c.0
    (by_mode x.state.mode x.state x.cells h.0 c.1 c.2 grown (λ f. fates-root m d z base (past x.state.mode base x.state x.cells) xs c.2 h.1 f))
  where
    behind : (k : Mode) (s : UnitState) (p : List Cell) → k ≢ at_header → FitsMode k base (in_mode s k) p → Chain (unit_grammar base) (past k base (in_mode s k) p) xs → any_grown (fates m xs) ≡ true
        → (any_grown (fates m xs) ≡ true → RootGrows m d z (past k base (in_mode s k) p).header (past k base (in_mode s k) p).table) → RootGrows m d z s.header s.table
    behind k s p other f chain e rest = root-ahead m d z base (in_mode s k) (past k base (in_mode s k) p) xs (past-same k base (in_mode s k) p other f) chain e (rest e)

    by_own : (number tag : ℕ) (y : Spec) (ys : List Spec) (s : UnitState) (p : List Cell) → KnownOf m d z (piece_of s (at_values number tag (y ∷ ys)) p)
        → (any_grown (fates m xs) ≡ true → RootGrows m d z s.header s.table)
        → (kind_in s.header.params y.form ≡ form_in_front) ⊎ (kind_in s.header.params y.form ≡ form_in_front → ⊥)
        → any_grown (with_kind (kind_in s.header.params y.form) (fate_of m (piece_of s (at_values number tag (y ∷ ys)) p)) (fates m xs)) ≡ true → RootGrows m d z s.header s.table
    by_own number tag y ys s p known rest (inl front) e =
        rest (sym (ap (λ (k : ValueKind). any_grown (with_kind k (fate_of m (piece_of s (at_values number tag (y ∷ ys)) p)) (fates m xs))) front) ∙ e)
    by_own number tag y ys s p known rest (inr other) e =
        by_here (grows m (piece_of s (at_values number tag (y ∷ ys)) p)) refl
        (sym (ap any_grown (kind-own (kind_in s.header.params y.form) (fate_of m (piece_of s (at_values number tag (y ∷ ys)) p)) (fates m xs) other)) ∙ e)
      where
        by_here : (b : Bool) → grows m (piece_of s (at_values number tag (y ∷ ys)) p) ≡ b → (is_grown (fate_if b (room_left s p)) || any_grown (fates m xs)) ≡ true → RootGrows m d z s.header s.table
        by_here true is f = root-mode (at_values number tag (y ∷ ys)) m d z s p known is
        by_here false is f = rest f

    by_mode : (k : Mode) (s : UnitState) (p : List Cell) → KnownOf m d z (piece_of s k p) → FitsMode k base (in_mode s k) p → Chain (unit_grammar base) (past k base (in_mode s k) p) xs
        → any_grown (fates m (piece_of s k p ∷ xs)) ≡ true
        → (any_grown (fates m xs) ≡ true → RootGrows m d z (past k base (in_mode s k) p).header (past k base (in_mode s k) p).table) → RootGrows m d z s.header s.table
    by_mode at_header s p known f chain e rest = absurd cc
    by_mode at_code s p known f chain e rest = absurd cc
    by_mode (at_values number tag []) s p known f chain e rest = absurd f
    by_mode (at_values number tag (y ∷ ys)) s p known f chain e rest =
        by_own number tag y ys s p known (λ grown_. behind (at_values number tag (y ∷ ys)) s p (λ no. absurd cc) f chain grown_ rest) (is_front (kind_in s.header.params y.form)) e
    by_mode (at_chosen number tag start y ys) s p known f chain e rest = behind (at_chosen number tag start y ys) s p (λ no. absurd cc) f chain e rest
    by_mode stuck s p known f chain e rest = absurd f

-- so other entries have other codes
record RootCode (m : PathMap) (d : DebugData) (z : UnitSection) (h : UnitHeader) (table : List Abbreviation) (code : ℕ) : Type 0 where
  root : RootGrows m d z h table
  is : root.a.code ≡ code

abbrev RootKnown : PathMap → DebugData → UnitSection → Option ℕ → UnitState → Type 0
RootKnown m d z o s = (s.mode ≡ at_header) ⊎ ((code : ℕ) → o ≡ Some code → RootCode m d z s.header s.table code)

code-some : (m : PathMap) (d : DebugData) (z : UnitSection) (h : UnitHeader) (table : List Abbreviation) (g : RootGrows m d z h table) → g.a.code ≢ 0
code-some m d z h table g e = let y = g.has.value in y.some (sym (eqb-true g.a.code y.code (found-code table y.code g.a y.listed)) ∙ e)

code-mode : (o : Option ℕ) (m : PathMap) (d : DebugData) (z : UnitSection) (s : UnitState) (p : List Cell) → KnownOf m d z (piece_of s at_code p) → RootKnown m d z o (in_mode s at_code)
    → CodeLifts at_code o (in_mode s at_code) p
code-mode None m d z s p h known = tt
code-mode (Some root) m d z s p h (inl e) = absurd cc
code-mode (Some root) m d z s p h (inr known) = λ some. by_zero some (code_value p == 0) refl h (known root refl)
  where
    by_zero : s.entry ≢ 0 → (b : Bool) → (code_value p == 0) ≡ b → EachSaid (Holds m d z) (if b then [] else code_said s.header s.table s.entry (code_value p) ∷ [])
        → RootCode m d z s.header s.table root → root ≢ code_value p
    by_zero some true is k g same = code-some m d z s.header s.table g.root (g.is ∙ same ∙ eqb-true (code_value p) 0 is)
    by_zero some false is k g same = k.0.1 g.root some (g.is ∙ same)

-- what is known behind a piece
know-on : (m : PathMap) (d : DebugData) (z : UnitSection) (o : Option ℕ) (s t : UnitState) → SameUnit s t → ((code : ℕ) → o ≡ Some code → RootCode m d z s.header s.table code) → RootKnown m d z o t
know-on m d z o s t (inl e) known = inl e
know-on m d z o s t (inr same) known =
    inr (λ code e. subst (λ (h : UnitHeader). RootCode m d z h t.table code) (sym same.0) (subst (λ (table : List Abbreviation). RootCode m d z s.header table code) (sym same.1) (known code e)))

of_code : (a b : ℕ) → Some a ≡ Some b → a ≡ b
of_code a b e = cc

behind-root : (k : Mode) (m : PathMap) (d : DebugData) (z : UnitSection) (base : UnitBase) (o : Option ℕ) (s : UnitState) (p : List Cell) (xs : List (Piece UnitState)) → FitsMode k base (in_mode s k) p
    → Chain (unit_grammar base) (past k base (in_mode s k) p) xs → KnownOf m d z (piece_of s k p) → EachPiece (KnownOf m d z) xs → RootKnown m d z o (in_mode s k)
    → RootKnown m d z (root_behind k o (in_mode s k) p (fates m xs)) (past k base (in_mode s k) p)
behind-root at_header m d z base o s p xs f c h hs known = inr (λ code e. absurd cc)
behind-root at_code m d z base o s p xs f c h hs (inl e) = absurd cc
behind-root at_code m d z base o s p xs f c h hs (inr known) = by_first (s.entry == 0) (code_value p == 0) refl refl h
  where
    new_root : (b : Bool) → any_grown (fates m xs) ≡ b → s.entry ≡ 0
        → EachSaid (Holds m d z) (code_said s.header s.table s.entry (code_value p) ∷ []) → (code : ℕ) → root_if b (code_value p) ≡ Some code
        → RootCode m d z s.header s.table code
    new_root true grown first k code e =
        let g : RootGrows m d z s.header s.table =
        root-ahead m d z base (in_mode s at_code) (past at_code base (in_mode s at_code) p) xs (past-same at_code base (in_mode s at_code) p (λ no. absurd cc) f) c grown
        (fates-root m d z base (past at_code base (in_mode s at_code) p) xs c hs grown) in
        record { root = g; is = k.0.0 g first ∙ of_code (code_value p) code e }
    new_root false grown first k code e = absurd cc

    by_first : (a b : Bool) → (s.entry == 0) ≡ a → (code_value p == 0) ≡ b
        → EachSaid (Holds m d z) (if b then [] else code_said s.header s.table s.entry (code_value p) ∷ [])
        → RootKnown m d z (if a && not b then root_if (any_grown (fates m xs)) (code_value p) else o) (past at_code base (in_mode s at_code) p)
    by_first true false first some k =
        know-on m d z (root_if (any_grown (fates m xs)) (code_value p)) (in_mode s at_code) (past at_code base (in_mode s at_code) p)
        (past-same at_code base (in_mode s at_code) p (λ no. absurd cc) f) (new_root (any_grown (fates m xs)) refl (eqb-true s.entry 0 first) k)
    by_first true true first some k =
        know-on m d z o (in_mode s at_code) (past at_code base (in_mode s at_code) p) (past-same at_code base (in_mode s at_code) p (λ no. absurd cc) f) known
    by_first false b first some k =
        know-on m d z o (in_mode s at_code) (past at_code base (in_mode s at_code) p) (past-same at_code base (in_mode s at_code) p (λ no. absurd cc) f) known
behind-root (at_values number tag []) m d z base o s p xs f c h hs known = absurd f
behind-root (at_values number tag (x ∷ ys)) m d z base o s p xs f c h hs (inl e) = absurd cc
behind-root (at_values number tag (x ∷ ys)) m d z base o s p xs f c h hs (inr known) =
    know-on m d z o (in_mode s (at_values number tag (x ∷ ys))) (past (at_values number tag (x ∷ ys)) base (in_mode s (at_values number tag (x ∷ ys))) p)
    (past-same (at_values number tag (x ∷ ys)) base (in_mode s (at_values number tag (x ∷ ys))) p (λ no. absurd cc) f) known
behind-root (at_chosen number tag start x ys) m d z base o s p xs f c h hs (inl e) = absurd cc
behind-root (at_chosen number tag start x ys) m d z base o s p xs f c h hs (inr known) =
    know-on m d z o (in_mode s (at_chosen number tag start x ys)) (past (at_chosen number tag start x ys) base (in_mode s (at_chosen number tag start x ys)) p)
    (past-same (at_chosen number tag start x ys) base (in_mode s (at_chosen number tag start x ys)) p (λ no. absurd cc) f) known
behind-root stuck m d z base o s p xs f c h hs known = absurd f

code-lifts : (k : Mode) (o : Option ℕ) (m : PathMap) (d : DebugData) (z : UnitSection) (s : UnitState) (p : List Cell) → KnownOf m d z (piece_of s k p) → RootKnown m d z o (in_mode s k)
    → CodeLifts k o (in_mode s k) p
code-lifts at_header o m d z s p h known = tt
code-lifts at_code o m d z s p h known = code-mode o m d z s p h known
code-lifts (at_values number tag xs) o m d z s p h known = tt
code-lifts (at_chosen number tag start x xs) o m d z s p h known = tt
code-lifts stuck o m d z s p h known = tt

pieces-codes : (m : PathMap) (d : DebugData) (z : UnitSection) (base : UnitBase) (o : Option ℕ) (t : UnitState) (xs : List (Piece UnitState)) → Chain (unit_grammar base) t xs
    → EachPiece (KnownOf m d z) xs → RootKnown m d z o t → CodesLift m o xs
pieces-codes m d z base o t [] c h known = tt
pieces-codes m d z base o t (x ∷ xs) c h known =
    let here : RootKnown m d z o x.state = subst (RootKnown m d z o) (sym c.0) known in (
      code-lifts x.state.mode o m d z x.state x.cells h.0 here,
      pieces-codes m d z base (root_behind x.state.mode o x.state x.cells (fates m xs)) (past x.state.mode base x.state x.cells) xs c.2 h.1
          (behind-root x.state.mode m d z base o x.state x.cells xs c.1 c.2 h.0 h.1 here),
    )

-- So units can be lifted
sections-values : (m : PathMap) (d : DebugData) (base : UnitBase) (first : ℕ) (zs : List UnitSection) (rs : Readings) → ReadsAll base first zs rs → AllKnown m d zs rs → EachReading (ValueLifts m) rs
sections-values m d base first [] [] reads h = tt
sections-values m d base first [] (r ∷ rs) reads h = absurd reads
sections-values m d base first (z ∷ zs) [] reads h = tt
sections-values m d base first (z ∷ zs) (r ∷ rs) reads h = (pieces-values m d z r.pieces h.0, sections-values m d base (first + units_in r.pieces) zs rs reads.2 h.1)

sections-codes : (m : PathMap) (d : DebugData) (base : UnitBase) (first : ℕ) (zs : List UnitSection) (rs : Readings) → ReadsAll base first zs rs → AllKnown m d zs rs → AllCodesLift m rs
sections-codes m d base first [] [] reads h = tt
sections-codes m d base first [] (r ∷ rs) reads h = absurd reads
sections-codes m d base first (z ∷ zs) [] reads h = tt
sections-codes m d base first (z ∷ zs) (r ∷ rs) reads h = (
  pieces-codes m d z base None (before_unit z.number z.kind (length z.contents) 0 first) r.pieces reads.1.chain h.0 (inl refl),
  sections-codes m d base (first + units_in r.pieces) zs rs reads.2 h.1,
)

pub units-lift : (m : PathMap) (b : List ℕ) (r : DataReadings) → NoRow m b → ReadsAll (file_data b).base 0 ((file_data b).found Info) r.units → UnitsLift m r
units-lift m b r none reads =
    let known = all-known m b r none reads in
    record {
      values = sections-values m (file_data b) (file_data b).base 0 ((file_data b).found Info) r.units reads known;
      codes = sections-codes m (file_data b) (file_data b).base 0 ((file_data b).found Info) r.units reads known;
    }

-- and where one of their paths grows, it does in the first entry of some unit
record SomeRoot (m : PathMap) (d : DebugData) : Type 0 where
  section : UnitSection
  rooted : Rooted m d section

sections-root : (m : PathMap) (d : DebugData) (base : UnitBase) (first : ℕ) (zs : List UnitSection) (rs : Readings) → ReadsAll base first zs rs → AllKnown m d zs rs → some_path_grows m rs ≡ true → SomeRoot m d
sections-root m d base first [] [] reads h e = absurd cc
sections-root m d base first [] (r ∷ rs) reads h e = absurd reads
sections-root m d base first (z ∷ zs) [] reads h e = absurd reads
sections-root m d base first (z ∷ zs) (r ∷ rs) reads h e =
    by_here (any_grows m r.pieces) refl e (λ f. sections-root m d base (first + units_in r.pieces) zs rs reads.2 h.1 f)
  where
    by_here : (b : Bool) → any_grows m r.pieces ≡ b → (b || some_path_grows m rs) ≡ true → (some_path_grows m rs ≡ true → SomeRoot m d) → SomeRoot m d
    by_here true is f rest = record { section = z; rooted = pieces-root m d z r.pieces h.0 is }
    by_here false is f rest = rest f

loaded-by : (a l : Bool) → (a || l) ≡ true → a ≡ false → l ≡ true
loaded-by true l e f = absurd cc
loaded-by false l e f = e

some-number : (n : ℕ) → (n ≡ 0 → ⊥) → 0 < n
some-number n other = elim (cases_lt 0 n) [
  | inl some ↦ some
  | inr zero_ ↦ let is : n ≡ 0 = omega (arith, zero_) in absurd (other is)
]

pub file-lifts : (m : PathMap) (b : List ℕ) (r : DataReadings) → NoRow m b → FileReads b r → some_path_grows m r.units ≡ true → length b < 2 ^ 32 → FileLifts m b r
file-lifts m b r none reads grown small =
    let known = all-known m b r none reads.data_reads.units in
    let some : SomeRoot m (file_data b) = sections-root m (file_data b) (file_data b).base 0 ((file_data b).found Info) r.units reads.data_reads.units known grown in
    let g = some.rooted.root in
    let other : e_type b ≢ ET_REL = λ e. none (at InlineGrows some.section.number g.value.at) (hindered some.section some.rooted.header some.rooted.table g.a g.x g.value g.has (relocatable e)) in
    let texts : ((file_data b).found Str).number ≢ 0 =
    λ e. none (at InlineGrows some.section.number g.value.at) (hindered some.section some.rooted.header some.rooted.table g.a g.x g.value g.has (no_texts e)) in
    record {
      grows = record { reads = reads; grows = grown; texts = some-number ((file_data b).found Str).number texts };
      can = units-lift m b r none reads.data_reads.units;
      loaded = loaded-by (e_type b == ET_REL) (is_loaded_kind b) reads.names.file_type (ne_eqb (e_type b) ET_REL other);
      bytes = small;
    }
