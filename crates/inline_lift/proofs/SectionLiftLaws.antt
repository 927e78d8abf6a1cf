-- Lifted unit sections are read as units: they have their lengths, and as many units as before.
use Rattle.std.proofs.Common.{Bool, true, false, ◌≡◌, ℕ, zero, suc, ◌+◌, ◌-◌, ◌==◌, List, [], ◌∷◌, ◌++◌, length, Option, Some, None, refl, sym, ap, ◌∙◌, subst, arith, if◌then◌else◌}
use Rattle.std.specs.Prelude.{⊤}
use Rattle.std.proofs.lemmas.List.{length-append}
use Rattle.dw_base.specs.AbbreviationTables.{Abbreviation, abbreviation_of}
use Rattle.dw_base.specs.Cells.{Cell}
use Rattle.dw_base.specs.DebugData.{ReadsAll, begins_by, units_in}
use Rattle.dw_base.specs.EntryScans.{depth_behind}
use Rattle.dw_base.specs.Forms.{ValueKind, form_in_front, kind_in}
use Rattle.dw_base.specs.Pieces.{Chain, Piece, joined}
use Rattle.dw_base.specs.Readings.{Readings}
use Rattle.dw_base.specs.UnitHeaders.{UnitBase, UnitSection}
use Rattle.dw_base.specs.UnitPieces.{FitsMode, ReadsUnits, unit_grammar}
use Rattle.dw_base.specs.UnitStates.{Mode, at_header, at_code, at_values, at_chosen, stuck, UnitState, after_code, after_entry, after_header, after_value, before_unit, between, code_value, headed, in_unit, inside, past, piece_header}
use Rattle.dw_base.specs.declared.shared.Order.{Order}
use Rattle.dw_base.specs.declared.units.UnitHeader.{UnitHeader}
use Rattle.dw_base.specs.declared.values.Spec.{Spec}
use Rattle.inline_lift.specs.GrowingPaths.{Fate, stays, grown, fate_of, fates}
use Rattle.inline_lift.specs.Lifted.{Lift, behind_next, filler_pieces, lifted_base, lifted_pieces, lifted_sections, lifted_state, lifted_units, lifted_value, own_table, pieces_by, pieces_if}
use Rattle.inline_lift.specs.LiftedTables.{lifted_specs}
use Rattle.inline_lift.proofs.PieceLiftLaws.{in_mode}
use Rattle.inline_lift.proofs.UnitLiftLaws.{AllLift, chain-lifted, header-if}

-- a state lies at a place of the section of another
abbrev LiesAt : UnitState → ℕ → UnitState → Type 0
LiesAt s place t = (t.place ≡ place) × (t.whole ≡ s.whole)

between-lies : (s : UnitState) (place entry depth : ℕ) → LiesAt s place (between s place entry depth)
unfolding between
between-lies s place entry depth = by_end (place == s.header.end) (depth == 0)
  where
    by_end : (a b : Bool) → LiesAt s place (if a then (if b then before_unit s.section s.kind s.whole place (s.unit + 1) else in_unit s place entry depth stuck) else in_unit s place entry depth at_code)
    by_end true true = (refl, refl)
    by_end true false = (refl, refl)
    by_end false b = (refl, refl)

inside-lies : (s : UnitState) (place entry depth number tag : ℕ) (xs : List Spec) → LiesAt s place (inside s place entry depth number tag xs)
inside-lies s place entry depth number tag [] = between-lies s place entry depth
inside-lies s place entry depth number tag (x ∷ xs) = (refl, refl)

header-lies : (base : UnitBase) (s : UnitState) (place : ℕ) (o : Option UnitHeader) → LiesAt s place (after_header base s place o)
header-lies base s place None = (refl, refl)
header-lies base s place (Some h) = between-lies (headed base s h) place 0 0

entry-lies : (s : UnitState) (place : ℕ) (o : Option Abbreviation) → LiesAt s place (after_entry s place o)
entry-lies s place None = (refl, refl)
entry-lies s place (Some a) = inside-lies s place (s.entry + 1) (depth_behind a s.depth) s.entry a.tag a.specs

code-lies : (s : UnitState) (place n : ℕ) → LiesAt s place (after_code s place n)
unfolding after_code
code-lies s place n = by_zero (n == 0)
  where
    by_zero : (z : Bool) → LiesAt s place (if z then between s place s.entry (s.depth - 1) else after_entry s place (abbreviation_of s.table n))
    by_zero true = between-lies s place s.entry (s.depth - 1)
    by_zero false = entry-lies s place (abbreviation_of s.table n)

value-lies : (k : ValueKind) (s : UnitState) (place form number tag : ℕ) (x : Spec) (xs : List Spec) → LiesAt s place (after_value k s place form number tag x xs)
value-lies form_in_front s place form number tag x xs = (refl, refl)
value-lies k s place form number tag x xs = inside-lies s place s.entry s.depth number tag xs

past-lies : (m : Mode) (base : UnitBase) (s : UnitState) (p : List Cell) → FitsMode m base s p → LiesAt s (s.place + length p) (past m base s p)
past-lies at_header base s p f = header-lies base s (s.place + length p) (piece_header base s p)
past-lies at_code base s p f = code-lies s (s.place + length p) (code_value p)
past-lies (at_values number tag []) base s p f = absurd f
past-lies (at_values number tag (x ∷ xs)) base s p f = value-lies (kind_in s.header.params x.form) s (s.place + length p) (code_value p) number tag x xs
past-lies (at_chosen number tag start x xs) base s p f = inside-lies s (s.place + length p) s.entry s.depth number tag xs
past-lies stuck base s p f = absurd f

-- pieces up to the end of a section fill it
pub chain-fills : (base : UnitBase) (s : UnitState) (xs : List (Piece UnitState)) → Chain (unit_grammar base) s xs → s.place + length (joined xs) ≡ s.whole
chain-fills base s [] c = omega (arith, c.place)
chain-fills base s (x ∷ xs) c =
    let rest = chain-fills base (past x.state.mode base x.state x.cells) xs c.2 in
    let lies = past-lies x.state.mode base x.state x.cells c.1 in
    subst (λ (u : UnitState). u.place + length (joined (x ∷ xs)) ≡ u.whole) c.0 (omega (arith, rest, lies.0, lies.1, length-append x.cells (joined xs)))

-- a lifted section
pub units-read : (l : Lift) (z : UnitSection) (first : ℕ) (xs : List (Piece UnitState)) → ReadsUnits l.base z first xs → AllLift l xs
    → ReadsUnits (lifted_base l) (record z { contents = joined (lifted_pieces l xs) }) first (lifted_pieces l xs)
units-read l z first xs r all =
    let chain : Chain (unit_grammar (lifted_base l)) (before_unit z.number z.kind (length z.contents) 0 first) (lifted_pieces l xs) =
    subst (λ (u : UnitState). Chain (unit_grammar (lifted_base l)) u (lifted_pieces l xs))
    (header-if (own_table l first) l (fates l.map xs) (before_unit z.number z.kind (length z.contents) 0 first) refl)
    (chain-lifted l (before_unit z.number z.kind (length z.contents) 0 first) xs r.chain all) in
    let fills = chain-fills (lifted_base l) (before_unit z.number z.kind (length z.contents) 0 first) (lifted_pieces l xs) chain in
    let size : length z.contents ≡ length (joined (lifted_pieces l xs)) = omega (arith, fills) in
    record {
      chain = subst (λ (n : ℕ). Chain (unit_grammar (lifted_base l)) (before_unit z.number z.kind n 0 first) (lifted_pieces l xs)) size chain;
      cells = refl;
    }

-- as many units begin in what becomes of pieces
units-append : (xs ys : List (Piece UnitState)) → units_in (xs ++ ys) ≡ units_in xs + units_in ys
units-append [] ys = omega arith
units-append (x ∷ xs) ys = omega (arith, units-append xs ys)

filler-none : (o : Order) (s : UnitState) (number tag r : ℕ) (xs : List Spec) → s.mode ≡ at_values number tag xs → units_in (filler_pieces o s r) ≡ 0
filler-none o s number tag zero xs e = refl
filler-none o s number tag (suc n) [] e = ap (λ (m : Mode). begins_by (behind_next m) + 0) e
filler-none o s number tag (suc n) (x ∷ xs) e = ap (λ (m : Mode). begins_by (behind_next m) + 0) e

value-none : (f : Fate) (l : Lift) (s : UnitState) (number tag : ℕ) (xs : List Spec) (p : List Cell) → s.mode ≡ at_values number tag xs → units_in (lifted_value f l s p) ≡ 0
value-none stays l s number tag xs p e = ap (λ (m : Mode). begins_by m + 0) e
value-none (grown r) l s number tag xs p e =
    ap (λ (m : Mode). begins_by m + units_in (filler_pieces l.base.order s r)) e ∙ ap (λ (n : ℕ). 0 + n) (filler-none l.base.order s number tag r xs e)

begins-lifted : (m : Mode) (l : Lift) (table : ℕ) (fs : List Fate) (f : Fate) (s : UnitState) (p : List Cell)
    → units_in (pieces_by m l table fs f (in_mode s m) p) ≡ begins_by m
begins-lifted at_header l table fs f s p = refl
begins-lifted at_code l table fs f s p = refl
begins-lifted (at_values number tag xs) l table fs f s p =
    value-none f l (lifted_state l table fs (in_mode s (at_values number tag xs))) number tag (lifted_specs fs xs) p refl
begins-lifted (at_chosen number tag start x xs) l table fs f s p = refl
begins-lifted stuck l table fs f s p = refl

if-begins : (o : Option ℕ) (l : Lift) (fs : List Fate) (x : Piece UnitState) → units_in (pieces_if o l fs x) ≡ begins_by x.state.mode
if-begins None l fs x = omega arith
if-begins (Some table) l fs x = begins-lifted x.state.mode l table fs (fate_of l.map x) x.state x.cells

pub units-lifted : (l : Lift) (xs : List (Piece UnitState)) → units_in (lifted_pieces l xs) ≡ units_in xs
units-lifted l [] = refl
units-lifted l (x ∷ xs) =
    units-append (pieces_if (own_table l x.state.unit) l (fates l.map (x ∷ xs)) x) (lifted_pieces l xs)
    ∙ ap (λ (n : ℕ). n + units_in (lifted_pieces l xs)) (if-begins (own_table l x.state.unit) l (fates l.map (x ∷ xs)) x)
    ∙ ap (λ (n : ℕ). begins_by x.state.mode + n) (units-lifted l xs)

-- all sections
abbrev pub EachLifts : Lift → Readings → Type 0
EachLifts l [] = ⊤
EachLifts l (r ∷ rs) = AllLift l r.pieces × EachLifts l rs

pub sections-read : (l : Lift) (first : ℕ) (zs : List UnitSection) (rs : Readings) → ReadsAll l.base first zs rs → EachLifts l rs
    → ReadsAll (lifted_base l) first (lifted_sections l zs rs) (lifted_units l rs)
sections-read l first [] [] reads lifts = tt
sections-read l first [] (r ∷ rs) reads lifts = absurd reads
sections-read l first (z ∷ zs) [] reads lifts = absurd reads
sections-read l first (z ∷ zs) (r ∷ rs) reads lifts = (
  reads.0,
  units-read l z first r.pieces reads.1 lifts.0,
  subst (λ (n : ℕ). ReadsAll (lifted_base l) (first + n) (lifted_sections l zs rs) (lifted_units l rs)) (sym (units-lifted l r.pieces))
      (sections-read l (first + units_in r.pieces) zs rs reads.2 lifts.1),
)
