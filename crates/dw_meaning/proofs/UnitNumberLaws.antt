-- A section of units reads in the same way whatever the number of its first unit is: its pieces are the same but for that number, and so are their fields.
use Rattle.std.proofs.Common.{inl, inr, Bool, true, false, ◌≡◌, ℕ, ◌+◌, ◌-◌, ◌≤◌, ◌==◌, if◌then◌else◌, List, [], ◌∷◌, ◌++◌, length, Option, None, Some, refl, sym, ap, ◌∙◌, subst, arith}
use Rattle.std.proofs.lemmas.Bool.{cases_lt}
use Rattle.dw_base.specs.AbbreviationTables.{Abbreviation, abbreviation_of}
use Rattle.dw_base.specs.Cells.{Cell}
use Rattle.dw_base.specs.EntryScans.{depth_behind}
use Rattle.dw_base.specs.Forms.{ValueKind, number_of, leb_number, signed_leb, block_of, counted, counted_leb, inline_text, text_offset, present, in_abbreviation, form_in_front, supplementary, unlisted, kind_in}
use Rattle.dw_base.specs.Pieces.{Chain, Piece, joined}
use Rattle.dw_base.specs.RelocationRows.{FieldPlace, unit_field, unit_fields}
use Rattle.dw_base.specs.UnitHeaders.{UnitBase, UnitSection}
use Rattle.dw_base.specs.UnitPieces.{FitsKind, FitsMode, IsValue, ReadsUnits, unit_grammar}
use Rattle.dw_base.specs.UnitStates.{Mode, at_header, at_code, at_values, at_chosen, stuck, UnitState, after_code, after_entry, after_header, after_value, before_unit, between, code_value, headed, in_unit, inside, past, piece_header}
use Rattle.dw_base.specs.declared.shared.Order.{Order}
use Rattle.dw_base.specs.declared.units.UnitHeader.{UnitHeader}
use Rattle.dw_base.specs.declared.values.Spec.{Spec}
use Rattle.dw_meaning.proofs.DataOneLaws.{reads-one}

-- a state of a unit with a higher number
abbrev numbered : ℕ → UnitState → UnitState
numbered k s = record s { unit = s.unit + k }

between-numbered : (k : ℕ) (s : UnitState) (place entry depth : ℕ) → between (numbered k s) place entry depth ≡ numbered k (between s place entry depth)
unfolding between
between-numbered k s place entry depth = by_end (place == s.header.end) (depth == 0)
  where
    by_end : (a b : Bool) → (if a then (if b then before_unit s.section s.kind s.whole place (s.unit + k + 1) else in_unit (numbered k s) place entry depth stuck) else in_unit (numbered k s) place entry depth at_code)
        ≡ numbered k (if a then (if b then before_unit s.section s.kind s.whole place (s.unit + 1) else in_unit s place entry depth stuck) else in_unit s place entry depth at_code)
    by_end true true =
        let same : s.unit + k + 1 ≡ s.unit + 1 + k = omega arith in
        ap (λ (n : ℕ). before_unit s.section s.kind s.whole place n) same
    by_end true false = refl
    by_end false b = refl

inside-numbered : (k : ℕ) (s : UnitState) (place entry depth number tag : ℕ) (xs : List Spec) → inside (numbered k s) place entry depth number tag xs ≡ numbered k (inside s place entry depth number tag xs)
inside-numbered k s place entry depth number tag [] = between-numbered k s place entry depth
inside-numbered k s place entry depth number tag (x ∷ xs) = refl

header-numbered : (k : ℕ) (base : UnitBase) (s : UnitState) (place : ℕ) (o : Option UnitHeader) → after_header base (numbered k s) place o ≡ numbered k (after_header base s place o)
header-numbered k base s place None = refl
header-numbered k base s place (Some h) = between-numbered k (headed base s h) place 0 0

entry-numbered : (k : ℕ) (s : UnitState) (place : ℕ) (o : Option Abbreviation) → after_entry (numbered k s) place o ≡ numbered k (after_entry s place o)
entry-numbered k s place None = refl
entry-numbered k s place (Some a) = inside-numbered k s place (s.entry + 1) (depth_behind a s.depth) s.entry a.tag a.specs

code-numbered : (k : ℕ) (s : UnitState) (place n : ℕ) → after_code (numbered k s) place n ≡ numbered k (after_code s place n)
unfolding after_code
code-numbered k s place n = by_zero (n == 0)
  where
    by_zero : (z : Bool) → (if z then between (numbered k s) place s.entry (s.depth - 1) else after_entry (numbered k s) place (abbreviation_of s.table n))
        ≡ numbered k (if z then between s place s.entry (s.depth - 1) else after_entry s place (abbreviation_of s.table n))
    by_zero true = between-numbered k s place s.entry (s.depth - 1)
    by_zero false = entry-numbered k s place (abbreviation_of s.table n)

value-numbered : (k : ℕ) (v : ValueKind) (s : UnitState) (place form number tag : ℕ) (x : Spec) (xs : List Spec)
    → after_value v (numbered k s) place form number tag x xs ≡ numbered k (after_value v s place form number tag x xs)
value-numbered k form_in_front s place form number tag x xs = refl
value-numbered k (number_of class n) s place form number tag x xs = inside-numbered k s place s.entry s.depth number tag xs
value-numbered k (leb_number class) s place form number tag x xs = inside-numbered k s place s.entry s.depth number tag xs
value-numbered k signed_leb s place form number tag x xs = inside-numbered k s place s.entry s.depth number tag xs
value-numbered k (block_of n) s place form number tag x xs = inside-numbered k s place s.entry s.depth number tag xs
value-numbered k (counted n) s place form number tag x xs = inside-numbered k s place s.entry s.depth number tag xs
value-numbered k counted_leb s place form number tag x xs = inside-numbered k s place s.entry s.depth number tag xs
value-numbered k inline_text s place form number tag x xs = inside-numbered k s place s.entry s.depth number tag xs
value-numbered k (text_offset table n) s place form number tag x xs = inside-numbered k s place s.entry s.depth number tag xs
value-numbered k present s place form number tag x xs = inside-numbered k s place s.entry s.depth number tag xs
value-numbered k in_abbreviation s place form number tag x xs = inside-numbered k s place s.entry s.depth number tag xs
value-numbered k supplementary s place form number tag x xs = inside-numbered k s place s.entry s.depth number tag xs
value-numbered k unlisted s place form number tag x xs = inside-numbered k s place s.entry s.depth number tag xs

past-numbered : (k : ℕ) (m : Mode) (base : UnitBase) (s : UnitState) (p : List Cell) → past m base (numbered k s) p ≡ numbered k (past m base s p)
past-numbered k at_header base s p = header-numbered k base s (s.place + length p) (piece_header base s p)
past-numbered k at_code base s p = code-numbered k s (s.place + length p) (code_value p)
past-numbered k (at_values number tag []) base s p = refl
past-numbered k (at_values number tag (x ∷ xs)) base s p = value-numbered k (kind_in s.header.params x.form) s (s.place + length p) (code_value p) number tag x xs
past-numbered k (at_chosen number tag start x xs) base s p = inside-numbered k s (s.place + length p) s.entry s.depth number tag xs
past-numbered k stuck base s p = refl

value-fits : (k : ℕ) (s : UnitState) (x : Spec) (v : ValueKind) (p : List Cell) → IsValue s x v p → IsValue (numbered k s) x v p
value-fits k s x v p f = record { value = f.value; is = f.is; size = f.size; before = f.before }

kind-fits : (k : ℕ) (v : ValueKind) (s : UnitState) (x : Spec) (p : List Cell) → FitsKind v s x p → FitsKind v (numbered k s) x p
kind-fits k form_in_front s x p f = record { spells = f.spells; before = f.before; other = f.other; own = f.own }
kind-fits k (number_of class n) s x p f = value-fits k s x (number_of class n) p f
kind-fits k (leb_number class) s x p f = value-fits k s x (leb_number class) p f
kind-fits k signed_leb s x p f = value-fits k s x signed_leb p f
kind-fits k (block_of n) s x p f = value-fits k s x (block_of n) p f
kind-fits k (counted n) s x p f = value-fits k s x (counted n) p f
kind-fits k counted_leb s x p f = value-fits k s x counted_leb p f
kind-fits k inline_text s x p f = value-fits k s x inline_text p f
kind-fits k (text_offset table n) s x p f = value-fits k s x (text_offset table n) p f
kind-fits k present s x p f = value-fits k s x present p f
kind-fits k in_abbreviation s x p f = value-fits k s x in_abbreviation p f
kind-fits k supplementary s x p f = value-fits k s x supplementary p f
kind-fits k unlisted s x p f = value-fits k s x unlisted p f

mode-fits : (k : ℕ) (m : Mode) (base : UnitBase) (s : UnitState) (p : List Cell) → FitsMode m base s p → FitsMode m base (numbered k s) p
mode-fits k at_header base s p f = record { header = f.header; is = f.is; size = f.size; own = f.own; within = f.within; table = f.table }
mode-fits k at_code base s p f = record { spells = f.spells; before = f.before; listed = f.listed }
mode-fits k (at_values number tag []) base s p f = absurd f
mode-fits k (at_values number tag (x ∷ xs)) base s p f = kind-fits k (kind_in s.header.params x.form) s x p f
mode-fits k (at_chosen number tag start x xs) base s p f = value-fits k s x (kind_in s.header.params x.form) p f
mode-fits k stuck base s p f = absurd f

-- the pieces with higher numbers
abbrev renumbered : ℕ → List (Piece UnitState) → List (Piece UnitState)
renumbered k [] = []
renumbered k (x ∷ xs) = record { state = numbered k x.state; cells = x.cells } ∷ renumbered k xs

cells-renumbered : (k : ℕ) (xs : List (Piece UnitState)) → joined (renumbered k xs) ≡ joined xs
cells-renumbered k [] = refl
cells-renumbered k (x ∷ xs) = ap (λ (p : List Cell). x.cells ++ p) (cells-renumbered k xs)

chain-numbered : (k : ℕ) (base : UnitBase) (s : UnitState) (xs : List (Piece UnitState)) → Chain (unit_grammar base) s xs → Chain (unit_grammar base) (numbered k s) (renumbered k xs)
chain-numbered k base s [] c = record { mode = c.mode; place = c.place }
chain-numbered k base s (x ∷ xs) c = (
  ap (numbered k) c.0,
  mode-fits k x.state.mode base x.state x.cells c.1,
  subst (λ (t : UnitState). Chain (unit_grammar base) t (renumbered k xs)) (sym (past-numbered k x.state.mode base x.state x.cells))
      (chain-numbered k base (past x.state.mode base x.state x.cells) xs c.2),
)

field-numbered : (k : ℕ) (m : Mode) (order : Order) (s : UnitState) (p : List Cell) → unit_field m order (numbered k s) p ≡ unit_field m order s p
field-numbered k at_header order s p = refl
field-numbered k at_code order s p = refl
field-numbered k (at_values number tag []) order s p = refl
field-numbered k (at_values number tag (x ∷ xs)) order s p = refl
field-numbered k (at_chosen number tag start x xs) order s p = refl
field-numbered k stuck order s p = refl

fields-numbered : (k : ℕ) (order : Order) (xs : List (Piece UnitState)) → unit_fields order (renumbered k xs) ≡ unit_fields order xs
fields-numbered k order [] = refl
fields-numbered k order (x ∷ xs) =
    ap (λ (fs : List FieldPlace). fs ++ unit_fields order (renumbered k xs)) (field-numbered k x.state.mode order x.state x.cells)
    ∙ ap (λ (fs : List FieldPlace). unit_field x.state.mode order x.state x.cells ++ fs) (fields-numbered k order xs)

reads-numbered : (k : ℕ) (base : UnitBase) (z : UnitSection) (first : ℕ) (xs : List (Piece UnitState)) → ReadsUnits base z first xs → ReadsUnits base z (first + k) (renumbered k xs)
reads-numbered k base z first xs r = record {
  chain = chain-numbered k base (before_unit z.number z.kind (length z.contents) 0 first) xs r.chain;
  cells = cells-renumbered k xs ∙ r.cells;
}

-- so the fields are the same
higher-fields : (order : Order) (base : UnitBase) (z : UnitSection) (first other : ℕ) (xs ys : List (Piece UnitState)) → first ≤ other → ReadsUnits base z first xs → ReadsUnits base z other ys
    → unit_fields order xs ≡ unit_fields order ys
higher-fields order base z first other xs ys le r t =
    let sum : first + (other - first) ≡ other = omega (arith, le) in
    sym (fields-numbered (other - first) order xs)
    ∙ ap (unit_fields order)
    (reads-one base z other (renumbered (other - first) xs) ys
    (subst (λ (n : ℕ). ReadsUnits base z n (renumbered (other - first) xs)) sum (reads-numbered (other - first) base z first xs r)) t)

pub same-fields : (order : Order) (base : UnitBase) (z : UnitSection) (first other : ℕ) (xs ys : List (Piece UnitState)) → ReadsUnits base z first xs → ReadsUnits base z other ys
    → unit_fields order xs ≡ unit_fields order ys
same-fields order base z first other xs ys r t = elim (cases_lt first other) [
  | inl lt ↦ higher-fields order base z first other xs ys (omega (arith, lt)) r t
  | inr le ↦ sym (higher-fields order base z other first ys xs le t r)
]
