-- Laws of fields over cells: a field is refused exactly where a relocation lies on it only in part, it reads by the relocation that begins
-- at it, and without one it is its number.
use Rattle.std.proofs.Common.{◌≡◌, ◌≢◌, ℕ, zero, suc, ◌+◌, ◌<◌, ◌≤◌, Bool, true, false, ◌==◌, ◌&&◌, not, nat_lt, if◌then◌else◌, List, [], ◌∷◌, length, take, drop, Option, Some, None, refl, sym, ap, ◌∙◌, arith, subst, inl, inr}
use Rattle.std.specs.Prelude.{Ok, pos, ◌+ℤ◌}
use Rattle.std.proofs.lemmas.Bool.{eqb-false, ltb-true, lt-ltb, eq-eqb, ne_eqb, cases_lt}
use Rattle.std.proofs.lemmas.List.{length-take, length-drop}
use Rattle.dw_base.specs.Cells.{Cell, Relocation, bytes_of, first_relocation, cells_at, field_of, field_by, relocated, targeted, symbol_field, wrapped, addend_of}
use Rattle.dw_base.specs.Notes.{first_below, or_this}
use Rattle.dw_base.specs.Numbers.{spelled}
use Rattle.dw_base.specs.RelocationFields.{relocation_at, reach_of, meets_partly, LiesPartly, partly_at, field_unless, field_in}
use Rattle.dw_base.specs.declared.shared.Order.{Order}
use Rattle.dw_base.specs.declared.view_fields.Field.TheVariants.{Into}
use Rattle.dw_base.proofs.NumberLaws.{spelled-take, spelled-drop}
use Rattle.dw_base.proofs.PlainCellLaws.{IsPlain, plain-parts, first-plain}
use Rattle.dw_base.proofs.SectionRelocationLaws.{first_below-none}
use Rattle.std.proofs.lemmas.List.{take-append-drop}

-- the bytes of parts are parts of the bytes
pub bytes_of-take : (n : ℕ) (p : List Cell) → bytes_of (take n p) ≡ take n (bytes_of p)
bytes_of-take zero p = refl
bytes_of-take (suc n) [] = refl
bytes_of-take (suc n) (c ∷ cs) = ap (λ (l : List ℕ). c.byte ∷ l) (bytes_of-take n cs)

pub bytes_of-drop : (n : ℕ) (p : List Cell) → bytes_of (drop n p) ≡ drop n (bytes_of p)
bytes_of-drop zero p = refl
bytes_of-drop (suc n) [] = refl
bytes_of-drop (suc n) (c ∷ cs) = bytes_of-drop n cs

pub length-cells_at : (cells : List Cell) (place n : ℕ) → place + n ≤ length cells → length (cells_at cells place n) ≡ n
length-cells_at cells place n inside = omega (arith, inside, length-take n (drop place cells), length-drop place cells)

-- the number that the bytes of a field spell
pub number-cells_at : (order : Order) (cells : List Cell) (place n : ℕ) → place + n ≤ length cells
    → spelled order (bytes_of (cells_at cells place n)) 0 (length (cells_at cells place n)) ≡ spelled order (bytes_of cells) place n
number-cells_at order cells place n inside =
    let none : place + 0 ≡ place = omega arith in
    ap (spelled order (bytes_of (cells_at cells place n)) 0) (length-cells_at cells place n inside)
    ∙ ap (λ (bs : List ℕ). spelled order bs 0 n) (bytes_of-take n (drop place cells) ∙ ap (take n) (bytes_of-drop place cells))
    ∙ spelled-take order (drop place (bytes_of cells)) n 0 n (omega arith)
    ∙ spelled-drop order (bytes_of cells) place 0 n
    ∙ ap (λ (k : ℕ). spelled order (bytes_of cells) k n) none

-- the relocation of a field is the one that begins at its place
pub first-take : (n : ℕ) (p : List Cell) → 0 < n → first_relocation (take n p) ≡ first_relocation p
first-take zero p some = absurd (omega arith)
first-take (suc n) [] some = refl
first-take (suc n) (c ∷ cs) some = refl

pub field_of-cells_at : (order : Order) (cells : List Cell) (place n : ℕ) → 0 < n → place + n ≤ length cells
    → field_of order (cells_at cells place n) ≡ field_by (relocation_at cells place) n (spelled order (bytes_of cells) place n)
unfolding field_of
field_of-cells_at order cells place n some inside =
    let p : List Cell = cells_at cells place n in
    ap (λ (o : Option Relocation). field_by o (length (cells_at cells place n)) (spelled order (bytes_of (cells_at cells place n)) 0 (length (cells_at cells place n))))
    (first-take n (drop place cells) some)
    ∙ ap (λ (k : ℕ). field_by (relocation_at cells place) k (spelled order (bytes_of (cells_at cells place n)) 0 (length (cells_at cells place n))))
    (length-cells_at cells place n inside)
    ∙ ap (field_by (relocation_at cells place) n) (number-cells_at order cells place n inside)

-- the first number below a bound that passes a test
pub first_below-passes : (f : ℕ → Bool) (n i : ℕ) → first_below f n ≡ Some i → (i < n) × (f i ≡ true)
first_below-passes f zero i e = absurd cc
first_below-passes f (suc n) i e = by_rest (first_below f n) refl (first_below-passes f n i) e
  where
    by_test : (t : Bool) → f n ≡ t → (if t then Some n else None) ≡ Some i → (i < suc n) × (f i ≡ true)
    by_test true t_is e = let same : n ≡ i = cc in (omega (arith, same), subst (λ (k : ℕ). f k ≡ true) same t_is)
    by_test false t_is e = absurd cc

    by_rest : (o : Option ℕ) → first_below f n ≡ o → (first_below f n ≡ Some i → (i < n) × (f i ≡ true)) → or_this o n (f n) ≡ Some i
        → (i < suc n) × (f i ≡ true)
    by_rest (Some j) o_is rest e = let found = rest (o_is ∙ e) in (omega (arith, found.0), found.1)
    by_rest None o_is rest e = by_test (f n) refl e

pub first_below-other : (f : ℕ → Bool) (n i : ℕ) → first_below f n ≡ None → i < n → f i ≡ false
first_below-other f zero i e lt = absurd (omega arith)
first_below-other f (suc n) i e lt = by_rest (first_below f n) refl (first_below-other f n i) e
  where
    by_test : (t : Bool) → f n ≡ t → first_below f n ≡ None → (if t then Some n else None) ≡ None → (first_below f n ≡ None → i < n → f i ≡ false) → f i ≡ false
    by_test true t_is none e rest = absurd cc
    by_test false t_is none e rest =
        elim (cases_lt i n) [
          | inl below ↦ rest none below
          | inr above ↦ let same : n ≡ i = omega arith in subst (λ (k : ℕ). f k ≡ false) same t_is
        ]

    by_rest : (o : Option ℕ) → first_below f n ≡ o → (first_below f n ≡ None → i < n → f i ≡ false) → or_this o n (f n) ≡ None → f i ≡ false
    by_rest (Some j) o_is rest e = absurd cc
    by_rest None o_is rest e = by_test (f n) refl o_is e rest

-- what a test of a relocation says
meets-is : (place n p : ℕ) (o : Option Relocation) → meets_partly place n p o ≡ true
    → (r : Relocation) × ((o ≡ Some r) × (p < place + n) × (place < p + reach_of r) × (p ≢ place))
meets-is place n p None e = absurd cc
meets-is place n p (Some r) e = by_tests (nat_lt p (place + n)) (nat_lt place (p + reach_of r)) (p == place) refl refl refl e
  where
    by_tests : (s t u : Bool) → nat_lt p (place + n) ≡ s → nat_lt place (p + reach_of r) ≡ t → (p == place) ≡ u → (s && t && not u) ≡ true
        → (q : Relocation) × ((Some r ≡ Some q) × (p < place + n) × (place < p + reach_of q) × (p ≢ place))
    by_tests true true false a b c e = (r, (refl, ltb-true p (place + n) a, ltb-true place (p + reach_of r) b, eqb-false p place c))
    by_tests false t u a b c e = absurd cc
    by_tests true false u a b c e = absurd cc
    by_tests true true true a b c e = absurd cc

-- a field is refused at a relocation that lies on it only in part
pub partly-lies : (cells : List Cell) (place n p : ℕ) → partly_at cells place n ≡ Some p → LiesPartly cells place n p
unfolding partly_at
partly-lies cells place n p e =
    let found = first_below-passes (λ q. meets_partly place n q (relocation_at cells q)) (place + n) p e in
    let is = meets-is place n p (relocation_at cells p) found.1 in
    record { relocation = is.0; begins = is.1.0; before = is.1.1; behind = is.1.2; other = is.1.3 }

-- and where it isn't, none does
meets-all : (place n p : ℕ) (r : Relocation) → p < place + n → place < p + reach_of r → p ≢ place → meets_partly place n p (Some r) ≡ true
meets-all place n p r before behind other =
    rw (lt-ltb p (place + n) before, lt-ltb place (p + reach_of r) behind, ne_eqb p place other) refl

pub partly-none : (cells : List Cell) (place n p : ℕ) → partly_at cells place n ≡ None → LiesPartly cells place n p → ⊥
unfolding partly_at
partly-none cells place n p e h =
    let passes : meets_partly place n p (relocation_at cells p) ≡ true =
    ap (meets_partly place n p) h.begins ∙ meets-all place n p h.relocation h.before h.behind h.other in
    let fails = first_below-other (λ q. meets_partly place n q (relocation_at cells q)) (place + n) p e h.before in
    absurd cc

-- what a field reads as, and why it is refused
pub field_in-reads : (order : Order) (section : ℕ) (cells : List Cell) (place n : ℕ) → 0 < n → place + n ≤ length cells → partly_at cells place n ≡ None
    → field_in order section cells place n ≡ Ok (field_by (relocation_at cells place) n (spelled order (bytes_of cells) place n))
unfolding field_in
field_in-reads order section cells place n some inside whole =
    ap (λ (o : Option ℕ). field_unless o section (field_of order (cells_at cells place n))) whole
    ∙ ap Ok (field_of-cells_at order cells place n some inside)

-- a field at which a relocation begins: of its own size, of a symbol that is defined in a section, it is a place there
pub field_by-into : (r : Relocation) (t : ℕ × ℕ) (n x : ℕ) → r.size ≡ Some n → r.target ≡ Some t
    → field_by (Some r) n x ≡ Into t.0 (wrapped (pos t.1 +ℤ addend_of r.addend x) n)
field_by-into r t n x size target =
    ap (λ (o : Option ℕ). relocated o r n x) size ∙ own (n == n) (eq-eqb n n refl)
  where
    own : (b : Bool) → b ≡ true → (if b then targeted r.target r n x else symbol_field r x) ≡ Into t.0 (wrapped (pos t.1 +ℤ addend_of r.addend x) n)
    own true e = ap (λ (o : Option (ℕ × ℕ)). targeted o r n x) target
    own false e = absurd cc

-- cells in which no relocation begins
plain-drop : (n : ℕ) (p : List Cell) → IsPlain p → IsPlain (drop n p)
plain-drop n p h = (plain-parts (take n p) (drop n p) (subst IsPlain (sym (take-append-drop n p)) h)).1

pub relocation_at-plain : (p : List Cell) (place : ℕ) → IsPlain p → relocation_at p place ≡ None
relocation_at-plain p place h = first-plain (drop place p) (plain-drop place p h)

pub partly-plain : (cells : List Cell) (place n : ℕ) → IsPlain cells → partly_at cells place n ≡ None
unfolding partly_at
partly-plain cells place n plain =
    first_below-none (λ q. meets_partly place n q (relocation_at cells q)) (place + n)
    (λ i lt. ap (meets_partly place n i) (relocation_at-plain cells i plain))
