-- Where copies of tables stand: they are in the order of their units, so the place of a unit's copy is behind those of the units before it.
use Rattle.std.proofs.Common.{Bool, true, false, ◌≡◌, ℕ, ◌+◌, ◌-◌, ◌<◌, ◌≤◌, ◌==◌, not, List, [], ◌∷◌, ◌++◌, length, Option, Some, None, refl, sym, ap, ◌∙◌, subst, arith, if◌then◌else◌, append_assoc}
use Rattle.std.specs.Prelude.{⊤, ◌&&◌}
use Rattle.std.proofs.lemmas.Bool.{and_parts, ne_eqb}
use Rattle.std.proofs.lemmas.List.{length-append}
use Rattle.dw_base.specs.AbbreviationTables.{Abbreviation, abbreviation_of}
use Rattle.dw_base.specs.Cells.{Cell}
use Rattle.dw_base.specs.EntryScans.{depth_behind}
use Rattle.dw_base.specs.Forms.{ValueKind, form_in_front, kind_in}
use Rattle.dw_base.specs.Paths.{PathMap}
use Rattle.dw_base.specs.Pieces.{Chain, Piece}
use Rattle.dw_base.specs.UnitHeaders.{UnitBase}
use Rattle.dw_base.specs.UnitPieces.{FitsMode, unit_grammar}
use Rattle.dw_base.specs.UnitStates.{Mode, at_header, at_code, at_values, at_chosen, stuck, UnitState, after_code, after_entry, after_header, after_value, before_unit, between, code_value, headed, in_unit, inside, past, piece_header}
use Rattle.dw_base.specs.declared.units.UnitHeader.{UnitHeader}
use Rattle.dw_base.specs.declared.values.Spec.{Spec}
use Rattle.inline_lift.specs.GrowingPaths.{any_grown, fates}
use Rattle.inline_lift.specs.LiftedTables.{Copy, copies_at, copies_if, copies_in, copy_bytes, copy_place, is_first_code, table_copy}

-- copies of units from a number on, and of units before it
abbrev pub AllFrom : ℕ → List Copy → Type 0
AllFrom n [] = ⊤
AllFrom n (c ∷ cs) = (n ≤ c.unit) × AllFrom n cs

abbrev pub AllBelow : ℕ → List Copy → Type 0
AllBelow n [] = ⊤
AllBelow n (c ∷ cs) = (c.unit < n) × AllBelow n cs

pub from-weaker : (m n : ℕ) (cs : List Copy) → m ≤ n → AllFrom n cs → AllFrom m cs
from-weaker m n [] h all = tt
from-weaker m n (c ∷ cs) h all = (omega (arith, all.0, h), from-weaker m n cs h all.1)

pub from-append : (n : ℕ) (xs ys : List Copy) → AllFrom n xs → AllFrom n ys → AllFrom n (xs ++ ys)
from-append n [] ys a b = b
from-append n (x ∷ xs) ys a b = (a.0, from-append n xs ys a.1 b)

pub below-weaker : (m n : ℕ) (cs : List Copy) → m ≤ n → AllBelow m cs → AllBelow n cs
below-weaker m n [] h all = tt
below-weaker m n (c ∷ cs) h all = (omega (arith, all.0, h), below-weaker m n cs h all.1)

pub below-append : (n : ℕ) (xs ys : List Copy) → AllBelow n xs → AllBelow n ys → AllBelow n (xs ++ ys)
below-append n [] ys a b = b
below-append n (x ∷ xs) ys a b = (a.0, below-append n xs ys a.1 b)

-- a unit has no copy among those of later units, and it isn't among those of units before it
pub from-none : (start unit : ℕ) (cs : List Copy) → AllFrom (unit + 1) cs → copy_place start cs unit ≡ None
from-none start unit [] all = refl
from-none start unit (c ∷ cs) all =
    ap (λ (b : Bool). if b then Some start else copy_place (start + length c.bytes) cs unit) (ne_eqb c.unit unit (λ e. let above = all.0 in omega (arith, above, e)))
    ∙ from-none (start + length c.bytes) unit cs all.1

pub below-place : (start unit : ℕ) (done cs : List Copy) → AllBelow unit done → copy_place start (done ++ cs) unit ≡ copy_place (start + length (copy_bytes done)) cs unit
below-place start unit [] cs all = let same : start ≡ start + length (copy_bytes []) = omega arith in ap (λ (n : ℕ). copy_place n cs unit) same
below-place start unit (c ∷ done) cs all =
    let same : start + length c.bytes + length (copy_bytes done) ≡ start + length (copy_bytes (c ∷ done)) = omega (arith, length-append c.bytes (copy_bytes done)) in
    ap (λ (b : Bool). if b then Some start else copy_place (start + length c.bytes) (done ++ cs) unit) (ne_eqb c.unit unit (λ e. let below = all.0 in omega (arith, below, e)))
    ∙ below-place (start + length c.bytes) unit done cs all.1
    ∙ ap (λ (n : ℕ). copy_place n cs unit) same

pub copy_bytes-append : (xs ys : List Copy) → copy_bytes (xs ++ ys) ≡ copy_bytes xs ++ copy_bytes ys
copy_bytes-append [] ys = refl
copy_bytes-append (c ∷ cs) ys = ap (λ (bs : List ℕ). c.bytes ++ bs) (copy_bytes-append cs ys) ∙ sym (append_assoc c.bytes (copy_bytes cs) (copy_bytes ys))

-- the number from which on units have copies behind a state: that of its own unit up to the code of the unit's first entry
abbrev pub bound_if : ℕ → ℕ → ℕ
bound_if unit entry = if entry == 0 then unit else unit + 1

abbrev pub bound_by : Mode → UnitState → ℕ
bound_by at_header s = s.unit
bound_by m s = bound_if s.unit s.entry

abbrev pub bound : UnitState → ℕ
bound s = bound_by s.mode s

bound_if-least : (unit entry : ℕ) → unit ≤ bound_if unit entry
bound_if-least unit entry = by_zero (entry == 0)
  where
    by_zero : (b : Bool) → unit ≤ (if b then unit else unit + 1)
    by_zero true = omega arith
    by_zero false = omega arith

bound_if-most : (unit entry : ℕ) → bound_if unit entry ≤ unit + 1
bound_if-most unit entry = by_zero (entry == 0)
  where
    by_zero : (b : Bool) → (if b then unit else unit + 1) ≤ unit + 1
    by_zero true = omega arith
    by_zero false = omega arith

pub bound_if-next : (unit entry : ℕ) → bound_if unit (entry + 1) ≡ unit + 1
bound_if-next unit entry = ap (λ (b : Bool). if b then unit else unit + 1) (ne_eqb (entry + 1) 0 (λ e. omega (arith, e)))

between-bound : (s : UnitState) (place entry depth : ℕ) → bound_if s.unit entry ≤ bound (between s place entry depth)
unfolding between
between-bound s place entry depth = by_end (place == s.header.end) (depth == 0)
  where
    by_end : (a b : Bool) → bound_if s.unit entry ≤ bound (if a then (if b then before_unit s.section s.kind s.whole place (s.unit + 1) else in_unit s place entry depth stuck) else in_unit s place entry depth at_code)
    by_end true true = bound_if-most s.unit entry
    by_end true false = omega arith
    by_end false b = omega arith

inside-bound : (s : UnitState) (place entry depth number tag : ℕ) (xs : List Spec) → bound_if s.unit entry ≤ bound (inside s place entry depth number tag xs)
inside-bound s place entry depth number tag [] = between-bound s place entry depth
inside-bound s place entry depth number tag (x ∷ xs) = omega arith

header-bound : (base : UnitBase) (s : UnitState) (place : ℕ) (o : Option UnitHeader) → s.unit ≤ bound (after_header base s place o)
header-bound base s place None = omega arith
header-bound base s place (Some h) = between-bound (headed base s h) place 0 0

pub entry-bound : (s : UnitState) (place : ℕ) (o : Option Abbreviation) → bound_if s.unit s.entry ≤ bound (after_entry s place o)
entry-bound s place None = omega arith
entry-bound s place (Some a) =
    omega (arith, bound_if-most s.unit s.entry, bound_if-next s.unit s.entry, inside-bound s place (s.entry + 1) (depth_behind a s.depth) s.entry a.tag a.specs)

-- behind the code of an entry only later units have copies
pub entry-above : (s : UnitState) (place : ℕ) (a : Abbreviation) → s.unit + 1 ≤ bound (after_entry s place (Some a))
entry-above s place a = omega (arith, bound_if-next s.unit s.entry, inside-bound s place (s.entry + 1) (depth_behind a s.depth) s.entry a.tag a.specs)

code-bound : (s : UnitState) (place n : ℕ) → bound_if s.unit s.entry ≤ bound (after_code s place n)
unfolding after_code
code-bound s place n = by_zero (n == 0)
  where
    by_zero : (z : Bool) → bound_if s.unit s.entry ≤ bound (if z then between s place s.entry (s.depth - 1) else after_entry s place (abbreviation_of s.table n))
    by_zero true = between-bound s place s.entry (s.depth - 1)
    by_zero false = entry-bound s place (abbreviation_of s.table n)

value-bound : (k : ValueKind) (s : UnitState) (place form number tag : ℕ) (x : Spec) (xs : List Spec) → bound_if s.unit s.entry ≤ bound (after_value k s place form number tag x xs)
value-bound form_in_front s place form number tag x xs = omega arith
value-bound k s place form number tag x xs = inside-bound s place s.entry s.depth number tag xs

past-by : (m : Mode) (base : UnitBase) (s : UnitState) (p : List Cell) → FitsMode m base s p → bound_by m s ≤ bound (past m base s p)
past-by at_header base s p f = header-bound base s (s.place + length p) (piece_header base s p)
past-by at_code base s p f = code-bound s (s.place + length p) (code_value p)
past-by (at_values number tag []) base s p f = absurd f
past-by (at_values number tag (x ∷ xs)) base s p f = value-bound (kind_in s.header.params x.form) s (s.place + length p) (code_value p) number tag x xs
past-by (at_chosen number tag start x xs) base s p f = inside-bound s (s.place + length p) s.entry s.depth number tag xs
past-by stuck base s p f = absurd f

pub past-bound : (base : UnitBase) (s : UnitState) (p : List Cell) → FitsMode s.mode base s p → bound s ≤ bound (past s.mode base s p)
past-bound base s p f = past-by s.mode base s p f

-- the copy of a unit is from its first entry
copies-if : (b : Bool) (n unit code : ℕ) (bytes : List ℕ) → (b ≡ true → n ≤ unit) → AllFrom n (copies_if b unit code bytes)
copies-if true n unit code bytes h = (h refl, tt)
copies-if false n unit code bytes h = tt

first-bound : (m : Mode) (s : UnitState) (p : List Cell) → is_first_code m s p ≡ true → bound_by m s ≤ s.unit
first-bound at_header s p e = absurd cc
first-bound (at_values number tag xs) s p e = absurd cc
first-bound (at_chosen number tag start x xs) s p e = absurd cc
first-bound stuck s p e = absurd cc
first-bound at_code s p e =
    let zero_is : (s.entry == 0) ≡ true = (and_parts (s.entry == 0) (not (code_value p == 0)) e).0 in
    let same : bound_if s.unit s.entry ≡ s.unit = ap (λ (b : Bool). if b then s.unit else s.unit + 1) zero_is in
    omega (arith, same)

pub copies-from : (m : PathMap) (abbrevs : List ℕ) (base : UnitBase) (s : UnitState) (xs : List (Piece UnitState)) → Chain (unit_grammar base) s xs → AllFrom (bound s) (copies_in m abbrevs xs)
copies-from m abbrevs base s [] c = tt
copies-from m abbrevs base s (x ∷ xs) c =
    let rest : AllFrom (bound (past x.state.mode base x.state x.cells)) (copies_in m abbrevs xs) = copies-from m abbrevs base (past x.state.mode base x.state x.cells) xs c.2 in
    subst (λ (u : UnitState). AllFrom (bound u) (copies_in m abbrevs (x ∷ xs))) c.0
    (from-append (bound x.state) (copies_at abbrevs x (fates m xs)) (copies_in m abbrevs xs)
    (copies-if (is_first_code x.state.mode x.state x.cells && any_grown (fates m xs)) (bound x.state) x.state.unit (code_value x.cells)
    (table_copy abbrevs x.state.header.abbrevs (code_value x.cells) (fates m xs))
    (λ e. first-bound x.state.mode x.state x.cells (and_parts (is_first_code x.state.mode x.state x.cells) (any_grown (fates m xs)) e).0))
    (from-weaker (bound x.state) (bound (past x.state.mode base x.state x.cells)) (copies_in m abbrevs xs) (past-bound base x.state x.cells c.1) rest))
