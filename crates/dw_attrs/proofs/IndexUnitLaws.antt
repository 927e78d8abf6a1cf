-- Units stand one behind another, so the unit in which a place lies is the last that starts at it or in front of it.
use Rattle.std.proofs.Common.{Bool, true, false, ◌≡◌, ℕ, zero, suc, ◌+◌, ◌-◌, ◌<◌, ◌≤◌, List, [], ◌∷◌, length, get_or, nat_le, nat_lt, Option, None, refl, ap, ◌∙◌, arith, if◌then◌else◌}
use Rattle.std.specs.Bool.{⊤}
use Rattle.std.specs.Prelude.{◌==◌, ◌&&◌}
use Rattle.std.proofs.lemmas.Bool.{and_parts, eqb-true}
use Rattle.dw_base.specs.AbbreviationTables.{Abbreviation}
use Rattle.dw_base.specs.FileViews.{View}
use Rattle.dw_base.specs.LineMeanings.{item_at}
use Rattle.dw_base.specs.declared.units.UnitHeader.{UnitHeader}
use Rattle.dw_starts.specs.LineStarts.{Rises}
use Rattle.dw_starts.specs.UnitPlaces.{place_key}
use Rattle.dw_attrs.specs.EntryIndexes.{AreApart, AreBefore, end_key, start_key, unit_starts}
use Rattle.dw_attrs.specs.UnitValues.{lies_in, named_in, number_in, or_behind}
use Rattle.dw_units.specs.declared.listed_unit.ListedUnit.{ListedUnit}

-- numbers that rise from one on
abbrev pub Climbs : ℕ → List ℕ → Type 0
Climbs p [] = ⊤
Climbs p (x ∷ xs) = (p ≤ x) × Climbs (suc x) xs

pub climbs-lower : (p q : ℕ) (xs : List ℕ) → Climbs q xs → p ≤ q → Climbs p xs
climbs-lower p q [] c le = tt
climbs-lower p q (x ∷ xs) c le =
    let first = c.0 in
    (omega (arith, first, le), c.1)

pub climbs-from : (p : ℕ) (xs : List ℕ) (k : ℕ) → Climbs p xs → k < length xs → p ≤ get_or xs k 0
climbs-from p [] k c lt = absurd (omega (arith, lt))
climbs-from p (x ∷ xs) zero c lt = c.0
climbs-from p (x ∷ xs) (suc k) c lt =
    let first = c.0 in
    let rest = climbs-from (suc x) xs k c.1 (omega (arith, lt)) in
    omega (arith, first, rest)

climbs-at : (p : ℕ) (xs : List ℕ) (i j : ℕ) → Climbs p xs → i < j → j < length xs → get_or xs i 0 < get_or xs j 0
climbs-at p [] i j c below lt = absurd (omega (arith, lt))
climbs-at p (x ∷ xs) i zero c below lt = absurd (omega (arith, below))
climbs-at p (x ∷ xs) zero (suc j) c below lt =
    let rest = climbs-from (suc x) xs j c.1 (omega (arith, lt)) in
    omega (arith, rest)
climbs-at p (x ∷ xs) (suc i) (suc j) c below lt = climbs-at (suc x) xs i j c.1 (omega (arith, below)) (omega (arith, lt))

pub climbs-rise : (p : ℕ) (xs : List ℕ) → Climbs p xs → Rises xs
climbs-rise p xs c = record { rise = λ i j below lt. climbs-at p xs i j c below lt }

-- so do the starts of units
pub starts-climb : (p : ℕ) (us : List ListedUnit) (q : ℕ) → AreApart p us q → Climbs p (unit_starts us)
starts-climb p [] q a = tt
starts-climb p (u ∷ us) q a =
    let lt = a.1 in
    (a.0, climbs-lower (suc (start_key u.header)) (end_key u.header) (unit_starts us) (starts-climb (end_key u.header) us q a.2) (omega (arith, lt)))

pub unit-starts-rise : (us : List ListedUnit) (q : ℕ) → AreApart 0 us q → Rises (unit_starts us)
unit-starts-rise us q a = climbs-rise 0 (unit_starts us) (starts-climb 0 us q a)

pub starts-length : (us : List ListedUnit) → length (unit_starts us) ≡ length us
starts-length [] = refl
starts-length (u ∷ us) = ap suc (starts-length us)

-- a place lies in a unit between its start and its end
pub key-lies : (h : UnitHeader) (section place : ℕ) → lies_in h section place ≡ true → (start_key h ≤ place_key section place) × (place_key section place < end_key h)
key-lies h section place e =
    let parts = and_parts (h.section == section && nat_le h.start place) (nat_lt place h.end) e in
    let front = and_parts (h.section == section) (nat_le h.start place) parts.0 in
    let same : h.section ≡ section = eqb-true h.section section front.0 in
    let first : nat_le h.start place ≡ true = front.1 in
    let last : nat_lt place h.end ≡ true = parts.1 in
    let le : h.start ≤ place = grind (arith, first) in
    let lt : place < h.end = grind (arith, last) in
    (omega (arith, same, le), omega (arith, same, lt))

pub lies-behind : (h : UnitHeader) (section place : ℕ) → place_key section place < start_key h → lies_in h section place ≡ false
lies-behind h section place lt = by_test (lies_in h section place) refl
  where
    by_test : (b : Bool) → lies_in h section place ≡ b → lies_in h section place ≡ false
    by_test false e = e
    by_test true e =
        let at = key-lies h section place e in
        let le = at.0 in
        absurd (omega (arith, lt, le))

lies-before : (h : UnitHeader) (section place : ℕ) → end_key h ≤ place_key section place → lies_in h section place ≡ false
lies-before h section place le = by_test (lies_in h section place) refl
  where
    by_test : (b : Bool) → lies_in h section place ≡ b → lies_in h section place ≡ false
    by_test false e = e
    by_test true e =
        let at = key-lies h section place e in
        let lt = at.1 in
        absurd (omega (arith, lt, le))

-- the entry of a unit of a number that starts at a place of a section
abbrev pub unit_here : View → List (List Abbreviation) → ListedUnit → ℕ → ℕ → Option ℕ
unit_here v tables u section place = if lies_in u.header section place then number_in v u.header place (item_at tables u.table) else None

abbrev pub here_at : View → List (List Abbreviation) → List ListedUnit → ℕ → ℕ → ℕ → Option ℕ
here_at v tables [] k section place = None
here_at v tables (u ∷ us) zero section place = unit_here v tables u section place
here_at v tables (u ∷ us) (suc k) section place = here_at v tables us k section place

unit-passed : (v : View) (tables : List (List Abbreviation)) (n : ℕ) (u : ListedUnit) (us : List ListedUnit) (section place : ℕ) → lies_in u.header section place ≡ false
    → named_in v tables n (u ∷ us) section place ≡ named_in v tables (n + 1) us section place
unit-passed v tables n u us section place e =
    ap (λ (b : Bool). or_behind n (if b then number_in v u.header place (item_at tables u.table) else None) (named_in v tables (n + 1) us section place)) e

-- none of the units that start behind a place
none-behind : (v : View) (tables : List (List Abbreviation)) (n : ℕ) (us : List ListedUnit) (section place : ℕ)
    → ((k : ℕ) → k < length (unit_starts us) → place_key section place < get_or (unit_starts us) k 0) → named_in v tables n us section place ≡ None
none-behind v tables n [] section place behind = refl
none-behind v tables n (u ∷ us) section place behind =
    unit-passed v tables n u us section place (lies-behind u.header section place (behind 0 (omega arith)))
    ∙ none-behind v tables (n + 1) us section place (λ k lt. behind (suc k) (omega (arith, lt)))

-- the last unit that starts at a place or in front of it
pub only-unit : (v : View) (tables : List (List Abbreviation)) (p n : ℕ) (us : List ListedUnit) (q k section place : ℕ) → AreApart p us q → k < length (unit_starts us)
    → get_or (unit_starts us) k 0 ≤ place_key section place
    → ((j : ℕ) → k < j → j < length (unit_starts us) → place_key section place < get_or (unit_starts us) j 0)
    → named_in v tables n us section place ≡ or_behind (n + k) (here_at v tables us k section place) None
only-unit v tables p n [] q k section place a lt from behind = absurd (omega (arith, lt))
only-unit v tables p n (u ∷ us) q zero section place a lt from behind =
    let same : n ≡ n + 0 = omega arith in
    ap (or_behind n (unit_here v tables u section place))
    (none-behind v tables (n + 1) us section place (λ j inside. behind (suc j) (omega arith) (omega (arith, inside))))
    ∙ ap (λ (m : ℕ). or_behind m (unit_here v tables u section place) None) same
only-unit v tables p n (u ∷ us) q (suc k) section place a lt from behind =
    let inside : k < length (unit_starts us) = omega (arith, lt) in
    let first : end_key u.header ≤ get_or (unit_starts us) k 0 = climbs-from (end_key u.header) (unit_starts us) k (starts-climb (end_key u.header) us q a.2) inside in
    let same : n + 1 + k ≡ n + suc k = omega arith in
    unit-passed v tables n u us section place (lies-before u.header section place (omega (arith, first, from)))
    ∙ only-unit v tables (end_key u.header) (n + 1) us q k section place a.2 inside from (λ j above within. behind (suc j) (omega (arith, above)) (omega (arith, within)))
    ∙ ap (λ (m : ℕ). or_behind m (here_at v tables us k section place) None) same

-- so is the entry that a place names
pub named-first : (v : View) (tables : List (List Abbreviation)) (us : List ListedUnit) (section place : ℕ) → AreBefore (unit_starts us) (place_key section place) 0
    → named_in v tables 0 us section place ≡ None
named-first v tables us section place b = none-behind v tables 0 us section place (λ k lt. b.behind k (omega arith) lt)

pub named-last : (v : View) (tables : List (List Abbreviation)) (us : List ListedUnit) (q n section place : ℕ) → AreApart 0 us q → AreBefore (unit_starts us) (place_key section place) n → 0 < n
    → named_in v tables 0 us section place ≡ or_behind (n - 1) (here_at v tables us (n - 1) section place) None
named-last v tables us q n section place a b some =
    let inside = b.inside in
    only-unit v tables 0 0 us q (n - 1) section place a (omega (arith, inside, some)) (b.before (n - 1) (omega (arith, some)))
    (λ j above lt. b.behind j (omega (arith, above, some)) lt)
    ∙ ap (λ (m : ℕ). or_behind m (here_at v tables us (n - 1) section place) None) (omega arith)
