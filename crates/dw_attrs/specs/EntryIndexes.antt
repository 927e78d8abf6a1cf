-- Where the units of a view and their entries start, kept in order, so that the entry at a place is found by halving (DWARF 5, 7.5.1 and
-- 7.5.3).
use Rattle.std.specs.Prelude.{◌≡◌, ℕ, zero, suc, ◌<◌, ◌≤◌, List, [], ◌∷◌, length, get_or, ⊤, Option, Some, None}
use Rattle.dw_base.specs.AbbreviationTables.{Abbreviation}
use Rattle.dw_base.specs.FileViews.{View}
use Rattle.dw_base.specs.LineMeanings.{item_at}
use Rattle.dw_base.specs.declared.units.Scanned.{Scanned}
use Rattle.dw_base.specs.declared.units.UnitHeader.{UnitHeader}
use Rattle.dw_starts.specs.LineStarts.{Rises}
use Rattle.dw_starts.specs.UnitPlaces.{place_key}
use Rattle.dw_attrs.specs.UnitValues.{EntryIndex, number_in, unit_bytes, unit_entries}
use Rattle.dw_units.specs.declared.listed_unit.ListedUnit.{ListedUnit}

abbrev pub start_key : UnitHeader → ℕ
start_key h = place_key h.section h.start

abbrev pub end_key : UnitHeader → ℕ
end_key h = place_key h.section h.end

-- where units start
abbrev pub unit_starts : List ListedUnit → List ℕ
unit_starts [] = []
unit_starts (u ∷ us) = start_key u.header ∷ unit_starts us

-- where entries start
abbrev pub offsets_of : List Scanned → List ℕ
offsets_of [] = []
offsets_of (e ∷ es) = e.offset ∷ offsets_of es

abbrev pub tabled_offsets : View → UnitHeader → Option (List Abbreviation) → List ℕ
tabled_offsets v h None = []
tabled_offsets v h (Some table) = offsets_of (unit_entries h table (unit_bytes v h))

-- those of units
abbrev pub unit_offsets : View → List (List Abbreviation) → List ListedUnit → List (List ℕ)
unit_offsets v tables [] = []
unit_offsets v tables (u ∷ us) = tabled_offsets v u.header (item_at tables u.table) ∷ unit_offsets v tables us

-- the index is that of these units
pub record IsIndexed (v : View) (tables : List (List Abbreviation)) (us : List ListedUnit) (x : EntryIndex) : Type 0 where
  pub starts : x.starts ≡ unit_starts us
  pub entries : x.entries ≡ unit_offsets v tables us

-- units stand one behind another, none within another, from a place on up to a place
abbrev pub AreApart : ℕ → List ListedUnit → ℕ → Type 0
AreApart p [] q = p ≤ q
AreApart p (u ∷ us) q = (p ≤ start_key u.header) × (start_key u.header < end_key u.header) × AreApart (end_key u.header) us q

-- each behind the one before it
pub record StandApart (us : List ListedUnit) : Type 0 where
  pub end : ℕ
  pub apart : AreApart 0 us end

-- so many starts are at a place or in front of it
pub record AreBefore (starts : List ℕ) (key n : ℕ) : Type 0 where
  pub inside : n ≤ length starts
  pub before : (k : ℕ) → k < n → get_or starts k 0 ≤ key
  pub behind : (k : ℕ) → n ≤ k → k < length starts → key < get_or starts k 0

-- the number of the entry that starts at a place, of the unit of a number
abbrev pub unit_number : View → List (List Abbreviation) → List ListedUnit → ℕ → ℕ → Option ℕ
unit_number v tables [] k place = None
unit_number v tables (u ∷ us) zero place = number_in v u.header place (item_at tables u.table)
unit_number v tables (u ∷ us) (suc k) place = unit_number v tables us k place

-- where the entries of a unit of a number start
abbrev pub entries_at : List (List ℕ) → ℕ → List ℕ
entries_at [] k = []
entries_at (e ∷ es) zero = e
entries_at (e ∷ es) (suc k) = entries_at es k

-- in each unit they rise
abbrev pub EachRises : List (List ℕ) → Type 0
EachRises [] = ⊤
EachRises (e ∷ es) = Rises e × EachRises es
