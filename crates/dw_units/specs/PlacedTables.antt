-- The tables of abbreviations that units name, by their numbers: where each stands, and the table itself where it is kept (DWARF 5, 7.5.3).
use Rattle.std.specs.Prelude.{◌≡◌, ℕ, ◌<◌, List, [], ◌∷◌, length, ⊤, Option, Some}
use Rattle.dw_base.specs.AbbreviationBytes.{abbreviations_at}
use Rattle.dw_base.specs.AbbreviationTables.{Abbreviation, IsTable}
use Rattle.dw_base.specs.DebugData.{DebugData}
use Rattle.dw_units.specs.UnitLists.{HasTableAt}
use Rattle.dw_units.specs.declared.listed_unit.ListedUnit.{ListedUnit}
use Rattle.dw_units.specs.declared.placed_table.PlacedTable.{PlacedTable}

-- the tables at their places
abbrev pub tables_of : List ℕ → List PlacedTable → List (List Abbreviation)
tables_of bytes [] = []
tables_of bytes (p ∷ ps) = abbreviations_at bytes p.at ∷ tables_of bytes ps

-- a table stands at its place, and it is that where it is kept
pub record IsPlaced (bytes : List ℕ) (p : PlacedTable) : Type 0 where
  pub stands : IsTable bytes p.at (abbreviations_at bytes p.at)
  pub kept : (table : List Abbreviation) → p.kept ≡ Some table → table ≡ abbreviations_at bytes p.at

abbrev pub AllPlaced : List ℕ → List PlacedTable → Type 0
AllPlaced bytes [] = ⊤
AllPlaced bytes (p ∷ ps) = IsPlaced bytes p × AllPlaced bytes ps

-- tables so far, and the numbers that are kept of them by their offsets
pub record AreKnown (d : DebugData) (numbers : ℕ → Option ℕ) (tables : List PlacedTable) : Type 0 where
  pub placed : AllPlaced d.base.abbrevs.bytes tables
  pub each : (at number : ℕ) → numbers at ≡ Some number → HasTableAt d (tables_of d.base.abbrevs.bytes tables) at number

-- each unit has the number of one of so many tables
abbrev pub AllNumbered : ℕ → List ListedUnit → Type 0
AllNumbered count [] = ⊤
AllNumbered count (u ∷ us) = (u.table < count) × AllNumbered count us

-- units, and their tables
pub record UnitsFit (bytes : List ℕ) (units : List ListedUnit) (tables : List PlacedTable) : Type 0 where
  pub placed : AllPlaced bytes tables
  pub numbered : AllNumbered (length tables) units
