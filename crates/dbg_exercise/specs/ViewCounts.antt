-- How many units, entries and rows there are, by what debug data mean and by what is read of a view (DWARF 5, 7.5.2, 7.5.3 and 6.2.2).
use Rattle.std.specs.Prelude.{◌≡◌, ℕ, ◌+◌, ◌<◌, ◌^◌, List, [], ◌∷◌, length, Option, Some, None}
use Rattle.dw_base.specs.AbbreviationTables.{Abbreviation}
use Rattle.dw_base.specs.FileViews.{View}
use Rattle.dw_base.specs.LineMeanings.{item_at}
use Rattle.dw_base.specs.LineTables.{LineTable}
use Rattle.dw_base.specs.RelocationRows.{moving_sections}
use Rattle.dw_base.specs.ViewData.{Meaning, debug_data}
use Rattle.dw_base.specs.declared.units.UnitHeader.{UnitHeader}
use Rattle.dw_meaning.specs.FileMeanings.{Means, ViewMeans}
use Rattle.dw_meaning.specs.RelocationFails.{RelocationsReadIn}
use Rattle.dw_rows.specs.TableRows.{table_rows}
use Rattle.dw_units.specs.declared.listed_unit.ListedUnit.{ListedUnit}
use Rattle.dw_attrs.specs.UnitValues.{unit_bytes, unit_entries}
use Rattle.gen_laws.specs.Counts.{entries_counted, rows_counted, units_counted}
use Rattle.dbg_exercise.specs.declared.counts.Counts.{Counts}

-- these are the counts of a meaning
pub record AreCounts (x : Meaning) (c : Counts) : Type 0 where
  pub units : c.units ≡ units_counted x
  pub entries : c.entries ≡ entries_counted x
  pub rows : c.rows ≡ rows_counted x

-- the entries of a unit with its table of abbreviations
abbrev pub tabled_count : View → UnitHeader → Option (List Abbreviation) → ℕ
tabled_count v h None = 0
tabled_count v h (Some table) = length (unit_entries h table (unit_bytes v h))

-- those of units
abbrev pub entries_listed : View → List (List Abbreviation) → List ListedUnit → ℕ
entries_listed v tables [] = 0
entries_listed v tables (u ∷ us) = tabled_count v u.header (item_at tables u.table) + entries_listed v tables us

-- the rows of line tables
abbrev pub rows_listed : View → List LineTable → ℕ
rows_listed v [] = 0
rows_listed v (t ∷ ts) = length (table_rows v t) + rows_listed v ts

-- fewer entries and rows than 64 bits can count
pub record CanBeCounted (x : Meaning) : Type 0 where
  pub entries : entries_counted x < 2 ^ 64
  pub rows : rows_counted x < 2 ^ 64

-- the debug data of a view can be read, and mean so few
pub record IsCountable (v : View) : Type 0 where
  pub meaning : Meaning
  pub means : ViewMeans v meaning
  pub relocations : RelocationsReadIn (debug_data v) (moving_sections v)
  pub few : CanBeCounted meaning

-- a file can be read, and means so few
pub record IsCountableFile (b : List ℕ) : Type 0 where
  pub meaning : Meaning
  pub means : Means b meaning
  pub few : CanBeCounted meaning
