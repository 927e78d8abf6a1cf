-- The line tables of a view: they stand one after another, and fill their section (DWARF 5, 6.2.4).
use Rattle.std.specs.Prelude.{◌≡◌, ℕ, List, [], ◌∷◌, length}
use Rattle.dw_base.specs.DebugData.{line_source}
use Rattle.dw_base.specs.FileViews.{View}
use Rattle.dw_base.specs.LineReadings.{LineReading, TablesTo, table_read}
use Rattle.dw_base.specs.LineSources.{LineSource}
use Rattle.dw_base.specs.LineTables.{LineTable}
use Rattle.dw_base.specs.ViewData.{debug_data}

-- the tables of readings
abbrev pub tables_read : LineSource → List LineReading → List LineTable
tables_read g [] = []
tables_read g (r ∷ rs) = table_read g r ∷ tables_read g rs

-- these tables stand one after another from the start of their section up to a place
pub record TablesUpTo (g : LineSource) (ts : List LineTable) (e : ℕ) : Type 0 where
  pub readings : List LineReading
  pub reads : TablesTo g 0 readings e
  pub is : ts ≡ tables_read g readings

-- these are the line tables of a view
abbrev pub TablesFound : View → List LineTable → Type 0
TablesFound v ts = TablesUpTo (line_source (debug_data v)) ts (length (line_source (debug_data v)).bytes)
