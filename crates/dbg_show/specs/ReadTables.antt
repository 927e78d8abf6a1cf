-- Line tables that were read, one after another, and their text.
use Rattle.std.specs.Prelude.{◌≡◌, ℕ, suc, List, [], ◌∷◌, ◌++◌, ⊤}
use Rattle.dw_base.specs.DebugData.{line_source}
use Rattle.dw_base.specs.FileViews.{View}
use Rattle.dw_base.specs.LineMeanings.{dir_texts, file_texts, line_meanings}
use Rattle.dw_base.specs.LineReadings.{LineReading, AreTables}
use Rattle.dw_base.specs.LineSources.{LineSource}
use Rattle.dw_base.specs.LineTables.{LineTable}
use Rattle.dw_base.specs.ViewData.{debug_data}
use Rattle.dw_base.specs.declared.line_rows.Row.{Row}
use Rattle.dw_rows.specs.TableRows.{IsTableIn, table_rows}
use Rattle.dw_starts.specs.MacroSections.{SectionUnits}
use Rattle.dw_read.specs.ReadData.{DataRead}
use Rattle.dbg_show.specs.LineTexts.{dirs_text, files_text, first_number, lines_text, table_line}
use Rattle.dbg_show.specs.Rows.{rows_text}
use Rattle.dbg_show.specs.TableLists.{TableLists, listed_rows}

-- each is a table in the view
abbrev pub AllIn : View → List LineTable → Type 0
AllIn v [] = ⊤
AllIn v (t ∷ ts) = IsTableIn v t × AllIn v ts

-- the lists of a table
abbrev pub lists_of : LineSource → LineTable → TableLists
lists_of g t = record { source = g; version = t.version; dirs = t.dirs; files = t.files; defined = t.defined }

-- the text of the table of a number, with these rows
abbrev pub read_text : ℕ → LineSource → LineTable → List Row → List ℕ
read_text n g t rows =
    table_line n t.version ++ (dirs_text (first_number t.version) (dir_texts g t.dirs)
    ++ (files_text (first_number t.version) (file_texts g t.files) ++ rows_text (listed_rows (lists_of g t) rows)))

-- the text of tables, numbered on
abbrev pub all_read : View → LineSource → ℕ → List LineTable → List ℕ
all_read v g n [] = []
all_read v g n (t ∷ ts) = read_text n g t (table_rows v t) ++ all_read v g (suc n) ts

-- the line tables of a view, and their text is that of what they mean
pub record TablesMeant (v : View) (ts : List LineTable) : Type 0 where
  pub readings : List LineReading
  pub tables : AreTables (line_source (debug_data v)) readings
  pub each : AllIn v ts
  pub text : all_read v (line_source (debug_data v)) 0 ts ≡ lines_text (line_meanings (line_source (debug_data v)) readings)

-- the debug data of a view were read, with its line tables and its macro units, and the text of the tables is that of what they mean
pub record ViewTables (v : View) (ts : List LineTable) (ss : List SectionUnits) : Type 0 where
  pub read : DataRead v ts ss
  pub each : AllIn v ts
  pub text : all_read v (line_source (debug_data v)) 0 ts ≡ lines_text (line_meanings (line_source (debug_data v)) read.readings.lines)
