-- The lists of a line table that was read, and how its rows show their files by them.
use Rattle.std.specs.Prelude.{ℕ, List, ◌++◌}
use Rattle.dw_base.specs.LineMeanings.{FileText, ShownFile, ShownRow, dir_texts, file_texts, shown_file, shown_row, shown_rows}
use Rattle.dw_base.specs.LineSources.{LineSource}
use Rattle.dw_base.specs.declared.line_rows.Row.{Row}
use Rattle.dw_base.specs.declared.line_tables.FilePlace.{FilePlace}
use Rattle.dw_base.specs.declared.line_tables.TextPlace.{TextPlace}

-- what the texts stand in, the version, the directories and files of the header, and the files that the program defines
pub record TableLists : Type 0 where
  pub source : LineSource
  pub version : ℕ
  pub dirs : List TextPlace
  pub files : List FilePlace
  pub defined : List FilePlace

abbrev pub all_files : TableLists → List FileText
all_files t = file_texts t.source t.files ++ file_texts t.source t.defined

unfoldable pub listed_file : TableLists → ℕ → ShownFile
listed_file t i = shown_file t.version (dir_texts t.source t.dirs) (all_files t) i

unfoldable pub listed_row : TableLists → Row → ShownRow
listed_row t r = shown_row t.version (dir_texts t.source t.dirs) (all_files t) r

abbrev pub listed_rows : TableLists → List Row → List ShownRow
listed_rows t rs = shown_rows t.version (dir_texts t.source t.dirs) (all_files t) rs
