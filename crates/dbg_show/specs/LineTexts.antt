-- The text of line tables: of each its number and version, its directories and files, and its rows.
use Rattle.std.specs.Prelude.{ℕ, suc, ◌==◌, if◌then◌else◌, List, [], ◌∷◌, ◌++◌, map, codes}
use Rattle.std.specs.Fmt.{decimal}
use Rattle.dw_base.specs.LineMeanings.{ColumnValue, text_column, number_column, bytes_column, LineColumn, LineEntry, FileText, LineMeaning}
use Rattle.dw_base.specs.declared.line_numbers.TheConstants.{DW_LNCT_directory_index}
use Rattle.dbg_show.specs.Quoting.{quoted}
use Rattle.dbg_show.specs.Rows.{rows_text}

-- directories and files count from 0 in version 5, from 1 before
abbrev pub first_number : ℕ → ℕ
first_number version = if version == 5 then 0 else 1

-- a path, up to the end of the line
abbrev pub path_line : List ℕ → List ℕ
path_line path = quoted path ++ codes "\n"

-- a directory of a number
unfoldable pub dir_front : ℕ → List ℕ
dir_front n = codes "dir " ++ (decimal n ++ codes " ")

abbrev pub dir_line : ℕ → List ℕ → List ℕ
dir_line n path = dir_front n ++ path_line path

-- directories, numbered on
abbrev pub dirs_text : ℕ → List (List ℕ) → List ℕ
dirs_text n [] = []
dirs_text n (d ∷ ds) = dir_line n d ++ dirs_text (suc n) ds

-- a file of a number, with the number of its directory
unfoldable pub file_front : ℕ → ℕ → List ℕ
file_front n dir = codes "file " ++ (decimal n ++ (codes " dir " ++ (decimal dir ++ codes " ")))

abbrev pub file_line : ℕ → FileText → List ℕ
file_line n f = file_front n f.dir ++ path_line f.path

-- files, numbered on
abbrev pub files_text : ℕ → List FileText → List ℕ
files_text n [] = []
files_text n (f ∷ fs) = file_line n f ++ files_text (suc n) fs

-- the number that a column says, 0 where it says none
abbrev pub number_of : ColumnValue → ℕ
number_of (text_column text) = 0
number_of (number_column n) = n
number_of (bytes_column bytes) = 0

-- the number of the directory that columns say: that of the first column which says one, 0 where none does
abbrev pub dir_in : List LineColumn → ℕ
dir_in [] = 0
dir_in (c ∷ cs) = if c.name == DW_LNCT_directory_index then number_of c.value else dir_in cs

abbrev pub entry_path : LineEntry → List ℕ
entry_path e = e.path

-- the path of a file, and the number of its directory
abbrev pub entry_file : LineEntry → FileText
entry_file e = record { path = e.path; dir = dir_in e.columns }

-- the first line of the table of a number
unfoldable pub table_line : ℕ → ℕ → List ℕ
table_line n version = codes "lines " ++ (decimal n ++ (codes " version " ++ (decimal version ++ codes "\n")))

-- the table of a number
unfoldable pub table_text : ℕ → LineMeaning → List ℕ
table_text n t =
    table_line n t.version ++ (dirs_text (first_number t.version) (map entry_path t.dirs)
    ++ (files_text (first_number t.version) (map entry_file t.files) ++ rows_text t.rows))

-- tables, numbered on
abbrev pub tables_text : ℕ → List LineMeaning → List ℕ
tables_text n [] = []
tables_text n (t ∷ ts) = table_text n t ++ tables_text (suc n) ts

-- all line tables
abbrev pub lines_text : List LineMeaning → List ℕ
lines_text ts = tables_text 0 ts
