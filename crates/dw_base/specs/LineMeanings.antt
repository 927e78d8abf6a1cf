-- What line tables mean (DWARF 5, 6.2): the numbers of their headers, their directories and files with texts in place of offsets, their
-- programs, and the rows that these give.
use Rattle.std.specs.Prelude.{Bool, true, false, ℕ, zero, suc, ◌+◌, ◌-◌, ◌==◌, ◌&&◌, not, if◌then◌else◌, List, [], ◌∷◌, ◌++◌, take, drop, map, Option, Some, None, Result, Ok, Err}
use Rattle.dw_base.specs.Cells.{Cell}
use Rattle.dw_base.specs.Lebs.{uleb_at}
use Rattle.dw_base.specs.LineEntries.{column_at, entry_at, list_end}
use Rattle.dw_base.specs.LineFormats.{format_at}
use Rattle.dw_base.specs.LineOperations.{operations}
use Rattle.dw_base.specs.LineReadings.{LineReading}
use Rattle.dw_base.specs.LineRegisters.{start_registers, rows_of}
use Rattle.dw_base.specs.LineSources.{LineSource}
use Rattle.dw_base.specs.LineTables.{table_bytes, table_cells}
use Rattle.dw_base.specs.Paths.{PathMap, mapped_path}
use Rattle.dw_base.specs.UnitStates.{read_value}
use Rattle.dw_base.specs.WrittenLines.{cells_part, part, length_size, header_length_place, behind_lengths}
use Rattle.dw_base.specs.declared.dwarf_numbers.TheConstants.{DW_FORM_data16, DW_FORM_block}
use Rattle.dw_base.specs.declared.fault.Refusal.{Refusal}
use Rattle.dw_base.specs.declared.line_numbers.TheConstants.{DW_LNCT_path, DW_LNCT_directory_index, DW_LNCT_timestamp, DW_LNCT_size}
use Rattle.dw_base.specs.declared.line_rows.LineParams.{LineParams}
use Rattle.dw_base.specs.declared.line_rows.Row.{Row}
use Rattle.dw_base.specs.declared.line_tables.Column.{Column}
use Rattle.dw_base.specs.declared.line_tables.FilePlace.{FilePlace}
use Rattle.dw_base.specs.declared.line_tables.LineHeader.{LineHeader}
use Rattle.dw_base.specs.declared.line_tables.TextPlace.{TextPlace}
use Rattle.dw_base.specs.declared.shared.Order.{Order}
use Rattle.dw_base.specs.declared.shared.Width.{Width}
use Rattle.dw_base.specs.declared.values.Spec.{Spec}

-- the bytes of the section of a number: that of line tables, or of one of the tables of texts
abbrev pub section_in : LineSource → ℕ → List ℕ
section_in g i = if i == g.number then g.bytes else (if i == g.str.number then g.str.bytes else g.line_str.bytes)

-- the text at a place
abbrev pub place_text : LineSource → TextPlace → List ℕ
place_text g x = take x.len (drop x.at (section_in g x.section))

-- what a further column of a directory or file says: a text, a number, or bytes
pub data ColumnValue : Type 0 where
  text_column : List ℕ → ColumnValue
  number_column : ℕ → ColumnValue
  bytes_column : List ℕ → ColumnValue

-- such a column: what it is (DWARF 5, table 7.27), and its value
pub record LineColumn : Type 0 where
  pub name : ℕ
  pub value : ColumnValue

-- a directory or a file: its path, and its further columns in order
pub record LineEntry : Type 0 where
  pub path : List ℕ
  pub columns : List LineColumn

-- how many bytes a number in LEB128 has that was read, 0 where none was
abbrev pub leb_size : Option (ℕ × ℕ) → ℕ
leb_size None = 0
leb_size (Some n) = n.1

-- the value of a column of a form that isn't a text, with its number and its own bytes; a block is without its count
abbrev pub other_value : ℕ → ℕ → List ℕ → ColumnValue
other_value form number own =
    if form == DW_FORM_data16 then bytes_column own
    else (if form == DW_FORM_block then bytes_column (drop (leb_size (uleb_at own 0)) own) else number_column number)

abbrev pub column_value : LineSource → ℕ → Option TextPlace → ℕ → List ℕ → ColumnValue
column_value g form (Some t) number own = text_column (place_text g t)
column_value g form None number own = other_value form number own

-- there is something
abbrev pub is_there : {X : Type 0} → Option X → Bool
is_there None = false
is_there (Some x) = true

-- the columns of an entry from a place on, but for its path, which is the first text that is one
abbrev pub column_there : LineSource → List ℕ → Spec → Bool → ℕ → (Bool → ℕ → List LineColumn) → Result Column Refusal → List LineColumn
column_there g table spec taken place rest (Err r) = []
column_there g table spec taken place rest (Ok c) =
    if not taken && spec.name == DW_LNCT_path && is_there c.text then rest true c.next
    else record { name = spec.name; value = column_value g spec.form c.text c.number (part table place c.next) } ∷ rest taken c.next

abbrev pub further_columns : LineSource → LineHeader → List ℕ → List Spec → Bool → ℕ → List LineColumn
further_columns g h table [] taken place = []
further_columns g h table (spec ∷ specs) taken place =
    column_there g table spec taken place (λ t p. further_columns g h table specs t p) (column_at g h table spec place)

-- the further columns of so many entries
abbrev pub columns_there : List LineColumn → (ℕ → List (List LineColumn)) → Result (FilePlace × ℕ) Refusal → List (List LineColumn)
columns_there first rest (Err r) = []
columns_there first rest (Ok f) = first ∷ rest f.1

abbrev pub entries_columns : LineSource → LineHeader → List ℕ → List Spec → ℕ → ℕ → List (List LineColumn)
entries_columns g h table specs zero place = []
entries_columns g h table specs (suc n) place =
    columns_there (further_columns g h table specs false place) (λ p. entries_columns g h table specs n p) (entry_at g h table specs place)

-- those of the entries of version 5 whose format stands at a place
abbrev pub columns_counted : LineSource → LineHeader → List ℕ → List Spec → ℕ → Option (ℕ × ℕ) → List (List LineColumn)
columns_counted g h table specs place None = []
columns_counted g h table specs place (Some n) = entries_columns g h table specs n.0 (place + n.1)

abbrev pub columns_formed : LineSource → LineHeader → List ℕ → Option (List Spec × ℕ) → List (List LineColumn)
columns_formed g h table None = []
columns_formed g h table (Some f) = columns_counted g h table f.0 f.1 (uleb_at table f.1)

abbrev pub listed_columns : LineSource → LineHeader → List ℕ → ℕ → List (List LineColumn)
listed_columns g h table place = columns_formed g h table (format_at table place)

-- numbers in LEB128 from a place on, as columns of these names
abbrev pub leb_columns : List ℕ → List ℕ → ℕ → List LineColumn
leb_columns [] table place = []
leb_columns (n ∷ ns) table place =
    record { name = n; value = number_column (read_value (uleb_at table place)) } ∷ leb_columns ns table (place + leb_size (uleb_at table place))

-- before version 5 directory, time and length stand behind the name of a file (DWARF 4, 6.2.4)
abbrev pub old_columns : List ℕ → FilePlace → List LineColumn
old_columns table f =
    leb_columns (DW_LNCT_directory_index ∷ DW_LNCT_timestamp ∷ DW_LNCT_size ∷ []) table (f.text.at + f.text.len + 1)

abbrev pub dir_columns : LineSource → LineReading → List (List LineColumn)
dir_columns g r = if r.header.version == 5 then listed_columns g r.header (table_bytes g r.header) r.header.lists else []

abbrev pub file_columns : LineSource → LineReading → List (List LineColumn)
file_columns g r =
    if r.header.version == 5
    then listed_columns g r.header (table_bytes g r.header) (list_end g r.header (table_bytes g r.header) r.header.lists)
    else map (old_columns (table_bytes g r.header)) r.files

-- paths with their further columns
abbrev pub entries_with : List (List ℕ) → List (List LineColumn) → List LineEntry
entries_with [] cs = []
entries_with (t ∷ ts) [] = record { path = t; columns = [] } ∷ entries_with ts []
entries_with (t ∷ ts) (c ∷ cs) = record { path = t; columns = c } ∷ entries_with ts cs

-- the path of a file, and the number of its directory
pub record FileText : Type 0 where
  pub path : List ℕ
  pub dir : ℕ

abbrev pub dir_texts : LineSource → List TextPlace → List (List ℕ)
dir_texts g xs = map (place_text g) xs

abbrev pub file_text : LineSource → FilePlace → FileText
file_text g f = record { path = place_text g f.text; dir = f.dir }

abbrev pub file_texts : LineSource → List FilePlace → List FileText
file_texts g fs = map (file_text g) fs

abbrev pub file_path : FileText → List ℕ
file_path f = f.path

-- how a row shows its file: by the texts of its directory and of itself, or, where the table hasn't one of both, by its number
pub data ShownFile : Type 0 where
  named : List ℕ → List ℕ → ShownFile
  unnamed : ℕ → ShownFile

-- the item of a number
abbrev pub item_at : {X : Type 0} → List X → ℕ → Option X
item_at [] i = None
item_at (x ∷ xs) zero = Some x
item_at (x ∷ xs) (suc i) = item_at xs i

-- the text of a directory: version 5 counts from 0; before, directories count from 1, and 0 is the empty text
abbrev pub dir_numbered : ℕ → List (List ℕ) → ℕ → Option (List ℕ)
dir_numbered version dirs i = if version == 5 then item_at dirs i else (if i == 0 then Some [] else item_at dirs (i - 1))

-- the file of a number: version 5 counts from 0, those before from 1
abbrev pub file_numbered : ℕ → List FileText → ℕ → Option FileText
file_numbered version files i = if version == 5 then item_at files i else (if i == 0 then None else item_at files (i - 1))

abbrev pub shown_in : ℕ → List ℕ → Option (List ℕ) → ShownFile
shown_in i path None = unnamed i
shown_in i path (Some dir) = named dir path

abbrev pub shown_as : ℕ → List (List ℕ) → ℕ → Option FileText → ShownFile
shown_as version dirs i None = unnamed i
shown_as version dirs i (Some f) = shown_in i f.path (dir_numbered version dirs f.dir)

abbrev pub shown_file : ℕ → List (List ℕ) → List FileText → ℕ → ShownFile
shown_file version dirs files i = shown_as version dirs i (file_numbered version files i)

-- a row: the registers but for the number of the file, which it shows by texts
pub record ShownRow : Type 0 where
  pub registers : Row
  pub file : ShownFile

abbrev pub shown_row : ℕ → List (List ℕ) → List FileText → Row → ShownRow
shown_row version dirs files r = record { registers = record r { file = 0 }; file = shown_file version dirs files r.file }

abbrev pub shown_rows : ℕ → List (List ℕ) → List FileText → List Row → List ShownRow
shown_rows version dirs files [] = []
shown_rows version dirs files (r ∷ rs) = shown_row version dirs files r ∷ shown_rows version dirs files rs

-- the numbers on which the rows depend
abbrev pub line_params : Order → LineHeader → LineParams
line_params order h = record {
  order = order;
  min_length = h.min_length;
  max_ops = h.max_ops;
  default_stmt = h.default_stmt;
  line_base = h.line_base;
  line_range = h.line_range;
  opcode_base = h.opcode_base;
}

-- the rows that a program gives, with these numbers and counts of operands
abbrev pub program_rows : LineParams → List ℕ → List Cell → List Row
program_rows p counts program = rows_of p (start_registers p) (operations p counts program)

-- a line table: version and width; the sizes of addresses and of segment selectors, in version 5 alone, and the numbers behind the length
-- of the header up to the counts of operands, one byte each; its directories and files; the cells between these and the program; the
-- program, and its rows
pub record LineMeaning : Type 0 where
  pub version : ℕ
  pub width : Width
  pub sizes : List ℕ
  pub numbers : List ℕ
  pub dirs : List LineEntry
  pub files : List LineEntry
  pub gap : List Cell
  pub program : List Cell
  pub rows : List ShownRow

abbrev pub line_meaning : LineSource → LineReading → LineMeaning
line_meaning g r =
    let h : LineHeader = r.header in
    let table : List ℕ = table_bytes g r.header in
    let cells : List Cell = table_cells g r.header in
    record {
      version = h.version;
      width = h.width;
      sizes = part table (h.start + length_size h.width) (header_length_place h.start h.width h.version);
      numbers = part table (behind_lengths h.start h.width h.version) h.lists;
      dirs = entries_with (dir_texts g r.dirs) (dir_columns g r);
      files = entries_with (map file_path (file_texts g r.files)) (file_columns g r);
      gap = cells_part cells r.behind h.program;
      program = drop h.program cells;
      rows = shown_rows h.version (dir_texts g r.dirs) (file_texts g r.files ++ file_texts g r.defined)
          (program_rows (line_params g.order h) (part table h.operands h.lists) (drop h.program cells));
    }

abbrev pub line_meanings : LineSource → List LineReading → List LineMeaning
line_meanings g [] = []
line_meanings g (r ∷ rs) = line_meaning g r ∷ line_meanings g rs

-- with a prefix map applied: to the path of each directory and file, and to both texts of each row
abbrev pub mapped_entry : PathMap → LineEntry → LineEntry
mapped_entry m e = record e { path = mapped_path m e.path }

abbrev pub mapped_shown : PathMap → ShownFile → ShownFile
mapped_shown m (named dir path) = named (mapped_path m dir) (mapped_path m path)
mapped_shown m (unnamed i) = unnamed i

abbrev pub mapped_row : PathMap → ShownRow → ShownRow
mapped_row m r = record r { file = mapped_shown m r.file }

abbrev pub mapped_line : PathMap → LineMeaning → LineMeaning
mapped_line m x = record x { dirs = map (mapped_entry m) x.dirs; files = map (mapped_entry m) x.files; rows = map (mapped_row m) x.rows }

abbrev pub mapped_lines : PathMap → List LineMeaning → List LineMeaning
mapped_lines m xs = map (mapped_line m) xs
