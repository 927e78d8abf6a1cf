-- Line tables that were read, one after another (DWARF 5, 6.2.4).
use Rattle.std.specs.Prelude.{◌≡◌, ℕ, ◌+◌, ◌≤◌, List, [], ◌∷◌, ◌++◌, length, Some}
use Rattle.dw_base.specs.LineHeaders.{line_header}
use Rattle.dw_base.specs.LinePrograms.{next_opcode}
use Rattle.dw_base.specs.LineSources.{LineSource}
use Rattle.dw_base.specs.LineTables.{LineTable, table_with, table_bytes, HasLists}
use Rattle.dw_base.specs.Walks.{ComesTo}
use Rattle.dw_base.specs.declared.line_tables.FilePlace.{FilePlace}
use Rattle.dw_base.specs.declared.line_tables.LineHeader.{LineHeader}
use Rattle.dw_base.specs.declared.line_tables.TextPlace.{TextPlace}

-- what was read of a table: the numbers of its header, its directories and files, the files that its program defines, and where its
-- lists end
pub record LineReading : Type 0 where
  pub header : LineHeader
  pub dirs : List TextPlace
  pub files : List FilePlace
  pub defined : List FilePlace
  pub behind : ℕ

-- this was read of the table that starts at a place
pub record ReadsTable (g : LineSource) (start : ℕ) (r : LineReading) : Type 0 where
  pub header : line_header g.order g.bytes start ≡ Some r.header
  pub lists : HasLists g r.header (table_bytes g r.header) r.dirs r.files r.behind
  pub before : r.behind ≤ r.header.program
  pub program : ComesTo (next_opcode g.number r.header (table_bytes g r.header)) ([], r.header.program) r.defined

-- tables stand one after another from a place up to another
abbrev pub TablesTo : LineSource → ℕ → List LineReading → ℕ → Type 0
TablesTo g p [] e = p ≡ e
TablesTo g p (r ∷ rs) e = ReadsTable g p r × TablesTo g r.header.end rs e

-- these are the tables of the section: they fill it
abbrev pub AreTables : LineSource → List LineReading → Type 0
AreTables g rs = TablesTo g 0 rs (length g.bytes)

-- the table of a reading
abbrev pub table_read : LineSource → LineReading → LineTable
table_read g r = table_with g r.header r.dirs r.files r.defined

-- where the tables start
abbrev pub table_starts : List LineReading → List ℕ
table_starts [] = []
table_starts (r ∷ rs) = r.header.start ∷ table_starts rs

-- where tables start that stand one after another from a place on, and their bytes
abbrev pub starts_from : ℕ → List (List ℕ) → List ℕ
starts_from n [] = []
starts_from n (t ∷ ts) = n ∷ starts_from (n + length t) ts

abbrev pub all_lines : List (List ℕ) → List ℕ
all_lines [] = []
all_lines (t ∷ ts) = t ++ all_lines ts
