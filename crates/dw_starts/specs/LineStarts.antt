-- Where line tables and macro units start, by their numbers: that these rise, which one a start is, and where it would stand (DWARF 5, 3.1.1 and 6.2.4).
use Rattle.std.specs.Prelude.{◌≡◌, ℕ, ◌≤◌, ◌<◌, List, length, get_or, [], ◌∷◌}
use Rattle.dw_base.specs.DebugData.{DebugData, line_source}
use Rattle.dw_base.specs.LineReadings.{LineReading, AreTables, table_starts}
use Rattle.dw_base.specs.LineTables.{LineTable}

-- starts rise
pub record Rises (starts : List ℕ) : Type 0 where
  pub rise : (i j : ℕ) → i < j → j < length starts → get_or starts i 0 < get_or starts j 0

-- the start of a number is this
pub record HasStart (starts : List ℕ) (start i : ℕ) : Type 0 where
  pub inside : i < length starts
  pub is : get_or starts i 0 ≡ start

-- those before a number are smaller, those behind larger
pub record IsStartGap (starts : List ℕ) (start i : ℕ) : Type 0 where
  pub inside : i ≤ length starts
  pub before : (k : ℕ) → k < i → get_or starts k 0 < start
  pub behind : (k : ℕ) → i ≤ k → k < length starts → start < get_or starts k 0

-- the line tables of debug data can be read, and start at these places
pub record TablesStart (d : DebugData) (starts : List ℕ) : Type 0 where
  pub tables : List LineReading
  pub are : AreTables (line_source d) tables
  pub is : starts ≡ table_starts tables

-- where tables start
abbrev pub starts_of : List LineTable → List ℕ
starts_of [] = []
starts_of (t ∷ ts) = t.start ∷ starts_of ts
