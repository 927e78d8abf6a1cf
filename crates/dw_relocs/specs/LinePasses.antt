-- A pass over the offsets of texts in the headers of line tables, one table after another (DWARF 5, 6.2.4).
use Rattle.std.specs.Prelude.{◌≡◌, ℕ, ⊤, List, [], ◌∷◌, length, drop, Result}
use Rattle.dw_base.specs.LineFields.{line_fields, table_fields}
use Rattle.dw_base.specs.LineReadings.{LineReading, ReadsTable, TablesTo, table_read}
use Rattle.dw_base.specs.LineSources.{LineSource}
use Rattle.dw_base.specs.LineTables.{LineTable}
use Rattle.dw_base.specs.RelocationRows.{HeaderFails, HeaderReads}
use Rattle.dw_base.specs.declared.fault.Refusal.{Refusal}
use Rattle.dw_lines.specs.ViewTables.{tables_read}
use Rattle.dw_relocs.specs.FieldWalks.{Goes, Ground}
use Rattle.dw_relocs.specs.declared.marks.Marks.{Marks}

-- the header of a reading has such relocations as may stand there; and it hasn't
abbrev pub HeaderHolds : LineSource → LineReading → Type 0
HeaderHolds s r = HeaderReads r.header.start r.behind s.cells (table_fields s r)

abbrev pub HeaderRefuses : LineSource → LineReading → Refusal → Type 0
HeaderRefuses s r x = HeaderFails s.number r.header.start r.behind s.cells (table_fields s r) x

-- the headers of all
abbrev pub HeadersHold : LineSource → List LineReading → Type 0
HeadersHold s [] = ⊤
HeadersHold s (r ∷ rs) = HeaderHolds s r × HeadersHold s rs

-- a table has been passed
pub record TablePassed (g : Ground) (s : LineSource) (t : LineTable) (p q : Result Marks Refusal) : Type 0 where
  pub reading : LineReading
  pub reads : ReadsTable s t.start reading
  pub is : t ≡ table_read s reading
  pub header : HeaderHolds s reading
  pub goes : Goes g t.start t.end (table_fields s reading) p q

-- or something is wrong with its header
pub record TableRefuses (s : LineSource) (t : LineTable) (x : Refusal) : Type 0 where
  pub reading : LineReading
  pub reads : ReadsTable s t.start reading
  pub fails : HeaderRefuses s reading x

-- the first tables of a list have been passed, and those that are left fill the section
pub record TablesSo (g : Ground) (s : LineSource) (tables : List LineTable) (i : ℕ) (p q : Result Marks Refusal) : Type 0 where
  pub done : List LineReading
  pub left : List LineReading
  pub place : ℕ
  pub reads : TablesTo s 0 done place
  pub headers : HeadersHold s done
  pub rest : TablesTo s place left (length s.bytes)
  pub left_is : drop i tables ≡ tables_read s left
  pub goes : Goes g 0 place (line_fields s done) p q

-- all of them
pub record LinesPassed (g : Ground) (s : LineSource) (p q : Result Marks Refusal) : Type 0 where
  pub readings : List LineReading
  pub reads : TablesTo s 0 readings (length s.bytes)
  pub headers : HeadersHold s readings
  pub goes : Goes g 0 (length s.bytes) (line_fields s readings) p q

-- or one of them, behind others that can be read, has such a header
pub data LinesRefuse (s : LineSource) : Refusal → Type 0 where
  header_refuses : (before : List LineReading) (start : ℕ) (r : LineReading) {x : Refusal} → TablesTo s 0 before start → ReadsTable s start r
      → HeaderRefuses s r x → LinesRefuse s x
