-- Why a line table can't be read: the refusals of kind Line, at the table, and of kind StringOffset, at the offset of a text
-- (DWARF 5, 6.2.4). What stands before an offset can be read.
use Rattle.std.specs.Prelude.{◌≡◌, ◌≢◌, ℕ, ◌<◌, List, [], Some, None, Ok, Err}
use Rattle.dw_base.specs.LineSources.{LineSource}
use Rattle.dw_base.specs.Refusals.{at}
use Rattle.dw_base.specs.declared.fault.Kind.TheVariants.{Line}
use Rattle.dw_base.specs.declared.fault.Refusal.{Refusal}
use Rattle.dw_base.specs.declared.line_tables.TextPlace.{TextPlace}
use Rattle.dw_base.specs.LineEntries.{bad_table, entries_at}
use Rattle.dw_base.specs.LineHeaders.{line_header}
use Rattle.dw_base.specs.LineTables.{HasLists, table_bytes}
use Rattle.dw_base.specs.OldLineLists.{next_dir, next_file}
use Rattle.dw_base.specs.LinePrograms.{next_opcode}
use Rattle.dw_base.specs.Walks.{ComesTo, Breaks}
use Rattle.dw_base.specs.declared.line_tables.LineHeader.{LineHeader}
use Rattle.dw_base.specs.declared.line_tables.FilePlace.{FilePlace}

-- the directories or the files of a header can't be read: before version 5 an item passes the table's end; in version 5
-- they are refused as their entries are
pub data ListsFail (g : LineSource) (h : LineHeader) (table : List ℕ) : Refusal → Type 0 where
  old_dirs : h.version ≢ 5 → Breaks (next_dir g.number table) ([], h.lists) → ListsFail g h table (bad_table g.number h)
  old_files : (dirs : List TextPlace) (place : ℕ) → h.version ≢ 5 → ComesTo (next_dir g.number table) ([], h.lists) (dirs, place)
      → Breaks (next_file g.number table) ([], place) → ListsFail g h table (bad_table g.number h)
  new_dirs : {r : Refusal} → h.version ≡ 5 → entries_at g h table h.lists ≡ Err r → ListsFail g h table r
  new_files : (dirs : List FilePlace) (place : ℕ) {r : Refusal} → h.version ≡ 5 → entries_at g h table h.lists ≡ Ok (dirs, place)
      → entries_at g h table place ≡ Err r → ListsFail g h table r

-- the table at a place of a section can't be read: it has no header whose numbers fit, its lists can't be read or pass the
-- start of its program, or an opcode passes its end or is none that it may have
pub data LineFails (g : LineSource) (start : ℕ) : Refusal → Type 0 where
  no_header : line_header g.order g.bytes start ≡ None → LineFails g start (at Line g.number start)
  lists : (h : LineHeader) {r : Refusal} → line_header g.order g.bytes start ≡ Some h
      → ListsFail g h (table_bytes g h) r → LineFails g start r
  passes : (h : LineHeader) (dirs : List TextPlace) (files : List FilePlace) (behind : ℕ) → line_header g.order g.bytes start ≡ Some h
      → HasLists g h (table_bytes g h) dirs files behind → h.program < behind → LineFails g start (at Line g.number start)
  program : (h : LineHeader) (dirs : List TextPlace) (files : List FilePlace) (behind : ℕ) → line_header g.order g.bytes start ≡ Some h
      → HasLists g h (table_bytes g h) dirs files behind → Breaks (next_opcode g.number h (table_bytes g h)) ([], h.program)
      → LineFails g start (at Line g.number start)
