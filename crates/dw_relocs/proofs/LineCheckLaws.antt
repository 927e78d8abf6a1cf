-- What a pass over the line tables of a view says of the relocations that stand there.
use Rattle.std.proofs.Common.{◌≡◌, ℕ, true, List, [], ◌∷◌, length, Some, None, Result, sym, subst, arith}
use Rattle.std.specs.Prelude.{is_some}
use Rattle.dw_base.specs.DebugData.{DebugData, line_source}
use Rattle.dw_base.specs.DebugSections.{name_of}
use Rattle.dw_base.specs.FileViews.{View, kind_at, section_bytes, section_named, view_cells}
use Rattle.dw_base.specs.LineFields.{line_fields}
use Rattle.dw_base.specs.LineReadings.{AreTables, LineReading, ReadsTable, TablesTo}
use Rattle.dw_base.specs.LineSources.{LineSource}
use Rattle.dw_base.specs.LineTables.{LineTable}
use Rattle.dw_base.specs.Refusals.{Blames}
use Rattle.dw_base.specs.RelocationFields.{relocation_at}
use Rattle.dw_base.specs.RelocationRows.{FieldsFail, FieldsRead, moving_sections}
use Rattle.dw_base.specs.ViewData.{debug_data}
use Rattle.dw_base.specs.declared.debug_sections.DebugSection.TheVariants.{Line}
use Rattle.dw_base.specs.declared.fault.Fault.{Fault}
use Rattle.dw_base.specs.declared.fault.Fault.TheVariants.{NoMemory, Refused}
use Rattle.dw_base.specs.declared.fault.Refusal.{Refusal}
use Rattle.dw_base.proofs.ViewOffsetLaws.{some-named}
use Rattle.dw_lines.specs.ViewSources.{view_source}
use Rattle.dw_lines.specs.ViewTables.{TablesFound, TablesUpTo}
use Rattle.dw_lines.proofs.ReadingLaws.{lines-none, source-is}
use Rattle.dw_meaning.specs.RelocationFails.{LeftRelocationsFail}
use Rattle.dw_meaning.specs.RelocationFails.LeftRelocationsFail.{line_header, lines}
use Rattle.dw_meaning.proofs.LineOneLaws.{table-one, tables-one}
use Rattle.dw_meaning.proofs.LineSectionLaws.{some-bytes}
use Rattle.dw_relocs.specs.FieldWalks.{AllRead, HasNone, OneFails, Walked, ground_of}
use Rattle.dw_relocs.specs.LeftChecks.{LinesHold}
use Rattle.dw_relocs.specs.LinePasses.{HeaderHolds, HeadersHold, LinesPassed, LinesRefuse}
use Rattle.dw_relocs.specs.LinePasses.LinesRefuse.{header_refuses}
use Rattle.dw_relocs.specs.declared.marks.Marks.{Marks}
use Rattle.dw_relocs.proofs.QuietLaws.{empty-none, quiet-reads}
use Rattle.dw_relocs.proofs.SlotFieldLaws.{length-there, small-there, walked-all}

-- what holds of the tables that are read from a source
record SourceHolds (s : LineSource) (moving : List ℕ) : Type 0 where
  lines : (ts : List LineReading) → AreTables s ts → FieldsRead s.order s.cells moving (line_fields s ts)
  headers : (before : List LineReading) (start : ℕ) (t : LineReading) → TablesTo s 0 before start → ReadsTable s start t → HeaderHolds s t

source-holds : (d : DebugData) (moving : List ℕ) → SourceHolds (line_source d) moving → LinesHold d moving
source-holds d moving h = record { lines = h.lines; headers = h.headers }

-- where no relocation begins
quiet-header : (s : LineSource) (t : LineReading) → HasNone s.cells 0 → HeaderHolds s t
quiet-header s t h = record {
  own = λ p r begins above below. absurd (none-some p r (h.none p (omega arith)) begins);
  apart = λ p r begins before. absurd (none-some p r (h.none p (omega arith)) begins);
}
  where
    none-some : (p : ℕ) (r : _) → relocation_at s.cells p ≡ None → relocation_at s.cells p ≡ Some r → ⊥
    none-some p r none e = cc

quiet-source : (s : LineSource) (moving : List ℕ) → HasNone s.cells 0 → SourceHolds s moving
quiet-source s moving h = record {
  lines = λ ts reads. quiet-reads s.order s.cells moving (line_fields s ts) h;
  headers = λ before start t to reads. quiet-header s t h;
}

pub tables-none : (v : View) → None ≡ section_named v (name_of Line) → LinesHold (debug_data v) (moving_sections v)
tables-none v e =
    source-holds (debug_data v) (moving_sections v)
    (quiet-source (line_source (debug_data v)) (moving_sections v) (subst (λ (cells : List _). HasNone cells 0) (sym (lines-none v e)) empty-none))

pub tables-quiet : (v : View) (i : ℕ) → Some i ≡ section_named v (name_of Line) → HasNone (view_cells v i) 0 → LinesHold (debug_data v) (moving_sections v)
tables-quiet v i e h =
    source-holds (debug_data v) (moving_sections v)
    (subst (λ (s : LineSource). SourceHolds s (moving_sections v)) (sym (source-is v i e)) (quiet-source (view_source v i) (moving_sections v) h))

-- each table that can be read is one of those that fill the section
one-holds : (s : LineSource) (p start : ℕ) (all before : List LineReading) (t : LineReading) → TablesTo s p all (length s.bytes) → HeadersHold s all → TablesTo s p before start
    → ReadsTable s start t → HeaderHolds s t
one-holds s p start [] [] t a h b reads =
    let some = some-bytes s start t reads in
    absurd (omega (arith, a, b, some.0, some.1))
one-holds s p start (r ∷ rs) [] t a h b reads =
    let own : ReadsTable s p t = subst (λ (n : ℕ). ReadsTable s n t) (sym b) reads in
    subst (HeaderHolds s) (table-one s p r t a.0 own) h.0
one-holds s p start [] (q ∷ qs) t a h b reads =
    let some = some-bytes s p q b.0 in
    absurd (omega (arith, a, some.0, some.1))
one-holds s p start (r ∷ rs) (q ∷ qs) t a h b reads =
    let same : r ≡ q = table-one s p r q a.0 b.0 in
    one-holds s r.header.end start rs qs t a.1 h.1 (subst (λ (x : LineReading). TablesTo s x.header.end qs start) (sym same) b.1) reads

-- what a pass came by
passed-holds : (v : View) (i : ℕ) (p q : Result Marks Refusal) → Walked (ground_of v i) [] 0 p → LinesPassed (ground_of v i) (view_source v i) p q
    → AllRead (ground_of v i) q → SourceHolds (view_source v i) (moving_sections v)
passed-holds v i p q start passed read = record {
  lines = λ ts reads. subst (λ (rs : List LineReading). FieldsRead v.order (view_cells v i) (moving_sections v) (line_fields (view_source v i) rs))
      (tables-one (view_source v i) 0 (length (section_bytes v i)) passed.readings ts passed.reads reads)
      (read.all (line_fields (view_source v i) passed.readings) (walked-all v i (line_fields (view_source v i) passed.readings) p q start passed.goes));
  headers = λ before at_place t to reads.
      one-holds (view_source v i) 0 at_place passed.readings before t passed.reads passed.headers to reads;
}

pub tables-hold : (v : View) (i : ℕ) (p q : Result Marks Refusal) → Some i ≡ section_named v (name_of Line) → Walked (ground_of v i) [] 0 p
    → LinesPassed (ground_of v i) (view_source v i) p q → AllRead (ground_of v i) q → LinesHold (debug_data v) (moving_sections v)
tables-hold v i p q e start passed read =
    source-holds (debug_data v) (moving_sections v)
    (subst (λ (s : LineSource). SourceHolds s (moving_sections v)) (sym (source-is v i e)) (passed-holds v i p q start passed read))

-- and why it is refused
data SourceFails (s : LineSource) (moving : List ℕ) (r : Refusal) : Type 0 where
  fields_fail : (ts : List LineReading) → AreTables s ts → FieldsFail s.order s.number s.cells moving (line_fields s ts) r → SourceFails s moving r
  header_fails : LinesRefuse s r → SourceFails s moving r

header-row : (d : DebugData) (moving : List ℕ) (r : Refusal) → LinesRefuse (line_source d) r → LeftRelocationsFail d moving r
header-row d moving r (header_refuses before start t to reads fails) = line_header before start t to reads fails

source-fails : (d : DebugData) (moving : List ℕ) (r : Refusal) → SourceFails (line_source d) moving r → LeftRelocationsFail d moving r
source-fails d moving r (fields_fail ts reads fails) = lines ts reads fails
source-fails d moving r (header_fails h) = header-row d moving r h

pub tables-fail : (v : View) (i : ℕ) (p q : Result Marks Refusal) (r : Refusal) → Some i ≡ section_named v (name_of Line) → Walked (ground_of v i) [] 0 p
    → LinesPassed (ground_of v i) (view_source v i) p q → OneFails (ground_of v i) q r → LeftRelocationsFail (debug_data v) (moving_sections v) r
tables-fail v i p q r e start passed fails =
    source-fails (debug_data v) (moving_sections v) r
    (subst (λ (s : LineSource). SourceFails s (moving_sections v) r) (sym (source-is v i e))
    (fields_fail passed.readings passed.reads
    (fails.all (line_fields (view_source v i) passed.readings) (walked-all v i (line_fields (view_source v i) passed.readings) p q start passed.goes))))

pub header-fault : (v : View) (i : ℕ) (f : Fault) → Some i ≡ section_named v (name_of Line) → Blames (LinesRefuse (view_source v i)) f
    → Blames (LeftRelocationsFail (debug_data v) (moving_sections v)) f
header-fault v i NoMemory e b = tt
header-fault v i (Refused r) e b =
    source-fails (debug_data v) (moving_sections v) r
    (subst (λ (s : LineSource). SourceFails s (moving_sections v) r) (sym (source-is v i e)) (header_fails b))

-- of the section of a view
pub tables-there : (v : View) (i : ℕ) (ts : List LineTable) → Some i ≡ section_named v (name_of Line) → TablesFound v ts
    → TablesUpTo (view_source v i) ts (length (section_bytes v i))
tables-there v i ts e found = subst (λ (s : LineSource). TablesUpTo s ts (length s.bytes)) (source-is v i e) found

pub tables-kind : (v : View) (i : ℕ) → Some i ≡ section_named v (name_of Line) → is_some (kind_at v i) ≡ true
tables-kind v i e = some-named v Line i e

pub ruleset line_rules = (small-there, length-there, tables-quiet, tables-there, tables-kind, tables-hold, tables-fail, header-fault)

pub ruleset check_rules = (tables-none)
