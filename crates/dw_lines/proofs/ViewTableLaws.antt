-- The line tables of a view: each that is read stands behind those before it, and the last ends where the section does.
use Rattle.std.proofs.Common.{◌≡◌, ℕ, ◌<◌, ◌≤◌, List, [], ◌∷◌, ◌++◌, length, Some, None, refl, sym, ap, ◌∙◌, subst, arith}
use Rattle.dw_base.specs.Cells.{bytes_of}
use Rattle.dw_base.specs.DebugData.{line_source}
use Rattle.dw_base.specs.DebugSections.{name_of}
use Rattle.dw_base.specs.FileViews.{View, section_bytes, section_named}
use Rattle.dw_base.specs.LineFails.{LineFails}
use Rattle.dw_base.specs.LineReadings.{LineReading, ReadsTable, TablesTo, table_read}
use Rattle.dw_base.specs.LineSources.{LineSource}
use Rattle.dw_base.specs.LineTables.{IsLineTable, LineTable}
use Rattle.dw_base.specs.Refusals.{Blames}
use Rattle.dw_base.specs.ViewData.{debug_data}
use Rattle.dw_base.specs.declared.debug_sections.DebugSection.TheVariants.{Line}
use Rattle.dw_base.specs.declared.fault.Fault.{Fault}
use Rattle.dw_base.specs.declared.fault.Fault.TheVariants.{NoMemory, Refused}
use Rattle.dw_base.specs.declared.fault.Refusal.{Refusal}
use Rattle.dw_meaning.specs.DataFails.{LinesFail, line_table}
use Rattle.dw_meaning.proofs.LineRowLaws.{lines-exclude}
use Rattle.dw_lines.specs.ViewSources.{view_source}
use Rattle.dw_lines.specs.ViewTables.{TablesFound, TablesUpTo, tables_read}
use Rattle.dw_lines.proofs.ReadingLaws.{lines-none, reading_of, reading-end, reading-reads, reading-table, source-is}

-- one table more
to-append : (g : LineSource) (p e end : ℕ) (rs : List LineReading) (r : LineReading) → TablesTo g p rs e → ReadsTable g e r → r.header.end ≡ end → TablesTo g p (rs ++ r ∷ []) end
to-append g p e end [] r to reads is = (subst (λ (n : ℕ). ReadsTable g n r) (sym to) reads, is)
to-append g p e end (x ∷ rs) r to reads is = (to.0, to-append g x.header.end e end rs r to.1 reads is)

read-append : (g : LineSource) (rs : List LineReading) (r : LineReading) → tables_read g (rs ++ r ∷ []) ≡ tables_read g rs ++ table_read g r ∷ []
read-append g [] r = refl
read-append g (x ∷ xs) r = ap (λ (ts : List LineTable). table_read g x ∷ ts) (read-append g xs r)

pub tables-start : (g : LineSource) (ts : List LineTable) → ts ≡ [] → TablesUpTo g ts 0
tables-start g ts none = record { readings = []; reads = refl; is = none }

pub tables-more : (g : LineSource) (ts more : List LineTable) (start end : ℕ) (t : LineTable) → TablesUpTo g ts start → IsLineTable g start t → end ≡ t.end → more ≡ ts ++ t ∷ []
    → TablesUpTo g more end
tables-more g ts more start end t up is e m = record {
  readings = up.readings ++ reading_of is ∷ [];
  reads = to-append g 0 start end up.readings (reading_of is) up.reads (reading-reads g start t is) (reading-end g start t is ∙ sym e);
  is = m ∙ ap (λ (xs : List LineTable). xs ++ t ∷ []) up.is ∙ ap (λ (x : LineTable). tables_read g up.readings ++ x ∷ []) (reading-table g start t is)
      ∙ sym (read-append g up.readings (reading_of is));
}

pub tables-over : (v : View) (section : ℕ) (ts : List LineTable) (start size : ℕ) → Some section ≡ section_named v (name_of Line) → size ≡ length (section_bytes v section)
    → TablesUpTo (view_source v section) ts start → start ≤ length (section_bytes v section) → size ≤ start → TablesFound v ts
tables-over v section ts start size named is up within past =
    let same : start ≡ length (section_bytes v section) = omega (arith, within, past, is) in
    subst (λ (g : LineSource). TablesUpTo g ts (length g.bytes)) (sym (source-is v section named)) (subst (TablesUpTo (view_source v section) ts) same up)

fails-by : (v : View) (r : Refusal) (g : LineSource) (before : List LineReading) (start : ℕ) → line_source (debug_data v) ≡ g → TablesTo g 0 before start → start < length g.bytes
    → LineFails g start r → LinesFail (debug_data v) r
fails-by v r g before start e to lt f =
    line_table before start (subst (λ (k : LineSource). TablesTo k 0 before start) (sym e) to) (subst (λ (k : LineSource). start < length k.bytes) (sym e) lt)
    (subst (λ (k : LineSource). LineFails k start r) (sym e) f)

pub table-fails : (v : View) (section : ℕ) (ts : List LineTable) (start size : ℕ) (x : Fault) → Some section ≡ section_named v (name_of Line) → size ≡ length (section_bytes v section)
    → TablesUpTo (view_source v section) ts start → start < size → Blames (LineFails (view_source v section) start) x → Blames (LinesFail (debug_data v)) x
table-fails v section ts start size NoMemory named is up lt b = tt
table-fails v section ts start size (Refused r) named is up lt b =
    fails-by v r (view_source v section) up.readings start (source-is v section named) up.reads (omega (arith, lt, is)) b

pub ruleset table_laws = (tables-start, tables-more, tables-over, table-fails)

-- a view without a section of line tables
pub source-none : (v : View) → None ≡ section_named v (name_of Line) → (line_source (debug_data v)).bytes ≡ []
source-none v none = ap bytes_of (lines-none v none)

pub tables-none : (v : View) (ts : List LineTable) → None ≡ section_named v (name_of Line) → ts ≡ [] → TablesFound v ts
tables-none v ts none is =
    subst (λ (bs : List ℕ). TablesUpTo (line_source (debug_data v)) ts (length bs)) (sym (source-none v none)) (tables-start (line_source (debug_data v)) ts is)

-- tables that were read exclude each refusal
pub found-excludes : (v : View) (ts : List LineTable) (r : Refusal) → TablesFound v ts → LinesFail (debug_data v) r → ⊥
found-excludes v ts r found f = lines-exclude (debug_data v) found.readings r found.reads f

pub none-excludes : (v : View) (r : Refusal) → None ≡ section_named v (name_of Line) → LinesFail (debug_data v) r → ⊥
none-excludes v r none f = found-excludes v [] r (tables-none v [] none refl) f

pub ruleset view_laws = (tables-none, found-excludes, none-excludes)
