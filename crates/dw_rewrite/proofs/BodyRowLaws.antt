-- Why there are no new bodies: a table of texts or the line tables would be too long, a line table can't be written, or an addend can't make an
-- offset.
use Rattle.std.proofs.Common.{Bool, ◌≡◌, ◌≢◌, ◌⊎◌, inl, inr, ℕ, ◌<◌, List, [], length, Option, Some, None, refl, sym, ap, ◌∙◌, subst, arith}
use Rattle.dw_base.specs.DebugData.{around_of, line_source}
use Rattle.dw_base.specs.DebugSections.{name_of}
use Rattle.dw_base.specs.FileViews.{View, section_named, view_of}
use Rattle.dw_base.specs.Layout.{output_limit}
use Rattle.dw_base.specs.LineReadings.{all_lines}
use Rattle.dw_base.specs.LineSources.{LineSource}
use Rattle.dw_base.specs.LineTables.{LineTable}
use Rattle.dw_base.specs.Paths.{PathMap}
use Rattle.dw_base.specs.Refusals.{Blames, at}
use Rattle.dw_base.specs.StringTables.{TextTable}
use Rattle.dw_base.specs.Texts.{laid_texts}
use Rattle.dw_base.specs.ViewData.{debug_data}
use Rattle.dw_base.specs.declared.debug_sections.DebugSection.TheVariants.{Line}
use Rattle.dw_base.specs.declared.fault.Fault.{Fault}
use Rattle.dw_base.specs.declared.fault.Fault.TheVariants.{NoMemory, Refused}
use Rattle.dw_base.specs.declared.fault.Kind.TheVariants.{TooLarge}
use Rattle.dw_base.specs.declared.fault.Refusal.{Refusal}
use Rattle.dw_base.proofs.FileViewLaws.{section_after-within}
use Rattle.dw_base.specs.declared.texts.TextSection.{TextSection}
use Rattle.dw_base.specs.declared.texts.TextSection.TheVariants.{InStr, InLineStr}
use Rattle.dw_lines.specs.NewTexts.{KnownTexts}
use Rattle.dw_lines.specs.ViewTables.{tables_read}
use Rattle.dw_lines.proofs.ReadingLaws.{source-is}
use Rattle.dw_meaning.specs.DataOutput.{PathsFit, table_change}
use Rattle.dw_read.specs.AllFields.{Fields, all_of, standing}
use Rattle.dw_read.specs.FoundPaths.{PathsFound}
use Rattle.dw_rewrite.specs.Bodies.{BodiesRefuse, addend_of, long_table_of, long_lines_of, line_table_of}
use Rattle.dw_rewrite.specs.Changes.{start_known}
use Rattle.dw_rewrite.specs.LineOffsets.{OffsetMisses, line_offsets}
use Rattle.dw_rewrite.specs.NewStarts.{StartChange, known_starts}
use Rattle.dw_rewrite.specs.OffsetAddends.{AllMiss}
use Rattle.dw_rewrite.specs.NewTables.{LongTable, TableMade, TablesRefuse, all_texts_at, long_table, one_is_long}
use Rattle.dw_starts.specs.LineStarts.{starts_of}
use Rattle.dw_rewrite.specs.NewLines.{LinesFail, LinesRefuse, LinesWritten, all_too_long, lines_known, one_fails, table_fails}
use Rattle.dw_rewrite.proofs.LineKnownLaws.{TableRefused, table-refused}
use Rattle.dw_rewrite.proofs.LineHeldLaws.{lines-fail}
use Rattle.dw_rewrite.proofs.RecordEndLaws.{addends-fail}
use Rattle.dw_rewrite.proofs.MadeBodyLaws.{change_of_table, known-lines, known-starts, lines-agree}
use Rattle.dw_rewrite.proofs.TableTextLaws.{lines-none, table-texts}

-- a table that would be too long is a row
paths-fit : (m : PathMap) (v : View) (us : Fields) (ts : List LineTable) (f : PathsFound m v us ts) → PathsFit m (debug_data v) f.readings
paths-fit m v us ts f = record { inline = f.inline; slots = f.slots }

long-row : (m : PathMap) (v : View) (table : TextSection) (us : Fields) (ts : List LineTable) (r : Refusal) → PathsFound m v us ts → LongTable m v table (all_of us) r
    → BodiesRefuse m (debug_data v) r
unfolding table_change
long-row m v InStr us ts r f (long_table there over) =
    let texts_are : table_change m InStr (around_of (debug_data v) f.readings) f.readings ≡ all_texts_at m v InStr [] (all_of us) =
    table-texts m v f.readings ts InStr f.reads.units f.reads.offsets f.reads.lines f.reads.macros f.reads.names f.tables ∙ ap (λ (x : Fields). all_texts_at m v InStr [] (all_of x)) (sym f.is) in
    long_table_of InStr f.readings f.reads (paths-fit m v us ts f) there
    (subst (λ (xs : List (List ℕ)). output_limit < length (laid_texts xs)) (sym texts_are) over)
long-row m v InLineStr us ts r f (long_table there over) =
    let texts_are : table_change m InLineStr (around_of (debug_data v) f.readings) f.readings ≡ all_texts_at m v InLineStr [] (all_of us) =
    table-texts m v f.readings ts InLineStr f.reads.units f.reads.offsets f.reads.lines f.reads.macros f.reads.names f.tables ∙ ap (λ (x : Fields). all_texts_at m v InLineStr [] (all_of x)) (sym f.is) in
    long_table_of InLineStr f.readings f.reads (paths-fit m v us ts f) there
    (subst (λ (xs : List (List ℕ)). output_limit < length (laid_texts xs)) (sym texts_are) over)

pub tables-fault : (m : PathMap) (v : View) (us : Fields) (ts : List LineTable) (f : Fault) → PathsFound m v us ts → Blames (TablesRefuse m v (all_of us)) f
    → Blames (BodiesRefuse m (debug_data v)) f
tables-fault m v us ts NoMemory found b = tt
tables-fault m v us ts (Refused r) found (one_is_long table over) = long-row m v table us ts r found over

-- so is a line table that can't be written,
lines-row : (m : PathMap) (v : View) (us : Fields) (ts : List LineTable) (ps pl : TextTable) (ks kl : Bool → ℕ → Option ℕ) (r : Refusal) (f : PathsFound m v us ts)
    → TableMade m v InStr (all_of us) ps ks → TableMade m v InLineStr (all_of us) pl kl → LinesRefuse m (line_source (debug_data v)) ks kl ts r → BodiesRefuse m (debug_data v) r
lines-row m v us ts ps pl ks kl r f s l (table_fails before behind t split fails) =
    let x : TableRefused (line_source (debug_data v)) m (change_of_table m v f.readings InStr) (change_of_table m v f.readings InLineStr) f.readings.lines r =
    table-refused (line_source (debug_data v)) m (change_of_table m v f.readings InStr) (change_of_table m v f.readings InLineStr) ks kl f.readings.lines before behind t r
    (lines-agree m v us ts ps pl ks kl f s l) (sym f.tables ∙ split) fails in
    line_table_of f.readings x.before x.behind x.table f.reads x.split x.fails

-- and line tables that would be too long
some-number : (m : PathMap) (v : View) (ks kl : Bool → ℕ → Option ℕ) (us : Fields) (ts : List LineTable) (bs : List ℕ) → PathsFound m v us ts → bs ≡ all_lines (lines_known m (line_source (debug_data v)) ks kl ts)
    → 0 < length bs → ((debug_data v).found Line).number ≢ 0
unfolding section_named
some-number m v ks kl us ts bs f is some zero_ = by (section_named v (name_of Line)) refl
  where
    by : (o : Option ℕ) → o ≡ section_named v (name_of Line) → ⊥
    by None e =
        let none : ts ≡ [] = f.tables ∙ ap (tables_read (line_source (debug_data v))) (lines-none v f.readings.lines e f.reads.lines) in
        let empty : length bs ≡ 0 = ap (λ (x : List ℕ). length x) (is ∙ ap (λ (us_ : List LineTable). all_lines (lines_known m (line_source (debug_data v)) ks kl us_)) none) in
        omega (arith, empty, some)
    by (Some i) e =
        let above = (section_after-within v (name_of Line) 0 i (sym e)).0 in
        let number : i ≡ (line_source (debug_data v)).number = ap (λ (g : LineSource). g.number) (sym (source-is v i e)) in
        omega (arith, above, number, zero_)

long-lines : (m : PathMap) (v : View) (us : Fields) (ts : List LineTable) (ps pl : TextTable) (ks kl : Bool → ℕ → Option ℕ) → PathsFound m v us ts
    → TableMade m v InStr (all_of us) ps ks → TableMade m v InLineStr (all_of us) pl kl → output_limit < length (all_lines (lines_known m (line_source (debug_data v)) ks kl ts))
    → BodiesRefuse m (debug_data v) (at TooLarge ((debug_data v).found Line).number 0)
long-lines m v us ts ps pl ks kl f s l over =
    long_lines_of f.readings f.reads (paths-fit m v us ts f) (some-number m v ks kl us ts (all_lines (lines_known m (line_source (debug_data v)) ks kl ts)) f refl (omega (arith, over)))
    (subst (λ (x : List ℕ). output_limit < length x) (ap all_lines (known-lines m v us ts ps pl ks kl f s l)) over)

pub lines-fault : (m : PathMap) (v : View) (us : Fields) (ts : List LineTable) (ps pl : TextTable) (ks kl : Bool → ℕ → Option ℕ) (f : Fault) → PathsFound m v us ts
    → TableMade m v InStr (all_of us) ps ks → TableMade m v InLineStr (all_of us) pl kl → Blames (LinesFail m (line_source (debug_data v)) ks kl ts) f → Blames (BodiesRefuse m (debug_data v)) f
lines-fault m v us ts ps pl ks kl NoMemory found s l b = tt
lines-fault m v us ts ps pl ks kl (Refused r) found s l (one_fails fails) = lines-row m v us ts ps pl ks kl r found s l fails
lines-fault m v us ts ps pl ks kl (Refused r) found s l (all_too_long over) = long-lines m v us ts ps pl ks kl found s l over

-- and addends that can't make the offsets of their fields: of sections that say something of paths,
at-starts : (v : View) (us : Fields) (ts : List LineTable) (ks kl : Bool → ℕ → Option ℕ) (ns old : List ℕ) (starts : StartChange) (r : Refusal) → old ≡ starts_of ts
    → starts ≡ record { old = old; new = ns } → AllMiss v ks kl (known_starts starts) (standing us) r → AllMiss v ks kl (start_known (starts_of ts) ns) (standing us) r
at-starts v us ts ks kl ns old starts r old_is starts_are misses =
    let same : starts ≡ record { old = starts_of ts; new = ns } = starts_are ∙ ap (λ (xs : List ℕ). record { old = xs; new = ns }) old_is in
    subst (λ (x : StartChange). AllMiss v ks kl (known_starts x) (standing us) r) same misses

records-fault : (m : PathMap) (v : View) (us : Fields) (ts : List LineTable) (ps pl : TextTable) (ks kl : Bool → ℕ → Option ℕ) (bs ns old : List ℕ) (starts : StartChange) (f : Fault)
    → PathsFound m v us ts → TableMade m v InStr (all_of us) ps ks → TableMade m v InLineStr (all_of us) pl kl → LinesWritten m (line_source (debug_data v)) ks kl ts bs ns → old ≡ starts_of ts
    → starts ≡ record { old = old; new = ns } → Blames (AllMiss v ks kl (known_starts starts) (standing us)) f → Blames (BodiesRefuse m (debug_data v)) f
records-fault m v us ts ps pl ks kl bs ns old starts NoMemory found s l w old_is starts_are b = tt
records-fault m v us ts ps pl ks kl bs ns old starts (Refused r) found s l w old_is starts_are b =
    addend_of found.readings found.reads (paths-fit m v us ts found)
    (addends-fail m v us ts ps pl ks kl (start_known (starts_of ts) ns) found r s l (known-starts m v us ts ps pl ks kl bs ns found s l w)
    (at-starts v us ts ks kl ns old starts r old_is starts_are b))

-- and of line tables
line-record-fault : (m : PathMap) (b : List ℕ) (v : View) (us : Fields) (ts : List LineTable) (ps pl : TextTable) (ks kl : Bool → ℕ → Option ℕ) (f : Fault) → v ≡ view_of b
    → PathsFound m v us ts → TableMade m v InStr (all_of us) ps ks → TableMade m v InLineStr (all_of us) pl kl
    → Blames (OffsetMisses (line_source (debug_data v)).number (line_source (debug_data v)).cells (line_offsets m (line_source (debug_data v)) ks kl ts)) f
    → Blames (BodiesRefuse m (debug_data v)) f
line-record-fault m b v us ts ps pl ks kl NoMemory v_is found s l h = tt
line-record-fault m b v us ts ps pl ks kl (Refused r) v_is found s l h =
    addend_of found.readings found.reads (paths-fit m v us ts found) (lines-fail m b v us ts ps pl ks kl r v_is found s l h)

-- of both
pub relocations-fault : (m : PathMap) (b : List ℕ) (v : View) (us : Fields) (ts : List LineTable) (ps pl : TextTable) (ks kl : Bool → ℕ → Option ℕ) (bs ns old : List ℕ) (starts : StartChange)
    (f : Fault) → v ≡ view_of b → PathsFound m v us ts → TableMade m v InStr (all_of us) ps ks → TableMade m v InLineStr (all_of us) pl kl → LinesWritten m (line_source (debug_data v)) ks kl ts bs ns
    → old ≡ starts_of ts → starts ≡ record { old = old; new = ns }
    → Blames (λ (r : Refusal). AllMiss v ks kl (known_starts starts) (standing us) r
    ⊎ OffsetMisses (line_source (debug_data v)).number (line_source (debug_data v)).cells (line_offsets m (line_source (debug_data v)) ks kl ts) r) f → Blames (BodiesRefuse m (debug_data v)) f
relocations-fault m b v us ts ps pl ks kl bs ns old starts NoMemory v_is found s l w old_is starts_are h = tt
relocations-fault m b v us ts ps pl ks kl bs ns old starts (Refused r) v_is found s l w old_is starts_are (inl h) =
    records-fault m v us ts ps pl ks kl bs ns old starts (Refused r) found s l w old_is starts_are h
relocations-fault m b v us ts ps pl ks kl bs ns old starts (Refused r) v_is found s l w old_is starts_are (inr h) =
    line-record-fault m b v us ts ps pl ks kl (Refused r) v_is found s l h

-- one of two conditions
pub either-first : (A B : Refusal → Type 0) (f : Fault) → Blames A f → Blames (λ (r : Refusal). A r ⊎ B r) f
either-first A B NoMemory h = tt
either-first A B (Refused r) h = inl h

either-second : (A B : Refusal → Type 0) (f : Fault) → Blames B f → Blames (λ (r : Refusal). A r ⊎ B r) f
either-second A B NoMemory h = tt
either-second A B (Refused r) h = inr h

-- the second, of the new places of texts that are known
pub either-known : (A : Refusal → Type 0) (B : KnownTexts → Refusal → Type 0) (n k : KnownTexts) (f : Fault) → n ≡ k → Blames (B n) f → Blames (λ (r : Refusal). A r ⊎ B k r) f
either-known A B n k f same h = subst (λ (p : KnownTexts). Blames (λ (r : Refusal). A r ⊎ B p r) f) same (either-second A (B n) f h)
