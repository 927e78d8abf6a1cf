-- Line tables that are read one after another, and their text; and what is written of a view.
use Rattle.std.proofs.Common.{◌≡◌, ℕ, zero, suc, ◌+◌, ◌<◌, ◌≤◌, List, [], ◌∷◌, ◌++◌, length, map, take, drop, drop-cons, get_or, Option, Some, None, refl, sym, ap, ◌∙◌, subst, arith, append-nil}
use Rattle.std.specs.Prelude.{true, OnOk, Result, Ok, Err}
use Rattle.std.proofs.lemmas.List.{drop_all, take-append-drop}
use Rattle.dw_base.specs.AbbreviationTables.{Abbreviation}
use Rattle.dw_base.specs.Cells.{Located}
use Rattle.dw_base.specs.DebugData.{line_source}
use Rattle.dw_base.specs.DebugSections.{name_of}
use Rattle.dw_base.specs.FileViews.{View, section_bytes, section_named}
use Rattle.dw_base.specs.LineMeanings.{FileText, dir_columns, dir_texts, entries_with, file_columns, file_path, file_texts, line_meaning, line_meanings, shown_rows}
use Rattle.dw_base.specs.LineReadings.{LineReading, ReadsTable, AreTables, TablesTo, table_read}
use Rattle.dw_base.specs.LineSources.{LineSource}
use Rattle.dw_base.specs.LineTables.{LineTable}
use Rattle.dw_base.specs.Refusals.{Blames}
use Rattle.dw_base.specs.StringOffsets.{AreContributions}
use Rattle.dw_base.specs.UnitMeanings.{units_of}
use Rattle.dw_base.specs.ViewData.{debug_data, located, string_offsets}
use Rattle.dw_base.specs.declared.string_offsets.Contribution.{Contribution}
use Rattle.dw_base.specs.declared.debug_sections.DebugSection.TheVariants.{Info, Str, LineStr, Line}
use Rattle.dw_base.specs.declared.fault.Fault.{Fault}
use Rattle.dw_base.specs.declared.fault.Fault.TheVariants.{NoMemory, Refused}
use Rattle.dw_base.specs.declared.fault.Refusal.{Refusal}
use Rattle.dw_base.specs.declared.line_rows.Row.{Row}
use Rattle.dw_base.specs.declared.macro_units.MacroUnit.{MacroUnit}
use Rattle.dw_base.specs.declared.shared.Order.{Order}
use Rattle.dw_lines.specs.ViewSources.{view_source}
use Rattle.dw_lines.specs.ViewTables.{tables_read, TablesUpTo, TablesFound}
use Rattle.dw_base.proofs.FileViewLaws.{section_after-within}
use Rattle.dw_meaning.proofs.LineOneLaws.{tables-one}
use Rattle.dw_lines.proofs.ReadingLaws.{source-is}
use Rattle.dw_lines.proofs.ViewTableLaws.{source-none}
use Rattle.dw_starts.specs.MacroNames.{AllUnitsIn}
use Rattle.dw_starts.specs.MacroSections.{SectionUnits}
use Rattle.dw_read.specs.ReadData.{DataRead, DataRefuses, IsDebugData}
use Rattle.dw_read.specs.declared.reading.DebugData.{DebugData}
use Rattle.dw_starts.specs.LineStarts.{starts_of}
use Rattle.dw_starts.proofs.MacroNameLaws.{units-in}
use Rattle.dw_rows.specs.TableRows.{IsTableIn, table_rows}
use Rattle.dw_rows.proofs.TableLaws.{rows-meant}
use Rattle.file_tree.specs.Heard.{Heard, grown}
use Rattle.dw_attrs.specs.EntryIndexes.{IsIndexed}
use Rattle.dbg_show.specs.LineTexts.{entry_file, entry_path, dirs_text, files_text, first_number, lines_text, table_line, table_text, tables_text}
use Rattle.dbg_show.specs.Printing.{Printed, Cut, Goes}
use Rattle.dbg_show.specs.ReadTables.{AllIn, read_text, all_read, TablesMeant, ViewTables}
use Rattle.dbg_show.specs.Rows.{rows_text}
use Rattle.dbg_show.specs.ShownMacros.{AreMacros, MacroSource, MacrosFit, units_shown}
use Rattle.dw_attrs.specs.UnitValues.{EntryIndex, UnitSource}
use Rattle.dw_units.specs.UnitLists.{ListsAll}
use Rattle.dw_attrs.specs.UnitReads.{SourceFits}
use Rattle.dbg_show.specs.UnitTexts.{units_text}
use Rattle.dbg_show.specs.ViewSources.{AreSources, all_printed}
use Rattle.dw_units.specs.declared.listed_unit.ListedUnit.{ListedUnit}
use Rattle.dbg_show.specs.Shows.{ShowReads, IsShown, ShowRefuses, unreadable, ShowEnds, refused, unread, cut, view_text}
use Rattle.dbg_show.specs.declared.show_err.ShowErr.{ShowErr}
use Rattle.dbg_show.specs.declared.show_err.ShowErr.TheVariants as err
use Rattle.dbg_show.proofs.MacroShownLaws.{macros-fit, macros-shown}
use Rattle.dbg_show.proofs.MeaningLaws.{dirs-meant, files-meant}
use Rattle.dbg_show.proofs.SourceReadLaws.{source-fits, source-text}
use Rattle.dw_base.proofs.ViewCellLaws.{lines-located}
use Rattle.dbg_show.proofs.PrintingLaws.{goes-start, goes-more, goes-over, goes-cut, printed-then, cut-then}

-- what the texts stand in
pub source-made : (v : View) (order : Order) (lines str line_str : Located) → order ≡ v.order → lines ≡ located v Line → str ≡ located v Str → line_str ≡ located v LineStr
    → ◌≡◌ {A = LineSource} (record { order = order; number = lines.number; is_read = true; bytes = lines.bytes; cells = ((debug_data v).found Line).contents; str = str; line_str = line_str })
    (line_source (debug_data v))
unfolding debug_data
source-made v order lines str line_str o l s t =
    rw (o, l, s, t) (ap (λ (z : Located). record { order = v.order; number = z.number; is_read = true; bytes = z.bytes; cells = ((debug_data v).found Line).contents; str = located v Str; line_str = located v LineStr })
    (sym (lines-located v)))

pub ruleset source_laws = (source-made)

-- the tables of a view
abbrev pub own-table : (v : View) (section p : ℕ) (r : LineReading) → section < length v.sections → ReadsTable (view_source v section) p r → IsTableIn v (table_read (view_source v section) r)
own-table v section p r there reads = record {
  start = p;
  there = there;
  is = record {
    header = r.header;
    dirs = r.dirs;
    files = r.files;
    defined = r.defined;
    behind = r.behind;
    is = refl;
    header_is = reads.header;
    lists = reads.lists;
    before = reads.before;
    program = reads.program;
  };
}

tables-in : (v : View) (section p e : ℕ) (rs : List LineReading) → section < length v.sections → TablesTo (view_source v section) p rs e
    → AllIn v (tables_read (view_source v section) rs)
tables-in v section p e [] there to = tt
tables-in v section p e (r ∷ rs) there to = (own-table v section p r there to.0, tables-in v section r.header.end e rs there to.1)

-- the text of a table is that of what it means
table-meant : (v : View) (section p n : ℕ) (r : LineReading) → section < length v.sections → ReadsTable (view_source v section) p r
    → read_text n (view_source v section) (table_read (view_source v section) r) (table_rows v (table_read (view_source v section) r)) ≡ table_text n (line_meaning (view_source v section) r)
unfolding table_text
table-meant v section p n r there reads =
    ap (λ (ds : List (List ℕ)). table_line n r.header.version ++ (dirs_text (first_number r.header.version) ds
    ++ (files_text (first_number r.header.version) (file_texts (view_source v section) r.files) ++ rows_text (shown_rows r.header.version (dir_texts (view_source v section) r.dirs)
    (file_texts (view_source v section) r.files ++ file_texts (view_source v section) r.defined) (table_rows v (table_read (view_source v section) r))))))
    (sym (dirs-meant (view_source v section) r))
    ∙ ap (λ (fs : List FileText). table_line n r.header.version ++ (dirs_text (first_number r.header.version) (map entry_path (entries_with (dir_texts (view_source v section) r.dirs) (dir_columns (view_source v section) r)))
    ++ (files_text (first_number r.header.version) fs ++ rows_text (shown_rows r.header.version (dir_texts (view_source v section) r.dirs)
    (file_texts (view_source v section) r.files ++ file_texts (view_source v section) r.defined) (table_rows v (table_read (view_source v section) r))))))
    (sym (files-meant (view_source v section) p r reads))
    ∙ ap (λ (rs : List Row). table_line n r.header.version ++ (dirs_text (first_number r.header.version) (map entry_path (entries_with (dir_texts (view_source v section) r.dirs) (dir_columns (view_source v section) r)))
    ++ (files_text (first_number r.header.version) (map entry_file (entries_with (map file_path (file_texts (view_source v section) r.files)) (file_columns (view_source v section) r)))
    ++ rows_text (shown_rows r.header.version (dir_texts (view_source v section) r.dirs)
    (file_texts (view_source v section) r.files ++ file_texts (view_source v section) r.defined) rs))))
    (rows-meant v (table_read (view_source v section) r) (own-table v section p r there reads))

all-meant : (v : View) (section p e n : ℕ) (rs : List LineReading) → section < length v.sections → TablesTo (view_source v section) p rs e
    → all_read v (view_source v section) n (tables_read (view_source v section) rs) ≡ tables_text n (line_meanings (view_source v section) rs)
all-meant v section p e n [] there to = refl
all-meant v section p e n (r ∷ rs) there to =
    ap (λ (t : List ℕ). t ++ all_read v (view_source v section) (suc n) (tables_read (view_source v section) rs)) (table-meant v section p n r there to.0)
    ∙ ap (λ (t : List ℕ). table_text n (line_meaning (view_source v section) r) ++ t) (all-meant v section r.header.end e (suc n) rs there to.1)

view-by : (v : View) (section : ℕ) (ts : List LineTable) → section < length v.sections → line_source (debug_data v) ≡ view_source v section
    → TablesUpTo (view_source v section) ts (length (section_bytes v section)) → TablesMeant v ts
view-by v section ts there source r = record {
  readings = r.readings;
  tables = subst (λ (g : LineSource). AreTables g r.readings) (sym source) r.reads;
  each = subst (AllIn v) (sym r.is) (tables-in v section 0 (length (section_bytes v section)) r.readings there r.reads);
  text = subst (λ (g : LineSource). all_read v g 0 ts ≡ lines_text (line_meanings g r.readings)) (sym source)
      (ap (all_read v (view_source v section) 0) r.is ∙ all-meant v section 0 (length (section_bytes v section)) 0 r.readings there r.reads);
}

-- a view without a section of line tables
view-none : (v : View) (ts : List LineTable) → None ≡ section_named v (name_of Line) → TablesFound v ts → TablesMeant v ts
view-none v ts none f =
    let empty : length (line_source (debug_data v)).bytes ≡ 0 = ap length (source-none v none) in
    let first : [] ≡ f.readings =
    tables-one (line_source (debug_data v)) 0 (length (line_source (debug_data v)).bytes) [] f.readings (sym empty) f.reads in
    subst (TablesMeant v) (sym (f.is ∙ ap (tables_read (line_source (debug_data v))) (sym first))) (record { readings = []; tables = sym empty; each = tt; text = refl })

pub section-within : (v : View) (section : ℕ) → section_named v (name_of Line) ≡ Some section → section < length v.sections
unfolding section_named
section-within v section e = (section_after-within v (name_of Line) 0 section e).1

view-found : (v : View) (ts : List LineTable) → TablesFound v ts → TablesMeant v ts
view-found v ts f = by_section (section_named v (name_of Line)) refl
  where
    by_section : (o : Option ℕ) → section_named v (name_of Line) ≡ o → TablesMeant v ts
    by_section None e = view-none v ts (sym e) f
    by_section (Some section) e =
        let source : line_source (debug_data v) ≡ view_source v section = source-is v section (sym e) in
        view-by v section ts (section-within v section e) source (subst (λ (g : LineSource). TablesUpTo g ts (length g.bytes)) source f)

-- the debug data of a view were read
pub view-read : (v : View) (ts : List LineTable) (ss : List SectionUnits) → DataRead v ts ss → ViewTables v ts ss
view-read v ts ss d =
    let t : TablesMeant v ts = view-found v ts (record { readings = d.readings.lines; reads = d.reads.lines; is = d.tables }) in
    let same : t.readings ≡ d.readings.lines =
    tables-one (line_source (debug_data v)) 0 (length (line_source (debug_data v)).bytes) t.readings d.readings.lines t.tables d.reads.lines in
    record { read = d; each = t.each; text = t.text ∙ ap (λ (rs : List LineReading). lines_text (line_meanings (line_source (debug_data v)) rs)) same }

-- tables are printed one after another
table-first : (v : View) (g : LineSource) (ts : List LineTable) (i : ℕ) (d : LineTable) → i < length ts
    → all_read v g i (drop i ts) ≡ read_text i g (get_or ts i d) (table_rows v (get_or ts i d)) ++ all_read v g (i + 1) (drop (i + 1) ts)
table-first v g ts i d lt =
    let next : suc i ≡ i + 1 = omega arith in
    ap (all_read v g i) (drop-cons ts i d lt) ∙ ap (λ (k : ℕ). read_text i g (get_or ts i d) (table_rows v (get_or ts i d)) ++ all_read v g k (drop k ts)) next

pub print-start : (v : View) (g : LineSource) (ts : List LineTable) (before : List ℕ) (h : Heard) → Goes (all_read v g 0 ts) (all_read v g 0 (drop 0 ts)) before h h before
print-start v g ts before h = goes-start (all_read v g 0 ts) before h

pub print-more : (v : View) (g : LineSource) (ts : List LineTable) (i : ℕ) (d : LineTable) (total before between behind : List ℕ) (old mid new : Heard)
    → Goes total (all_read v g i (drop i ts)) before old mid between → i < length ts
    → Printed (read_text i g (get_or ts i d) (table_rows v (get_or ts i d))) between mid new behind → Goes total (all_read v g (i + 1) (drop (i + 1) ts)) before old new behind
print-more v g ts i d total before between behind old mid new goes lt p =
    goes-more total (read_text i g (get_or ts i d) (table_rows v (get_or ts i d))) (all_read v g (i + 1) (drop (i + 1) ts)) before between behind old mid new
    (subst (λ (rest : List ℕ). Goes total rest before old mid between) (table-first v g ts i d lt) goes) p

pub print-over : (v : View) (g : LineSource) (ts : List LineTable) (i : ℕ) (before behind : List ℕ) (old new : Heard)
    → Goes (all_read v g 0 ts) (all_read v g i (drop i ts)) before old new behind → length ts ≤ i → Printed (all_read v g 0 ts) before old new behind
print-over v g ts i before behind old new goes past =
    goes-over (all_read v g 0 ts) before behind old new
    (subst (λ (rest : List ℕ). Goes (all_read v g 0 ts) rest before old new behind) (ap (all_read v g i) (drop_all i ts past)) goes)

pub print-cut : (v : View) (g : LineSource) (ts : List LineTable) (i : ℕ) (t d : LineTable) (before between : List ℕ) (old mid new : Heard) (e : ShowErr)
    → Goes (all_read v g 0 ts) (all_read v g i (drop i ts)) before old mid between → i < length ts → t ≡ get_or ts i d
    → Cut (between ++ read_text i g t (table_rows v t)) mid new e → Cut (before ++ all_read v g 0 ts) old new e
print-cut v g ts i t d before between old mid new e goes lt is c =
    goes-cut (all_read v g 0 ts) (read_text i g t (table_rows v t)) (all_read v g (i + 1) (drop (i + 1) ts)) before between old mid new e
    (subst (λ (rest : List ℕ). Goes (all_read v g 0 ts) rest before old mid between)
    (table-first v g ts i d lt ∙ ap (λ (x : LineTable). read_text i g x (table_rows v x) ++ all_read v g (i + 1) (drop (i + 1) ts)) (sym is)) goes) c

pub table-in : (v : View) (ts : List LineTable) (i : ℕ) (d : LineTable) → AllIn v ts → i < length ts → IsTableIn v (get_or ts i d)
table-in v [] i d all lt = absurd (omega (arith, lt))
table-in v (t ∷ ts) zero d all lt = all.0
table-in v (t ∷ ts) (suc i) d all lt = table-in v ts i d all.1 (omega (arith, lt))

pub ruleset loop_laws = (print-start, print-more, table-in)

-- all of it, through an empty buffer
pub all-printed : (t buffer behind : List ℕ) (old mid new : Heard) → Printed t [] old mid buffer → Printed [] buffer mid new behind → behind ≡ [] → Printed t [] old new []
all-printed t buffer behind old mid new p q none =
    subst (λ (b : List ℕ). Printed t [] old new b) none
    (subst (λ (x : List ℕ). Printed x [] old new behind) (append-nil t) (printed-then t [] [] buffer behind old mid new p q))

pub all-cut : (t buffer : List ℕ) (old mid new : Heard) (e : ShowErr) → Printed t [] old mid buffer → Cut buffer mid new e → Cut t old new e
all-cut t buffer old mid new e p c =
    subst (λ (x : List ℕ). Cut x old new e) (append-nil t)
    (cut-then t [] [] buffer old mid new e p (subst (λ (x : List ℕ). Cut x mid new e) (sym (append-nil buffer)) c))

pub ruleset write_laws = (all-printed, all-cut)

-- what was heard of a text that was printed whole
heard-whole : (t : List ℕ) (old new : Heard) (p : Printed t [] old new []) → new.bytes ≡ grown old.bytes t
heard-whole t old new p =
    let whole : take p.begun.count t ≡ t =
    sym (append-nil (take p.begun.count t)) ∙ ap (λ (x : List ℕ). take p.begun.count t ++ x) p.rest ∙ take-append-drop p.begun.count t in
    p.begun.bytes ∙ ap (grown old.bytes) whole

-- what was read of a view
abbrev reads-of : (v : View) (ts : List LineTable) (ss : List SectionUnits) → ViewTables v ts ss → ShowReads v
reads-of v ts ss t = record { readings = t.read.readings; reads = t.read.reads; relocations = t.read.relocations }

-- what is printed from it is the text of the view
whole-text : (v : View) (ts : List LineTable) (g : UnitSource) (m : MacroSource) (s : AreSources v ts g m)
    → all_printed v g ts m ≡ view_text v (reads-of v ts s.sections s.tables)
whole-text v ts g m s =
    ap (λ (x : List ℕ). x ++ (all_read v (line_source (debug_data v)) 0 ts ++ units_shown m 0 m.units)) s.units
    ∙ ap (λ (x : List ℕ). units_text ((debug_data v).found Info) 0 (units_of (debug_data v) s.tables.read.readings) ++ (x ++ units_shown m 0 m.units)) s.tables.text
    ∙ ap (λ (x : List ℕ). units_text ((debug_data v).found Info) 0 (units_of (debug_data v) s.tables.read.readings)
    ++ (lines_text (line_meanings (line_source (debug_data v)) s.tables.read.readings.lines) ++ x)) s.macros

pub is-shown : (v : View) (ts : List LineTable) (g : UnitSource) (m : MacroSource) (old new : Heard) → AreSources v ts g m → Printed (all_printed v g ts m) [] old new [] → IsShown v old new
is-shown v ts g m old new s p = record {
  reads = reads-of v ts s.sections s.tables;
  bytes = heard-whole (all_printed v g ts m) old new p ∙ ap (grown old.bytes) (whole-text v ts g m s);
  later = p.begun.later;
}

pub ends-cut : (v : View) (ts : List LineTable) (g : UnitSource) (m : MacroSource) (old new : Heard) (e : ShowErr) → AreSources v ts g m → Cut (all_printed v g ts m) old new e
    → ShowEnds v old new e
ends-cut v ts g m old new e s c = cut (reads-of v ts s.sections s.tables) (subst (λ (t : List ℕ). Cut t old new e) (whole-text v ts g m s) c)

pub sources-fit : (v : View) (ts : List LineTable) (g : UnitSource) (m : MacroSource) → AreSources v ts g m → SourceFits g
sources-fit v ts g m s = s.fits

pub sources-in : (v : View) (ts : List LineTable) (g : UnitSource) (m : MacroSource) → AreSources v ts g m → AllIn v ts
sources-in v ts g m s = s.tables.each

pub sources-macros : (v : View) (ts : List LineTable) (g : UnitSource) (m : MacroSource) → AreSources v ts g m → MacrosFit m
sources-macros v ts g m s = s.macros_fit

pub ruleset shown_laws = (is-shown, ends-cut, sources-fit, sources-in, sources-macros)

-- what is printed from, made of what was read
abbrev pub source_of : View → List ListedUnit → List (List Abbreviation) → EntryIndex → List Contribution → List ℕ → List ℕ → UnitSource
source_of v us tables index cs_ starts keys =
    record { view = v; units = us; tables = tables; index = index; contributions = cs_; starts = starts; keys = keys }

abbrev pub macros_of : View → List ℕ → List MacroUnit → List ℕ → MacroSource
macros_of v lines us keys = record { view = v; lines = lines; units = us; keys = keys }

sources-are : (v : View) (us : List ListedUnit) (tables : List (List Abbreviation)) (index : EntryIndex) (cs_ : List Contribution) (starts : List ℕ) (macros : List MacroUnit)
    (keys : List ℕ) (ts : List LineTable) (ss : List SectionUnits) → ViewTables v ts ss → ListsAll (debug_data v) tables ((debug_data v).found Info) us → IsIndexed v tables us index
    → AreContributions v.order (string_offsets v) cs_ → starts ≡ starts_of ts → AreMacros v ss macros keys
    → AreSources v ts (source_of v us tables index cs_ starts keys) (macros_of v starts macros keys)
sources-are v us tables index cs_ starts macros keys ts ss t listed indexed are is list = record {
  sections = ss;
  tables = t;
  fits = source-fits (source_of v us tables index cs_ starts keys) ts ss t.read macros listed is indexed list;
  macros_fit = macros-fit (macros_of v starts macros keys) ts ss t.read is list;
  units = source-text (source_of v us tables index cs_ starts keys) ts ss t.read macros listed are is list;
  macros = macros-shown (macros_of v starts macros keys) ts ss t.read is list;
}

-- by the names of the code
pub data-sources : (v : View) (d : DebugData) (us : List ListedUnit) (tables : List (List Abbreviation)) (index : EntryIndex) (starts : List ℕ) (macros : List MacroUnit)
    (keys : List ℕ) (ts : List LineTable) → IsDebugData v d → ListsAll (debug_data v) tables ((debug_data v).found Info) us → IsIndexed v tables us index → starts ≡ d.starts.items
    → ts ≡ d.lines.items → AreMacros v d.macros.items macros keys → AreSources v ts (source_of v us tables index d.contributions starts keys) (macros_of v starts macros keys)
data-sources v d us tables index starts macros keys ts read listed indexed are same list =
    sources-are v us tables index d.contributions starts macros keys ts d.macros.items
    (subst (λ (xs : List LineTable). ViewTables v xs d.macros.items) (sym same) (view-read v d.lines.items d.macros.items read.read)) listed indexed read.contributions
    (are ∙ read.starts ∙ ap starts_of (sym same)) list

-- the macro units are those of a list that was read
pub macros-listed : (v : View) (slice ss : List SectionUnits) (us ws : List MacroUnit) (keys numbers : List ℕ) → slice ≡ ss → us ≡ ws → keys ≡ numbers
    → AreMacros v slice ws numbers → AreMacros v ss us keys
macros-listed v slice ss us ws keys numbers same is are list =
    subst (λ (xs : List SectionUnits). AreMacros v xs us keys) same
    (subst (λ (xs : List MacroUnit). AreMacros v slice xs keys) (sym is) (subst (AreMacros v slice ws) (sym are) list))

-- and those of sections that were read are of the view
pub data-units : (v : View) (d : DebugData) (slice : List SectionUnits) → IsDebugData v d → slice ≡ d.macros.items → AllUnitsIn v slice
data-units v d slice read same = subst (AllUnitsIn v) (sym same) (units-in v d.macros.items read.read.units)

pub ends-unread : (v : View) (h : Heard) (x : Fault) (e : ShowErr) → Blames (DataRefuses v) x → e ≡ err.Fault x → ShowEnds v h h e
ends-unread v h NoMemory e b is = subst (λ (y : ShowErr). ShowEnds v h h y) (sym is) (unread refl)
ends-unread v h (Refused r) e b is = subst (λ (y : ShowErr). ShowEnds v h h y) (sym is) (refused r (unreadable b) refl)

pub ends-memory : (v : View) (h : Heard) (e : ShowErr) → e ≡ err.Fault NoMemory → ShowEnds v h h e
ends-memory v h e is = subst (λ (y : ShowErr). ShowEnds v h h y) (sym is) (unread refl)

-- a view that was read is refused by no row
none-row : (v : View) (r : Refusal) → ((r : Refusal) → DataRefuses v r → ⊥) → ShowRefuses v r → ⊥
none-row v r none (unreadable f) = none r f

pub none-refuses : {X E : Type 0} (x : Result X E) (v : View) → ((r : Refusal) → DataRefuses v r → ⊥) → OnOk x ((r : Refusal) → ShowRefuses v r → ⊥)
none-refuses (Ok y) v none = λ r row. none-row v r none row
none-refuses (Err e) v none = tt

pub ruleset show_laws = (ends-unread, ends-memory)
