-- What becomes of a table of texts is told by the fields of all sections.
use Rattle.std.proofs.Common.{Bool, ◌≡◌, ℕ, List, [], ◌++◌, length, Option, Some, None, refl, sym, ap, ◌∙◌}
use Rattle.dw_base.proofs.TableLaws.{texts_after-append}
use Rattle.dw_base.specs.Cells.{Cell}
use Rattle.dw_base.specs.DebugData.{DataReadings, around_of, line_source, path_slots, ReadsAll}
use Rattle.dw_base.specs.DebugSections.{name_of}
use Rattle.dw_base.specs.FileViews.{View, section_named}
use Rattle.dw_base.specs.TextLineChanges.{all_texts_mentions}
use Rattle.dw_base.specs.LineReadings.{LineReading, AreTables}
use Rattle.dw_base.specs.LineSources.{LineSource}
use Rattle.dw_base.specs.LineTables.{LineTable}
use Rattle.dw_base.specs.MacroReadings.{ReadsAllMacros}
use Rattle.dw_base.specs.NamePieces.{ReadsNames}
use Rattle.dw_base.specs.OffsetPieces.{ReadsOffsets}
use Rattle.dw_base.specs.Paths.{PathMap}
use Rattle.dw_base.specs.SectionTexts.{macro_mentions, mentions_with, name_role, slot_role}
use Rattle.dw_base.specs.StringTables.{Mention, TextTable, texts_after, table_bytes}
use Rattle.dw_base.specs.TextChanges.{all_mentions}
use Rattle.dw_base.specs.Texts.{laid_texts}
use Rattle.dw_base.specs.ViewData.{debug_data}
use Rattle.dw_base.specs.declared.debug_sections.DebugSection.TheVariants.{Info, StrOffsets, Line, Macro, Names}
use Rattle.dw_base.specs.declared.texts.TextSection.{TextSection}
use Rattle.dw_base.specs.declared.texts.TextSection.TheVariants.{InStr, InLineStr}
use Rattle.dw_lines.specs.ViewTables.{tables_read}
use Rattle.dw_lines.proofs.ViewTableLaws.{source-none}
use Rattle.dw_meaning.specs.DataOutput.{table_change}
use Rattle.dw_meaning.proofs.LineSectionLaws.{no-tables}
use Rattle.dw_read.specs.AllFields.{Fields, all_of, fields_read}
use Rattle.dw_read.specs.FoundPaths.{PathsFound}
use Rattle.dw_read.specs.MacroFields.{macros_read}
use Rattle.dw_read.specs.NameSections.{names_read}
use Rattle.dw_rewrite.specs.Changes.{FieldSource, texts_at}
use Rattle.dw_unit_fields.specs.ViewFields.{fields_of}
use Rattle.dw_rewrite.specs.NewTables.{TableMade, all_texts_at, source_in, texts_of}
use Rattle.dw_read.specs.SlotPaths.{slots_read}
use Rattle.dw_unit_fields.specs.SectionFields.{SectionFields, paths_of}
use Rattle.dw_read.specs.ViewLines.{lines_by, lines_of_view, lines_with, table_fields}
use Rattle.dw_rewrite.proofs.LineMentionLaws.{IsWhole, line_texts, lines-texts}
use Rattle.dw_rewrite.proofs.MacroWrittenLaws.{macros-told}
use Rattle.dw_rewrite.proofs.NewBodyLaws.{all_texts-append, readings-texts, slots-texts}
use Rattle.dw_rewrite.proofs.NameWrittenLaws.{names-told}
use Rattle.dw_read.proofs.FoundUnitLaws.{cells-some, view-apart}

pub lines-none : (v : View) (rs : List LineReading) → None ≡ section_named v (name_of Line) → AreTables (line_source (debug_data v)) rs → rs ≡ []
lines-none v rs e are = no-tables (line_source (debug_data v)) rs (source-none v e) are

-- the section of line tables and its cells
pub lines-whole : (v : View) → IsWhole (line_source (debug_data v))
unfolding debug_data
lines-whole v = record { apart = view-apart v; own = refl }

pub same-texts : (v : View) (table : TextSection) (i : ℕ) → Some i ≡ section_named v (name_of Line)
    → line_texts (line_source (debug_data v)) table ≡ source_in v (line_source (debug_data v)).number table
unfolding debug_data
same-texts v InStr i e = ap (λ (cells : List Cell). record { order = v.order; cells = cells; table = texts_of v InStr }) (cells-some v i e)
same-texts v InLineStr i e = ap (λ (cells : List Cell). record { order = v.order; cells = cells; table = texts_of v InLineStr }) (cells-some v i e)

pub same-lines : (g : LineSource) (table : TextSection) (ts : List LineTable) → table_fields g.number g.str.number table ts ≡ fields_of table (lines_with g ts)
same-lines g InStr ts = refl
same-lines g InLineStr ts = refl

-- their texts
lines-texts-by : (m : PathMap) (v : View) (table : TextSection) (ts : List (List ℕ)) (rs : List LineReading) (o : Option ℕ) → o ≡ section_named v (name_of Line)
    → AreTables (line_source (debug_data v)) rs
    → texts_after m ts (all_texts_mentions (line_source (debug_data v)) table rs)
    ≡ all_texts_at m v table ts (lines_by o (line_source (debug_data v)) (tables_read (line_source (debug_data v)) rs))
lines-texts-by m v table ts rs None e are =
    ap (λ (xs : List LineReading). texts_after m ts (all_texts_mentions (line_source (debug_data v)) table xs)) (lines-none v rs e are)
lines-texts-by m v table ts rs (Some i) e are =
    let us : List LineTable = tables_read (line_source (debug_data v)) rs in
    lines-texts (line_source (debug_data v)) table m ts 0 (length (line_source (debug_data v)).bytes) rs (lines-whole v) are
    ∙ ap (λ (s : FieldSource). texts_at m s ts
    (table_fields (line_source (debug_data v)).number (line_source (debug_data v)).str.number table (tables_read (line_source (debug_data v)) rs))) (same-texts v table i e)
    ∙ ap (texts_at m (source_in v (line_source (debug_data v)).number table) ts)
    (same-lines (line_source (debug_data v)) table (tables_read (line_source (debug_data v)) rs))

-- those of all sections
parts-texts : (m : PathMap) (v : View) (table : TextSection) (rs : DataReadings) (ls : List SectionFields)
    → all_texts_at m v table [] (paths_of rs.units ++ (slots_read v rs ++ (ls ++ (macros_read rs.macros ++ names_read v rs))))
    ≡ all_texts_at m v table (all_texts_at m v table (all_texts_at m v table (all_texts_at m v table (all_texts_at m v table [] (paths_of rs.units)) (slots_read v rs)) ls)
    (macros_read rs.macros)) (names_read v rs)
parts-texts m v table rs ls =
    let units : List (List ℕ) = all_texts_at m v table [] (paths_of rs.units) in
    let slots : List (List ℕ) = all_texts_at m v table (all_texts_at m v table [] (paths_of rs.units)) (slots_read v rs) in
    let lined : List (List ℕ) = all_texts_at m v table slots ls in
    all_texts-append m v table [] (paths_of rs.units) (slots_read v rs ++ (ls ++ (macros_read rs.macros ++ names_read v rs)))
    ∙ all_texts-append m v table units (slots_read v rs) (ls ++ (macros_read rs.macros ++ names_read v rs))
    ∙ all_texts-append m v table slots ls (macros_read rs.macros ++ names_read v rs)
    ∙ all_texts-append m v table lined (macros_read rs.macros) (names_read v rs)

-- what becomes of a table is told by the fields of all sections
pub table-texts : (m : PathMap) (v : View) (rs : DataReadings) (ts : List LineTable) (table : TextSection) → ReadsAll (debug_data v).base 0 ((debug_data v).found Info) rs.units
    → ReadsOffsets (debug_data v).base.order ((debug_data v).found StrOffsets).contents rs.offsets → AreTables (line_source (debug_data v)) rs.lines
    → ReadsAllMacros (debug_data v).base.order ((debug_data v).found Macro) rs.macros
    → ReadsNames (debug_data v).base.order ((debug_data v).found Names).contents rs.names → ts ≡ tables_read (line_source (debug_data v)) rs.lines
    → table_change m table (around_of (debug_data v) rs) rs ≡ all_texts_at m v table [] (all_of (fields_read v rs ts))
unfolding table_change
table-texts m v rs ts table reads offsets lines macros names is =
    let us : List Mention = all_mentions table (around_of (debug_data v) rs) rs.units in
    let ss : List Mention = mentions_with (slot_role (path_slots (around_of (debug_data v) rs))) table (around_of (debug_data v) rs) rs.offsets in
    let ls : List Mention = all_texts_mentions (line_source (debug_data v)) table rs.lines in
    let ms : List Mention = macro_mentions table (around_of (debug_data v) rs) rs.macros in
    let ns : List Mention = mentions_with name_role table (around_of (debug_data v) rs) rs.names in
    let units : List (List ℕ) = all_texts_at m v table [] (paths_of rs.units) in
    let slots : List (List ℕ) = all_texts_at m v table (all_texts_at m v table [] (paths_of rs.units)) (slots_read v rs) in
    let lined : List (List ℕ) = all_texts_at m v table slots (lines_of_view v (tables_read (line_source (debug_data v)) rs.lines)) in
    texts_after-append m [] us (ss ++ (ls ++ (ms ++ ns)))
    ∙ ap (λ (xs : List (List ℕ)). texts_after m xs (ss ++ (ls ++ (ms ++ ns))))
    (readings-texts m v rs table [] [] ((debug_data v).found Info) 0 rs.units refl reads)
    ∙ texts_after-append m units ss (ls ++ (ms ++ ns))
    ∙ ap (λ (xs : List (List ℕ)). texts_after m xs (ls ++ (ms ++ ns))) (slots-texts m v rs table units offsets)
    ∙ texts_after-append m slots ls (ms ++ ns)
    ∙ ap (λ (xs : List (List ℕ)). texts_after m xs (ms ++ ns)) (lines-texts-by m v table slots rs.lines (section_named v (name_of Line)) refl lines)
    ∙ texts_after-append m lined ms ns
    ∙ ap (λ (xs : List (List ℕ)). texts_after m xs ns) (macros-told m v rs table lined macros)
    ∙ names-told m v rs table (all_texts_at m v table lined (macros_read rs.macros)) names
    ∙ sym (parts-texts m v table rs (lines_of_view v (tables_read (line_source (debug_data v)) rs.lines)))
    ∙ ap (λ (ts_ : List LineTable). all_texts_at m v table [] (all_of (fields_read v rs ts_))) (sym is)

-- the table after the paths of all sections
pub made-table : (m : PathMap) (v : View) (table : TextSection) (us : Fields) (ts : List LineTable) (pool : TextTable) (known : Bool → ℕ → Option ℕ) (f : PathsFound m v us ts)
    → TableMade m v table (all_of us) pool known → pool.texts ≡ table_change m table (around_of (debug_data v) f.readings) f.readings
made-table m v table us ts pool known f t =
    t.texts ∙ ap (λ (x : Fields). all_texts_at m v table [] (all_of x)) f.is ∙ sym (table-texts m v f.readings ts table f.reads.units f.reads.offsets f.reads.lines f.reads.macros f.reads.names f.tables)

pub table-bytes : (m : PathMap) (v : View) (table : TextSection) (us : Fields) (ts : List LineTable) (pool : TextTable) (known : Bool → ℕ → Option ℕ) (f : PathsFound m v us ts)
    → TableMade m v table (all_of us) pool known
    → table_bytes pool ≡ laid_texts (table_change m table (around_of (debug_data v) f.readings) f.readings)
table-bytes m v table us ts pool known f t =
    ap (λ (k : List ℕ). k ++ laid_texts pool.texts) t.grown.kept ∙ ap laid_texts (made-table m v table us ts pool known f t)
