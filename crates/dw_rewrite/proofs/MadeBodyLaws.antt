-- The new bodies, as the code makes them, are those of the readings of debug data; and why there are none.
use Rattle.std.proofs.Common.{Bool, ◌≡◌, ℕ, zero, suc, ◌+◌, ◌^◌, ◌<◌, ◌≤◌, List, [], ◌∷◌, ◌++◌, length, get_or, Option, Some, None, refl, sym, ap, ◌∙◌, subst, arith}
use Rattle.std.proofs.lemmas.List.{length-append}
use Rattle.dw_base.specs.DebugData.{DebugData, DataReadings, around_of, line_source}
use Rattle.dw_base.specs.DebugSections.{name_of}
use Rattle.dw_base.specs.FileViews.{View, section_named}
use Rattle.dw_base.specs.Layout.{output_limit}
use Rattle.dw_base.specs.LineReadings.{LineReading, all_lines, starts_from, table_starts}
use Rattle.dw_base.specs.LineSources.{LineSource}
use Rattle.dw_base.specs.LineTables.{LineTable}
use Rattle.dw_base.specs.Paths.{PathMap}
use Rattle.dw_base.specs.Pieces.{joined}
use Rattle.dw_base.specs.StringTables.{TextTable, table_bytes}
use Rattle.dw_base.specs.TextLineChanges.{table_by_texts, text_place}
use Rattle.dw_base.specs.Texts.{laid_texts}
use Rattle.dw_base.specs.ViewData.{debug_data}
use Rattle.dw_base.specs.declared.debug_sections.DebugSection.TheVariants.{Info, Str, LineStr, StrOffsets, Line, Names}
use Rattle.dw_base.specs.declared.texts.TextSection.{TextSection}
use Rattle.dw_base.specs.declared.texts.TextSection.TheVariants.{InStr, InLineStr}
use Rattle.dw_lines.specs.NewTexts.{text_known}
use Rattle.dw_lines.specs.ViewTables.{TablesFound}
use Rattle.dw_meaning.specs.DataOutput.{Body, DataFits, EachWritable, cells_body, changes_of, lines_body, macro_bodies, macros_after, names_after, new_bodies, new_lines, offsets_after, table_change, unit_bodies}
use Rattle.dw_meaning.specs.NewAddends.{AddendsFit}
use Rattle.dw_read.specs.AllFields.{Fields, all_of, standing}
use Rattle.dw_read.specs.FoundPaths.{PathsFound}
use Rattle.dw_read.specs.MacroFields.{macros_read}
use Rattle.dw_read.specs.NameSections.{names_read}
use Rattle.dw_rewrite.specs.Changes.{FieldSource, Knows, start_known}
use Rattle.dw_rewrite.specs.NewStarts.{StartsFit}
use Rattle.dw_unit_fields.specs.ViewFields.{AllHaveOffsets, AllHavePlaces, AllRoomsFit, fields_of}
use Rattle.dw_starts.specs.StringTables.{table_number}
use Rattle.dw_rewrite.specs.NewTables.{IsSectionNoted, TableMade, bodies_after, bodies_known, source_in, table_body_of, texts_of}
use Rattle.dw_read.specs.SlotPaths.{slots_read}
use Rattle.dw_rewrite.specs.PushedBodies.{one_body, pushed_bodies}
use Rattle.dw_unit_fields.specs.SectionFields.{SectionFields, paths_of}
use Rattle.dw_rewrite.specs.NewLines.{AllCanWrite, LinesWritten, lines_known}
use Rattle.dw_read.specs.ViewLines.{lines_by, lines_of_view, lines_with, table_fields}
use Rattle.dw_starts.specs.LineStarts.{starts_of}
use Rattle.dw_rewrite.proofs.LineKnownLaws.{EachCanWrite, NotedIn, TablesAgree, all-can, each-parts, lines-same, tables-agree}
use Rattle.dw_rewrite.proofs.ListGrowthLaws.{of-macros, of-names, of-slots, of-units}
use Rattle.dw_rewrite.proofs.MacroWrittenLaws.{macros-bodies}
use Rattle.dw_starts.proofs.TableStartLaws.{read-starts}
use Rattle.dw_rewrite.proofs.NameWrittenLaws.{names-body}
use Rattle.dw_rewrite.proofs.NewBodyLaws.{known-bodies, made-noted, readings-bodies, slots-body, starts_after}
use Rattle.dw_unit_fields.proofs.PlaceValueLaws.{EachOf}
use Rattle.dw_starts.proofs.StartSearchLaws.{starts-rise}
use Rattle.dw_rewrite.proofs.TableTextLaws.{lines-none, lines-whole, made-table, same-lines, same-texts, table-bytes}
use Rattle.dw_rewrite.proofs.LineMentionLaws.{line_texts}

-- the known places make the bodies of some of the sections
known-parts : (m : PathMap) (v : View) (us : Fields) (part : List SectionFields) (ts : List LineTable) (ps pl : TextTable) (ks kl kt : Bool → ℕ → Option ℕ) (f : PathsFound m v us ts) → TableMade m v InStr (all_of us) ps ks
    → TableMade m v InLineStr (all_of us) pl kl → EachOf (λ u. IsSectionNoted v InStr u ks) part → EachOf (λ u. IsSectionNoted v InLineStr u kl) part
    → bodies_known m v ks kl kt part ≡ bodies_after m v (table_change m InStr (around_of (debug_data v) f.readings) f.readings)
    (table_change m InLineStr (around_of (debug_data v) f.readings) f.readings) kt part
known-parts m v us part ts ps pl ks kl kt f s l ns nl =
    known-bodies m v ps pl ks kl kt part s.grown l.grown ns nl
    ∙ ap (λ (x : List (List ℕ)). bodies_after m v x pl.texts kt part) (made-table m v InStr us ts ps ks f s)
    ∙ ap (λ (x : List (List ℕ)). bodies_after m v (table_change m InStr (around_of (debug_data v) f.readings) f.readings) x kt part) (made-table m v InLineStr us ts pl kl f l)

-- the places of paths of line tables are known
abbrev pub change_of_table : PathMap → View → DataReadings → TextSection → List (List ℕ)
change_of_table m v rs table = table_change m table (around_of (debug_data v) rs) rs

each-from : {X : Type 0} (P : X → Type 0) (xs : List X) → ((k : ℕ) (d : X) → k < length xs → P (get_or xs k d)) → EachOf P xs
each-from P [] f = tt
each-from P (x ∷ xs) f = (f 0 x (omega arith), each-from P xs (λ (k : ℕ) d (lt : k < length xs). f (suc k) d (omega arith)))

noted-lines : (v : View) (table : TextSection) (i : ℕ) (ts : List LineTable) (known : Bool → ℕ → Option ℕ) → Some i ≡ section_named v (name_of Line)
    → IsSectionNoted v table (lines_with (line_source (debug_data v)) ts) known
    → EachOf (NotedIn (line_texts (line_source (debug_data v)) table) known)
    (table_fields (line_source (debug_data v)).number (line_source (debug_data v)).str.number table ts)
noted-lines v table i ts known e noted =
    let all : EachOf (NotedIn (source_in v (line_source (debug_data v)).number table) known) (fields_of table (lines_with (line_source (debug_data v)) ts)) =
    each-from (NotedIn (source_in v (line_source (debug_data v)).number table) known) (fields_of table (lines_with (line_source (debug_data v)) ts))
    (λ k d lt. noted.each k d lt lt) in
    subst (λ (s : FieldSource). EachOf (NotedIn s known)
    (table_fields (line_source (debug_data v)).number (line_source (debug_data v)).str.number table ts)) (sym (same-texts v table i e))
    (subst (EachOf (NotedIn (source_in v (line_source (debug_data v)).number table) known))
    (sym (same-lines (line_source (debug_data v)) table ts)) all)

table-knows : (m : PathMap) (v : View) (table : TextSection) (us : Fields) (ts : List LineTable) (pool : TextTable) (known : Bool → ℕ → Option ℕ) (f : PathsFound m v us ts)
    → TableMade m v table (all_of us) pool known
    → Knows m (texts_of v table).bytes (table_change m table (around_of (debug_data v) f.readings) f.readings) known
table-knows m v table us ts pool known f t =
    subst (λ (xs : List (List ℕ)). Knows m (texts_of v table).bytes xs known) (made-table m v table us ts pool known f t) t.grown.knows

lines-agree-by : (m : PathMap) (v : View) (us : Fields) (ts : List LineTable) (ps pl : TextTable) (ks kl : Bool → ℕ → Option ℕ) (f : PathsFound m v us ts) → TableMade m v InStr (all_of us) ps ks
    → TableMade m v InLineStr (all_of us) pl kl → (o : Option ℕ) → o ≡ section_named v (name_of Line)
    → EachOf (λ u. IsSectionNoted v InStr u ks) (lines_by o (line_source (debug_data v)) ts) → EachOf (λ u. IsSectionNoted v InLineStr u kl) (lines_by o (line_source (debug_data v)) ts)
    → TablesAgree (line_source (debug_data v)) (text_known (line_source (debug_data v)) ks kl)
    (text_place m (change_of_table m v f.readings InStr) (change_of_table m v f.readings InLineStr) (line_source (debug_data v))) f.readings.lines
unfolding table_change
lines-agree-by m v us ts ps pl ks kl f s l None e ns nl =
    subst (TablesAgree (line_source (debug_data v)) (text_known (line_source (debug_data v)) ks kl)
    (text_place m (change_of_table m v f.readings InStr) (change_of_table m v f.readings InLineStr) (line_source (debug_data v)))) (sym (lines-none v f.readings.lines e f.reads.lines)) tt
lines-agree-by m v us ts ps pl ks kl f s l (Some i) e ns nl =
    tables-agree (line_source (debug_data v)) m (change_of_table m v f.readings InStr) (change_of_table m v f.readings InLineStr) ks kl 0 (length (line_source (debug_data v)).bytes)
    f.readings.lines (lines-whole v) f.reads.lines (table-knows m v InStr us ts ps ks f s) (table-knows m v InLineStr us ts pl kl f l)
    (subst (λ (us_ : List LineTable). EachOf (NotedIn (line_texts (line_source (debug_data v)) InStr) ks)
    (table_fields (line_source (debug_data v)).number (line_source (debug_data v)).str.number InStr us_)) f.tables (noted-lines v InStr i ts ks e ns.0))
    (subst (λ (us_ : List LineTable). EachOf (NotedIn (line_texts (line_source (debug_data v)) InLineStr) kl)
    (table_fields (line_source (debug_data v)).number (line_source (debug_data v)).str.number InLineStr us_)) f.tables (noted-lines v InLineStr i ts kl e nl.0))

-- what is noted of all sections
pub record NotedParts (v : View) (table : TextSection) (rs : DataReadings) (ts : List LineTable) (known : Bool → ℕ → Option ℕ) : Type 0 where
  pub units : EachOf (λ u. IsSectionNoted v table u known) (paths_of rs.units)
  pub slots : EachOf (λ u. IsSectionNoted v table u known) (slots_read v rs)
  pub macros : EachOf (λ u. IsSectionNoted v table u known) (macros_read rs.macros)
  pub lines : EachOf (λ u. IsSectionNoted v table u known) (lines_of_view v ts)
  pub names : EachOf (λ u. IsSectionNoted v table u known) (names_read v rs)

pub noted-parts : (m : PathMap) (v : View) (table : TextSection) (us : Fields) (ts : List LineTable) (pool : TextTable) (known : Bool → ℕ → Option ℕ) (f : PathsFound m v us ts)
    → TableMade m v table (all_of us) pool known → NotedParts v table f.readings ts known
noted-parts m v table us ts pool known f t =
    let all = each-parts (λ u. IsSectionNoted v table u known) (paths_of f.readings.units) (slots_read v f.readings ++ (lines_of_view v ts ++ (macros_read f.readings.macros ++ names_read v f.readings)))
    (subst (λ (x : Fields). EachOf (λ u. IsSectionNoted v table u known) (all_of x)) f.is (made-noted m v table (all_of us) pool known t)) in
    let behind = each-parts (λ u. IsSectionNoted v table u known) (slots_read v f.readings) (lines_of_view v ts ++ (macros_read f.readings.macros ++ names_read v f.readings)) all.1 in
    let rest = each-parts (λ u. IsSectionNoted v table u known) (lines_of_view v ts) (macros_read f.readings.macros ++ names_read v f.readings) behind.1 in
    let last = each-parts (λ u. IsSectionNoted v table u known) (macros_read f.readings.macros) (names_read v f.readings) rest.1 in
    record { units = all.0; slots = behind.0; macros = last.0; lines = rest.0; names = last.1 }

pub lines-agree : (m : PathMap) (v : View) (us : Fields) (ts : List LineTable) (ps pl : TextTable) (ks kl : Bool → ℕ → Option ℕ) (f : PathsFound m v us ts) → TableMade m v InStr (all_of us) ps ks
    → TableMade m v InLineStr (all_of us) pl kl
    → TablesAgree (line_source (debug_data v)) (text_known (line_source (debug_data v)) ks kl)
    (text_place m (change_of_table m v f.readings InStr) (change_of_table m v f.readings InLineStr) (line_source (debug_data v))) f.readings.lines
lines-agree m v us ts ps pl ks kl f s l =
    lines-agree-by m v us ts ps pl ks kl f s l (section_named v (name_of Line)) refl (noted-parts m v InStr us ts ps ks f s).lines (noted-parts m v InLineStr us ts pl kl f l).lines

-- so the new line tables are these
pub known-lines : (m : PathMap) (v : View) (us : Fields) (ts : List LineTable) (ps pl : TextTable) (ks kl : Bool → ℕ → Option ℕ) (f : PathsFound m v us ts) → TableMade m v InStr (all_of us) ps ks
    → TableMade m v InLineStr (all_of us) pl kl → lines_known m (line_source (debug_data v)) ks kl ts ≡ new_lines m (around_of (debug_data v) f.readings) f.readings
known-lines m v us ts ps pl ks kl f s l =
    ap (lines_known m (line_source (debug_data v)) ks kl) f.tables
    ∙ lines-same (line_source (debug_data v)) m (change_of_table m v f.readings InStr) (change_of_table m v f.readings InLineStr) ks kl f.readings.lines
    (lines-agree m v us ts ps pl ks kl f s l)

-- each can be written
each-writable : (m : PathMap) (d : DebugData) (rs : DataReadings) (xs : List LineReading)
    → EachCanWrite (line_source d) m ((changes_of m (around_of d rs) rs).new Str) ((changes_of m (around_of d rs) rs).new LineStr) xs
    → EachWritable m (changes_of m (around_of d rs) rs) (around_of d rs) xs
each-writable m d rs [] can = tt
each-writable m d rs (x ∷ xs) can = (can.0, each-writable m d rs xs can.1)

pub made-fits : (m : PathMap) (v : View) (us : Fields) (ts : List LineTable) (ps pl : TextTable) (ks kl : Bool → ℕ → Option ℕ) (bs ns : List ℕ) (f : PathsFound m v us ts)
    → TableMade m v InStr (all_of us) ps ks → TableMade m v InLineStr (all_of us) pl kl → LinesWritten m (line_source (debug_data v)) ks kl ts bs ns
    → AddendsFit (changes_of m (around_of (debug_data v) f.readings) f.readings) (debug_data v) (around_of (debug_data v) f.readings) f.readings
    → DataFits m (debug_data v) f.readings
made-fits m v us ts ps pl ks kl bs ns f s l w addends = record {
  inline = f.inline;
  slots = f.slots;
  lines = each-writable m (debug_data v) f.readings f.readings.lines
      (all-can (line_source (debug_data v)) m (change_of_table m v f.readings InStr) (change_of_table m v f.readings InLineStr) ks kl f.readings.lines
      (lines-agree m v us ts ps pl ks kl f s l) (subst (AllCanWrite m (line_source (debug_data v)) ks kl) f.tables w.can));
  addends = addends;
}

-- the starts that are known
pub known-starts : (m : PathMap) (v : View) (us : Fields) (ts : List LineTable) (ps pl : TextTable) (ks kl : Bool → ℕ → Option ℕ) (bs ns : List ℕ) (f : PathsFound m v us ts)
    → TableMade m v InStr (all_of us) ps ks → TableMade m v InLineStr (all_of us) pl kl → LinesWritten m (line_source (debug_data v)) ks kl ts bs ns
    → start_known (starts_of ts) ns ≡ starts_after m v f.readings
known-starts m v us ts ps pl ks kl bs ns f s l w =
    ap (λ (xs : List ℕ). start_known xs ns) (ap starts_of f.tables ∙ read-starts (line_source (debug_data v)) f.readings.lines)
    ∙ ap (start_known (table_starts f.readings.lines)) (w.starts ∙ ap (starts_from 0) (known-lines m v us ts ps pl ks kl f s l))

-- bodies behind the tables of texts, part by part
parts-are : {slots names macros units ms us : List Body} {lines first ls ns : Body} → slots ≡ first ∷ [] → lines ≡ ls → names ≡ ns ∷ [] → macros ≡ ms → units ≡ us
    → slots ++ lines ∷ (names ++ (macros ++ units)) ≡ first ∷ ls ∷ ns ∷ (ms ++ us)
parts-are a b c d e = rw (a, b, c, d, e) refl

-- all new bodies
pub made-is : (m : PathMap) (v : View) (us : Fields) (ts : List LineTable) (ps pl : TextTable) (ks kl : Bool → ℕ → Option ℕ) (bs ns : List ℕ) (f : PathsFound m v us ts)
    → TableMade m v InStr (all_of us) ps ks → TableMade m v InLineStr (all_of us) pl kl → LinesWritten m (line_source (debug_data v)) ks kl ts bs ns
    → table_body_of v InStr ps ∷ table_body_of v InLineStr pl
    ∷ pushed_bodies m v ks kl (start_known (starts_of ts) ns) (record { number = ((debug_data v).found Line).number; bytes = bs }) us
    ≡ new_bodies m (debug_data v) f.readings
unfolding new_bodies table_change
made-is m v us ts ps pl ks kl bs ns f s l w =
    let kt : Bool → ℕ → Option ℕ = start_known (starts_of ts) ns in
    let text_s : List (List ℕ) = (table_change m InStr (around_of (debug_data v) f.readings) f.readings) in
    let text_l : List (List ℕ) = (table_change m InLineStr (around_of (debug_data v) f.readings) f.readings) in
    let a = noted-parts m v InStr us ts ps ks f s in
    let b = noted-parts m v InLineStr us ts pl kl f l in
    let starts = known-starts m v us ts ps pl ks kl bs ns f s l w in
    let lines : Body = record { number = ((debug_data v).found Line).number; bytes = bs } in
    let line_is : record { number = ((debug_data v).found Line).number; bytes = bs } ≡ lines_body (changes_of m (around_of (debug_data v) f.readings) f.readings) (debug_data v) =
    ap (λ (x : List ℕ). record { number = ((debug_data v).found Line).number; bytes = x }) (w.bytes ∙ ap all_lines (known-lines m v us ts ps pl ks kl f s l)) in
    let units : bodies_known m v ks kl (start_known (starts_of ts) ns) (paths_of f.readings.units)
    ≡ unit_bodies (changes_of m (around_of (debug_data v) f.readings) f.readings) (around_of (debug_data v) f.readings) f.readings.units =
    known-parts m v us (paths_of f.readings.units) ts ps pl ks kl (start_known (starts_of ts) ns) f s l a.units b.units
    ∙ ap (λ (k : Bool → ℕ → Option ℕ). bodies_after m v (table_change m InStr (around_of (debug_data v) f.readings) f.readings)
    (table_change m InLineStr (around_of (debug_data v) f.readings) f.readings) k (paths_of f.readings.units)) starts
    ∙ readings-bodies m v f.readings [] ((debug_data v).found Info) 0 f.readings.units refl f.reads.units f.inline in
    let slots : one_body (bodies_known m v ks kl (start_known (starts_of ts) ns) (slots_read v f.readings))
    ≡ cells_body ((debug_data v).found StrOffsets).number (joined (offsets_after (changes_of m (around_of (debug_data v) f.readings) f.readings) (around_of (debug_data v) f.readings) f.readings)) ∷ [] =
    ap one_body (known-parts m v us (slots_read v f.readings) ts ps pl ks kl (start_known (starts_of ts) ns) f s l a.slots b.slots)
    ∙ slots-body m v f.readings (start_known (starts_of ts) ns) f.reads.offsets in
    let names : one_body (bodies_known m v ks kl (start_known (starts_of ts) ns) (names_read v f.readings))
    ≡ cells_body ((debug_data v).found Names).number (joined (names_after (changes_of m (around_of (debug_data v) f.readings) f.readings) (around_of (debug_data v) f.readings) f.readings)) ∷ [] =
    ap one_body (known-parts m v us (names_read v f.readings) ts ps pl ks kl (start_known (starts_of ts) ns) f s l a.names b.names)
    ∙ names-body m v f.readings (start_known (starts_of ts) ns) f.reads.names in
    let macros : bodies_known m v ks kl (start_known (starts_of ts) ns) (macros_read f.readings.macros)
    ≡ macro_bodies (macros_after (changes_of m (around_of (debug_data v) f.readings) f.readings) (around_of (debug_data v) f.readings) f.readings) =
    known-parts m v us (macros_read f.readings.macros) ts ps pl ks kl (start_known (starts_of ts) ns) f s l a.macros b.macros
    ∙ ap (λ (k : Bool → ℕ → Option ℕ). bodies_after m v (table_change m InStr (around_of (debug_data v) f.readings) f.readings)
    (table_change m InLineStr (around_of (debug_data v) f.readings) f.readings) k (macros_read f.readings.macros)) starts
    ∙ macros-bodies m v f.readings f.reads.macros in
    let rest : pushed_bodies m v ks kl (start_known (starts_of ts) ns) (record { number = ((debug_data v).found Line).number; bytes = bs }) us
    ≡ cells_body ((debug_data v).found StrOffsets).number (joined (offsets_after (changes_of m (around_of (debug_data v) f.readings) f.readings) (around_of (debug_data v) f.readings) f.readings))
    ∷ lines_body (changes_of m (around_of (debug_data v) f.readings) f.readings) (debug_data v)
    ∷ cells_body ((debug_data v).found Names).number (joined (names_after (changes_of m (around_of (debug_data v) f.readings) f.readings) (around_of (debug_data v) f.readings) f.readings))
    ∷ (macro_bodies (macros_after (changes_of m (around_of (debug_data v) f.readings) f.readings) (around_of (debug_data v) f.readings) f.readings)
    ++ unit_bodies (changes_of m (around_of (debug_data v) f.readings) f.readings) (around_of (debug_data v) f.readings) f.readings.units) =
    ap (pushed_bodies m v ks kl (start_known (starts_of ts) ns) (record { number = ((debug_data v).found Line).number; bytes = bs })) f.is
    ∙ parts-are slots line_is names macros units in
    ap (λ (x : List ℕ). record { number = ((debug_data v).found Str).number; bytes = x } ∷ table_body_of v InLineStr pl ∷ pushed_bodies m v ks kl kt lines us)
    (table-bytes m v InStr us ts ps ks f s)
    ∙ ap (λ (x : List ℕ). record { number = ((debug_data v).found Str).number; bytes = laid_texts text_s }
    ∷ record { number = ((debug_data v).found LineStr).number; bytes = x } ∷ pushed_bodies m v ks kl kt lines us) (table-bytes m v InLineStr us ts pl kl f l)
    ∙ ap (λ (xs : List Body). record { number = ((debug_data v).found Str).number; bytes = laid_texts text_s }
    ∷ record { number = ((debug_data v).found LineStr).number; bytes = laid_texts text_l } ∷ xs) rest

pub all-offsets : (m : PathMap) (v : View) (us : Fields) (ts : List LineTable) → PathsFound m v us ts → AllHaveOffsets v (all_of us)
all-offsets m v us ts f = f.offsets

-- the new starts fit
start-within : (n k : ℕ) (ts : List (List ℕ)) → k < length (starts_from n ts) → get_or (starts_from n ts) k 0 ≤ n + length (all_lines ts)
start-within n k [] lt = absurd (omega (arith, lt))
start-within n zero (t ∷ ts) lt = omega arith
start-within n (suc k) (t ∷ ts) lt =
    let rest = start-within (n + length t) k ts (omega (arith, lt)) in
    omega (arith, rest, length-append t (all_lines ts))

length-known : (m : PathMap) (g : LineSource) (ks kl : Bool → ℕ → Option ℕ) (n : ℕ) (ts : List LineTable) → length (starts_from n (lines_known m g ks kl ts)) ≡ length (starts_of ts)
length-known m g ks kl n [] = refl
length-known m g ks kl n (t ∷ ts) = ap suc (length-known m g ks kl (n + length (table_by_texts g m (text_known g ks kl) t)) ts)

pub starts-fit : (m : PathMap) (v : View) (us : Fields) (ts : List LineTable) (ks kl : Bool → ℕ → Option ℕ) (bs ns old : List ℕ) → PathsFound m v us ts
    → LinesWritten m (line_source (debug_data v)) ks kl ts bs ns → old ≡ starts_of ts → length bs ≤ output_limit → StartsFit (record { old = old; new = ns })
starts-fit m v us ts ks kl bs ns old f w is small =
    let first : old ≡ table_starts f.readings.lines = is ∙ ap starts_of f.tables ∙ read-starts (line_source (debug_data v)) f.readings.lines in
    record {
      rises = starts-rise (debug_data v) old (record { tables = f.readings.lines; are = f.reads.lines; is = first });
      same = ap (λ (x : List ℕ). length x) w.starts ∙ length-known m (line_source (debug_data v)) ks kl 0 ts ∙ ap (λ (x : List ℕ). length x) (sym is);
      fit = λ (i : ℕ) lt.
          let within : get_or (starts_from 0 (lines_known m (line_source (debug_data v)) ks kl ts)) i 0 ≤ 0 + length (all_lines (lines_known m (line_source (debug_data v)) ks kl ts)) =
          start-within 0 i (lines_known m (line_source (debug_data v)) ks kl ts) (subst (λ (x : List ℕ). i < length x) w.starts lt) in
          let size : length bs ≡ length (all_lines (lines_known m (line_source (debug_data v)) ks kl ts)) = ap (λ (x : List ℕ). length x) w.bytes in
          subst (λ (x : List ℕ). get_or x i 0 < 2 ^ 32) (sym w.starts) (omega (arith, within, size, small));
    }

pub slices-fit : (m : PathMap) (v : View) (us : Fields) (ts : List LineTable) (ks kl : Bool → ℕ → Option ℕ) (bs ns old new : List ℕ) → PathsFound m v us ts
    → LinesWritten m (line_source (debug_data v)) ks kl ts bs ns → old ≡ starts_of ts → new ≡ ns → length bs ≤ output_limit → StartsFit (record { old = old; new = new })
slices-fit m v us ts ks kl bs ns old new f w is same small =
    subst (λ (xs : List ℕ). StartsFit (record { old = old; new = xs })) (sym same) (starts-fit m v us ts ks kl bs ns old f w is small)

pub table-body : (v : View) (table : TextSection) (pool : TextTable) (n : ℕ) (bytes : List ℕ) → n ≡ table_number (debug_data v) table → bytes ≡ table_bytes pool
    → record { number = n; bytes = bytes } ≡ table_body_of v table pool
table-body v table pool n bytes number is =
    ap (λ (k : ℕ). record { number = k; bytes = bytes }) number ∙ ap (λ (b : List ℕ). record { number = table_number (debug_data v) table; bytes = b }) is

-- two bodies
pub two-pushed : (none one_ two_ : List Body) (a b x y : Body) → none ≡ [] → one_ ≡ none ++ a ∷ [] → two_ ≡ one_ ++ b ∷ [] → a ≡ x → b ≡ y → two_ ≡ x ∷ y ∷ []
two-pushed none one_ two_ a b x y e f g i j =
    let first : one_ ≡ a ∷ [] = f ∙ ap (λ (bs : List Body). bs ++ a ∷ []) e in
    let second : two_ ≡ a ∷ b ∷ [] = g ∙ ap (λ (bs : List Body). bs ++ b ∷ []) first in
    second ∙ ap (λ (z : Body). z ∷ b ∷ []) i ∙ ap (λ (z : Body). x ∷ z ∷ []) j

pub have-places : (m : PathMap) (v : View) (us : Fields) (ts : List LineTable) → PathsFound m v us ts → AllHavePlaces v (standing us)
have-places m v us ts f = f.places

offsets-append : (v : View) (xs ys : List SectionFields) → AllHaveOffsets v xs → AllHaveOffsets v ys → AllHaveOffsets v (xs ++ ys)
offsets-append v [] ys h k = k
offsets-append v (x ∷ xs) ys h k = (h.0, offsets-append v xs ys h.1 k)

pub have-offsets : (m : PathMap) (v : View) (us : Fields) (ts : List LineTable) → PathsFound m v us ts → AllHaveOffsets v (standing us)
have-offsets m v us ts f =
    offsets-append v ((us.units ++ us.slots) ++ us.macros) us.names
    (offsets-append v (us.units ++ us.slots) us.macros
    (offsets-append v us.units us.slots (of-units v us us.units refl f.offsets) (of-slots v us us.slots refl f.offsets)) (of-macros v us us.macros refl f.offsets))
    (of-names v us us.names refl f.offsets)

pub rooms-fit : (m : PathMap) (v : View) (us : Fields) (ts : List LineTable) → PathsFound m v us ts → AllRoomsFit m v (standing us)
rooms-fit m v us ts f = f.rooms

pub found-tables : (m : PathMap) (v : View) (us : Fields) (ts : List LineTable) → PathsFound m v us ts → TablesFound v ts
found-tables m v us ts f = record { readings = f.readings.lines; reads = f.reads.lines; is = f.tables }

pub ruleset body_rules = (all-offsets, have-places, have-offsets, rooms-fit, found-tables)
