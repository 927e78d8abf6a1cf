-- Line tables are moved one behind another: runs and offsets so far, and those of the tables that are left, are those of all.
use Rattle.std.proofs.Common.{Bool, ◌≡◌, ◌≢◌, ℕ, zero, suc, ◌+◌, ◌<◌, ◌≤◌, ◌^◌, List, [], ◌∷◌, ◌++◌, length, get_or, drop, Option, Some, refl, sym, ap, ◌∙◌, subst, arith, append_assoc, append-nil}
use Rattle.std.proofs.lemmas.List.{drop_all, length-append}
use Rattle.dw_base.specs.Cells.{bytes_of}
use Rattle.dw_base.specs.DebugData.{line_source}
use Rattle.dw_base.specs.DebugSections.{name_of}
use Rattle.dw_base.specs.FileViews.{View, section_named, view_of}
use Rattle.dw_base.specs.LineReadings.{AreTables, LineReading, TablesTo, all_lines, starts_from, table_read}
use Rattle.dw_base.specs.LineSources.{LineSource}
use Rattle.dw_base.specs.LineTables.{LineTable}
use Rattle.dw_base.specs.Paths.{PathMap}
use Rattle.dw_base.specs.RelocationRows.{moving_sections}
use Rattle.dw_base.specs.ViewData.{debug_data, located}
use Rattle.dw_base.specs.TextLineChanges.{table_by_texts}
use Rattle.dw_base.specs.declared.debug_sections.DebugSection.TheVariants.{Str, LineStr, Line}
use Rattle.dw_base.specs.Layout.{output_limit}
use Rattle.dw_meaning.specs.FileMeanings.{file_data}
use Rattle.dw_meaning.specs.LineStretches.{Stretch, stretches_end}
use Rattle.dw_meaning.specs.TextLineCells.{table_stretches_by_texts}
use Rattle.dw_meaning.specs.RelocationFails.{LeftRelocationsRead}
use Rattle.dw_meaning.proofs.FileKeptLaws.{differ, line-bytes, line-place, lines-number, name-apart, str-place, tables-place}
use Rattle.dw_meaning.proofs.LineClearLaws.{EachClear}
use Rattle.dw_meaning.proofs.LineHeaderLaws.{header-is}
use Rattle.dw_meaning.proofs.LineSectionLaws.{TablesApart, no-tables}
use Rattle.dw_meaning.proofs.LineShiftLaws.{left-clear}
use Rattle.dw_meaning.proofs.LineStretchLaws.{texts-apart}
use Rattle.dw_meaning.proofs.TextStretchLaws.{text_table-are}
use Rattle.dw_meaning.proofs.LineTableLaws.{header-places}
use Rattle.dw_meaning.proofs.TableKeptLaws.{TablePlace, lies_at, nowhere}
use Rattle.elf_relocs.specs.declared.runs.Run.{Run}
use Rattle.dw_lines.specs.NewTexts.{text_known}
use Rattle.dw_lines.specs.TableMoves.{TextsInOrder, new_end, offsets_from, runs_from}
use Rattle.dw_lines.specs.ViewSources.{view_source}
use Rattle.dw_lines.specs.ViewTables.{TablesFound, tables_read}
use Rattle.dw_lines.proofs.MoveLaws.{offsets-append, runs-append}
use Rattle.dw_lines.proofs.ReadingLaws.{source-is}
use Rattle.dw_lines.proofs.TableRunLaws.{clear-order, table-end}
use Rattle.dw_lines.specs.declared.moves.NewFieldOffset.{NewFieldOffset}
use Rattle.dw_rewrite.specs.LineOffsets.{AllMove, StartsKnown, TableMoves, line_offsets, line_runs, stretches_known}
use Rattle.dw_rewrite.specs.NewLines.{AllStandIn, LinesWritten, StandsIn, lines_known}
use Rattle.dw_rewrite.proofs.LineReadLaws.{all-stand}
use Rattle.dw_rewrite.proofs.LineWriteLaws.{front, stands-own, stands-there}

-- where the relocations of tables are ones that are handled, they move
pub apart-behind : (g : LineSource) (r : LineReading) (rs : List LineReading) → TablesApart g (r ∷ rs) → TablesApart g rs
apart-behind g r [] h = tt
apart-behind g r (x ∷ xs) h = h

pub all-move : (m : PathMap) (g : LineSource) (ks kl : Bool → ℕ → Option ℕ) (p n e : ℕ) (rs : List LineReading) → bytes_of g.cells ≡ g.bytes → TablesApart g rs → EachClear g rs
    → TablesTo g p rs e → AllStandIn g (tables_read g rs) → n + length (all_lines (lines_known m g ks kl (tables_read g rs))) < 2 ^ 63
    → AllMove m g ks kl p n (tables_read g rs) (starts_from n (lines_known m g ks kl (tables_read g rs)))
all-move m g ks kl p n e [] own apart clear tables stand small = tt
all-move m g ks kl p n e (r ∷ rs) own apart clear tables stand small =
    let places : _ = text_known g ks kl in
    let texts = texts-apart g r rs apart in
    let begins : r.header.start ≡ p = (header-places g p r.header (header-is g.order g.bytes p r.header tables.0.header)).0 in
    let ends = table-end g m (text_known g ks kl) p n r own texts clear.0 tables.0 in
    let are = text_table-are g m (text_known g ks kl) p r own texts clear.0 tables.0 in
    let next : stretches_end p (table_stretches_by_texts g m (text_known g ks kl) (table_read g r)) ≡ r.header.end =
    ap (λ (i : ℕ). stretches_end i (table_stretches_by_texts g m (text_known g ks kl) (table_read g r))) (sym begins) ∙ are.ends in
    let size = length-append (table_by_texts g m (text_known g ks kl) (table_read g r)) (all_lines (lines_known m g ks kl (tables_read g rs))) in
    let rest = all-move m g ks kl r.header.end (n + length (table_by_texts g m (text_known g ks kl) (table_read g r))) e rs own (apart-behind g r rs apart) clear.1 tables.1 stand.1
    (omega (arith, size, small)) in (
      record {
        stands = stand.0;
        begins = begins;
        start_is = refl;
        order = clear-order g m (text_known g ks kl) p r texts clear.0 tables.0;
        fits = omega (arith, ends, size, small);
      },
      subst (λ (i : ℕ). AllMove m g ks kl i (new_end n (table_stretches_by_texts g m (text_known g ks kl) (table_read g r))) (tables_read g rs)
          (starts_from (n + length (table_by_texts g m (text_known g ks kl) (table_read g r))) (lines_known m g ks kl (tables_read g rs)))) (sym next)
          (subst (λ (j : ℕ). AllMove m g ks kl r.header.end j (tables_read g rs)
          (starts_from (n + length (table_by_texts g m (text_known g ks kl) (table_read g r))) (lines_known m g ks kl (tables_read g rs)))) (sym ends) rest),
    )

-- the section of line tables of a file is none of those of texts
pub file-apart : (b : List ℕ) (rs : List LineReading) → AreTables (line_source (file_data b)) rs → TablesApart (line_source (file_data b)) rs
file-apart b [] reads = tt
file-apart b (x ∷ xs) reads =
    subst (λ (n : ℕ). (n ≢ ((file_data b).found Str).number) × (n ≢ ((file_data b).found LineStr).number)) (sym (lines-number b)) (by_place (tables-place b))
  where
    some_none : ◌≡◌ {A = List LineReading} (x ∷ xs) [] → ⊥
    some_none e = cc

    str_no : Some Line ≡ Some Str → ⊥
    str_no e = cc

    line_no : Some Line ≡ Some LineStr → ⊥
    line_no e = cc

    by_place : TablePlace b (name_of Line) (located (view_of b) Line)
        → ((located (view_of b) Line).number ≢ ((file_data b).found Str).number) × ((located (view_of b) Line).number ≢ ((file_data b).found LineStr).number)
    by_place (nowhere none_there none) = absurd (some_none (no-tables (line_source (file_data b)) (x ∷ xs) (line-bytes b ∙ none) reads))
    by_place (lies_at there within named bytes) = (
      name-apart b (name_of Str) ((file_data b).found Str) (located (view_of b) Line).number (str-place b) there (λ e. str_no (differ Line Str (sym named ∙ e))),
      name-apart b (name_of LineStr) ((file_data b).found LineStr) (located (view_of b) Line).number (line-place b) there (λ e. line_no (differ Line LineStr (sym named ∙ e))),
    )

-- what was found and written of tables
pub starts-known : (m : PathMap) (g : LineSource) (ks kl : Bool → ℕ → Option ℕ) (ts : List LineTable) (bs ns : List ℕ) → LinesWritten m g ks kl ts bs ns → length bs ≤ output_limit
    → StartsKnown m g ks kl ts ns
starts-known m g ks kl ts bs ns w small = record { starts = w.starts; small = subst (λ (x : List ℕ). length x ≤ output_limit) w.bytes small }

found-move : (m : PathMap) (v : View) (ks kl : Bool → ℕ → Option ℕ) (ts : List LineTable) (ns : List ℕ) → ((rs : List LineReading) → AreTables (line_source (debug_data v)) rs
    → TablesApart (line_source (debug_data v)) rs) → LeftRelocationsRead (debug_data v) (moving_sections v) → TablesFound v ts → StartsKnown m (line_source (debug_data v)) ks kl ts ns
    → AllMove m (line_source (debug_data v)) ks kl 0 0 ts ns
found-move m v ks kl ts ns apart left found starts =
    let g : LineSource = line_source (debug_data v) in
    let small : length (all_lines (lines_known m (line_source (debug_data v)) ks kl (tables_read (line_source (debug_data v)) found.readings))) ≤ output_limit =
    subst (λ (us : List LineTable). length (all_lines (lines_known m (line_source (debug_data v)) ks kl us)) ≤ output_limit) found.is starts.small in
    subst (λ (xs : List ℕ). AllMove m (line_source (debug_data v)) ks kl 0 0 ts xs) (sym starts.starts)
    (subst (λ (us : List LineTable). AllMove m (line_source (debug_data v)) ks kl 0 0 us (starts_from 0 (lines_known m (line_source (debug_data v)) ks kl us))) (sym found.is)
    (all-move m (line_source (debug_data v)) ks kl 0 0 (length (line_source (debug_data v)).bytes) found.readings refl (apart found.readings found.reads)
    (left-clear (debug_data v) (moving_sections v) found.readings left found.reads) found.reads
    (subst (AllStandIn (line_source (debug_data v))) found.is (all-stand (line_source (debug_data v)) ts (length (line_source (debug_data v)).bytes) found)) (omega (arith, small))))

pub view-move : (m : PathMap) (b : List ℕ) (v : View) (i : ℕ) (ks kl : Bool → ℕ → Option ℕ) (ts : List LineTable) (ns : List ℕ) → v ≡ view_of b
    → LeftRelocationsRead (debug_data v) (moving_sections v) → TablesFound v ts → StartsKnown m (line_source (debug_data v)) ks kl ts ns → Some i ≡ section_named v (name_of Line)
    → AllMove m (view_source v i) ks kl 0 0 ts ns
view-move m b v i ks kl ts ns file left found starts e =
    subst (λ (g : LineSource). AllMove m g ks kl 0 0 ts ns) (source-is v i e)
    (found-move m v ks kl ts ns
    (subst (λ (w : View). (rs : List LineReading) → AreTables (line_source (debug_data w)) rs → TablesApart (line_source (debug_data w)) rs) (sym file) (file-apart b)) left found starts)

-- a table among them
record TableHere (m : PathMap) (g : LineSource) (ks kl : Bool → ℕ → Option ℕ) (place new : ℕ) (t : LineTable) (ts : List LineTable) (ns : List ℕ) (i : ℕ) : Type 0 where
  inside : i < length ns
  moves : TableMoves m g ks kl place new (get_or ns i 0) t
  rest : AllMove m g ks kl (stretches_end place (table_stretches_by_texts g m (text_known g ks kl) t)) (new_end new (table_stretches_by_texts g m (text_known g ks kl) t)) ts (drop (suc i) ns)

table-here : (m : PathMap) (g : LineSource) (ks kl : Bool → ℕ → Option ℕ) (place new : ℕ) (t : LineTable) (ts : List LineTable) (ns : List ℕ) (i : ℕ)
    → AllMove m g ks kl place new (t ∷ ts) (drop i ns) → TableHere m g ks kl place new t ts ns i
table-here m g ks kl place new t ts [] zero h = absurd h
table-here m g ks kl place new t ts [] (suc i) h = absurd h
table-here m g ks kl place new t ts (n ∷ ns) zero h = record { inside = omega arith; moves = h.0; rest = h.1 }
table-here m g ks kl place new t ts (n ∷ ns) (suc i) h =
    let r = table-here m g ks kl place new t ts ns i h in
    let inside = r.inside in
    record { inside = omega (arith, inside); moves = r.moves; rest = r.rest }

-- where a pass over tables stands
pub record MovePass (m : PathMap) (g : LineSource) (ks kl : Bool → ℕ → Option ℕ) (ts : List LineTable) (ns : List ℕ) (runs : List Run) (offsets : List NewFieldOffset) (i : ℕ) : Type 0 where
  pub place : ℕ
  pub new : ℕ
  pub runs_are : runs ++ runs_from place new (stretches_known m g ks kl (drop i ts)) ≡ line_runs m g ks kl ts
  pub offsets_are : offsets ++ offsets_from place (stretches_known m g ks kl (drop i ts)) ≡ line_offsets m g ks kl ts
  pub moves : AllMove m g ks kl place new (drop i ts) (drop i ns)

pub pass-starts : (m : PathMap) (g : LineSource) (ks kl : Bool → ℕ → Option ℕ) (ts : List LineTable) (ns : List ℕ) (runs : List Run) (offsets : List NewFieldOffset) → runs ≡ [] → offsets ≡ []
    → AllMove m g ks kl 0 0 ts ns → MovePass m g ks kl ts ns runs offsets 0
pass-starts m g ks kl ts ns runs offsets r o moves = record {
  place = 0;
  new = 0;
  runs_are = ap (λ (l : List Run). l ++ line_runs m g ks kl ts) r;
  offsets_are = ap (λ (l : List NewFieldOffset). l ++ line_offsets m g ks kl ts) o;
  moves = moves;
}

here : (m : PathMap) (g : LineSource) (ks kl : Bool → ℕ → Option ℕ) (ts : List LineTable) (ns : List ℕ) (runs : List Run) (offsets : List NewFieldOffset) (i : ℕ) (t : LineTable)
    (p : MovePass m g ks kl ts ns runs offsets i) → i < length ts → t ≡ get_or ts i t → TableHere m g ks kl p.place p.new t (drop (i + 1) ts) ns i
here m g ks kl ts ns runs offsets i t p lt is =
    table-here m g ks kl p.place p.new t (drop (i + 1) ts) ns i (subst (λ (us : List LineTable). AllMove m g ks kl p.place p.new us (drop i ns)) (front ts t i lt is) p.moves)

-- its start is there, and it moves from there
pub pass-inside : (m : PathMap) (g : LineSource) (ks kl : Bool → ℕ → Option ℕ) (ts : List LineTable) (ns : List ℕ) (runs : List Run) (offsets : List NewFieldOffset) (i : ℕ) (t : LineTable)
    → MovePass m g ks kl ts ns runs offsets i → i < length ts → t ≡ get_or ts i t → i < length ns
pass-inside m g ks kl ts ns runs offsets i t p lt is = (here m g ks kl ts ns runs offsets i t p lt is).inside

pub pass-stands : (m : PathMap) (g : LineSource) (ks kl : Bool → ℕ → Option ℕ) (ts : List LineTable) (ns : List ℕ) (runs : List Run) (offsets : List NewFieldOffset) (i : ℕ) (t : LineTable)
    → MovePass m g ks kl ts ns runs offsets i → i < length ts → t ≡ get_or ts i t → StandsIn g t
pass-stands m g ks kl ts ns runs offsets i t p lt is = (here m g ks kl ts ns runs offsets i t p lt is).moves.stands

pub pass-order : (m : PathMap) (g : LineSource) (ks kl : Bool → ℕ → Option ℕ) (ts : List LineTable) (ns : List ℕ) (runs : List Run) (offsets : List NewFieldOffset) (i : ℕ) (t : LineTable)
    → MovePass m g ks kl ts ns runs offsets i → i < length ts → t ≡ get_or ts i t → TextsInOrder g m (text_known g ks kl) t
pass-order m g ks kl ts ns runs offsets i t p lt is = (here m g ks kl ts ns runs offsets i t p lt is).moves.order

-- one table more
pub pass-more : (m : PathMap) (g : LineSource) (ks kl : Bool → ℕ → Option ℕ) (ts : List LineTable) (ns : List ℕ) (runs more : List Run) (offsets fields : List NewFieldOffset) (i n : ℕ) (t : LineTable)
    → MovePass m g ks kl ts ns runs offsets i → i < length ts → t ≡ get_or ts i t → n ≡ get_or ns i 0
    → more ≡ runs ++ runs_from t.start n (table_stretches_by_texts g m (text_known g ks kl) t) → fields ≡ offsets ++ offsets_from t.start (table_stretches_by_texts g m (text_known g ks kl) t)
    → MovePass m g ks kl ts ns more fields (i + 1)
pass-more m g ks kl ts ns runs more offsets fields i n t p lt is start e f =
    let h = here m g ks kl ts ns runs offsets i t p lt is in
    let xs : List Stretch = table_stretches_by_texts g m (text_known g ks kl) t in
    let rest : List Stretch = stretches_known m g ks kl (drop (i + 1) ts) in
    let cut : drop i ts ≡ t ∷ drop (i + 1) ts = front ts t i lt is in
    let next : suc i ≡ i + 1 = omega arith in
    let own : more ≡ runs ++ runs_from p.place p.new (table_stretches_by_texts g m (text_known g ks kl) t) =
    e ∙ ap (λ (k : ℕ). runs ++ runs_from k n (table_stretches_by_texts g m (text_known g ks kl) t)) h.moves.begins
    ∙ ap (λ (k : ℕ). runs ++ runs_from p.place k (table_stretches_by_texts g m (text_known g ks kl) t)) (start ∙ h.moves.start_is) in
    let said : fields ≡ offsets ++ offsets_from p.place (table_stretches_by_texts g m (text_known g ks kl) t) =
    f ∙ ap (λ (k : ℕ). offsets ++ offsets_from k (table_stretches_by_texts g m (text_known g ks kl) t)) h.moves.begins in
    record {
      place = stretches_end p.place (table_stretches_by_texts g m (text_known g ks kl) t);
      new = new_end p.new (table_stretches_by_texts g m (text_known g ks kl) t);
      runs_are = ap (λ (l : List Run). l ++ runs_from (stretches_end p.place xs) (new_end p.new xs) rest) own
          ∙ append_assoc runs (runs_from p.place p.new xs) (runs_from (stretches_end p.place xs) (new_end p.new xs) rest)
          ∙ ap (λ (l : List Run). runs ++ l) (sym (runs-append p.place p.new xs rest))
          ∙ ap (λ (us : List LineTable). runs ++ runs_from p.place p.new (stretches_known m g ks kl us)) (sym cut) ∙ p.runs_are;
      offsets_are = ap (λ (l : List NewFieldOffset). l ++ offsets_from (stretches_end p.place xs) rest) said
          ∙ append_assoc offsets (offsets_from p.place xs) (offsets_from (stretches_end p.place xs) rest)
          ∙ ap (λ (l : List NewFieldOffset). offsets ++ l) (sym (offsets-append p.place xs rest))
          ∙ ap (λ (us : List LineTable). offsets ++ offsets_from p.place (stretches_known m g ks kl us)) (sym cut) ∙ p.offsets_are;
      moves = subst (λ (k : ℕ). AllMove m g ks kl (stretches_end p.place (table_stretches_by_texts g m (text_known g ks kl) t)) (new_end p.new (table_stretches_by_texts g m (text_known g ks kl) t))
          (drop (i + 1) ts) (drop k ns)) next h.rest;
    }

pub pass-runs : (m : PathMap) (g : LineSource) (ks kl : Bool → ℕ → Option ℕ) (ts : List LineTable) (ns : List ℕ) (runs : List Run) (offsets : List NewFieldOffset) (i : ℕ) → length ts ≤ i
    → MovePass m g ks kl ts ns runs offsets i → runs ≡ line_runs m g ks kl ts
pass-runs m g ks kl ts ns runs offsets i end p =
    sym (append-nil runs) ∙ ap (λ (us : List LineTable). runs ++ runs_from p.place p.new (stretches_known m g ks kl us)) (sym (drop_all i ts end)) ∙ p.runs_are

pub pass-offsets : (m : PathMap) (g : LineSource) (ks kl : Bool → ℕ → Option ℕ) (ts : List LineTable) (ns : List ℕ) (runs : List Run) (offsets : List NewFieldOffset) (i : ℕ) → length ts ≤ i
    → MovePass m g ks kl ts ns runs offsets i → offsets ≡ line_offsets m g ks kl ts
pass-offsets m g ks kl ts ns runs offsets i end p =
    sym (append-nil offsets) ∙ ap (λ (us : List LineTable). offsets ++ offsets_from p.place (stretches_known m g ks kl us)) (sym (drop_all i ts end)) ∙ p.offsets_are

-- a table that stands in a section of a number, by its own number
pub order-own : (m : PathMap) (v : View) (i : ℕ) (ks kl : Bool → ℕ → Option ℕ) (t : LineTable) → StandsIn (view_source v i) t → TextsInOrder (view_source v i) m (text_known (view_source v i) ks kl) t
    → TextsInOrder (view_source v t.section) m (text_known (view_source v t.section) ks kl) t
order-own m v i ks kl t s h = subst (λ (n : ℕ). TextsInOrder (view_source v n) m (text_known (view_source v n) ks kl) t) (sym s.section) h

pub fits-own : (m : PathMap) (v : View) (i new : ℕ) (ks kl : Bool → ℕ → Option ℕ) (t : LineTable) → StandsIn (view_source v i) t
    → new_end new (table_stretches_by_texts (view_source v i) m (text_known (view_source v i) ks kl) t) < 2 ^ 63
    → new_end new (table_stretches_by_texts (view_source v t.section) m (text_known (view_source v t.section) ks kl) t) < 2 ^ 63
fits-own m v i new ks kl t s h = subst (λ (n : ℕ). new_end new (table_stretches_by_texts (view_source v n) m (text_known (view_source v n) ks kl) t) < 2 ^ 63) (sym s.section) h

pub runs-there : (m : PathMap) (v : View) (i new : ℕ) (ks kl : Bool → ℕ → Option ℕ) (t : LineTable) (runs more : List Run) → StandsIn (view_source v i) t
    → more ≡ runs ++ runs_from t.start new (table_stretches_by_texts (view_source v t.section) m (text_known (view_source v t.section) ks kl) t)
    → more ≡ runs ++ runs_from t.start new (table_stretches_by_texts (view_source v i) m (text_known (view_source v i) ks kl) t)
runs-there m v i new ks kl t runs more s e =
    e ∙ ap (λ (n : ℕ). runs ++ runs_from t.start new (table_stretches_by_texts (view_source v n) m (text_known (view_source v n) ks kl) t)) s.section

pub offsets-there : (m : PathMap) (v : View) (i : ℕ) (ks kl : Bool → ℕ → Option ℕ) (t : LineTable) (offsets more : List NewFieldOffset) → StandsIn (view_source v i) t
    → more ≡ offsets ++ offsets_from t.start (table_stretches_by_texts (view_source v t.section) m (text_known (view_source v t.section) ks kl) t)
    → more ≡ offsets ++ offsets_from t.start (table_stretches_by_texts (view_source v i) m (text_known (view_source v i) ks kl) t)
offsets-there m v i ks kl t offsets more s e =
    e ∙ ap (λ (n : ℕ). offsets ++ offsets_from t.start (table_stretches_by_texts (view_source v n) m (text_known (view_source v n) ks kl) t)) s.section

pub ruleset table_rules = (stands-there, stands-own, order-own, fits-own, runs-there, offsets-there)
