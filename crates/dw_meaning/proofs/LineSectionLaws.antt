-- Line tables one after another that were written with their paths mapped are read, start where they were laid, and mean the mapped tables.
use Rattle.std.proofs.Common.{true, ◌≡◌, ◌≢◌, ℕ, suc, ◌+◌, ◌<◌, ◌≤◌, List, [], ◌∷◌, ◌++◌, length, drop, refl, sym, ap, ◌∙◌, subst, arith, append_assoc}
use Rattle.std.specs.Prelude.{⊤}
use Rattle.std.proofs.lemmas.List.{length-append, append-nil}
use Rattle.dw_base.specs.Cells.{Cell, bytes_of}
use Rattle.dw_base.specs.LineMeanings.{LineMeaning, line_meaning, line_meanings, mapped_line, mapped_lines}
use Rattle.dw_base.specs.LineReadings.{LineReading, ReadsTable, TablesTo, table_read, table_starts, starts_from, all_lines}
use Rattle.dw_base.specs.LineSources.{LineSource}
use Rattle.dw_base.specs.Paths.{PathMap}
use Rattle.dw_base.specs.StringTables.{Mention, texts_after}
use Rattle.dw_base.specs.Texts.{ends_in, laid_texts}
use Rattle.dw_base.specs.TextChanges.{TableChanges}
use Rattle.dw_base.specs.TextLineChanges.{all_texts_mentions, rest_by_texts, table_by_texts, tables_by_texts, text_place, texts_mentions}
use Rattle.dw_base.specs.TextWriteFails.{CanWriteTexts}
use Rattle.dw_base.specs.WrittenLines.{length_size, length_bytes}
use Rattle.dw_base.specs.declared.line_tables.LineText.{LineText}
use Rattle.dw_base.specs.declared.shared.Width.{Width}
use Rattle.dw_base.specs.declared.shared.Width.TheVariants.{W32, W64}
use Rattle.dw_base.proofs.ContributionBackLaws.{StandsAt}
use Rattle.dw_base.proofs.UnitEditLaws.{length-bytes_of}
use Rattle.dw_base.specs.declared.debug_sections.DebugSection.TheVariants.{Str, LineStr}
use Rattle.dw_base.specs.declared.texts.TextSection.{TextSection}
use Rattle.dw_base.specs.declared.texts.TextSection.TheVariants.{InStr, InLineStr}
use Rattle.dw_meaning.specs.RebuiltTables.{all_after}
use Rattle.dw_meaning.specs.TextLineCells.{all_cells_by_texts, table_cells_by_texts}
use Rattle.dw_meaning.proofs.CellLaidLaws.{stand-behind}
use Rattle.dw_meaning.proofs.ClearLaws.{NoneOver, over-start}
use Rattle.dw_meaning.proofs.TextCellLaws.{text_table-bytes, text_tables-bytes}
use Rattle.dw_meaning.proofs.LineClearLaws.{EachClear}
use Rattle.dw_meaning.proofs.LineTableLaws.{header-places}
use Rattle.dw_meaning.proofs.LineColumnLaws.{edited_with, SourceMoves}
use Rattle.dw_meaning.proofs.LineHeaderLaws.{header-is, length-size}
use Rattle.dw_meaning.proofs.LineLaidLaws.{stands-first, stands-next, length-bytes}
use Rattle.dw_meaning.proofs.LineMeaningLaws.{TailStays, table-moved}
use Rattle.dw_meaning.proofs.LinePathLaws.{AllTake, BothMove, texts-move}
use Rattle.dw_meaning.proofs.LineStartLaws.{EachSome}
use Rattle.dw_meaning.proofs.MentionLaws.{after-append}
use Rattle.dw_meaning.proofs.TextEditLaws.{TextsAre, behind_piece}

-- each table can be written
abbrev pub EachCan : LineSource → PathMap → TableChanges → List LineReading → Type 0
EachCan g m c [] = ⊤
EachCan g m c (r ∷ rs) = CanWriteTexts g m (text_place m (c.new Str) (c.new LineStr) g) (table_read g r) × EachCan g m c rs

some-size : (w : Width) → 0 < length_size w
some-size W32 = omega arith
some-size W64 = omega arith

-- a table that is written has a byte at least
written-some : (g : LineSource) (m : PathMap) (c : TableChanges) (r : LineReading) → 0 < length (table_by_texts g m (text_place m (c.new Str) (c.new LineStr) g) (table_read g r))
unfolding table_by_texts
written-some g m c r =
    let first = length-bytes g.order r.header.width (length (rest_by_texts g m (text_place m (c.new Str) (c.new LineStr) g) (table_read g r))) in
    let some = some-size r.header.width in
    omega (
      arith,
      first,
      some,
      length-append (length_bytes g.order r.header.width (length (rest_by_texts g m (text_place m (c.new Str) (c.new LineStr) g) (table_read g r))))
          (rest_by_texts g m (text_place m (c.new Str) (c.new LineStr) g) (table_read g r)),
    )

-- where there is a table more, none reaches over its start
abbrev OverIf : List Cell → ℕ → List LineReading → Type 0
OverIf cells q [] = ⊤
OverIf cells q (r ∷ rs) = NoneOver cells q

over-if : (g : LineSource) (cells : List Cell) (q e : ℕ) (p : ℕ) (rs : List LineReading) → EachClear g rs → TablesTo g p rs e → (NoneOver g.cells p → NoneOver cells q) → OverIf cells q rs
over-if g cells q e p [] clear tables h = tt
over-if g cells q e p (r ∷ rs) clear tables h =
    h (subst (NoneOver g.cells) (header-places g p r.header (header-is g.order g.bytes p r.header tables.0.header)).0 clear.0.apart)

-- behind the lists of each
abbrev pub TailsStay : LineSource → LineSource → List LineReading → List LineReading → Type 0
TailsStay g k [] [] = ⊤
TailsStay g k [] (t ∷ ts) = ⊥
TailsStay g k (r ∷ rs) [] = ⊥
TailsStay g k (r ∷ rs) (t ∷ ts) = TailStays g k r t × TailsStay g k rs ts

-- the tables after the edit
pub record LinesMoved (g k : LineSource) (m : PathMap) (q e : ℕ) (ts : List (List ℕ)) (rs : List LineReading) : Type 0 where
  pub readings : List LineReading
  pub are : TablesTo k q readings e
  pub starts : table_starts readings ≡ starts_from q ts
  pub says : line_meanings k readings ≡ mapped_lines m (line_meanings g rs)
  pub mentions : (table : TextSection) → all_texts_mentions k table readings ≡ all_after m (all_texts_mentions g table rs)
  pub some : EachSome ts
  pub count : length ts ≡ length (table_starts rs)
  pub clear : EachClear k readings
  pub tails : TailsStay g k rs readings

pub lines-moved : (c : TableChanges) (g : LineSource) (bytes : List ℕ) (cells more_cells : List Cell) (ts us : List (List ℕ)) (ms ns : List Mention) (p e q : ℕ) (rs : List LineReading)
    → SourceMoves g c.map (laid_texts (c.new Str)) (laid_texts (c.new LineStr)) → BothMove c → TablesTo g p rs e → EachCan g c.map c rs
    → TextsAre c ts us (all_texts_mentions g InStr rs ++ ms) (all_texts_mentions g InLineStr rs ++ ns)
    → StandsAt bytes (all_lines (tables_by_texts c.map (c.new Str) (c.new LineStr) g rs)) q → bytes_of cells ≡ bytes
    → drop q cells ≡ all_cells_by_texts g c.map (text_place c.map (c.new Str) (c.new LineStr) g) rs ++ more_cells → OverIf cells q rs → EachClear g rs
    → AllTake g (text_place c.map (c.new Str) (c.new LineStr) g) rs
    → LinesMoved g (edited_with g bytes cells (laid_texts (c.new Str)) (laid_texts (c.new LineStr))) c.map q
    (q + length (all_lines (tables_by_texts c.map (c.new Str) (c.new LineStr) g rs))) (tables_by_texts c.map (c.new Str) (c.new LineStr) g rs) rs
lines-moved c g bytes cells more_cells ts us ms ns p e q [] w both reads can all st own there over clear takes =
    record { readings = []; are = omega arith; starts = refl; says = refl; mentions = λ table. refl; some = tt; count = refl; clear = tt; tails = tt }
lines-moved c g bytes cells more_cells ts us ms ns p e q (r ∷ rs) w both reads can all st own there over clear takes =
    let s : List ℕ = laid_texts (c.new Str) in
    let l : List ℕ = laid_texts (c.new LineStr) in
    let xs : List LineText = (table_read g r).texts in
    let t : List ℕ = table_by_texts g c.map (text_place c.map (c.new Str) (c.new LineStr) g) (table_read g r) in
    let rest : List (List ℕ) = tables_by_texts c.map (c.new Str) (c.new LineStr) g rs in
    let here : TextsAre c ts us (texts_mentions g InStr xs ++ (all_texts_mentions g InStr rs ++ ms)) (texts_mentions g InLineStr xs ++ (all_texts_mentions g InLineStr rs ++ ns)) = record {
      str = all.str ∙ ap (texts_after c.map ts) (append_assoc (texts_mentions g InStr xs) (all_texts_mentions g InStr rs) ms);
      line_str = all.line_str ∙ ap (texts_after c.map us) (append_assoc (texts_mentions g InLineStr xs) (all_texts_mentions g InLineStr rs) ns);
    } in
    let moves = texts-move c g r.header.width ts us (all_texts_mentions g InStr rs ++ ms) (all_texts_mentions g InLineStr rs ++ ns) xs both here takes.0 in
    let here_cells : drop q cells ≡ table_cells_by_texts g c.map (text_place c.map (c.new Str) (c.new LineStr) g) (table_read g r)
    ++ (all_cells_by_texts g c.map (text_place c.map (c.new Str) (c.new LineStr) g) rs ++ more_cells) =
    there ∙ append_assoc (table_cells_by_texts g c.map (text_place c.map (c.new Str) (c.new LineStr) g) (table_read g r)) (all_cells_by_texts g c.map (text_place c.map (c.new Str) (c.new LineStr) g) rs) more_cells in
    let size : length (table_cells_by_texts g c.map (text_place c.map (c.new Str) (c.new LineStr) g) (table_read g r)) ≡ length (table_by_texts g c.map (text_place c.map (c.new Str) (c.new LineStr) g) (table_read g r)) =
    sym (length-bytes_of (table_cells_by_texts g c.map (text_place c.map (c.new Str) (c.new LineStr) g) (table_read g r)))
    ∙ ap length (text_table-bytes g c.map (text_place c.map (c.new Str) (c.new LineStr) g) (table_read g r) w.own) in
    let behind_cells : drop (q + length (table_by_texts g c.map (text_place c.map (c.new Str) (c.new LineStr) g) (table_read g r))) cells
    ≡ all_cells_by_texts g c.map (text_place c.map (c.new Str) (c.new LineStr) g) rs ++ more_cells =
    ap (λ (i : ℕ). drop (q + i) cells) (sym size)
    ∙ stand-behind cells (table_cells_by_texts g c.map (text_place c.map (c.new Str) (c.new LineStr) g) (table_read g r)) (all_cells_by_texts g c.map (text_place c.map (c.new Str) (c.new LineStr) g) rs ++ more_cells) q here_cells in
    let one = table-moved g c.map (text_place c.map (c.new Str) (c.new LineStr) g) bytes cells (all_cells_by_texts g c.map (text_place c.map (c.new Str) (c.new LineStr) g) rs ++ more_cells) s l p q r w reads.0
    (record { table = can.0.table; header = can.0.header }) moves can.0.defined (stands-first bytes t (all_lines rest) q st) own here_cells over clear.0 in
    let more = lines-moved c g bytes cells more_cells (texts_after c.map ts (texts_mentions g InStr xs)) (texts_after c.map us (texts_mentions g InLineStr xs)) ms ns
    r.header.end e (q + length t) rs w both reads.1 can.1
    (behind_piece c ts us (texts_mentions g InStr xs) (texts_mentions g InLineStr xs) (all_texts_mentions g InStr rs ++ ms) (all_texts_mentions g InLineStr rs ++ ns) here)
    (stands-next bytes t (all_lines rest) q st) own behind_cells (over-if g cells (q + length t) e r.header.end rs clear.1 reads.1 one.over) clear.1 takes.1 in
    let k : LineSource = edited_with g bytes cells s l in
    let end : q + length t + length (all_lines rest) ≡ q + length (t ++ all_lines rest) = omega (arith, length-append t (all_lines rest)) in
    record {
      readings = one.reading ∷ more.readings;
      are = (
        one.reads,
        subst (λ (i : ℕ). TablesTo k i more.readings (q + length (t ++ all_lines rest))) (sym one.ends)
            (subst (TablesTo k (q + length t) more.readings) end more.are),
      );
      starts = ap (λ (i : ℕ). i ∷ table_starts more.readings) one.begins ∙ ap (λ (is_ : List ℕ). q ∷ is_) more.starts;
      says = ap (λ (x : LineMeaning). x ∷ line_meanings k more.readings) one.says ∙ ap (λ (ys : List LineMeaning). mapped_line c.map (line_meaning g r) ∷ ys) more.says;
      mentions = λ table.
          ap (λ (ys : List Mention). ys ++ all_texts_mentions k table more.readings) (one.mentions.are table)
          ∙ ap (λ (ys : List Mention). all_after c.map (texts_mentions g table (table_read g r).texts) ++ ys) (more.mentions table)
          ∙ sym (after-append c.map (texts_mentions g table (table_read g r).texts) (all_texts_mentions g table rs));
      some = (written-some g c.map c r, more.some);
      count = ap suc more.count;
      clear = (one.clear, more.clear);
      tails = (one.tail, more.tails);
    }

-- where there are tables, their section is none of those of texts
abbrev pub TablesApart : LineSource → List LineReading → Type 0
TablesApart g [] = ⊤
TablesApart g (r ∷ rs) = (g.number ≢ g.str.number) × (g.number ≢ g.line_str.number)

-- what a section of tables alone holds stands in it from its start on
whole-stands : (bs : List ℕ) → StandsAt bs bs 0
whole-stands bs = record { behind = []; is = sym (append-nil bs); inside = omega arith }

zero-plus : (n : ℕ) → 0 + n ≡ n
zero-plus n = omega arith

-- a section of no bytes has no tables
pub some-bytes : (g : LineSource) (p : ℕ) (r : LineReading) → ReadsTable g p r → p < r.header.end × (r.header.end ≤ length g.bytes)
some-bytes g p r reads =
    let x = header-is g.order g.bytes p r.header reads.header in
    let within = x.within in
    let end = x.end_is in
    let four = length-size g.order g.bytes p r.header.width x.count x.size x.length_is in
    let some = some-size r.header.width in
    (omega (arith, within, end, four, some), omega (arith, within, end))

pub no-tables : (g : LineSource) (rs : List LineReading) → g.bytes ≡ [] → TablesTo g 0 rs (length g.bytes) → rs ≡ []
no-tables g [] none reads = refl
no-tables g (r ∷ rs) none reads =
    let some = some-bytes g 0 r reads.0 in
    let below = some.0 in
    let within = some.1 in
    let size : length g.bytes ≡ 0 = ap length none in
    absurd (omega (arith, below, within, size))

-- the new section
pub section-moved : (c : TableChanges) (g : LineSource) (ts us : List (List ℕ)) (ms ns : List Mention) (rs : List LineReading) → g.is_read ≡ true → bytes_of g.cells ≡ g.bytes
    → EachClear g rs → AllTake g (text_place c.map (c.new Str) (c.new LineStr) g) rs → BothMove c → TablesApart g rs → ((at : ℕ) → ends_in g.line_str.bytes at ≡ true → g.line_str.number ≢ g.str.number) → TablesTo g 0 rs (length g.bytes) → EachCan g c.map c rs
    → TextsAre c ts us (all_texts_mentions g InStr rs ++ ms) (all_texts_mentions g InLineStr rs ++ ns)
    → LinesMoved g (edited_with g (all_lines (tables_by_texts c.map (c.new Str) (c.new LineStr) g rs)) (all_cells_by_texts g c.map (text_place c.map (c.new Str) (c.new LineStr) g) rs)
    (laid_texts (c.new Str)) (laid_texts (c.new LineStr))) c.map 0 (length (all_lines (tables_by_texts c.map (c.new Str) (c.new LineStr) g rs)))
    (tables_by_texts c.map (c.new Str) (c.new LineStr) g rs) rs
section-moved c g ts us ms ns [] read own clear takes both apart tables reads can all =
    record { readings = []; are = refl; starts = refl; says = refl; mentions = λ table. refl; some = tt; count = refl; clear = tt; tails = tt }
section-moved c g ts us ms ns (r ∷ rs) read own clear takes both apart tables reads can all =
    subst (λ (e : ℕ). LinesMoved g (edited_with g (all_lines (tables_by_texts c.map (c.new Str) (c.new LineStr) g (r ∷ rs))) (all_cells_by_texts g c.map (text_place c.map (c.new Str) (c.new LineStr) g) (r ∷ rs))
    (laid_texts (c.new Str)) (laid_texts (c.new LineStr))) c.map 0 e (tables_by_texts c.map (c.new Str) (c.new LineStr) g (r ∷ rs)) (r ∷ rs))
    (zero-plus (length (all_lines (tables_by_texts c.map (c.new Str) (c.new LineStr) g (r ∷ rs)))))
    (lines-moved c g (all_lines (tables_by_texts c.map (c.new Str) (c.new LineStr) g (r ∷ rs))) (all_cells_by_texts g c.map (text_place c.map (c.new Str) (c.new LineStr) g) (r ∷ rs)) [] ts us ms ns 0 (length g.bytes) 0 (r ∷ rs)
    (record { map = both.map; read = read; own = own; apart_str = apart.0; apart_line = apart.1; tables = tables }) both reads can all
    (whole-stands (all_lines (tables_by_texts c.map (c.new Str) (c.new LineStr) g (r ∷ rs)))) (text_tables-bytes c g (r ∷ rs) own)
    (sym (append-nil (all_cells_by_texts g c.map (text_place c.map (c.new Str) (c.new LineStr) g) (r ∷ rs)))) (over-start (all_cells_by_texts g c.map (text_place c.map (c.new Str) (c.new LineStr) g) (r ∷ rs))) clear takes)
