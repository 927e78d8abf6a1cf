-- Laws of the runs and offsets of a table: between its lengths, up to the last text, and behind it; they are those of its stretches.
use Rattle.std.proofs.Common.{◌≡◌, ℕ, ◌+◌, ◌-◌, ◌<◌, ◌≤◌, ◌^◌, List, [], ◌∷◌, ◌++◌, length, Option, refl, sym, ap, ◌∙◌, subst, arith, append_assoc}
use Rattle.std.proofs.lemmas.List.{append-nil}
use Rattle.dw_base.specs.Cells.{Cell, bytes_of}
use Rattle.dw_base.specs.Forms.{width_size}
use Rattle.dw_base.specs.LineReadings.{LineReading, ReadsTable, table_read}
use Rattle.dw_base.specs.LineSources.{LineSource}
use Rattle.dw_base.specs.LineTables.{LineTable, table_with}
use Rattle.dw_base.specs.Numbers.{number_bytes}
use Rattle.dw_base.specs.Paths.{PathMap}
use Rattle.dw_base.specs.TextLineChanges.{table_by_texts}
use Rattle.dw_base.specs.WrittenLines.{behind_lengths, header_length_place, length_bytes, length_size}
use Rattle.dw_base.specs.declared.line_tables.FilePlace.{FilePlace}
use Rattle.dw_base.specs.declared.line_tables.LineHeader.{LineHeader}
use Rattle.dw_base.specs.declared.line_tables.LineText.{LineText}
use Rattle.dw_base.specs.declared.line_tables.TextPlace.{TextPlace}
use Rattle.dw_base.proofs.NumberLaws.{length-number_bytes}
use Rattle.dw_base.proofs.UnitEditLaws.{length-bytes_of}
use Rattle.dw_meaning.specs.LineCells.{rest_cells}
use Rattle.dw_meaning.specs.LineStretches.{PlacedStretch, Stretch, kept_stretch, other_stretch, stretch_size, stretches_between, stretches_end}
use Rattle.dw_meaning.specs.TextLineCells.{cells_by_texts, table_cells_by_texts, table_stretches_by_texts, texts_stretches}
use Rattle.dw_meaning.proofs.LineClearLaws.{TableClear}
use Rattle.dw_meaning.proofs.LineHeaderLaws.{header-is, length-place}
use Rattle.dw_meaning.proofs.LineLaidLaws.{length-bytes}
use Rattle.dw_meaning.proofs.LineStretchLaws.{Placed, TextsApart}
use Rattle.dw_meaning.proofs.TextCellLaws.{text_table-bytes}
use Rattle.dw_meaning.proofs.TextStretchLaws.{text_table-are, texts-placed}
use Rattle.elf_relocs.specs.declared.runs.Run.{Run}
use Rattle.dw_lines.specs.TableMoves.{InOrder, TextsInOrder, behind_placed, header_runs, header_start, kept_run, new_end, offsets_from, passed, passed_runs, placed_offsets, placed_runs, runs_from, stretch_new, stretch_offset, stretch_run}
use Rattle.dw_lines.proofs.MoveLaws.{new-append, new-length, offsets-append, runs-append}
use Rattle.dw_lines.proofs.PathMoveLaws.{order-end, passed-behind, runs-appended}
use Rattle.dw_lines.specs.declared.moves.NewFieldOffset.{NewFieldOffset}

pub ruleset last_laws = (runs-appended)

-- what stands between texts is kept, so the stretches up to a place are what was passed and the rest
between-runs : (s : Run) (end : ℕ) (cs : List PlacedStretch) → InOrder s.old end cs
    → runs_from s.old s.new (stretches_between s.old end cs) ≡ passed_runs s cs ++ kept_run (passed s cs).old (passed s cs).new (end - (passed s cs).old)
between-runs s end [] h = append-nil (kept_run s.old s.new (end - s.old))
between-runs s end (c ∷ cs) h =
    let here = h.0 in
    let at : s.old + (c.at - s.old) ≡ c.at = omega (arith, here) in
    ap (λ (i : ℕ). kept_run s.old s.new (c.at - s.old) ++ (stretch_run i (s.new + (c.at - s.old)) c.stretch
    ++ runs_from (i + stretch_size c.stretch) (s.new + (c.at - s.old) + stretch_new c.stretch) (stretches_between (c.at + stretch_size c.stretch) end cs))) at
    ∙ sym (append_assoc (kept_run s.old s.new (c.at - s.old)) (stretch_run c.at (s.new + (c.at - s.old)) c.stretch)
    (runs_from (c.at + stretch_size c.stretch) (s.new + (c.at - s.old) + stretch_new c.stretch) (stretches_between (c.at + stretch_size c.stretch) end cs)))
    ∙ ap (λ (rs : List Run). placed_runs s c ++ rs) (between-runs (behind_placed s c) end cs h.1)
    ∙ sym (append_assoc (placed_runs s c) (passed_runs (behind_placed s c) cs)
    (kept_run (passed (behind_placed s c) cs).old (passed (behind_placed s c) cs).new (end - (passed (behind_placed s c) cs).old)))

between-offsets : (from end : ℕ) (cs : List PlacedStretch) → InOrder from end cs → offsets_from from (stretches_between from end cs) ≡ placed_offsets cs
between-offsets from end [] h = refl
between-offsets from end (c ∷ cs) h =
    let here = h.0 in
    let at : from + (c.at - from) ≡ c.at = omega (arith, here) in
    ap (λ (i : ℕ). stretch_offset i c.stretch ++ offsets_from (i + stretch_size c.stretch) (stretches_between (c.at + stretch_size c.stretch) end cs)) at
    ∙ ap (λ (fs : List NewFieldOffset). stretch_offset c.at c.stretch ++ fs) (between-offsets (c.at + stretch_size c.stretch) end cs h.1)

between-new : (s : Run) (end : ℕ) (cs : List PlacedStretch) → new_end s.new (stretches_between s.old end cs) ≡ (passed s cs).new + (end - (passed s cs).old)
between-new s end [] = refl
between-new s end (c ∷ cs) = between-new (behind_placed s c) end cs

between-end : (from end : ℕ) (cs : List PlacedStretch) → InOrder from end cs → stretches_end from (stretches_between from end cs) ≡ end
between-end from end [] h = omega (arith, h)
between-end from end (c ∷ cs) h =
    let here = h.0 in
    let at : from + (c.at - from) ≡ c.at = omega (arith, here) in
    ap (λ (i : ℕ). stretches_end (i + stretch_size c.stretch) (stretches_between (c.at + stretch_size c.stretch) end cs)) at
    ∙ between-end (c.at + stretch_size c.stretch) end cs h.1

-- a table of such parts
abbrev parts_of : ℕ → ℕ → ℕ → ℕ → ℕ → ℕ → List ℕ → List ℕ → List PlacedStretch → List Stretch
parts_of start n number w program end lb nb cs =
    other_stretch n lb ∷ kept_stretch (number - (start + n)) ∷ other_stretch w nb ∷ (stretches_between (number + w) program cs ++ kept_stretch (end - program) ∷ [])

abbrev first_of : ℕ → ℕ → ℕ → ℕ → Run
first_of start number w new = record { old = number + w; new = new + (number + w - start) }

first-new : (start n number w new : ℕ) (lb nb : List ℕ) → length lb ≡ n → length nb ≡ w → start + n ≤ number
    → new + length lb + (number - (start + n)) + length nb ≡ new + (number + w - start)
first-new start n number w new lb nb a b le = omega (arith, a, b, le)

parts-runs : (start n number w program end new : ℕ) (lb nb : List ℕ) (cs : List PlacedStretch) → length lb ≡ n → length nb ≡ w → start + n ≤ number → InOrder (number + w) program cs
    → runs_from start new (parts_of start n number w program end lb nb cs)
    ≡ kept_run (start + n) (new + n) (number - (start + n))
    ++ (passed_runs (first_of start number w new) cs
    ++ (kept_run (passed (first_of start number w new) cs).old (passed (first_of start number w new) cs).new (program - (passed (first_of start number w new) cs).old)
    ++ kept_run program ((passed (first_of start number w new) cs).new + (program - (passed (first_of start number w new) cs).old)) (end - program)))
parts-runs start n number w program end new lb nb cs a b le order =
    ap (λ (k : ℕ). kept_run (start + n) (new + k) (number - (start + n))
    ++ runs_from (start + n + (number - (start + n)) + w) (new + length lb + (number - (start + n)) + length nb) (stretches_between (number + w) program cs ++ kept_stretch (end - program) ∷ [])) a
    ∙ ap (λ (rs : List Run). kept_run (start + n) (new + n) (number - (start + n)) ++ rs)
    (ap (λ (i : ℕ). runs_from (i + w) (new + length lb + (number - (start + n)) + length nb) (stretches_between (number + w) program cs ++ kept_stretch (end - program) ∷ [])) at
    ∙ ap (λ (j : ℕ). runs_from (number + w) j (stretches_between (number + w) program cs ++ kept_stretch (end - program) ∷ [])) (first-new start n number w new lb nb a b le)
    ∙ rest (first_of start number w new) order)
  where
    at : start + n + (number - (start + n)) ≡ number
    at = omega (arith, le)

    rest : (s : Run) → InOrder s.old program cs → runs_from s.old s.new (stretches_between s.old program cs ++ kept_stretch (end - program) ∷ [])
        ≡ passed_runs s cs ++ (kept_run (passed s cs).old (passed s cs).new (program - (passed s cs).old)
        ++ kept_run program ((passed s cs).new + (program - (passed s cs).old)) (end - program))
    rest s h =
        runs-append s.old s.new (stretches_between s.old program cs) (kept_stretch (end - program) ∷ [])
        ∙ ap (λ (rs : List Run). rs ++ runs_from (stretches_end s.old (stretches_between s.old program cs)) (new_end s.new (stretches_between s.old program cs)) (kept_stretch (end - program) ∷ []))
        (between-runs s program cs h)
        ∙ append_assoc (passed_runs s cs) (kept_run (passed s cs).old (passed s cs).new (program - (passed s cs).old))
        (runs_from (stretches_end s.old (stretches_between s.old program cs)) (new_end s.new (stretches_between s.old program cs)) (kept_stretch (end - program) ∷ []))
        ∙ ap (λ (rs : List Run). passed_runs s cs ++ (kept_run (passed s cs).old (passed s cs).new (program - (passed s cs).old) ++ rs))
        (ap (λ (i : ℕ). runs_from i (new_end s.new (stretches_between s.old program cs)) (kept_stretch (end - program) ∷ [])) (between-end s.old program cs h)
        ∙ ap (λ (j : ℕ). runs_from program j (kept_stretch (end - program) ∷ [])) (between-new s program cs)
        ∙ append-nil (kept_run program ((passed s cs).new + (program - (passed s cs).old)) (end - program)))

parts-offsets : (start n number w program end : ℕ) (lb nb : List ℕ) (cs : List PlacedStretch) → start + n ≤ number → InOrder (number + w) program cs
    → offsets_from start (parts_of start n number w program end lb nb cs) ≡ placed_offsets cs
parts-offsets start n number w program end lb nb cs le order =
    let at : start + n + (number - (start + n)) ≡ number = omega (arith, le) in
    ap (λ (i : ℕ). offsets_from (i + w) (stretches_between (number + w) program cs ++ kept_stretch (end - program) ∷ [])) at
    ∙ offsets-append (number + w) (stretches_between (number + w) program cs) (kept_stretch (end - program) ∷ [])
    ∙ append-nil (offsets_from (number + w) (stretches_between (number + w) program cs))
    ∙ between-offsets (number + w) program cs order

parts-new : (start n number w program end new : ℕ) (lb nb : List ℕ) (cs : List PlacedStretch) → length lb ≡ n → length nb ≡ w → start + n ≤ number
    → new_end new (parts_of start n number w program end lb nb cs)
    ≡ (passed (first_of start number w new) cs).new + (program - (passed (first_of start number w new) cs).old) + (end - program)
parts-new start n number w program end new lb nb cs a b le =
    ap (λ (j : ℕ). new_end j (stretches_between (number + w) program cs ++ kept_stretch (end - program) ∷ [])) (first-new start n number w new lb nb a b le)
    ∙ new-append (new + (number + w - start)) (stretches_between (number + w) program cs) (kept_stretch (end - program) ∷ [])
    ∙ ap (λ (j : ℕ). j + (end - program)) (between-new (first_of start number w new) program cs)

-- so it is with the table of a header
number-behind : (h : LineHeader) → h.start + length_size h.width ≤ header_length_place h.start h.width h.version
number-behind h =
    let place = length-place h.version (h.start + length_size h.width) in
    omega (arith, place)

header-runs : (g : LineSource) (m : PathMap) (places : LineText → Option ℕ) (h : LineHeader) (dirs : List TextPlace) (files defined : List FilePlace) (new : ℕ)
    → TextsInOrder g m places (table_with g h dirs files defined)
    → runs_from h.start new (table_stretches_by_texts g m places (table_with g h dirs files defined))
    ≡ header_runs h new (texts_stretches g m places h.width (table_with g h dirs files defined).texts)
unfolding table_stretches_by_texts
header-runs g m places h dirs files defined new order =
    parts-runs h.start (length_size h.width) (header_length_place h.start h.width h.version) (width_size h.width) h.program h.end new
    (length_bytes g.order h.width (length (rest_cells g (table_with g h dirs files defined) (cells_by_texts g m places (table_with g h dirs files defined)))))
    (number_bytes g.order (width_size h.width) (length (cells_by_texts g m places (table_with g h dirs files defined))))
    (texts_stretches g m places h.width (table_with g h dirs files defined).texts)
    (length-bytes g.order h.width (length (rest_cells g (table_with g h dirs files defined) (cells_by_texts g m places (table_with g h dirs files defined)))))
    (length-number_bytes g.order (width_size h.width) (length (cells_by_texts g m places (table_with g h dirs files defined)))) (number-behind h) order

header-offsets : (g : LineSource) (m : PathMap) (places : LineText → Option ℕ) (h : LineHeader) (dirs : List TextPlace) (files defined : List FilePlace)
    → TextsInOrder g m places (table_with g h dirs files defined)
    → offsets_from h.start (table_stretches_by_texts g m places (table_with g h dirs files defined)) ≡ placed_offsets (texts_stretches g m places h.width (table_with g h dirs files defined).texts)
unfolding table_stretches_by_texts
header-offsets g m places h dirs files defined order =
    parts-offsets h.start (length_size h.width) (header_length_place h.start h.width h.version) (width_size h.width) h.program h.end
    (length_bytes g.order h.width (length (rest_cells g (table_with g h dirs files defined) (cells_by_texts g m places (table_with g h dirs files defined)))))
    (number_bytes g.order (width_size h.width) (length (cells_by_texts g m places (table_with g h dirs files defined))))
    (texts_stretches g m places h.width (table_with g h dirs files defined).texts) (number-behind h) order

header-new : (g : LineSource) (m : PathMap) (places : LineText → Option ℕ) (h : LineHeader) (dirs : List TextPlace) (files defined : List FilePlace) (new : ℕ)
    → (passed (header_start h new) (texts_stretches g m places h.width (table_with g h dirs files defined).texts)).new
    ≤ new_end new (table_stretches_by_texts g m places (table_with g h dirs files defined))
unfolding table_stretches_by_texts
header-new g m places h dirs files defined new =
    let is = parts-new h.start (length_size h.width) (header_length_place h.start h.width h.version) (width_size h.width) h.program h.end new
    (length_bytes g.order h.width (length (rest_cells g (table_with g h dirs files defined) (cells_by_texts g m places (table_with g h dirs files defined)))))
    (number_bytes g.order (width_size h.width) (length (cells_by_texts g m places (table_with g h dirs files defined))))
    (texts_stretches g m places h.width (table_with g h dirs files defined).texts)
    (length-bytes g.order h.width (length (rest_cells g (table_with g h dirs files defined) (cells_by_texts g m places (table_with g h dirs files defined)))))
    (length-number_bytes g.order (width_size h.width) (length (cells_by_texts g m places (table_with g h dirs files defined)))) (number-behind h) in
    subst (λ (e : ℕ). (passed (header_start h new) (texts_stretches g m places h.width (table_with g h dirs files defined).texts)).new ≤ e) (sym is) (omega arith)

-- and of one that was read
pub table-runs : (g : LineSource) (m : PathMap) (places : LineText → Option ℕ) (h : LineHeader) (dirs : List TextPlace) (files : List FilePlace) (t : LineTable) (xs : List LineText) (new : ℕ)
    (runs more : List Run) → t ≡ table_with g h dirs files t.defined → xs ≡ t.texts → TextsInOrder g m places t
    → more ≡ runs ++ header_runs h new (texts_stretches g m places h.width xs) → more ≡ runs ++ runs_from t.start new (table_stretches_by_texts g m places t)
table-runs g m places h dirs files t xs new runs more e p order is =
    is ∙ ap (λ (rs : List Run). runs ++ rs)
    (ap (λ (ys : List LineText). header_runs h new (texts_stretches g m places h.width ys)) (p ∙ ap (λ (x : LineTable). x.texts) e)
    ∙ sym (header-runs g m places h dirs files t.defined new (subst (TextsInOrder g m places) e order))
    ∙ ap (λ (x : LineTable). runs_from x.start new (table_stretches_by_texts g m places x)) (sym e))

pub table-offsets : (g : LineSource) (m : PathMap) (places : LineText → Option ℕ) (h : LineHeader) (dirs : List TextPlace) (files : List FilePlace) (t : LineTable) (xs : List LineText)
    (offsets more : List NewFieldOffset) → t ≡ table_with g h dirs files t.defined → xs ≡ t.texts → TextsInOrder g m places t
    → more ≡ offsets ++ placed_offsets (texts_stretches g m places h.width xs) → more ≡ offsets ++ offsets_from t.start (table_stretches_by_texts g m places t)
table-offsets g m places h dirs files t xs offsets more e p order is =
    is ∙ ap (λ (fs : List NewFieldOffset). offsets ++ fs)
    (ap (λ (ys : List LineText). placed_offsets (texts_stretches g m places h.width ys)) (p ∙ ap (λ (x : LineTable). x.texts) e)
    ∙ sym (header-offsets g m places h dirs files t.defined (subst (TextsInOrder g m places) e order))
    ∙ ap (λ (x : LineTable). offsets_from x.start (table_stretches_by_texts g m places x)) (sym e))

pub table-order : (g : LineSource) (m : PathMap) (places : LineText → Option ℕ) (h : LineHeader) (dirs : List TextPlace) (files : List FilePlace) (t : LineTable) (xs : List LineText)
    → t ≡ table_with g h dirs files t.defined → xs ≡ t.texts → TextsInOrder g m places t
    → InOrder (behind_lengths h.start h.width h.version) h.program (texts_stretches g m places h.width xs)
table-order g m places h dirs files t xs e p order =
    subst (λ (ys : List LineText). InOrder (behind_lengths h.start h.width h.version) h.program (texts_stretches g m places h.width ys)) (sym (p ∙ ap (λ (x : LineTable). x.texts) e)) (subst (TextsInOrder g m places) e order)

pub table-fits : (g : LineSource) (m : PathMap) (places : LineText → Option ℕ) (h : LineHeader) (dirs : List TextPlace) (files : List FilePlace) (t : LineTable) (xs : List LineText) (new : ℕ)
    → t ≡ table_with g h dirs files t.defined → xs ≡ t.texts → h.program ≤ 2 ^ 31 → new_end new (table_stretches_by_texts g m places t) < 2 ^ 63
    → (passed (header_start h new) (texts_stretches g m places h.width xs)).new + h.program < 2 ^ 64
table-fits g m places h dirs files t xs new e p small fits =
    let last = header-new g m places h dirs files t.defined new in
    let same : new_end new (table_stretches_by_texts g m places t) ≡ new_end new (table_stretches_by_texts g m places (table_with g h dirs files t.defined)) =
    ap (λ (x : LineTable). new_end new (table_stretches_by_texts g m places x)) e in
    subst (λ (ys : List LineText). (passed (header_start h new) (texts_stretches g m places h.width ys)).new + h.program < 2 ^ 64) (sym (p ∙ ap (λ (x : LineTable). x.texts) e)) (omega (arith, last, same, small, fits))

pub ruleset table_laws = (table-runs, table-offsets, table-order, table-fits)

-- texts of a table whose header is clear stand in their order
placed-order : (cells : List Cell) (end from : ℕ) (cs : List PlacedStretch) → Placed cells end from cs → InOrder from end cs
placed-order cells end from [] h = h
placed-order cells end from (c ∷ cs) h = (h.0, placed-order cells end (c.at + stretch_size c.stretch) cs h.2)

pub clear-order : (g : LineSource) (m : PathMap) (places : LineText → Option ℕ) (p : ℕ) (r : LineReading) → TextsApart g → TableClear g r → ReadsTable g p r
    → TextsInOrder g m places (table_read g r)
clear-order g m places p r apart clear reads =
    placed-order g.cells r.header.program (behind_lengths r.header.start r.header.width r.header.version)
    (texts_stretches g m places r.header.width (table_read g r).texts) (texts-placed g m places p r apart clear reads)

-- the new table ends where its bytes do
pub table-end : (g : LineSource) (m : PathMap) (places : LineText → Option ℕ) (p new : ℕ) (r : LineReading) → bytes_of g.cells ≡ g.bytes → TextsApart g → TableClear g r → ReadsTable g p r
    → new_end new (table_stretches_by_texts g m places (table_read g r)) ≡ new + length (table_by_texts g m places (table_read g r))
table-end g m places p new r own apart clear reads =
    let s = text_table-are g m places p r own apart clear reads in
    let x = header-is g.order g.bytes p r.header reads.header in
    let within = x.within in
    let end = x.end_is in
    let ends = s.ends in
    let size : length g.bytes ≡ length g.cells = sym (ap length own) ∙ length-bytes_of g.cells in
    new-length g.order g.cells r.header.start new (table_stretches_by_texts g m places (table_read g r)) (omega (arith, ends, within, end, size))
    ∙ ap (λ (cs : List Cell). new + length cs) s.cells
    ∙ ap (λ (n : ℕ). new + n) (sym (length-bytes_of (table_cells_by_texts g m places (table_read g r))) ∙ ap length (text_table-bytes g m places (table_read g r) own))

-- the parts of a header's table
pub order-further : (from end far : ℕ) (cs : List PlacedStretch) → end ≤ far → InOrder from end cs → InOrder from far cs
order-further from end far [] le h = omega (arith, le, h)
order-further from end far (c ∷ cs) le h = (h.0, order-further (c.at + stretch_size c.stretch) end far cs le h.1)

pub runs-three : (a b c d p q r : List Run) → b ≡ a ++ p → c ≡ b ++ q → d ≡ c ++ r → d ≡ a ++ (p ++ (q ++ r))
runs-three a b c d p q r e f g =
    g ∙ ap (λ (xs : List Run). xs ++ r) (f ∙ ap (λ (xs : List Run). xs ++ q) e)
    ∙ append_assoc (a ++ p) q r ∙ append_assoc a p (q ++ r)

pub ruleset header_laws = (order-further, runs-three, order-end, passed-behind)
