-- The section that holds the relocations of line tables is the one of the file's output, and addends make the offsets that the texts of the
-- tables say, or that of one doesn't.
use Rattle.std.proofs.Common.{Bool, true, false, ◌≡◌, ◌≢◌, ◌⊎◌, inl, inr, ℕ, ◌<◌, ◌==◌, if◌then◌else◌, List, [], ◌∷◌, ◌++◌, length, Option, Some, None, refl, sym, ap, ◌∙◌, subst, arith, append-nil}
use Rattle.dw_base.specs.Cells.{Cell, bytes_of}
use Rattle.dw_base.specs.DebugData.{DataReadings, DebugData, around_of, line_source}
use Rattle.dw_base.specs.DebugSections.{name_of}
use Rattle.dw_base.specs.Elf.{contents_of}
use Rattle.dw_base.specs.FileViews.{View, section_named, view_of}
use Rattle.dw_base.specs.Forms.{width_size}
use Rattle.dw_base.specs.LineReadings.{LineReading, TablesTo, table_read}
use Rattle.dw_base.specs.LineSources.{LineSource}
use Rattle.dw_base.specs.LineTables.{LineTable}
use Rattle.dw_base.specs.Paths.{PathMap}
use Rattle.dw_base.specs.Refusals.{at}
use Rattle.dw_base.specs.RelocationBodies.{relocation_body}
use Rattle.dw_base.specs.RelocationFields.{relocation_at}
use Rattle.dw_base.specs.RelocationRows.{moving_sections}
use Rattle.dw_base.specs.RelocationSectionFails.{RelocationSectionsRead}
use Rattle.dw_base.specs.SectionRelocations.{RelocationSource, cells_from, relocation_section, relocation_source, relocations_in}
use Rattle.dw_base.specs.StringTables.{TextTable}
use Rattle.dw_base.specs.ViewData.{debug_data, located}
use Rattle.dw_base.specs.declared.debug_sections.DebugSection.TheVariants.{StrOffsets, Line}
use Rattle.dw_base.specs.declared.fault.Kind.TheVariants.{TooWide}
use Rattle.dw_base.specs.declared.fault.Refusal.{Refusal}
use Rattle.dw_base.specs.declared.line_tables.LineText.{LineText}
use Rattle.dw_base.specs.declared.shared.Width.{Width}
use Rattle.dw_base.specs.declared.shared.Width.TheVariants.{W32, W64}
use Rattle.dw_base.specs.declared.texts.TextSection.TheVariants.{InStr, InLineStr}
use Rattle.dw_meaning.specs.DataOutput.{changes_of, table_change}
use Rattle.dw_meaning.specs.FileMeanings.{file_data}
use Rattle.dw_meaning.specs.LineCells.{CellChange, changed_cells, inline_cells, offset_cells}
use Rattle.dw_meaning.specs.LineStretches.{inline_stretch, offset_stretches, stretches_end}
use Rattle.dw_meaning.specs.NewAddends.{AddendsFail, EachTextMakes, EachTextsMake, MakesPath, Misses, in_lines, place_of, places_by}
use Rattle.dw_meaning.specs.RelocatedBodies.{new_cells, new_contents, old_contents, relocated_body}
use Rattle.dw_meaning.specs.TextLineCells.{all_cells_by_texts, all_stretches_by_texts, cells_by_texts, table_cells_by_texts, table_stretches_by_texts, text_cells, text_stretches, texts_cells, texts_stretches}
use Rattle.dw_meaning.proofs.CellKeptLaws.{cells-lines}
use Rattle.dw_meaning.proofs.FileKeptLaws.{differ, name-apart, offsets-number, offsets-place}
use Rattle.dw_meaning.proofs.LineClearLaws.{EachClear}
use Rattle.dw_meaning.proofs.LineHeaderLaws.{header-is}
use Rattle.dw_meaning.proofs.LineSectionLaws.{TablesApart}
use Rattle.dw_meaning.proofs.LineShiftLaws.{left-clear}
use Rattle.dw_meaning.proofs.LineStretchLaws.{texts-apart}
use Rattle.dw_meaning.proofs.TextStretchLaws.{text_table-are}
use Rattle.dw_meaning.proofs.LineTableLaws.{header-places}
use Rattle.dw_meaning.proofs.OutputCellLaws.{holds-of}
use Rattle.dw_meaning.proofs.TableKeptLaws.{FoundAt}
use Rattle.dw_meaning.proofs.TableMoveLaws.{reads-apart, section-source}
use Rattle.dw_patch.specs.RecordMoves.{moved_table}
use Rattle.dw_lines.specs.NewTexts.{text_known}
use Rattle.dw_lines.specs.TableMoves.{offsets_from, placed_offsets, runs_from}
use Rattle.dw_lines.specs.ViewTables.{tables_read}
use Rattle.dw_lines.proofs.MoveLaws.{offsets-append}
use Rattle.dw_lines.proofs.PathMoveLaws.{offsets-append as placed-append}
use Rattle.dw_lines.proofs.ReadingLaws.{source-is}
use Rattle.dw_lines.proofs.TableRunLaws.{clear-order, table-offsets}
use Rattle.dw_read.specs.AllFields.{Fields, all_of}
use Rattle.dw_read.specs.FoundPaths.{PathsFound}
use Rattle.dw_lines.specs.declared.moves.NewFieldOffset.{NewFieldOffset}
use Rattle.dw_rewrite.specs.Bodies.{held_bodies, held_body, lines_numbers}
use Rattle.dw_rewrite.specs.LineOffsets.{OffsetMisses, OffsetsMake, held_lines, line_offsets, line_record, line_runs, said_fields}
use Rattle.dw_rewrite.specs.NewTables.{TableMade}
use Rattle.dw_rewrite.proofs.LineKnownLaws.{EachAgree, TablesAgree}
use Rattle.dw_rewrite.proofs.LineMoveLaws.{apart-behind, file-apart}
use Rattle.dw_rewrite.proofs.LineOffsetLaws.{make-parts}
use Rattle.dw_rewrite.proofs.LineRecordLaws.{line-cells, line-found, line-tables}
use Rattle.dw_rewrite.proofs.LineRunLaws.{lines-table, stretches-read}
use Rattle.dw_rewrite.proofs.MadeBodyLaws.{lines-agree}

-- new places that agree where texts stand elsewhere make the same tables, as cells
one-cells : (g : LineSource) (m : PathMap) (p q : LineText → Option ℕ) (w : Width) (x : LineText) → ((x.place.section == g.number) ≡ false → p x ≡ q x)
    → text_cells g m p w x ≡ text_cells g m q w x
one-cells g m p q w x a = by_path x.path (x.place.section == g.number) refl a
  where
    by_path : (b t : Bool) → (x.place.section == g.number) ≡ t
        → ((x.place.section == g.number) ≡ false → p (record { place = x.place; path = b }) ≡ q (record { place = x.place; path = b }))
        → (if b then (if t then inline_cells m g.cells x.place ∷ [] else offset_cells g.order w g.cells x.place.field (p (record { place = x.place; path = true })))
        else (if t then [] else offset_cells g.order w g.cells x.place.field (p (record { place = x.place; path = b }))))
        ≡ (if b then (if t then inline_cells m g.cells x.place ∷ [] else offset_cells g.order w g.cells x.place.field (q (record { place = x.place; path = true })))
        else (if t then [] else offset_cells g.order w g.cells x.place.field (q (record { place = x.place; path = b }))))
    by_path true true e a = refl
    by_path true false e a = ap (offset_cells g.order w g.cells x.place.field) (a e)
    by_path false true e a = refl
    by_path false false e a = ap (offset_cells g.order w g.cells x.place.field) (a e)

changes-same : (g : LineSource) (m : PathMap) (p q : LineText → Option ℕ) (w : Width) (xs : List LineText) → EachAgree g p q xs → texts_cells g m p w xs ≡ texts_cells g m q w xs
changes-same g m p q w [] a = refl
changes-same g m p q w (x ∷ xs) a =
    ap (λ (cs : List CellChange). cs ++ texts_cells g m p w xs) (one-cells g m p q w x a.0) ∙ ap (λ (cs : List CellChange). text_cells g m q w x ++ cs) (changes-same g m p q w xs a.1)

header-same : (g : LineSource) (m : PathMap) (p q : LineText → Option ℕ) (t : LineTable) → EachAgree g p q t.texts → cells_by_texts g m p t ≡ cells_by_texts g m q t
unfolding cells_by_texts
header-same g m p q t a = ap (changed_cells g.cells _ t.program) (changes-same g m p q t.width t.texts a)

table-same : (g : LineSource) (m : PathMap) (p q : LineText → Option ℕ) (t : LineTable) → EachAgree g p q t.texts → table_cells_by_texts g m p t ≡ table_cells_by_texts g m q t
unfolding table_cells_by_texts
table-same g m p q t a = rw (header-same g m p q t a) refl

all-same : (g : LineSource) (m : PathMap) (p q : LineText → Option ℕ) (rs : List LineReading) → TablesAgree g p q rs → all_cells_by_texts g m p rs ≡ all_cells_by_texts g m q rs
all-same g m p q [] a = refl
all-same g m p q (r ∷ rs) a =
    ap (λ (cs : List Cell). cs ++ all_cells_by_texts g m p rs) (table-same g m p q (table_read g r) a.0)
    ∙ ap (λ (cs : List Cell). table_cells_by_texts g m q (table_read g r) ++ cs) (all-same g m p q rs a.1)

-- the new contents of the section of line tables
line-contents : (m : PathMap) (b : List ℕ) (r : DataReadings) (i : ℕ) → section_named (view_of b) (name_of Line) ≡ Some i
    → new_contents b (new_cells m (file_data b) r) i
    ≡ all_cells_by_texts (line_source (file_data b)) m (places_by (changes_of m (around_of (file_data b) r) r) (file_data b)) r.lines
unfolding new_cells
line-contents m b r i e =
    cells-lines (changes_of m (around_of (file_data b) r) r) (file_data b) (around_of (file_data b) r) r (old_contents b i) i number
    (subst (λ (n : ℕ). i ≢ n) (sym (offsets-number b))
    (name-apart b (name_of StrOffsets) (located (view_of b) StrOffsets) i (offsets-place b) above (λ same. no (differ Line StrOffsets (sym f.named ∙ same)))))
  where
    f : FoundAt b (name_of Line) 1 i
    f = line-found b i e

    above : 0 < i
    above = let from = f.from in omega arith

    number : ((file_data b).found Line).number ≡ i
    number = ap (λ (s : LineSource). s.number) (source-is (view_of b) i (sym e))

    no : Some Line ≡ Some StrOffsets → ⊥
    no e = cc

-- so the records are those of the output
held-is : (m : PathMap) (b : List ℕ) (us : Fields) (ts : List LineTable) (ps pl : TextTable) (ks kl : Bool → ℕ → Option ℕ) (i k : ℕ) → RelocationSectionsRead (contents_of b) b
    → (f : PathsFound m (view_of b) us ts) → TableMade m (view_of b) InStr (all_of us) ps ks → TableMade m (view_of b) InLineStr (all_of us) pl kl → section_named (view_of b) (name_of Line) ≡ Some i
    → relocation_section b i ≡ Some k
    → moved_table (relocation_source (contents_of b) b k) (line_runs m (line_source (file_data b)) ks kl ts) (said_fields (line_offsets m (line_source (file_data b)) ks kl ts))
    ≡ relocated_body b (new_cells m (file_data b) f.readings) k
unfolding relocated_body table_change
held-is m b us ts ps pl ks kl i k relocations f s l e is =
    let g : LineSource = line_source (file_data b) in
    let z : RelocationSource = relocation_source (contents_of b) b k in
    let rs : List LineReading = f.readings.lines in
    let held = holds-of b i k is in
    let own : (line_source (file_data b)).cells ≡ cells_from (relocations_in (relocation_source (contents_of b) b k)) 0 (contents_of b i) =
    ap (λ (x : LineSource). x.cells) (source-is (view_of b) i (sym e)) ∙ line-cells b i k e is in
    let new : all_cells_by_texts g m (text_known g ks kl) rs ≡ new_contents b (new_cells m (file_data b) f.readings) i =
    all-same g m (text_known g ks kl) (places_by (changes_of m (around_of (file_data b) f.readings) f.readings) (file_data b)) rs (lines-agree m (view_of b) us ts ps pl ks kl f s l)
    ∙ sym (line-contents m b f.readings i e) in
    ap (λ (xs : List LineTable). moved_table z (line_runs m g ks kl xs) (said_fields (line_offsets m g ks kl xs))) f.tables
    ∙ ap (λ xs. moved_table z (runs_from 0 0 xs) (said_fields (offsets_from 0 xs))) (stretches-read m g ks kl rs)
    ∙ lines-table z (contents_of b i) g m (text_known g ks kl) rs own (reads-apart (contents_of b) b i k (line-tables b i k e relocations is)) refl (file-apart b rs f.reads.lines)
    (left-clear (file_data b) (moving_sections (view_of b)) rs f.relocations.left f.reads.lines) f.reads.lines
    ∙ ap (λ (cs : List Cell). relocation_body z cs (all_cells_by_texts g m (text_known g ks kl) rs)) (sym (section-source (contents_of b) b i k is))
    ∙ ap (relocation_body z (old_contents b i)) new
    ∙ ap (λ (j : ℕ). relocation_body z (old_contents b j) (new_contents b (new_cells m (file_data b) f.readings) j)) (sym held.info)

pub lines-held : (m : PathMap) (b : List ℕ) (us : Fields) (ts : List LineTable) (ps pl : TextTable) (ks kl : Bool → ℕ → Option ℕ) → RelocationSectionsRead (contents_of b) b
    → (f : PathsFound m (view_of b) us ts) → TableMade m (view_of b) InStr (all_of us) ps ks → TableMade m (view_of b) InLineStr (all_of us) pl kl
    → line_record b m (line_source (file_data b)) ks kl ts (section_named (view_of b) (name_of Line))
    ≡ held_bodies b (new_cells m (file_data b) f.readings) (lines_numbers (section_named (view_of b) (name_of Line)))
lines-held m b us ts ps pl ks kl relocations f s l = by_section (section_named (view_of b) (name_of Line)) refl
  where
    by_holder : (i : ℕ) → section_named (view_of b) (name_of Line) ≡ Some i → (o : Option ℕ) → relocation_section b i ≡ o
        → held_lines b m (line_source (file_data b)) ks kl ts o ≡ held_body b (new_cells m (file_data b) f.readings) o
    by_holder i e None is = refl
    by_holder i e (Some k) is =
        ap (λ (bytes : List ℕ). record { number = k; bytes = bytes } ∷ []) (held-is m b us ts ps pl ks kl i k relocations f s l e is)

    by_section : (o : Option ℕ) → section_named (view_of b) (name_of Line) ≡ o
        → line_record b m (line_source (file_data b)) ks kl ts o ≡ held_bodies b (new_cells m (file_data b) f.readings) (lines_numbers o)
    by_section None e = refl
    by_section (Some i) e =
        by_holder i e (relocation_section b i) refl ∙ sym (append-nil (held_body b (new_cells m (file_data b) f.readings) (relocation_section b i)))

-- the addends make the offsets of a table's texts where they make those of its fields
field-makes : (g : LineSource) (x : LineText) (w : Width) (o : Option ℕ) → OffsetsMake g.cells (placed_offsets (offset_stretches w x.place.field o)) → MakesPath g w x.place o false
field-makes g x w None h = tt
field-makes g x W32 (Some n) h = h.0
field-makes g x W64 (Some n) h = h.0

table-makes : (g : LineSource) (x : LineText) (w : Width) (o : Option ℕ) → MakesPath g w x.place o true
table-makes g x w None = tt
table-makes g x w (Some n) = tt

text-makes : (g : LineSource) (m : PathMap) (p q : LineText → Option ℕ) (w : Width) (x : LineText) → ((x.place.section == g.number) ≡ false → p x ≡ q x)
    → OffsetsMake g.cells (placed_offsets (text_stretches g m p w x)) → MakesPath g w x.place (place_of q x) (x.place.section == g.number)
text-makes g m p q w x same h = by_path x.path (x.place.section == g.number) refl same h
  where
    by_path : (b t : Bool) → (x.place.section == g.number) ≡ t
        → ((x.place.section == g.number) ≡ false → p (record { place = x.place; path = b }) ≡ q (record { place = x.place; path = b }))
        → OffsetsMake g.cells (placed_offsets (if b then (if t then inline_stretch m g.cells x.place ∷ [] else offset_stretches w x.place.field (p (record { place = x.place; path = true })))
        else (if t then [] else offset_stretches w x.place.field (p (record { place = x.place; path = b })))))
        → MakesPath g w x.place (if b then q (record { place = x.place; path = true }) else q (record { place = x.place; path = b })) t
    by_path true true e a h = table-makes g x w (q (record { place = x.place; path = true }))
    by_path true false e a h = subst (λ (o : Option ℕ). MakesPath g w x.place o false) (a e) (field-makes g x w (p (record { place = x.place; path = true })) h)
    by_path false true e a h = table-makes g x w (q (record { place = x.place; path = false }))
    by_path false false e a h = subst (λ (o : Option ℕ). MakesPath g w x.place o false) (a e) (field-makes g x w (p (record { place = x.place; path = false })) h)

texts-make : (g : LineSource) (m : PathMap) (p q : LineText → Option ℕ) (w : Width) (xs : List LineText) → EachAgree g p q xs
    → OffsetsMake g.cells (placed_offsets (texts_stretches g m p w xs)) → EachTextMakes g q w xs
texts-make g m p q w [] a h = tt
texts-make g m p q w (x ∷ xs) a h =
    let parts = make-parts g.cells (placed_offsets (text_stretches g m p w x)) (placed_offsets (texts_stretches g m p w xs))
    (subst (OffsetsMake g.cells) (placed-append (text_stretches g m p w x) (texts_stretches g m p w xs)) h) in
    (text-makes g m p q w x a.0 parts.0, texts-make g m p q w xs a.1 parts.1)

-- the fields of a table, and of those behind it
fields-are : (g : LineSource) (m : PathMap) (p : LineText → Option ℕ) (a : ℕ) (r : LineReading) (rs : List LineReading) → bytes_of g.cells ≡ g.bytes → TablesApart g (r ∷ rs)
    → EachClear g (r ∷ rs) → (e : ℕ) → TablesTo g a (r ∷ rs) e
    → offsets_from a (all_stretches_by_texts g m p (r ∷ rs))
    ≡ placed_offsets (texts_stretches g m p r.header.width (table_read g r).texts) ++ offsets_from r.header.end (all_stretches_by_texts g m p rs)
fields-are g m p a r rs own apart clear e reads =
    let texts = texts-apart g r rs apart in
    let begins : r.header.start ≡ a = (header-places g a r.header (header-is g.order g.bytes a r.header reads.0.header)).0 in
    let are = text_table-are g m p a r own texts clear.0 reads.0 in
    let next : stretches_end a (table_stretches_by_texts g m p (table_read g r)) ≡ r.header.end =
    ap (λ (i : ℕ). stretches_end i (table_stretches_by_texts g m p (table_read g r))) (sym begins) ∙ are.ends in
    let here : placed_offsets (texts_stretches g m p r.header.width (table_read g r).texts) ≡ offsets_from r.header.start (table_stretches_by_texts g m p (table_read g r)) =
    table-offsets g m p r.header r.dirs r.files (table_read g r) (table_read g r).texts [] (placed_offsets (texts_stretches g m p r.header.width (table_read g r).texts))
    refl refl (clear-order g m p a r texts clear.0 reads.0) refl in
    offsets-append a (table_stretches_by_texts g m p (table_read g r)) (all_stretches_by_texts g m p rs)
    ∙ ap (λ (n : ℕ). offsets_from a (table_stretches_by_texts g m p (table_read g r)) ++ offsets_from n (all_stretches_by_texts g m p rs)) next
    ∙ ap (λ (n : ℕ). offsets_from n (table_stretches_by_texts g m p (table_read g r)) ++ offsets_from r.header.end (all_stretches_by_texts g m p rs)) (sym begins)
    ∙ ap (λ (fs : List NewFieldOffset). fs ++ offsets_from r.header.end (all_stretches_by_texts g m p rs)) (sym here)

tables-make : (g : LineSource) (m : PathMap) (p q : LineText → Option ℕ) (a e : ℕ) (rs : List LineReading) → bytes_of g.cells ≡ g.bytes → TablesApart g rs → EachClear g rs
    → TablesTo g a rs e → TablesAgree g p q rs → OffsetsMake g.cells (offsets_from a (all_stretches_by_texts g m p rs)) → EachTextsMake g q rs
tables-make g m p q a e [] own apart clear reads agree h = tt
tables-make g m p q a e (r ∷ rs) own apart clear reads agree h =
    let parts = make-parts g.cells (placed_offsets (texts_stretches g m p r.header.width (table_read g r).texts)) (offsets_from r.header.end (all_stretches_by_texts g m p rs))
    (subst (OffsetsMake g.cells) (fields-are g m p a r rs own apart clear e reads) h) in (
      texts-make g m p q r.header.width (table_read g r).texts agree.0 parts.0,
      tables-make g m p q r.header.end e rs own (apart-behind g r rs apart) clear.1 reads.1 agree.1 parts.1,
    )

known-fields : (m : PathMap) (g : LineSource) (ks kl : Bool → ℕ → Option ℕ) (ts : List LineTable) (rs : List LineReading) → ts ≡ tables_read g rs
    → line_offsets m g ks kl ts ≡ offsets_from 0 (all_stretches_by_texts g m (text_known g ks kl) rs)
known-fields m g ks kl ts rs is = ap (line_offsets m g ks kl) is ∙ ap (offsets_from 0) (stretches-read m g ks kl rs)

file-makes : (m : PathMap) (b : List ℕ) (us : Fields) (ts : List LineTable) (ps pl : TextTable) (ks kl : Bool → ℕ → Option ℕ) (f : PathsFound m (view_of b) us ts)
    → TableMade m (view_of b) InStr (all_of us) ps ks → TableMade m (view_of b) InLineStr (all_of us) pl kl
    → OffsetsMake (line_source (file_data b)).cells (line_offsets m (line_source (file_data b)) ks kl ts)
    → EachTextsMake (line_source (file_data b)) (places_by (changes_of m (around_of (file_data b) f.readings) f.readings) (file_data b)) f.readings.lines
unfolding table_change
file-makes m b us ts ps pl ks kl f s l h =
    let g : LineSource = line_source (file_data b) in
    tables-make g m (text_known g ks kl) (places_by (changes_of m (around_of (file_data b) f.readings) f.readings) (file_data b)) 0 (length g.bytes) f.readings.lines refl
    (file-apart b f.readings.lines f.reads.lines) (left-clear (file_data b) (moving_sections (view_of b)) f.readings.lines f.relocations.left f.reads.lines) f.reads.lines
    (lines-agree m (view_of b) us ts ps pl ks kl f s l)
    (subst (OffsetsMake g.cells) (known-fields m g ks kl ts f.readings.lines f.tables) h)

pub lines-fit : (m : PathMap) (b : List ℕ) (v : View) (us : Fields) (ts : List LineTable) (ps pl : TextTable) (ks kl : Bool → ℕ → Option ℕ) → v ≡ view_of b → (f : PathsFound m v us ts)
    → TableMade m v InStr (all_of us) ps ks → TableMade m v InLineStr (all_of us) pl kl → OffsetsMake (line_source (debug_data v)).cells (line_offsets m (line_source (debug_data v)) ks kl ts)
    → EachTextsMake (line_source (debug_data v)) (places_by (changes_of m (around_of (debug_data v) f.readings) f.readings) (debug_data v)) f.readings.lines
lines-fit m b v us ts ps pl ks kl file =
    subst (λ (w : View). (f : PathsFound m w us ts) → TableMade m w InStr (all_of us) ps ks → TableMade m w InLineStr (all_of us) pl kl
    → OffsetsMake (line_source (debug_data w)).cells (line_offsets m (line_source (debug_data w)) ks kl ts)
    → EachTextsMake (line_source (debug_data w)) (places_by (changes_of m (around_of (debug_data w) f.readings) f.readings) (debug_data w)) f.readings.lines) (sym file)
    (file-makes m b us ts ps pl ks kl)

-- or the one of a text doesn't
misses-parts : (n : ℕ) (cells : List Cell) (fs gs : List NewFieldOffset) (r : Refusal) → OffsetMisses n cells (fs ++ gs) r → OffsetMisses n cells fs r ⊎ OffsetMisses n cells gs r
misses-parts n cells [] gs r h = inr h
misses-parts n cells (f ∷ fs) gs r (inl here) = inl (inl here)
misses-parts n cells (f ∷ fs) gs r (inr more) = by (misses-parts n cells fs gs r more)
  where
    by : OffsetMisses n cells fs r ⊎ OffsetMisses n cells gs r → OffsetMisses n cells (f ∷ fs) r ⊎ OffsetMisses n cells gs r
    by (inl h) = inl (inr h)
    by (inr h) = inr h

record TextMissed (g : LineSource) (q : LineText → Option ℕ) (w : Width) (x : LineText) (r : Refusal) : Type 0 where
  named : (x.place.section == g.number) ≡ false
  place : ℕ
  put : place_of q x ≡ Some place
  misses : Misses (relocation_at g.cells x.place.field) (width_size w) place
  told : r ≡ at TooWide g.number x.place.field

field-misses : (g : LineSource) (q : LineText → Option ℕ) (x : LineText) (r : Refusal) (w : Width) (o : Option ℕ) → (x.place.section == g.number) ≡ false → place_of q x ≡ o
    → OffsetMisses g.number g.cells (placed_offsets (offset_stretches w x.place.field o)) r → TextMissed g q w x r
field-misses g q x r w None e is h = absurd h
field-misses g q x r W32 (Some n) e is (inl h) = record { named = e; place = n; put = is; misses = h.1; told = h.0 }
field-misses g q x r W32 (Some n) e is (inr h) = absurd h
field-misses g q x r W64 (Some n) e is (inl h) = record { named = e; place = n; put = is; misses = h.1; told = h.0 }
field-misses g q x r W64 (Some n) e is (inr h) = absurd h

text-misses : (g : LineSource) (m : PathMap) (p q : LineText → Option ℕ) (w : Width) (x : LineText) (r : Refusal) → ((x.place.section == g.number) ≡ false → p x ≡ q x)
    → OffsetMisses g.number g.cells (placed_offsets (text_stretches g m p w x)) r → TextMissed g q w x r
text-misses g m p q w x r same h = by_path x.path (x.place.section == g.number) refl same h
  where
    by_path : (b t : Bool) → (x.place.section == g.number) ≡ t
        → ((x.place.section == g.number) ≡ false → p (record { place = x.place; path = b }) ≡ q (record { place = x.place; path = b }))
        → OffsetMisses g.number g.cells (placed_offsets (if b then (if t then inline_stretch m g.cells x.place ∷ [] else offset_stretches w x.place.field (p (record { place = x.place; path = true })))
        else (if t then [] else offset_stretches w x.place.field (p (record { place = x.place; path = b }))))) r
        → TextMissed g q w (record { place = x.place; path = b }) r
    by_path true true e a h = absurd h
    by_path true false e a h = field-misses g q (record { place = x.place; path = true }) r w (p (record { place = x.place; path = true })) e (sym (a e)) h
    by_path false true e a h = absurd h
    by_path false false e a h = field-misses g q (record { place = x.place; path = false }) r w (p (record { place = x.place; path = false })) e (sym (a e)) h

record TextAmong (g : LineSource) (q : LineText → Option ℕ) (w : Width) (xs : List LineText) (r : Refusal) : Type 0 where
  before : List LineText
  behind : List LineText
  text : LineText
  among : xs ≡ before ++ text ∷ behind
  missed : TextMissed g q w text r

texts-miss : (g : LineSource) (m : PathMap) (p q : LineText → Option ℕ) (w : Width) (xs : List LineText) (r : Refusal) → EachAgree g p q xs
    → OffsetMisses g.number g.cells (placed_offsets (texts_stretches g m p w xs)) r → TextAmong g q w xs r
texts-miss g m p q w [] r a h = absurd h
texts-miss g m p q w (x ∷ xs) r a h =
    by (misses-parts g.number g.cells (placed_offsets (text_stretches g m p w x)) (placed_offsets (texts_stretches g m p w xs)) r
    (subst (λ (fs : List NewFieldOffset). OffsetMisses g.number g.cells fs r) (placed-append (text_stretches g m p w x) (texts_stretches g m p w xs)) h))
    (λ k. texts-miss g m p q w xs r a.1 k)
  where
    by : OffsetMisses g.number g.cells (placed_offsets (text_stretches g m p w x)) r ⊎ OffsetMisses g.number g.cells (placed_offsets (texts_stretches g m p w xs)) r
        → (OffsetMisses g.number g.cells (placed_offsets (texts_stretches g m p w xs)) r → TextAmong g q w xs r) → TextAmong g q w (x ∷ xs) r
    by (inl k) rest = record { before = []; behind = xs; text = x; among = refl; missed = text-misses g m p q w x r a.0 k }
    by (inr k) rest =
        let more = rest k in
        record { before = x ∷ more.before; behind = more.behind; text = more.text; among = ap (λ (l : List LineText). x ∷ l) more.among; missed = more.missed }

record TableAmong (g : LineSource) (q : LineText → Option ℕ) (rs : List LineReading) (r : Refusal) : Type 0 where
  before : List LineReading
  behind : List LineReading
  table : LineReading
  among : rs ≡ before ++ table ∷ behind
  text : TextAmong g q (table_read g table).width (table_read g table).texts r

tables-miss : (g : LineSource) (m : PathMap) (p q : LineText → Option ℕ) (a e : ℕ) (rs : List LineReading) (r : Refusal) → bytes_of g.cells ≡ g.bytes → TablesApart g rs → EachClear g rs
    → TablesTo g a rs e → TablesAgree g p q rs → OffsetMisses g.number g.cells (offsets_from a (all_stretches_by_texts g m p rs)) r → TableAmong g q rs r
tables-miss g m p q a e [] r own apart clear reads agree h = absurd h
tables-miss g m p q a e (t ∷ ts) r own apart clear reads agree h =
    by (misses-parts g.number g.cells (placed_offsets (texts_stretches g m p t.header.width (table_read g t).texts)) (offsets_from t.header.end (all_stretches_by_texts g m p ts)) r
    (subst (λ (fs : List NewFieldOffset). OffsetMisses g.number g.cells fs r) (fields-are g m p a t ts own apart clear e reads) h))
    (λ k. tables-miss g m p q t.header.end e ts r own (apart-behind g t ts apart) clear.1 reads.1 agree.1 k)
  where
    by : OffsetMisses g.number g.cells (placed_offsets (texts_stretches g m p t.header.width (table_read g t).texts)) r
        ⊎ OffsetMisses g.number g.cells (offsets_from t.header.end (all_stretches_by_texts g m p ts)) r
        → (OffsetMisses g.number g.cells (offsets_from t.header.end (all_stretches_by_texts g m p ts)) r → TableAmong g q ts r) → TableAmong g q (t ∷ ts) r
    by (inl k) rest = record { before = []; behind = ts; table = t; among = refl; text = texts-miss g m p q t.header.width (table_read g t).texts r agree.0 k }
    by (inr k) rest =
        let more = rest k in
        record { before = t ∷ more.before; behind = more.behind; table = more.table; among = ap (λ (l : List LineReading). t ∷ l) more.among; text = more.text }

-- the row of it
row-of : (m : PathMap) (d : DebugData) (rs : DataReadings) (r : Refusal) → TableAmong (line_source d) (places_by (changes_of m (around_of d rs) rs) d) rs.lines r
    → AddendsFail (changes_of m (around_of d rs) rs) d (around_of d rs) rs r
row-of m d rs r h =
    let x = h.text in
    let missed = x.missed in
    subst (AddendsFail (changes_of m (around_of d rs) rs) d (around_of d rs) rs) (sym missed.told)
    (in_lines h.before h.behind h.table x.text h.among
    (record { before = x.before; behind = x.behind; among = x.among; named = missed.named; place = missed.place; put = missed.put; misses = missed.misses }))

file-misses : (m : PathMap) (b : List ℕ) (us : Fields) (ts : List LineTable) (ps pl : TextTable) (ks kl : Bool → ℕ → Option ℕ) (r : Refusal) (f : PathsFound m (view_of b) us ts)
    → TableMade m (view_of b) InStr (all_of us) ps ks → TableMade m (view_of b) InLineStr (all_of us) pl kl
    → OffsetMisses (line_source (file_data b)).number (line_source (file_data b)).cells (line_offsets m (line_source (file_data b)) ks kl ts) r
    → AddendsFail (changes_of m (around_of (file_data b) f.readings) f.readings) (file_data b) (around_of (file_data b) f.readings) f.readings r
unfolding table_change
file-misses m b us ts ps pl ks kl r f s l h =
    let g : LineSource = line_source (file_data b) in
    row-of m (file_data b) f.readings r
    (tables-miss g m (text_known g ks kl) (places_by (changes_of m (around_of (file_data b) f.readings) f.readings) (file_data b)) 0 (length g.bytes) f.readings.lines r refl
    (file-apart b f.readings.lines f.reads.lines) (left-clear (file_data b) (moving_sections (view_of b)) f.readings.lines f.relocations.left f.reads.lines) f.reads.lines
    (lines-agree m (view_of b) us ts ps pl ks kl f s l)
    (subst (λ (fs : List NewFieldOffset). OffsetMisses g.number g.cells fs r) (known-fields m g ks kl ts f.readings.lines f.tables) h))

pub lines-fail : (m : PathMap) (b : List ℕ) (v : View) (us : Fields) (ts : List LineTable) (ps pl : TextTable) (ks kl : Bool → ℕ → Option ℕ) (r : Refusal) → v ≡ view_of b
    → (f : PathsFound m v us ts) → TableMade m v InStr (all_of us) ps ks → TableMade m v InLineStr (all_of us) pl kl
    → OffsetMisses (line_source (debug_data v)).number (line_source (debug_data v)).cells (line_offsets m (line_source (debug_data v)) ks kl ts) r
    → AddendsFail (changes_of m (around_of (debug_data v) f.readings) f.readings) (debug_data v) (around_of (debug_data v) f.readings) f.readings r
lines-fail m b v us ts ps pl ks kl r file =
    subst (λ (w : View). (f : PathsFound m w us ts) → TableMade m w InStr (all_of us) ps ks → TableMade m w InLineStr (all_of us) pl kl
    → OffsetMisses (line_source (debug_data w)).number (line_source (debug_data w)).cells (line_offsets m (line_source (debug_data w)) ks kl ts) r
    → AddendsFail (changes_of m (around_of (debug_data w) f.readings) f.readings) (debug_data w) (around_of (debug_data w) f.readings) f.readings r) (sym file)
    (file-misses m b us ts ps pl ks kl r)
