-- The stretches of a new line table by all its texts: these stand in their order, and the new cells are those of the stretches.
use Rattle.std.proofs.Common.{Bool, true, false, ◌≡◌, ℕ, ◌+◌, ◌≤◌, ◌==◌, List, [], ◌∷◌, ◌++◌, length, Option, Some, None, refl, sym, ap, ◌∙◌, subst, arith, if◌then◌else◌, append_assoc}
use Rattle.std.specs.Prelude.{Result, Ok}
use Rattle.std.proofs.lemmas.Bool.{eq-eqb, ne_eqb}
use Rattle.std.proofs.lemmas.List.{append-nil}
use Rattle.dw_base.specs.Cells.{Cell, bytes_of}
use Rattle.dw_base.specs.Forms.{width_size}
use Rattle.dw_base.specs.LineEntries.{columns, entries_at, entry_at, list_end, place_behind, result_with, with_column}
use Rattle.dw_base.specs.LineReadings.{AreTables, LineReading, ReadsTable, TablesTo, table_read}
use Rattle.dw_base.specs.LineSources.{LineSource}
use Rattle.dw_base.specs.LineTables.{HasLists, new_lists, old_lists, table_bytes, texts_of}
use Rattle.dw_base.specs.LineTexts.{text_of}
use Rattle.dw_base.specs.Numbers.{number_bytes}
use Rattle.dw_base.specs.Paths.{PathMap}
use Rattle.dw_base.specs.TableTexts.{as_paths, column_text, column_texts, entries_texts, entry_texts, list_texts, takes_path, texts_by, texts_counted, texts_formed, texts_then}
use Rattle.dw_base.specs.TextLineChanges.{on_paths}
use Rattle.dw_base.specs.Texts.{text_in}
use Rattle.dw_base.specs.WrittenLines.{behind_lengths, header_length_place, length_bytes, length_size}
use Rattle.dw_base.specs.declared.fault.Refusal.{Refusal}
use Rattle.dw_base.specs.declared.line_tables.Column.{Column}
use Rattle.dw_base.specs.declared.line_tables.Entry.{Entry}
use Rattle.dw_base.specs.declared.line_tables.FilePlace.{FilePlace}
use Rattle.dw_base.specs.declared.line_tables.LineHeader.{LineHeader}
use Rattle.dw_base.specs.declared.line_tables.LineText.{LineText}
use Rattle.dw_base.specs.declared.line_tables.TextPlace.{TextPlace}
use Rattle.dw_base.specs.declared.shared.Width.{Width}
use Rattle.dw_base.specs.declared.values.Spec.{Spec}
use Rattle.dw_base.proofs.UnitEditLaws.{length-bytes_of}
use Rattle.dw_meaning.specs.LineCells.{changed_cells, offset_cells, path_cells, rest_cells}
use Rattle.dw_meaning.specs.LineStretches.{PlacedStretch, all_path_stretches, offset_stretches, path_stretches, stretches_after, stretches_between, stretches_end}
use Rattle.dw_meaning.specs.TextLineCells.{all_cells_by_texts, all_stretches_by_texts, cells_by_texts, further_cells, further_stretches, table_cells_by_texts, table_stretches_by_texts, text_cells, text_stretches, texts_cells, texts_stretches}
use Rattle.dw_meaning.proofs.ClearLaws.{Clear, ColumnsClear, EntriesClear, ListClear, clear-part, clear_from}
use Rattle.dw_meaning.proofs.LineClearLaws.{EachClear, TableClear, header-lists}
use Rattle.dw_meaning.proofs.LineColumnLaws.{ColumnIs, column-is, inline_is, offset_is, texts_in, value_is}
use Rattle.dw_meaning.proofs.LineEntryLaws.{AreColumns, column-step, entry-same}
use Rattle.dw_meaning.proofs.LineHeaderLaws.{header-is, length-place}
use Rattle.dw_meaning.proofs.LineListLaws.{entry-is, format-place, list-is}
use Rattle.dw_meaning.proofs.LineMoveLaws.{column-place, none-place, some-place}
use Rattle.dw_meaning.proofs.LineSectionLaws.{TablesApart}
use Rattle.dw_meaning.proofs.LineStretchLaws.{Placed, SameStretches, StretchedTo, StretchesAre, TextsApart, after-append, are-append, between-are, between-cells, between-end, column-placed, end-append, lists-placed, offset-placed, placed-before, same-both, same-path, texts-apart, whole-stretched}
use Rattle.dw_meaning.proofs.LineTableLaws.{header-places}
use Rattle.dw_meaning.proofs.LineWalkLaws.{NewFiles}

-- stretches are these changes of cells: of a text that isn't a path, of a text, and of all
same-further : (g : LineSource) (w : Width) (x : TextPlace) (o : Option ℕ) → SameStretches g.order g.cells (further_cells g w x o) (further_stretches g w x o)
same-further g w x o = by_section (x.section == g.number)
  where
    by_place : (p : Option ℕ) → SameStretches g.order g.cells (offset_cells g.order w g.cells x.field p) (offset_stretches w x.field p)
    by_place None = tt
    by_place (Some place) = (record { at = refl; old = refl; new = refl }, tt)

    by_section : (b : Bool) → SameStretches g.order g.cells (if b then [] else offset_cells g.order w g.cells x.field o) (if b then [] else offset_stretches w x.field o)
    by_section true = tt
    by_section false = by_place o

same-text : (g : LineSource) (m : PathMap) (places : LineText → Option ℕ) (w : Width) (x : LineText)
    → SameStretches g.order g.cells (text_cells g m places w x) (text_stretches g m places w x)
same-text g m places w x = by_path x.path
  where
    by_path : (b : Bool) → SameStretches g.order g.cells (if b then path_cells g m (on_paths places) w x.place else further_cells g w x.place (places x))
        (if b then path_stretches g m (on_paths places) w x.place else further_stretches g w x.place (places x))
    by_path true = same-path g m (on_paths places) w x.place
    by_path false = same-further g w x.place (places x)

same-texts : (g : LineSource) (m : PathMap) (places : LineText → Option ℕ) (w : Width) (xs : List LineText)
    → SameStretches g.order g.cells (texts_cells g m places w xs) (texts_stretches g m places w xs)
same-texts g m places w [] = tt
same-texts g m places w (x ∷ xs) =
    same-both g.order g.cells (text_cells g m places w x) (texts_cells g m places w xs) (text_stretches g m places w x) (texts_stretches g m places w xs)
    (same-text g m places w x) (same-texts g m places w xs)

-- what becomes of a text of a column
further-placed : (g : LineSource) (old : List ℕ) (h : LineHeader) (end : ℕ) (cs : List PlacedStretch) (spec : Spec) (p : ℕ) (c : Column) (t : TextPlace) (o : Option ℕ)
    → TextsApart g → ColumnIs g h old spec p c → c.text ≡ Some t → Placed g.cells end c.next cs → Placed g.cells end p (further_stretches g h.width t o ++ cs)
further-placed g old h end cs spec p c t o apart (inline_is form ends) is s =
    let same : record { section = g.number; at = p; len = length (text_in old p); field = p } ≡ t = some-place _ t is in
    subst (λ (x : TextPlace). Placed g.cells end p (further_stretches g h.width x o ++ cs)) same
    (subst (λ (b : Bool). Placed g.cells end p ((if b then [] else offset_stretches h.width p o) ++ cs)) (sym (eq-eqb g.number g.number refl))
    (placed-before g.cells end (p + length (text_in old p) + 1) p cs (omega arith) s))
further-placed g old h end cs spec p c t o apart (offset_is i n form room reads ends) is s =
    let same : text_of (texts_in g i) n p ≡ t = some-place _ t is in
    subst (λ (x : TextPlace). Placed g.cells end p (further_stretches g h.width x o ++ cs)) same
    (subst (λ (b : Bool). Placed g.cells end p ((if b then [] else offset_stretches h.width p o) ++ cs)) (sym (apart.other i))
    (offset-placed g h.width end cs p o s))
further-placed g old h end cs spec p c t o apart (value_is x y d v is_) is s = absurd (none-place t is)

text-placed : (g : LineSource) (m : PathMap) (old : List ℕ) (h : LineHeader) (places : LineText → Option ℕ) (end : ℕ) (cs : List PlacedStretch) (spec : Spec)
    (p : ℕ) (c : Column) (t : TextPlace) (path : Bool) → TextsApart g → ColumnIs g h old spec p c → c.text ≡ Some t → Clear g.cells (clear_from spec p) c.next
    → Placed g.cells end c.next cs → Placed g.cells end p (text_stretches g m places h.width (record { place = t; path = path }) ++ cs)
text-placed g m old h places end cs spec p c t true apart what is clear s = column-placed g m old h (on_paths places) end cs spec p c t apart what is clear s
text-placed g m old h places end cs spec p c t false apart what is clear s =
    further-placed g old h end cs spec p c t (places (record { place = t; path = false })) apart what is s

-- of those of the columns of an entry
columns-placed : (g : LineSource) (m : PathMap) (old : List ℕ) (h : LineHeader) (places : LineText → Option ℕ) (end : ℕ) (cs : List PlacedStretch)
    (specs : List Spec) (e last : Entry) → TextsApart g → AreColumns specs → ColumnsClear g h old specs e.next → columns g h old specs e ≡ Ok last
    → Placed g.cells end last.next cs → Placed g.cells end e.next (texts_stretches g m places h.width (entry_texts g h old specs e) ++ cs)
columns-placed g m old h places end cs [] e last apart plain clear is s =
    let next : e.next ≡ last.next = ap (λ (x : Entry). x.next) (entry-same e last is) in
    subst (λ (i : ℕ). Placed g.cells end i cs) (sym next) s
columns-placed g m old h places end cs (spec ∷ specs) e last apart plain clear is s =
    let step = column-step g h old spec specs e last is in
    let what = column-is g h old spec e.next step.column step.is in
    let here = clear step.column step.is in
    let rest = columns-placed g m old h places end cs specs (with_column spec e step.column) last apart plain.1 here.1 step.rest s in
    subst (λ (c : Result Column Refusal). Placed g.cells end e.next
    (texts_stretches g m places h.width (column_texts spec e c ++ texts_then (λ n. entry_texts g h old specs n) (result_with (with_column spec e) c)) ++ cs)) (sym step.is)
    (by_text step.column.text step.column refl what here.0 (column-place g h old spec e.next step.column plain.0 what).0 (entry_texts g h old specs (with_column spec e step.column)) rest)
  where
    by_text : (o : Option TextPlace) (c : Column) → c.text ≡ o → ColumnIs g h old spec e.next c → Clear g.cells (clear_from spec e.next) c.next → e.next ≤ c.next
        → (xs : List LineText) → Placed g.cells end c.next (texts_stretches g m places h.width xs ++ cs)
        → Placed g.cells end e.next (texts_stretches g m places h.width (column_text spec e o ++ xs) ++ cs)
    by_text None c none what here behind xs f = placed-before g.cells end c.next e.next (texts_stretches g m places h.width xs ++ cs) behind f
    by_text (Some t) c some what here behind xs f =
        subst (Placed g.cells end e.next)
        (sym (append_assoc (text_stretches g m places h.width (record { place = t; path = takes_path spec e })) (texts_stretches g m places h.width xs) cs))
        (text-placed g m old h places end (texts_stretches g m places h.width xs ++ cs) spec e.next c t (takes_path spec e) apart what some here f)

-- of texts one behind another
stretches-append : (g : LineSource) (m : PathMap) (places : LineText → Option ℕ) (w : Width) (xs ys : List LineText)
    → texts_stretches g m places w (xs ++ ys) ≡ texts_stretches g m places w xs ++ texts_stretches g m places w ys
stretches-append g m places w [] ys = refl
stretches-append g m places w (x ∷ xs) ys =
    ap (λ (cs : List PlacedStretch). text_stretches g m places w x ++ cs) (stretches-append g m places w xs ys)
    ∙ sym (append_assoc (text_stretches g m places w x) (texts_stretches g m places w xs) (texts_stretches g m places w ys))

both-placed : (g : LineSource) (m : PathMap) (places : LineText → Option ℕ) (w : Width) (end p : ℕ) (xs ys : List LineText) (cs : List PlacedStretch)
    → Placed g.cells end p (texts_stretches g m places w xs ++ (texts_stretches g m places w ys ++ cs)) → Placed g.cells end p (texts_stretches g m places w (xs ++ ys) ++ cs)
both-placed g m places w end p xs ys cs h =
    subst (Placed g.cells end p)
    (sym (ap (λ (ds : List PlacedStretch). ds ++ cs) (stretches-append g m places w xs ys)
    ∙ append_assoc (texts_stretches g m places w xs) (texts_stretches g m places w ys) cs)) h

-- of an entry, of entries, and of a list
file-placed : (g : LineSource) (m : PathMap) (old : List ℕ) (h : LineHeader) (places : LineText → Option ℕ) (end : ℕ) (cs : List PlacedStretch)
    (specs : List Spec) (p : ℕ) (f : FilePlace) (next : ℕ) → TextsApart g → AreColumns specs → ColumnsClear g h old specs p
    → entry_at g h old specs p ≡ Ok (f, next) → Placed g.cells end next cs
    → Placed g.cells end p (texts_stretches g m places h.width (entry_texts g h old specs (record { text = None; dir = None; next = p })) ++ cs)
file-placed g m old h places end cs specs p f next apart plain clear e s =
    let x = entry-is g h old specs p f next e in
    columns-placed g m old h places end cs specs (record { text = None; dir = None; next = p }) x.last apart plain clear x.columns_are
    (subst (λ (i : ℕ). Placed g.cells end i cs) (sym x.behind) s)

files-placed : (g : LineSource) (m : PathMap) (old : List ℕ) (h : LineHeader) (places : LineText → Option ℕ) (end : ℕ) (cs : List PlacedStretch)
    (specs : List Spec) (p e : ℕ) (fs : List FilePlace) → TextsApart g → AreColumns specs → EntriesClear g h old specs (length fs) p
    → NewFiles g h old specs p fs e → Placed g.cells end e cs → Placed g.cells end p (texts_stretches g m places h.width (entries_texts g h old specs (length fs) p) ++ cs)
files-placed g m old h places end cs specs p e [] apart plain clear are s = subst (λ (i : ℕ). Placed g.cells end i cs) (sym are) s
files-placed g m old h places end cs specs p e (f ∷ fs) apart plain clear are s =
    subst (λ (r : Result (FilePlace × ℕ) Refusal). Placed g.cells end p (texts_stretches g m places h.width
    (entry_texts g h old specs (record { text = None; dir = None; next = p }) ++ texts_then (λ k. entries_texts g h old specs (length fs) k.1) r) ++ cs)) (sym are.0.entry)
    (both-placed g m places h.width end p (entry_texts g h old specs (record { text = None; dir = None; next = p })) (entries_texts g h old specs (length fs) are.0.next) cs
    (file-placed g m old h places end (texts_stretches g m places h.width (entries_texts g h old specs (length fs) are.0.next) ++ cs) specs p f are.0.next apart plain clear.0 are.0.entry
    (files-placed g m old h places end cs specs are.0.next e fs apart plain (clear.1 f are.0.next are.0.entry) are.1 s)))

list-placed : (g : LineSource) (m : PathMap) (old : List ℕ) (h : LineHeader) (places : LineText → Option ℕ) (end : ℕ) (cs : List PlacedStretch)
    (p e : ℕ) (fs : List FilePlace) → TextsApart g → ListClear g h old p → entries_at g h old p ≡ Ok (fs, e) → Placed g.cells end e cs
    → Placed g.cells end p (texts_stretches g m places h.width (list_texts g h old p) ++ cs)
list-placed g m old h places end cs p e fs apart clear is s =
    let x = list-is g h old p fs e is in
    let f = format-place old p x.format x.format_is in
    let front = f.0 in
    let texts : list_texts g h old p ≡ entries_texts g h old x.format.0 (length fs) (x.format.1 + x.count.1) =
    ap (λ (o : Option (List Spec × ℕ)). texts_formed g h old o) x.format_is
    ∙ ap (λ (o : Option (ℕ × ℕ)). texts_counted g h old x.format.0 x.format.1 o) x.count_is
    ∙ ap (λ (n : ℕ). entries_texts g h old x.format.0 n (x.format.1 + x.count.1)) (sym x.number) in
    subst (λ (ts : List LineText). Placed g.cells end p (texts_stretches g m places h.width ts ++ cs)) (sym texts)
    (placed-before g.cells end (x.format.1 + x.count.1) p (texts_stretches g m places h.width (entries_texts g h old x.format.0 (length fs) (x.format.1 + x.count.1)) ++ cs) (omega (arith, front))
    (files-placed g m old h places end cs x.format.0 (x.format.1 + x.count.1) e fs apart f.2
    (subst (λ (n : ℕ). EntriesClear g h old x.format.0 n (x.format.1 + x.count.1)) (sym x.number) (clear.entries x.format x.count x.format_is x.count_is)) x.are s))

-- before version 5 all texts are paths
paths-stretches : (g : LineSource) (m : PathMap) (places : LineText → Option ℕ) (w : Width) (xs : List TextPlace)
    → texts_stretches g m places w (as_paths xs) ≡ all_path_stretches g m (on_paths places) w xs
paths-stretches g m places w [] = refl
paths-stretches g m places w (x ∷ xs) = ap (λ (cs : List PlacedStretch). path_stretches g m (on_paths places) w x ++ cs) (paths-stretches g m places w xs)

-- of the lists of a table
texts-in-lists : (g : LineSource) (m : PathMap) (places : LineText → Option ℕ) (r : LineReading) (ds : List TextPlace) (fs : List FilePlace) (e : ℕ)
    → e ≡ r.behind → TextsApart g → TableClear g r → HasLists g r.header (table_bytes g r.header) ds fs e → e ≤ r.header.program
    → Placed g.cells r.header.program r.header.lists (texts_stretches g m places r.header.width (texts_by g r.header (table_bytes g r.header) (ds ++ texts_of fs)))
texts-in-lists g m places r ds fs e same apart clear (old_lists dirs files place behind other d f) le =
    subst (λ (b : Bool). Placed g.cells r.header.program r.header.lists (texts_stretches g m places r.header.width
    (if b then list_texts g r.header (table_bytes g r.header) r.header.lists
    ++ list_texts g r.header (table_bytes g r.header) (list_end g r.header (table_bytes g r.header) r.header.lists) else as_paths (dirs ++ texts_of files))))
    (sym (ne_eqb r.header.version 5 other))
    (subst (Placed g.cells r.header.program r.header.lists) (sym (paths-stretches g m places r.header.width (dirs ++ texts_of files)))
    (lists-placed g m (on_paths places) r dirs files behind same apart clear (old_lists dirs files place behind other d f) le))
texts-in-lists g m places r ds fs e same apart clear (new_lists dirs files place behind five d f) le =
    let end : list_end g r.header (table_bytes g r.header) r.header.lists ≡ place = ap (place_behind r.header.lists) d in
    let second : Placed g.cells r.header.program place (texts_stretches g m places r.header.width (list_texts g r.header (table_bytes g r.header) place) ++ []) =
    list-placed g m (table_bytes g r.header) r.header places r.header.program [] place behind files apart
    (subst (ListClear g r.header (table_bytes g r.header)) end (clear.lists.files five)) f le in
    let first = list-placed g m (table_bytes g r.header) r.header places r.header.program
    (texts_stretches g m places r.header.width (list_texts g r.header (table_bytes g r.header) place) ++ []) r.header.lists place dirs
    apart (clear.lists.dirs five) d second in
    subst (λ (b : Bool). Placed g.cells r.header.program r.header.lists (texts_stretches g m places r.header.width
    (if b then list_texts g r.header (table_bytes g r.header) r.header.lists
    ++ list_texts g r.header (table_bytes g r.header) (list_end g r.header (table_bytes g r.header) r.header.lists) else as_paths (texts_of dirs ++ texts_of files))))
    (sym (eq-eqb r.header.version 5 five))
    (subst (λ (n : ℕ). Placed g.cells r.header.program r.header.lists (texts_stretches g m places r.header.width
    (list_texts g r.header (table_bytes g r.header) r.header.lists ++ list_texts g r.header (table_bytes g r.header) n))) (sym end)
    (subst (Placed g.cells r.header.program r.header.lists)
    (append-nil (texts_stretches g m places r.header.width (list_texts g r.header (table_bytes g r.header) r.header.lists ++ list_texts g r.header (table_bytes g r.header) place)))
    (both-placed g m places r.header.width r.header.program r.header.lists (list_texts g r.header (table_bytes g r.header) r.header.lists)
    (list_texts g r.header (table_bytes g r.header) place) [] first)))

-- the texts of a table stand in their order behind its lengths, and those that stand in it have no relocations
pub texts-placed : (g : LineSource) (m : PathMap) (places : LineText → Option ℕ) (p : ℕ) (r : LineReading) → TextsApart g → TableClear g r → ReadsTable g p r
    → Placed g.cells r.header.program (behind_lengths r.header.start r.header.width r.header.version) (texts_stretches g m places r.header.width (table_read g r).texts)
texts-placed g m places p r apart clear reads =
    placed-before g.cells r.header.program r.header.lists (behind_lengths r.header.start r.header.width r.header.version)
    (texts_stretches g m places r.header.width (table_read g r).texts) (header-lists g p r reads)
    (texts-in-lists g m places r r.dirs r.files r.behind refl apart clear reads.lists reads.before)

-- the stretches of a table are its cells
pub text_table-are : (g : LineSource) (m : PathMap) (places : LineText → Option ℕ) (p : ℕ) (r : LineReading) → bytes_of g.cells ≡ g.bytes → TextsApart g → TableClear g r → ReadsTable g p r
    → StretchedTo g.order g.cells r.header.start r.header.end (table_stretches_by_texts g m places (table_read g r)) (table_cells_by_texts g m places (table_read g r))
unfolding table_stretches_by_texts table_cells_by_texts cells_by_texts
text_table-are g m places p r own apart clear reads =
    let x = header-is g.order g.bytes p r.header reads.header in
    let places_ = header-places g p r.header x in
    let program = places_.1.program in
    let first = places_.1.first in
    let at = length-place r.header.version (r.header.start + length_size r.header.width) in
    let lists = header-lists g p r reads in
    let xw = x.within in
    let xe = x.end_is in
    let size : length g.bytes ≡ length g.cells = sym (ap length own) ∙ length-bytes_of g.cells in
    let placed = texts-placed g m places p r apart clear reads in
    whole-stretched g r.header.start (length_size r.header.width) (header_length_place r.header.start r.header.width r.header.version) (width_size r.header.width) r.header.program r.header.end
    (length_bytes g.order r.header.width (length (rest_cells g (table_read g r) (cells_by_texts g m places (table_read g r)))))
    (number_bytes g.order (width_size r.header.width) (length (cells_by_texts g m places (table_read g r))))
    (stretches_between (behind_lengths r.header.start r.header.width r.header.version) r.header.program (texts_stretches g m places r.header.width (table_read g r).texts))
    (changed_cells g.cells (behind_lengths r.header.start r.header.width r.header.version) r.header.program (texts_cells g m places r.header.width (table_read g r).texts))
    (omega (arith, at)) program
    (clear-part g.cells r.header.start r.header.lists r.header.start (r.header.start + length_size r.header.width) clear.front (omega arith) (omega (arith, at, lists)))
    (clear-part g.cells r.header.start r.header.lists (header_length_place r.header.start r.header.width r.header.version)
    (header_length_place r.header.start r.header.width r.header.version + width_size r.header.width) clear.front (omega (arith, at)) lists)
    (between-are g.cells r.header.program (behind_lengths r.header.start r.header.width r.header.version) (texts_stretches g m places r.header.width (table_read g r).texts) placed)
    (between-end g.cells r.header.program (behind_lengths r.header.start r.header.width r.header.version) (texts_stretches g m places r.header.width (table_read g r).texts) placed)
    (between-cells g.order g.cells r.header.program (behind_lengths r.header.start r.header.width r.header.version) (texts_cells g m places r.header.width (table_read g r).texts)
    (texts_stretches g m places r.header.width (table_read g r).texts) (same-texts g m places r.header.width (table_read g r).texts) placed (omega (arith, program, xw, xe, size)))

-- and those of tables one behind another
pub text_tables-are : (g : LineSource) (m : PathMap) (places : LineText → Option ℕ) (p e : ℕ) (rs : List LineReading) → bytes_of g.cells ≡ g.bytes → TablesApart g rs → EachClear g rs
    → TablesTo g p rs e → StretchedTo g.order g.cells p e (all_stretches_by_texts g m places rs) (all_cells_by_texts g m places rs)
text_tables-are g m places p e [] own apart clear tables = record { are = tt; ends = tables; cells = refl }
text_tables-are g m places p e (r ∷ rs) own apart clear tables =
    let begin : r.header.start ≡ p = (header-places g p r.header (header-is g.order g.bytes p r.header tables.0.header)).0 in
    let one : StretchedTo g.order g.cells p r.header.end (table_stretches_by_texts g m places (table_read g r)) (table_cells_by_texts g m places (table_read g r)) =
    subst (λ (i : ℕ). StretchedTo g.order g.cells i r.header.end (table_stretches_by_texts g m places (table_read g r)) (table_cells_by_texts g m places (table_read g r))) begin
    (text_table-are g m places p r own (texts-apart g r rs apart) clear.0 tables.0) in
    let rest = text_tables-are g m places r.header.end e rs own (behind-apart rs) clear.1 tables.1 in
    record {
      are = are-append g.cells p (table_stretches_by_texts g m places (table_read g r)) (all_stretches_by_texts g m places rs) one.are
          (subst (λ (i : ℕ). StretchesAre g.cells i (all_stretches_by_texts g m places rs)) (sym one.ends) rest.are);
      ends = end-append p (table_stretches_by_texts g m places (table_read g r)) (all_stretches_by_texts g m places rs)
          ∙ ap (λ (i : ℕ). stretches_end i (all_stretches_by_texts g m places rs)) one.ends ∙ rest.ends;
      cells = after-append g.order g.cells p (table_stretches_by_texts g m places (table_read g r)) (all_stretches_by_texts g m places rs)
          ∙ ap (λ (l : List Cell). l ++ stretches_after g.order g.cells (stretches_end p (table_stretches_by_texts g m places (table_read g r))) (all_stretches_by_texts g m places rs)) one.cells
          ∙ ap (λ (i : ℕ). table_cells_by_texts g m places (table_read g r) ++ stretches_after g.order g.cells i (all_stretches_by_texts g m places rs)) one.ends
          ∙ ap (λ (l : List Cell). table_cells_by_texts g m places (table_read g r) ++ l) rest.cells;
    }
  where
    behind-apart : (xs : List LineReading) → TablesApart g xs
    behind-apart [] = tt
    behind-apart (x ∷ xs) = apart

-- the whole section
pub text_section-are : (g : LineSource) (m : PathMap) (places : LineText → Option ℕ) (rs : List LineReading) → bytes_of g.cells ≡ g.bytes → TablesApart g rs → EachClear g rs → AreTables g rs
    → StretchedTo g.order g.cells 0 (length g.cells) (all_stretches_by_texts g m places rs) (all_cells_by_texts g m places rs)
text_section-are g m places rs own apart clear tables =
    subst (λ (e : ℕ). StretchedTo g.order g.cells 0 e (all_stretches_by_texts g m places rs) (all_cells_by_texts g m places rs)) (sym (ap length own) ∙ length-bytes_of g.cells)
    (text_tables-are g m places 0 (length g.bytes) rs own apart clear tables)
