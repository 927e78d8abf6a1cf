-- Where a table of texts has no bytes, no text of a line table is in it.
use Rattle.std.proofs.Common.{Bool, true, ◌≡◌, ◌≢◌, ℕ, ◌+◌, List, [], ◌∷◌, ◌++◌, length, Option, Some, None, sym, refl, ap, ◌∙◌, subst, if◌then◌else◌}
use Rattle.std.specs.Prelude.{Result, Ok}
use Rattle.std.proofs.lemmas.Bool.{eq-eqb, ne_eqb}
use Rattle.dw_base.specs.LineEntries.{columns, entries_at, list_end, place_behind, result_with, with_column}
use Rattle.dw_base.specs.LineReadings.{LineReading, TablesTo, table_read}
use Rattle.dw_base.specs.LineSources.{LineSource}
use Rattle.dw_base.specs.LineTables.{HasLists, new_lists, old_lists, table_bytes, texts_of}
use Rattle.dw_base.specs.StringTables.{Mention}
use Rattle.dw_base.specs.TableTexts.{as_paths, column_text, column_texts, entries_texts, entry_texts, list_texts, texts_by, texts_counted, texts_formed, texts_then}
use Rattle.dw_base.specs.TextLineChanges.{all_texts_mentions, texts_mentions}
use Rattle.dw_base.specs.Texts.{ends_in}
use Rattle.dw_base.specs.declared.fault.Refusal.{Refusal}
use Rattle.dw_base.specs.declared.line_tables.Column.{Column}
use Rattle.dw_base.specs.declared.line_tables.Entry.{Entry}
use Rattle.dw_base.specs.declared.line_tables.FilePlace.{FilePlace}
use Rattle.dw_base.specs.declared.line_tables.LineHeader.{LineHeader}
use Rattle.dw_base.specs.declared.line_tables.LineText.{LineText}
use Rattle.dw_base.specs.declared.line_tables.TextPlace.{TextPlace}
use Rattle.dw_base.specs.declared.texts.TextSection.{TextSection}
use Rattle.dw_base.specs.declared.values.Spec.{Spec}
use Rattle.dw_meaning.proofs.LineColumnLaws.{column-is, texts_in}
use Rattle.dw_meaning.proofs.LineEntryLaws.{column-step}
use Rattle.dw_meaning.proofs.LineListLaws.{entry-is, list-is}
use Rattle.dw_meaning.proofs.LinePathLaws.{AnyPath, EachPath, EachText, column-path, lists-paths, text-none, texts-append}
use Rattle.dw_meaning.proofs.LineWalkLaws.{NewFiles}

-- before version 5 all texts are paths
paths-texts : (g : LineSource) (xs : List TextPlace) → EachPath g xs → EachText g (as_paths xs)
paths-texts g [] h = tt
paths-texts g (x ∷ xs) h = (h.0, paths-texts g xs h.1)

-- of an entry, of entries, and of a list
columns-texts : (g : LineSource) (h : LineHeader) (table : List ℕ) (specs : List Spec) (e last : Entry) → columns g h table specs e ≡ Ok last → EachText g (entry_texts g h table specs e)
columns-texts g h table [] e last is = tt
columns-texts g h table (spec ∷ specs) e last is =
    let s = column-step g h table spec specs e last is in
    subst (λ (c : Result Column Refusal). EachText g (column_texts spec e c ++ texts_then (λ n. entry_texts g h table specs n) (result_with (with_column spec e) c))) (sym s.is)
    (by_text s.column.text (column-path g h table spec e.next s.column (column-is g h table spec e.next s.column s.is)) (entry_texts g h table specs (with_column spec e s.column))
    (columns-texts g h table specs (with_column spec e s.column) last s.rest))
  where
    by_text : (o : Option TextPlace) → AnyPath g o → (xs : List LineText) → EachText g xs → EachText g (column_text spec e o ++ xs)
    by_text None path xs h = h
    by_text (Some t) path xs h = (path, h)

entries-texts : (g : LineSource) (h : LineHeader) (table : List ℕ) (specs : List Spec) (p : ℕ) (fs : List FilePlace) (e : ℕ) → NewFiles g h table specs p fs e
    → EachText g (entries_texts g h table specs (length fs) p)
entries-texts g h table specs p [] e d = tt
entries-texts g h table specs p (f ∷ fs) e d =
    let x = entry-is g h table specs p f d.0.next d.0.entry in
    subst (λ (r : Result (FilePlace × ℕ) Refusal). EachText g (entry_texts g h table specs (record { text = None; dir = None; next = p })
    ++ texts_then (λ k. entries_texts g h table specs (length fs) k.1) r)) (sym d.0.entry)
    (texts-append g (entry_texts g h table specs (record { text = None; dir = None; next = p })) (entries_texts g h table specs (length fs) d.0.next)
    (columns-texts g h table specs (record { text = None; dir = None; next = p }) x.last x.columns_are) (entries-texts g h table specs d.0.next fs e d.1))

list-texts : (g : LineSource) (h : LineHeader) (table : List ℕ) (p : ℕ) (files : List FilePlace) (e : ℕ) → entries_at g h table p ≡ Ok (files, e) → EachText g (list_texts g h table p)
list-texts g h table p files e is =
    let r = list-is g h table p files e is in
    let texts : list_texts g h table p ≡ entries_texts g h table r.format.0 (length files) (r.format.1 + r.count.1) =
    ap (λ (o : Option (List Spec × ℕ)). texts_formed g h table o) r.format_is
    ∙ ap (λ (o : Option (ℕ × ℕ)). texts_counted g h table r.format.0 r.format.1 o) r.count_is
    ∙ ap (λ (n : ℕ). entries_texts g h table r.format.0 n (r.format.1 + r.count.1)) (sym r.number) in
    subst (EachText g) (sym texts) (entries-texts g h table r.format.0 (r.format.1 + r.count.1) files e r.are)

-- of the lists of a table: each text stands in the section of line tables, or an offset names it
lists-texts : (g : LineSource) (h : LineHeader) (table : List ℕ) (dirs : List TextPlace) (files : List FilePlace) (behind : ℕ) → HasLists g h table dirs files behind
    → EachText g (texts_by g h table (dirs ++ texts_of files))
lists-texts g h table dirs files behind (old_lists ds fs place e other d f) =
    subst (λ (b : Bool). EachText g (if b then list_texts g h table h.lists ++ list_texts g h table (list_end g h table h.lists) else as_paths (dirs ++ texts_of files)))
    (sym (ne_eqb h.version 5 other))
    (paths-texts g (dirs ++ texts_of files) (lists-paths g h table dirs files behind (old_lists ds fs place e other d f)))
lists-texts g h table dirs files behind (new_lists ds fs place e five d f) =
    let end : list_end g h table h.lists ≡ place = ap (place_behind h.lists) d in
    subst (λ (b : Bool). EachText g (if b then list_texts g h table h.lists ++ list_texts g h table (list_end g h table h.lists) else as_paths (texts_of ds ++ texts_of files)))
    (sym (eq-eqb h.version 5 five))
    (subst (λ (n : ℕ). EachText g (list_texts g h table h.lists ++ list_texts g h table n)) (sym end)
    (texts-append g (list_texts g h table h.lists) (list_texts g h table place) (list-texts g h table h.lists ds place d) (list-texts g h table place files behind f)))

texts-none : (g : LineSource) (table : TextSection) (xs : List LineText) → ((at : ℕ) → ends_in g.line_str.bytes at ≡ true → g.line_str.number ≢ g.str.number)
    → (texts_in g table).bytes ≡ [] → EachText g xs → texts_mentions g table xs ≡ []
texts-none g table [] apart none h = refl
texts-none g table (x ∷ xs) apart none h =
    ap (λ (ms : List Mention). ms ++ texts_mentions g table xs) (text-none g table x.place x.path apart none h.0) ∙ texts-none g table xs apart none h.1

pub all_texts-none : (g : LineSource) (table : TextSection) (p e : ℕ) (rs : List LineReading) → ((at : ℕ) → ends_in g.line_str.bytes at ≡ true → g.line_str.number ≢ g.str.number)
    → (texts_in g table).bytes ≡ [] → TablesTo g p rs e → all_texts_mentions g table rs ≡ []
all_texts-none g table p e [] apart none reads = refl
all_texts-none g table p e (r ∷ rs) apart none reads =
    ap (λ (ms : List Mention). ms ++ all_texts_mentions g table rs)
    (texts-none g table (table_read g r).texts apart none (lists-texts g r.header (table_bytes g r.header) r.dirs r.files r.behind reads.0.lists))
    ∙ all_texts-none g table r.header.end e rs apart none reads.1
