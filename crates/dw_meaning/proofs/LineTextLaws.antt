-- The paths among the texts of a line table are the directories and files that were read.
use Rattle.std.proofs.Common.{Bool, true, false, ◌≡◌, ℕ, ◌+◌, ◌==◌, ◌&&◌, not, List, [], ◌∷◌, ◌++◌, length, Option, Some, None, refl, sym, ap, ◌∙◌, if◌then◌else◌}
use Rattle.std.specs.Prelude.{Result, Ok, is_some}
use Rattle.std.proofs.lemmas.Bool.{eq-eqb, ne_eqb}
use Rattle.std.proofs.lemmas.List.{append-nil}
use Rattle.dw_base.specs.LineEntries.{columns, entries_at, list_end, place_behind, result_with, with_column}
use Rattle.dw_base.specs.LineReadings.{LineReading, ReadsTable, table_read}
use Rattle.dw_base.specs.LineSources.{LineSource}
use Rattle.dw_base.specs.LineTables.{HasLists, old_lists, new_lists, table_bytes, texts_of}
use Rattle.dw_base.specs.TableTexts.{as_paths, column_text, column_texts, entries_texts, entry_texts, list_texts, paths_among, texts_by, texts_counted, texts_formed, texts_then}
use Rattle.dw_base.specs.declared.fault.Refusal.{Refusal}
use Rattle.dw_base.specs.declared.line_numbers.TheConstants.{DW_LNCT_path}
use Rattle.dw_base.specs.declared.line_tables.Column.{Column}
use Rattle.dw_base.specs.declared.line_tables.Entry.{Entry}
use Rattle.dw_base.specs.declared.line_tables.FilePlace.{FilePlace}
use Rattle.dw_base.specs.declared.line_tables.LineHeader.{LineHeader}
use Rattle.dw_base.specs.declared.line_tables.LineText.{LineText}
use Rattle.dw_base.specs.declared.line_tables.TextPlace.{TextPlace}
use Rattle.dw_base.specs.declared.values.Spec.{Spec}
use Rattle.dw_meaning.proofs.LineEntryLaws.{text_with, column-step, entry-same}
use Rattle.dw_meaning.proofs.LineListLaws.{entry-is, list-is}
use Rattle.dw_meaning.proofs.LineWalkLaws.{NewFiles}

abbrev as_list : Option TextPlace → List TextPlace
as_list None = []
as_list (Some t) = t ∷ []

-- a text of a column, where the column is a path by its name or not, behind a path or none
abbrev text_named : Bool → Option TextPlace → Option TextPlace → List LineText
text_named b o None = []
text_named b o (Some t) = record { place = t; path = not (is_some o) && b } ∷ []

one-column : (b : Bool) (o t : Option TextPlace) (tail : List LineText) (all : List TextPlace)
    → as_list (text_with b o t) ++ paths_among tail ≡ all → as_list o ++ paths_among (text_named b o t ++ tail) ≡ all
one-column true None None tail all h = h
one-column true None (Some t) tail all h = h
one-column true (Some x) None tail all h = h
one-column true (Some x) (Some t) tail all h = h
one-column false None None tail all h = h
one-column false None (Some t) tail all h = h
one-column false (Some x) None tail all h = h
one-column false (Some x) (Some t) tail all h = h

named-same : (spec : Spec) (e : Entry) (t : Option TextPlace) → column_text spec e t ≡ text_named (spec.name == DW_LNCT_path) e.text t
named-same spec e None = refl
named-same spec e (Some t) = refl

columns-paths : (g : LineSource) (h : LineHeader) (table : List ℕ) (specs : List Spec) (e last : Entry) → columns g h table specs e ≡ Ok last
    → as_list e.text ++ paths_among (entry_texts g h table specs e) ≡ as_list last.text
columns-paths g h table [] e last is = append-nil (as_list e.text) ∙ ap (λ (x : Entry). as_list x.text) (entry-same e last is)
columns-paths g h table (spec ∷ specs) e last is =
    let s = column-step g h table spec specs e last is in
    let rest = columns-paths g h table specs (with_column spec e s.column) last s.rest in
    ap (λ (c : Result Column Refusal). as_list e.text ++ paths_among (column_texts spec e c ++ texts_then (λ n. entry_texts g h table specs n) (result_with (with_column spec e) c))) s.is
    ∙ ap (λ (xs : List LineText). as_list e.text ++ paths_among (xs ++ entry_texts g h table specs (with_column spec e s.column))) (named-same spec e s.column.text)
    ∙ one-column (spec.name == DW_LNCT_path) e.text s.column.text (entry_texts g h table specs (with_column spec e s.column)) (as_list last.text) rest

pub paths-append : (xs ys : List LineText) → paths_among (xs ++ ys) ≡ paths_among xs ++ paths_among ys
paths-append [] ys = refl
paths-append (x ∷ xs) ys = by_path x.path (paths-append xs ys)
  where
    by_path : (b : Bool) → paths_among (xs ++ ys) ≡ paths_among xs ++ paths_among ys
        → (if b then x.place ∷ paths_among (xs ++ ys) else paths_among (xs ++ ys)) ≡ (if b then x.place ∷ paths_among xs else paths_among xs) ++ paths_among ys
    by_path true e = ap (λ (ts : List TextPlace). x.place ∷ ts) e
    by_path false e = e

entries-paths : (g : LineSource) (h : LineHeader) (table : List ℕ) (specs : List Spec) (p : ℕ) (fs : List FilePlace) (e : ℕ) → NewFiles g h table specs p fs e
    → paths_among (entries_texts g h table specs (length fs) p) ≡ texts_of fs
entries-paths g h table specs p [] e d = refl
entries-paths g h table specs p (f ∷ fs) e d =
    let x = entry-is g h table specs p f d.0.next d.0.entry in
    let one = columns-paths g h table specs (record { text = None; dir = None; next = p }) x.last x.columns_are ∙ ap as_list x.text in
    ap (λ (r : Result (FilePlace × ℕ) Refusal). paths_among (entry_texts g h table specs (record { text = None; dir = None; next = p }) ++ texts_then (λ k. entries_texts g h table specs (length fs) k.1) r)) d.0.entry
    ∙ paths-append (entry_texts g h table specs (record { text = None; dir = None; next = p })) (entries_texts g h table specs (length fs) d.0.next)
    ∙ ap (λ (ts : List TextPlace). ts ++ paths_among (entries_texts g h table specs (length fs) d.0.next)) one
    ∙ ap (λ (ts : List TextPlace). f.text ∷ ts) (entries-paths g h table specs d.0.next fs e d.1)

-- of a list that was read
list-paths : (g : LineSource) (h : LineHeader) (table : List ℕ) (p : ℕ) (files : List FilePlace) (e : ℕ) → entries_at g h table p ≡ Ok (files, e)
    → paths_among (list_texts g h table p) ≡ texts_of files
list-paths g h table p files e is =
    let r = list-is g h table p files e is in
    ap (λ (o : Option (List Spec × ℕ)). paths_among (texts_formed g h table o)) r.format_is
    ∙ ap (λ (o : Option (ℕ × ℕ)). paths_among (texts_counted g h table r.format.0 r.format.1 o)) r.count_is
    ∙ ap (λ (n : ℕ). paths_among (entries_texts g h table r.format.0 n (r.format.1 + r.count.1))) (sym r.number)
    ∙ entries-paths g h table r.format.0 (r.format.1 + r.count.1) files e r.are

paths-same : (xs : List TextPlace) → paths_among (as_paths xs) ≡ xs
paths-same [] = refl
paths-same (x ∷ xs) = ap (λ (ys : List TextPlace). x ∷ ys) (paths-same xs)

lists-paths : (g : LineSource) (h : LineHeader) (table : List ℕ) (dirs : List TextPlace) (files : List FilePlace) (behind : ℕ) → HasLists g h table dirs files behind
    → paths_among (texts_by g h table (dirs ++ texts_of files)) ≡ dirs ++ texts_of files
lists-paths g h table dirs files behind (old_lists ds fs place e other d f) =
    ap (λ (b : Bool). paths_among (if b then list_texts g h table h.lists ++ list_texts g h table (list_end g h table h.lists) else as_paths (dirs ++ texts_of files))) (ne_eqb h.version 5 other)
    ∙ paths-same (dirs ++ texts_of files)
lists-paths g h table dirs files behind (new_lists ds fs place e five d f) =
    let end : list_end g h table h.lists ≡ place = ap (place_behind h.lists) d in
    ap (λ (b : Bool). paths_among (if b then list_texts g h table h.lists ++ list_texts g h table (list_end g h table h.lists) else as_paths (texts_of ds ++ texts_of files))) (eq-eqb h.version 5 five)
    ∙ ap (λ (n : ℕ). paths_among (list_texts g h table h.lists ++ list_texts g h table n)) end
    ∙ paths-append (list_texts g h table h.lists) (list_texts g h table place)
    ∙ ap (λ (ts : List TextPlace). ts ++ paths_among (list_texts g h table place)) (list-paths g h table h.lists ds place d)
    ∙ ap (λ (ts : List TextPlace). texts_of ds ++ ts) (list-paths g h table place files behind f)

-- of a table that was read
pub table-paths-among : (g : LineSource) (start : ℕ) (r : LineReading) → ReadsTable g start r → paths_among (table_read g r).texts ≡ r.dirs ++ texts_of r.files
table-paths-among g start r reads = lists-paths g r.header (table_bytes g r.header) r.dirs r.files r.behind reads.lists
