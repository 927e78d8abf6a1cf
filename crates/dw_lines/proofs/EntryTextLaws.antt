-- Laws of the texts of directories and files of version 5, column by column, entry by entry, and of both lists.
use Rattle.std.proofs.Common.{Bool, true, ◌≡◌, ℕ, zero, suc, ◌+◌, ◌-◌, ◌<◌, ◌≤◌, ◌==◌, List, [], ◌∷◌, ◌++◌, length, drop, get_or, Some, None, refl, sym, ap, ◌∙◌, subst, arith, append_assoc, if◌then◌else◌}
use Rattle.std.specs.Prelude.{Result, Ok, Err, unwrap_or}
use Rattle.std.proofs.Math.Seq.{drop-cons}
use Rattle.std.proofs.lemmas.Bool.{eq-eqb}
use Rattle.std.proofs.lemmas.List.{append-nil, drop_all}
use Rattle.dw_base.specs.Lebs.{uleb_at}
use Rattle.dw_base.specs.LineEntries.{bad_table, column_at, columns, counted_entries, entries_at, entry_at, file_of, list_end, next_column, place_behind, with_column}
use Rattle.dw_base.specs.LineFormats.{format_at}
use Rattle.dw_base.specs.LineSources.{LineSource}
use Rattle.dw_base.specs.Refusals.{Blames}
use Rattle.dw_base.specs.TableTexts.{as_paths, column_text, column_texts, entries_texts, entry_texts, list_texts, takes_path, texts_by, texts_counted, texts_then}
use Rattle.dw_base.specs.Walks.{or_refused}
use Rattle.dw_base.specs.declared.fault.Fault.{Fault}
use Rattle.dw_base.specs.declared.fault.Fault.TheVariants.{NoMemory, Refused}
use Rattle.dw_base.specs.declared.fault.Refusal.{Refusal}
use Rattle.dw_base.specs.declared.line_tables.Column.{Column}
use Rattle.dw_base.specs.declared.line_tables.Entry.{Entry}
use Rattle.dw_base.specs.declared.line_tables.FilePlace.{FilePlace}
use Rattle.dw_base.specs.declared.line_tables.LineHeader.{LineHeader}
use Rattle.dw_base.specs.declared.line_tables.LineText.{LineText}
use Rattle.dw_base.specs.declared.line_tables.TextPlace.{TextPlace}
use Rattle.dw_base.specs.declared.values.Spec.{Spec}
use Rattle.dw_lines.proofs.EntryLaws.{EntriesFrom, columns-step, entries-more, entries-refused}

-- the text of one column
pub text-none : (spec : Spec) (e : Entry) (old new : List LineText) → new ≡ old → new ≡ old ++ column_text spec e None
text-none spec e old new n = n ∙ sym (append-nil old)

pub text-there : (spec : Spec) (e : Entry) (t : TextPlace) (path : Bool) (old new : List LineText) → path ≡ takes_path spec e
    → new ≡ old ++ record { place = t; path = path } ∷ [] → new ≡ old ++ column_text spec e (Some t)
text-there spec e t path old new p n = n ∙ ap (λ (b : Bool). old ++ record { place = t; path = b } ∷ []) p

pub ruleset text_laws = (text-none, text-there)

-- a column more
pub next-read : (g : LineSource) (h : LineHeader) (table : List ℕ) (spec : Spec) (e n : Entry) (c : Column) → Ok c ≡ column_at g h table spec e.next → n ≡ with_column spec e c
    → next_column g h table spec e ≡ Ok n
next-read g h table spec e n c at is = rw (← at, is) refl

pub next-texts : (g : LineSource) (h : LineHeader) (table : List ℕ) (spec : Spec) (e : Entry) (c : Column) (old new : List LineText)
    → Ok c ≡ column_at g h table spec e.next → new ≡ old ++ column_text spec e c.text → new ≡ old ++ column_texts spec e (column_at g h table spec e.next)
next-texts g h table spec e c old new at n = n ∙ ap (λ (x : Result Column Refusal). old ++ column_texts spec e x) at

pub next-refused : (g : LineSource) (h : LineHeader) (table : List ℕ) (spec : Spec) (e : Entry) (r : Refusal) → Err r ≡ column_at g h table spec e.next
    → next_column g h table spec e ≡ Err r
next-refused g h table spec e r at = rw (← at) refl

pub ruleset next_laws = (next-read, next-texts, next-refused)

-- the columns that are left in an entry are what all of it makes of them, and so are their texts
pub record ColumnsFrom (g : LineSource) (h : LineHeader) (table : List ℕ) (specs : List Spec) (place : ℕ) (old texts : List LineText) (i : ℕ) (e : Entry) : Type 0 where
  pub read : columns g h table specs (record { text = None; dir = None; next = place }) ≡ columns g h table (drop i specs) e
  pub all : old ++ entry_texts g h table specs (record { text = None; dir = None; next = place }) ≡ texts ++ entry_texts g h table (drop i specs) e

pub columns-start : (g : LineSource) (h : LineHeader) (table : List ℕ) (specs : List Spec) (place : ℕ) (old : List LineText)
    → ColumnsFrom g h table specs place old old 0 (record { text = None; dir = None; next = place })
columns-start g h table specs place old = record { read = refl; all = refl }

texts-step : (g : LineSource) (h : LineHeader) (table : List ℕ) (specs : List Spec) (i : ℕ) (d : Spec) (e : Entry) → i < length specs
    → entry_texts g h table (drop i specs) e
    ≡ column_texts (get_or specs i d) e (column_at g h table (get_or specs i d) e.next)
    ++ texts_then (λ n. entry_texts g h table (drop (i + 1) specs) n) (next_column g h table (get_or specs i d) e)
texts-step g h table specs i d e lt =
    let one : suc i ≡ i + 1 = omega arith in
    ap (λ (ss : List Spec). entry_texts g h table ss e) (drop-cons specs i d lt)
    ∙ ap (λ (k : ℕ). column_texts (get_or specs i d) e (column_at g h table (get_or specs i d) e.next)
    ++ texts_then (λ n. entry_texts g h table (drop k specs) n) (next_column g h table (get_or specs i d) e)) one

pub columns-more : (g : LineSource) (h : LineHeader) (table : List ℕ) (specs : List Spec) (place : ℕ) (old texts more : List LineText) (i : ℕ) (d : Spec) (e next : Entry)
    → ColumnsFrom g h table specs place old texts i e → i < length specs → next_column g h table (get_or specs i d) e ≡ Ok next
    → more ≡ texts ++ column_texts (get_or specs i d) e (column_at g h table (get_or specs i d) e.next)
    → ColumnsFrom g h table specs place old more (i + 1) next
columns-more g h table specs place old texts more i d e next from lt n m =
    let own : List LineText = column_texts (get_or specs i d) e (column_at g h table (get_or specs i d) e.next) in
    record {
      read = from.read ∙ columns-step g h table specs i d e lt ∙ ap (or_refused (columns g h table (drop (i + 1) specs))) n;
      all =
          from.all ∙ ap (λ (xs : List LineText). texts ++ xs) (texts-step g h table specs i d e lt)
          ∙ ap (λ (x : Result Entry Refusal). texts ++ (own ++ texts_then (λ k. entry_texts g h table (drop (i + 1) specs) k) x)) n
          ∙ sym (append_assoc texts own (entry_texts g h table (drop (i + 1) specs) next))
          ∙ ap (λ (xs : List LineText). xs ++ entry_texts g h table (drop (i + 1) specs) next) (sym m);
    }

pub columns-over : (g : LineSource) (h : LineHeader) (table : List ℕ) (specs : List Spec) (place : ℕ) (old texts : List LineText) (i : ℕ) (e : Entry)
    → ColumnsFrom g h table specs place old texts i e → length specs ≤ i → columns g h table specs (record { text = None; dir = None; next = place }) ≡ Ok e
columns-over g h table specs place old texts i e from le = from.read ∙ ap (λ (ss : List Spec). columns g h table ss e) (drop_all i specs le)

pub column-texts-over : (g : LineSource) (h : LineHeader) (table : List ℕ) (specs : List Spec) (place : ℕ) (old texts : List LineText) (i : ℕ) (e : Entry)
    → ColumnsFrom g h table specs place old texts i e → length specs ≤ i
    → texts ≡ old ++ entry_texts g h table specs (record { text = None; dir = None; next = place })
column-texts-over g h table specs place old texts i e from le =
    sym (from.all ∙ ap (λ (ss : List Spec). texts ++ entry_texts g h table ss e) (drop_all i specs le) ∙ append-nil texts)

pub columns-refused : (g : LineSource) (h : LineHeader) (table : List ℕ) (specs : List Spec) (place : ℕ) (old texts : List LineText) (i : ℕ) (d : Spec) (e : Entry) (f : Fault)
    → ColumnsFrom g h table specs place old texts i e → i < length specs → Blames (λ r. next_column g h table (get_or specs i d) e ≡ Err r) f
    → Blames (λ r. columns g h table specs (record { text = None; dir = None; next = place }) ≡ Err r) f
columns-refused g h table specs place old texts i d e NoMemory from lt n = tt
columns-refused g h table specs place old texts i d e (Refused r) from lt n =
    from.read ∙ columns-step g h table specs i d e lt ∙ ap (or_refused (columns g h table (drop (i + 1) specs))) n

pub ruleset column_laws = (columns-start, columns-more, columns-over, column-texts-over, columns-refused)

-- an entry of these columns
pub file-read : (g : LineSource) (h : LineHeader) (table : List ℕ) (specs : List Spec) (place dir : ℕ) (e : Entry) (t : TextPlace)
    → columns g h table specs (record { text = None; dir = None; next = place }) ≡ Ok e → e.text ≡ Some t → dir ≡ unwrap_or e.dir 0
    → entry_at g h table specs place ≡ Ok (record { text = t; dir = dir }, e.next)
unfolding entry_at
file-read g h table specs place dir e t is text d =
    ap (or_refused (λ (x : Entry). file_of g.number h x x.text)) is ∙ ap (file_of g.number h e) text
    ∙ ap (λ (n : ℕ). Ok (record { text = t; dir = n }, e.next)) (sym d)

pub file-none : (g : LineSource) (h : LineHeader) (table : List ℕ) (specs : List Spec) (place : ℕ) (e : Entry)
    → columns g h table specs (record { text = None; dir = None; next = place }) ≡ Ok e → e.text ≡ None
    → entry_at g h table specs place ≡ Err (bad_table g.number h)
unfolding entry_at
file-none g h table specs place e is text = ap (or_refused (λ (x : Entry). file_of g.number h x x.text)) is ∙ ap (file_of g.number h e) text

pub file-refused : (g : LineSource) (h : LineHeader) (table : List ℕ) (specs : List Spec) (place : ℕ) (f : Fault)
    → Blames (λ r. columns g h table specs (record { text = None; dir = None; next = place }) ≡ Err r) f → Blames (λ r. entry_at g h table specs place ≡ Err r) f
unfolding entry_at
file-refused g h table specs place NoMemory b = tt
file-refused g h table specs place (Refused r) b = ap (or_refused (λ (x : Entry). file_of g.number h x x.text)) b

pub ruleset file_laws = (file-read, file-none, file-refused)

-- the texts of the entries that are left
pub record TextsFrom (g : LineSource) (h : LineHeader) (table : List ℕ) (specs : List Spec) (place left next : ℕ) (old texts : List LineText) : Type 0 where
  pub all : old ++ texts_counted g h table specs place (uleb_at table place) ≡ texts ++ entries_texts g h table specs left next

pub texts-start : (g : LineSource) (h : LineHeader) (table : List ℕ) (specs : List Spec) (place count size next : ℕ) (old : List LineText)
    → Some (count, size) ≡ uleb_at table place → next ≡ place + size → TextsFrom g h table specs place count next old old
texts-start g h table specs place count size next old e n = rw n (record { all = rw (← e) refl })

pub texts-more : (g : LineSource) (h : LineHeader) (table : List ℕ) (specs : List Spec) (place left next behind : ℕ) (old texts more : List LineText) (f : FilePlace)
    → TextsFrom g h table specs place left next old texts → 0 < left → entry_at g h table specs next ≡ Ok (f, behind)
    → more ≡ texts ++ entry_texts g h table specs (record { text = None; dir = None; next = next }) → TextsFrom g h table specs place (left - 1) behind old more
texts-more g h table specs place zero next behind old texts more f from lt e m = absurd (omega (arith, lt))
texts-more g h table specs place (suc n) next behind old texts more f from lt e m =
    let same : n ≡ suc n - 1 = omega arith in
    let own : List LineText = entry_texts g h table specs (record { text = None; dir = None; next = next }) in
    subst (λ (k : ℕ). TextsFrom g h table specs place k behind old more) same
    (record {
      all =
          from.all
          ∙ ap (λ (x : Result (FilePlace × ℕ) Refusal). texts ++ (own ++ texts_then (λ k. entries_texts g h table specs n k.1) x)) e
          ∙ sym (append_assoc texts own (entries_texts g h table specs n behind))
          ∙ ap (λ (xs : List LineText). xs ++ entries_texts g h table specs n behind) (sym m);
    })

pub texts-over : (g : LineSource) (h : LineHeader) (table : List ℕ) (specs : List Spec) (place left next : ℕ) (old texts : List LineText)
    → TextsFrom g h table specs place left next old texts → left ≤ 0 → texts ≡ old ++ texts_counted g h table specs place (uleb_at table place)
texts-over g h table specs place zero next old texts from le = sym (from.all ∙ append-nil texts)
texts-over g h table specs place (suc n) next old texts from le = absurd (omega (arith, le))

-- and the entries themselves
pub read-more : (g : LineSource) (h : LineHeader) (table : List ℕ) (specs : List Spec) (place left next behind : ℕ) (files more : List FilePlace) (f : FilePlace)
    → EntriesFrom g h table specs place left files next → 0 < left → entry_at g h table specs next ≡ Ok (f, behind) → more ≡ files ++ f ∷ []
    → EntriesFrom g h table specs place (left - 1) more behind
read-more g h table specs place left next behind files more f from lt e m = entries-more g h table specs place left next behind files more f from lt (sym e) m

pub read-refused : (g : LineSource) (h : LineHeader) (table : List ℕ) (specs : List Spec) (place left next : ℕ) (files : List FilePlace) (f : Fault)
    → EntriesFrom g h table specs place left files next → 0 < left → Blames (λ r. entry_at g h table specs next ≡ Err r) f
    → Blames (λ r. counted_entries g h table specs place (uleb_at table place) ≡ Err r) f
read-refused g h table specs place left next files NoMemory from lt b = tt
read-refused g h table specs place left next files (Refused r) from lt b = entries-refused g h table specs place left next files r from lt (sym b)

pub ruleset entries_laws = (texts-start, texts-more, texts-over, read-more, read-refused)

-- behind a format
pub texts-behind : (g : LineSource) (h : LineHeader) (table : List ℕ) (place next : ℕ) (specs : List Spec) (old new : List LineText)
    → format_at table place ≡ Some (specs, next) → new ≡ old ++ texts_counted g h table specs next (uleb_at table next) → new ≡ old ++ list_texts g h table place
texts-behind g h table place next specs old new f n = rw f n

pub ruleset formed_laws = (texts-behind)

-- those of both lists
pub texts-new : (g : LineSource) (h : LineHeader) (table : List ℕ) (dirs : List FilePlace) (place : ℕ) (paths : List TextPlace) (none first all : List LineText) → h.version ≡ 5
    → entries_at g h table h.lists ≡ Ok (dirs, place) → none ≡ [] → first ≡ none ++ list_texts g h table h.lists → all ≡ first ++ list_texts g h table place
    → all ≡ texts_by g h table paths
texts-new g h table dirs place paths none first all five d empty one both =
    let end : list_end g h table h.lists ≡ place = ap (place_behind h.lists) d in
    let test : (h.version == 5) ≡ true = eq-eqb h.version 5 five in
    both ∙ ap (λ (xs : List LineText). xs ++ list_texts g h table place) (one ∙ ap (λ (xs : List LineText). xs ++ list_texts g h table h.lists) empty)
    ∙ ap (λ (n : ℕ). list_texts g h table h.lists ++ list_texts g h table n) (sym end)
    ∙ sym (ap (λ (b : Bool). if b then list_texts g h table h.lists ++ list_texts g h table (list_end g h table h.lists) else as_paths paths) test)
