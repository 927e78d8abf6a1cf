-- The lists of directories and files under an edit, of all versions: they are read with their paths mapped.
use Rattle.std.proofs.Common.{true, false, ◌≡◌, ℕ, pos, zero, suc, ◌+◌, ◌-◌, ◌<◌, ◌≤◌, List, [], ◌∷◌, ◌++◌, length, drop, slice_index, get_or, Option, Some, None, refl, sym, ap, ◌∙◌, subst, arith, append_assoc}
use Rattle.std.specs.Prelude.{Result, Ok, Err, ⊤, unwrap_or, nat_lt, option_and_then, option_map}
use Rattle.std.proofs.lemmas.Bool.{ltb-true, lt-ltb}
use Rattle.std.proofs.lemmas.List.{length-drop, get_or_append_left, get_or-drop}
use Rattle.dw_base.specs.Cells.{Cell}
use Rattle.dw_base.specs.Lebs.{uleb_at}
use Rattle.dw_base.specs.LineEntries.{columns, file_of, entry_at, counted_entries, entries_behind, entries_at, next_entry}
use Rattle.dw_base.specs.LineFormats.{is_column, spec_at, with_spec, next_spec, format_at}
use Rattle.dw_base.specs.LineMeanings.{place_text, LineColumn, columns_counted, columns_formed, columns_there, further_columns, entries_columns, listed_columns}
use Rattle.dw_base.specs.LineSources.{LineSource}
use Rattle.dw_base.specs.Paths.{PathMap, mapped_path}
use Rattle.dw_base.specs.Walks.{fallible_steps, steps}
use Rattle.dw_base.specs.TableTexts.{entries_texts, entry_texts, list_texts, texts_counted, texts_formed, texts_then}
use Rattle.dw_base.specs.TextLineChanges.{texts_changes}
use Rattle.dw_base.specs.WrittenLines.{part, Change}
use Rattle.dw_base.specs.declared.fault.Refusal.{Refusal}
use Rattle.dw_base.specs.declared.line_tables.Entry.{Entry}
use Rattle.dw_base.specs.declared.line_tables.FilePlace.{FilePlace}
use Rattle.dw_base.specs.declared.line_tables.LineHeader.{LineHeader}
use Rattle.dw_base.specs.declared.line_tables.LineText.{LineText}
use Rattle.dw_base.specs.declared.line_tables.TextPlace.{TextPlace}
use Rattle.dw_base.specs.declared.values.Spec.{Spec}
use Rattle.dw_base.proofs.ContributionBackLaws.{StandsAt}
use Rattle.dw_base.proofs.LebLaws.{uleb-inside}
use Rattle.dw_meaning.specs.LineCells.{CellChange}
use Rattle.dw_meaning.specs.TextLineCells.{texts_cells}
use Rattle.dw_meaning.proofs.CellRestLaws.{CellRest, cells-copied, clear-none, same-from}
use Rattle.dw_meaning.proofs.ClearLaws.{Clear, ColumnsClear, EntriesClear, ListClear, whole-clear}
use Rattle.dw_meaning.proofs.LineCellLaws.{SameChanges, same-append}
use Rattle.dw_meaning.proofs.TextCellLaws.{texts-bytes}
use Rattle.dw_meaning.proofs.LineChangeLaws.{From, Rest, copied, from-before, from-end, part-length}
use Rattle.dw_meaning.proofs.LineColumnLaws.{edited_with, SourceMoves}
use Rattle.dw_meaning.proofs.LineEntryLaws.{AreColumns, EachMoves, MovedText, cells-append, changes-append, columns-from, columns-moved, moves-parts}
use Rattle.dw_meaning.proofs.LineMoveLaws.{LinePlaces, moved_header, Sides}
use Rattle.dw_meaning.proofs.LineReadLaws.{Both, both-behind, uleb-both, bound, made, if-some, some-same}
use Rattle.dw_meaning.proofs.LineWalkLaws.{NewFiles, bound-ok, entries-read, entries-run}
use Rattle.dw_meaning.proofs.TextMentionLaws.{MentionsMoved, mentions-both, mentions-none}

-- an entry by its columns
pub record EntryIs (g : LineSource) (h : LineHeader) (table : List ℕ) (specs : List Spec) (p : ℕ) (f : FilePlace) (next : ℕ) : Type 0 where
  pub last : Entry
  pub columns_are : columns g h table specs (record { text = None; dir = None; next = p }) ≡ Ok last
  pub text : last.text ≡ Some f.text
  pub dir : f.dir ≡ unwrap_or last.dir 0
  pub behind : last.next ≡ next

ok-pair : (a b : FilePlace × ℕ) → ◌≡◌ {A = Result (FilePlace × ℕ) Refusal} (Ok a) (Ok b) → a ≡ b
ok-pair a b e = ap (read_or a) e
  where
    read_or : FilePlace × ℕ → Result (FilePlace × ℕ) Refusal → FilePlace × ℕ
    read_or d (Ok y) = y
    read_or d (Err r) = d

err-ok : {Y E : Type 0} (r : E) (y : Y) → ◌≡◌ {A = Result Y E} (Err r) (Ok y) → ⊥
err-ok r y e = cc

pub entry-is : (g : LineSource) (h : LineHeader) (table : List ℕ) (specs : List Spec) (p : ℕ) (f : FilePlace) (next : ℕ) → entry_at g h table specs p ≡ Ok (f, next)
    → EntryIs g h table specs p f next
unfolding entry_at
entry-is g h table specs p f next e =
    let first = bound-ok (λ (x : Entry). file_of g.number h x x.text) (columns g h table specs (record { text = None; dir = None; next = p })) (f, next) e in
    by_text first.first first.is first.first.text refl first.rest
  where
    by_text : (x : Entry) → columns g h table specs (record { text = None; dir = None; next = p }) ≡ Ok x → (o : Option TextPlace) → x.text ≡ o
        → file_of g.number h x o ≡ Ok (f, next) → EntryIs g h table specs p f next
    by_text x is None t e = absurd (err-ok _ (f, next) e)
    by_text x is (Some u) t e =
        let same : ◌≡◌ {A = FilePlace × ℕ} (record { text = u; dir = unwrap_or x.dir 0 }, x.next) (f, next) = ok-pair _ (f, next) e in
        record {
          last = x;
          columns_are = is;
          text = t ∙ ap (λ (y : FilePlace × ℕ). Some y.0.text) same;
          dir = ap (λ (y : FilePlace × ℕ). y.0.dir) (sym same);
          behind = ap (λ (y : FilePlace × ℕ). y.1) same;
        }

entry-there : (g : LineSource) (h : LineHeader) (table : List ℕ) (specs : List Spec) (p : ℕ) (x : Entry) (t : TextPlace)
    → columns g h table specs (record { text = None; dir = None; next = p }) ≡ Ok x → x.text ≡ Some t
    → entry_at g h table specs p ≡ Ok (record { text = t; dir = unwrap_or x.dir 0 }, x.next)
unfolding entry_at
entry-there g h table specs p x t is some = rw is (ap (file_of g.number h x) some)

-- files with mapped paths
abbrev pub MovedFiles : LineSource → LineSource → PathMap → List FilePlace → List FilePlace → Type 0
MovedFiles g k m [] [] = ⊤
MovedFiles g k m [] (u ∷ us) = ⊥
MovedFiles g k m (f ∷ fs) [] = ⊥
MovedFiles g k m (f ∷ fs) (u ∷ us) = (u.dir ≡ f.dir) × (place_text k u.text ≡ mapped_path m (place_text g f.text)) × MovedFiles g k m fs us

-- an entry under an edit
record FileMoved (g k : LineSource) (m : PathMap) (h : LineHeader) (n : LinePlaces) (old new : List ℕ) (end : ℕ) (cs : List Change)
    (us : List CellChange) (tail : List Cell) (specs : List Spec) (p q : ℕ) (f : FilePlace) (next : ℕ) : Type 0 where
  file : FilePlace
  behind : ℕ
  entry : entry_at k (moved_header h n) new specs q ≡ Ok (file, behind)
  dir : file.dir ≡ f.dir
  says : place_text k file.text ≡ mapped_path m (place_text g f.text)
  rest : Rest old new end cs next behind
  cells : CellRest g.cells k.cells end us tail next behind
  clear : ColumnsClear k (moved_header h n) new specs q
  mentions : MentionsMoved g k m (entry_texts g h old specs (record { text = None; dir = None; next = p })) (entry_texts k (moved_header h n) new specs (record { text = None; dir = None; next = q }))
  further : further_columns k (moved_header h n) new specs false q ≡ further_columns g h old specs false p

file-from : (g : LineSource) (m : PathMap) (s l old : List ℕ) (h : LineHeader) (places : LineText → Option ℕ) (end : ℕ) (cs : List Change) (specs : List Spec) (p : ℕ) (f : FilePlace) (next : ℕ)
    → SourceMoves g m s l → AreColumns specs → entry_at g h old specs p ≡ Ok (f, next) → From end next cs
    → From end p (texts_changes g m places h.width (entry_texts g h old specs (record { text = None; dir = None; next = p })) ++ cs) × (p ≤ next)
file-from g m s l old h places end cs specs p f next w plain e from =
    let x = entry-is g h old specs p f next e in
    let r = columns-from g m s l old h places end cs specs (record { text = None; dir = None; next = p }) x.last w plain x.columns_are
    (subst (λ (i : ℕ). From end i cs) (sym x.behind) from) in
    (r.0, subst (λ (i : ℕ). p ≤ i) x.behind r.1)

file-moved : (g : LineSource) (m : PathMap) (bytes : List ℕ) (cells : List Cell) (s l old new : List ℕ) (h : LineHeader) (n : LinePlaces) (places : LineText → Option ℕ) (end : ℕ) (cs : List Change)
    (us : List CellChange) (tail : List Cell) (specs : List Spec) (p q : ℕ) (f : FilePlace) (next : ℕ) → SourceMoves g m s l → Sides g bytes cells old new → AreColumns specs → entry_at g h old specs p ≡ Ok (f, next)
    → EachMoves g m s l h.width places (entry_texts g h old specs (record { text = None; dir = None; next = p }))
    → Rest old new end (texts_changes g m places h.width (entry_texts g h old specs (record { text = None; dir = None; next = p })) ++ cs) p q
    → CellRest g.cells cells end (texts_cells g m places h.width (entry_texts g h old specs (record { text = None; dir = None; next = p })) ++ us) tail p q
    → SameChanges us cs → From end next cs → ColumnsClear g h old specs p
    → FileMoved g (edited_with g bytes cells s l) m h n old new end cs us tail specs p q f next
file-moved g m bytes cells s l old new h n places end cs us tail specs p q f next w sides plain e moves rest cell both from clear =
    let x = entry-is g h old specs p f next e in
    let r = columns-moved g m bytes cells s l old new h n places end cs us tail specs (record { text = None; dir = None; next = p }) (record { text = None; dir = None; next = q }) x.last w sides plain
    x.columns_are moves refl tt rest cell both (subst (λ (i : ℕ). From end i cs) (sym x.behind) from) clear in
    by_text r.entry r.entry.text refl r.is r.dir (subst (λ (o : Option TextPlace). MovedText g (edited_with g bytes cells s l) m o r.entry.text) x.text r.text)
    (subst (λ (i : ℕ). Rest old new end cs i r.entry.next) x.behind r.rest)
    (subst (λ (i : ℕ). CellRest g.cells cells end us tail i r.entry.next) x.behind r.cells) r.clear r.mentions r.further x.dir
  where
    by_text : (y : Entry) → (o : Option TextPlace) → y.text ≡ o → columns (edited_with g bytes cells s l) (moved_header h n) new specs (record { text = None; dir = None; next = q }) ≡ Ok y
        → {d : Option ℕ} → y.dir ≡ d → MovedText g (edited_with g bytes cells s l) m (Some f.text) y.text → Rest old new end cs next y.next
        → CellRest g.cells cells end us tail next y.next → ColumnsClear (edited_with g bytes cells s l) (moved_header h n) new specs q
        → MentionsMoved g (edited_with g bytes cells s l) m (entry_texts g h old specs (record { text = None; dir = None; next = p }))
        (entry_texts (edited_with g bytes cells s l) (moved_header h n) new specs (record { text = None; dir = None; next = q }))
        → further_columns (edited_with g bytes cells s l) (moved_header h n) new specs false q ≡ further_columns g h old specs false p → f.dir ≡ unwrap_or d 0
        → FileMoved g (edited_with g bytes cells s l) m h n old new end cs us tail specs p q f next
    by_text y None t is dir moved r cell_rest none mentions further own = absurd (subst (λ (o : Option TextPlace). MovedText g (edited_with g bytes cells s l) m (Some f.text) o) t moved)
    by_text y (Some u) t is dir moved r cell_rest none mentions further own = record {
      file = record { text = u; dir = unwrap_or y.dir 0 };
      behind = y.next;
      entry = entry-there (edited_with g bytes cells s l) (moved_header h n) new specs q y u is t;
      dir = ap (λ (o : Option ℕ). unwrap_or o 0) dir ∙ sym own;
      says = subst (λ (o : Option TextPlace). MovedText g (edited_with g bytes cells s l) m (Some f.text) o) t moved;
      rest = r;
      cells = cell_rest;
      clear = none;
      mentions = mentions;
      further = further;
    }

-- the texts of entries whose first was read
pub files-step : (g : LineSource) (h : LineHeader) (table : List ℕ) (specs : List Spec) (n p : ℕ) (f : FilePlace) (next : ℕ) → entry_at g h table specs p ≡ Ok (f, next)
    → entries_texts g h table specs (suc n) p ≡ entry_texts g h table specs (record { text = None; dir = None; next = p }) ++ entries_texts g h table specs n next
files-step g h table specs n p f next is =
    ap (λ (o : Result (FilePlace × ℕ) Refusal). entry_texts g h table specs (record { text = None; dir = None; next = p }) ++ texts_then (λ k. entries_texts g h table specs n k.1) o) is

-- entries under an edit
files-from : (g : LineSource) (m : PathMap) (s l old : List ℕ) (h : LineHeader) (places : LineText → Option ℕ) (end : ℕ) (cs : List Change) (specs : List Spec) (p e : ℕ) (files : List FilePlace)
    → SourceMoves g m s l → AreColumns specs → NewFiles g h old specs p files e → From end e cs
    → From end p (texts_changes g m places h.width (entries_texts g h old specs (length files) p) ++ cs) × (p ≤ e)
files-from g m s l old h places end cs specs p e [] w plain are from = (subst (λ (i : ℕ). From end i cs) (sym are) from, omega (arith, are))
files-from g m s l old h places end cs specs p e (f ∷ fs) w plain are from =
    let rest = files-from g m s l old h places end cs specs are.0.next e fs w plain are.1 from in
    let more = rest.1 in
    let one = file-from g m s l old h places end (texts_changes g m places h.width (entries_texts g h old specs (length fs) are.0.next) ++ cs) specs p f are.0.next w plain are.0.entry rest.0 in
    let here = one.1 in (
      subst (λ (ds : List Change). From end p (ds ++ cs))
          (sym (ap (texts_changes g m places h.width) (files-step g h old specs (length fs) p f are.0.next are.0.entry)
          ∙ changes-append g m places h.width (entry_texts g h old specs (record { text = None; dir = None; next = p })) (entries_texts g h old specs (length fs) are.0.next)))
          (subst (From end p) (sym (append_assoc (texts_changes g m places h.width (entry_texts g h old specs (record { text = None; dir = None; next = p })))
          (texts_changes g m places h.width (entries_texts g h old specs (length fs) are.0.next)) cs)) one.0),
      omega (arith, here, more),
    )

same-next : (f d : FilePlace) (i j : ℕ) → ◌≡◌ {A = Result (FilePlace × ℕ) Refusal} (Ok (f, i)) (Ok (d, j)) → i ≡ j
same-next f d i j e = ap (λ (y : FilePlace × ℕ). y.1) (ok-pair (f, i) (d, j) e)

record NewMoved (g k : LineSource) (m : PathMap) (h : LineHeader) (n : LinePlaces) (old new : List ℕ) (end : ℕ) (cs : List Change)
    (us : List CellChange) (tail : List Cell) (specs : List Spec) (p q e : ℕ) (fs : List FilePlace) : Type 0 where
  files : List FilePlace
  behind : ℕ
  are : NewFiles k (moved_header h n) new specs q files behind
  moved : MovedFiles g k m fs files
  count : length files ≡ length fs
  rest : Rest old new end cs e behind
  cells : CellRest g.cells k.cells end us tail e behind
  clear : EntriesClear k (moved_header h n) new specs (length files) q
  mentions : MentionsMoved g k m (entries_texts g h old specs (length fs) p) (entries_texts k (moved_header h n) new specs (length fs) q)
  further : entries_columns k (moved_header h n) new specs (length fs) q ≡ entries_columns g h old specs (length fs) p

-- the further columns of one entry more
further-more : (g k : LineSource) (h i : LineHeader) (old new : List ℕ) (specs : List Spec) (n p q : ℕ) (f d : FilePlace × ℕ) → entry_at g h old specs p ≡ Ok f → entry_at k i new specs q ≡ Ok d
    → further_columns k i new specs false q ≡ further_columns g h old specs false p → entries_columns k i new specs n d.1 ≡ entries_columns g h old specs n f.1
    → entries_columns k i new specs (suc n) q ≡ entries_columns g h old specs (suc n) p
further-more g k h i old new specs n p q f d e u first rest =
    ap (columns_there (further_columns k i new specs false q) (λ a. entries_columns k i new specs n a)) u
    ∙ ap (λ (c : List LineColumn). c ∷ entries_columns k i new specs n d.1) first
    ∙ ap (λ (cs_ : List (List LineColumn)). further_columns g h old specs false p ∷ cs_) rest
    ∙ sym (ap (columns_there (further_columns g h old specs false p) (λ a. entries_columns g h old specs n a)) e)

files-moved : (g : LineSource) (m : PathMap) (bytes : List ℕ) (cells : List Cell) (s l old new : List ℕ) (h : LineHeader) (n : LinePlaces) (places : LineText → Option ℕ) (end : ℕ) (cs : List Change)
    (us : List CellChange) (tail : List Cell) (specs : List Spec) (p q e : ℕ) (fs : List FilePlace) → SourceMoves g m s l → Sides g bytes cells old new → AreColumns specs → NewFiles g h old specs p fs e
    → EachMoves g m s l h.width places (entries_texts g h old specs (length fs) p)
    → Rest old new end (texts_changes g m places h.width (entries_texts g h old specs (length fs) p) ++ cs) p q
    → CellRest g.cells cells end (texts_cells g m places h.width (entries_texts g h old specs (length fs) p) ++ us) tail p q
    → SameChanges us cs → From end e cs → EntriesClear g h old specs (length fs) p
    → NewMoved g (edited_with g bytes cells s l) m h n old new end cs us tail specs p q e fs
files-moved g m bytes cells s l old new h n places end cs us tail specs p q e [] w sides plain are moves rest cell both from clear =
    record { files = []; behind = q; are = refl; moved = tt; count = refl; rest = subst (λ (i : ℕ). Rest old new end cs i q) are rest; cells = subst (λ (i : ℕ). CellRest g.cells cells end us tail i q) are cell; clear = tt; mentions = mentions-none g (edited_with g bytes cells s l) m; further = refl }
files-moved g m bytes cells s l old new h n places end cs us tail specs p q e (f ∷ fs) w sides plain are moves rest cell both from clear =
    let front : List LineText = entry_texts g h old specs (record { text = None; dir = None; next = p }) in
    let next : List LineText = entries_texts g h old specs (length fs) are.0.next in
    let texts = files-step g h old specs (length fs) p f are.0.next are.0.entry in
    let each = moves-parts g m s l h.width places (entry_texts g h old specs (record { text = None; dir = None; next = p })) (entries_texts g h old specs (length fs) are.0.next)
    (subst (EachMoves g m s l h.width places) texts moves) in
    let behind = files-from g m s l old h places end cs specs are.0.next e fs w plain are.1 from in
    let one = file-moved g m bytes cells s l old new h n places end (texts_changes g m places h.width (entries_texts g h old specs (length fs) are.0.next) ++ cs)
    (texts_cells g m places h.width (entries_texts g h old specs (length fs) are.0.next) ++ us) tail specs p q f are.0.next w sides plain are.0.entry each.0
    (subst (λ (ds : List Change). Rest old new end ds p q)
    (ap (λ (ds : List Change). ds ++ cs) (ap (texts_changes g m places h.width) texts
    ∙ changes-append g m places h.width (entry_texts g h old specs (record { text = None; dir = None; next = p })) (entries_texts g h old specs (length fs) are.0.next))
    ∙ append_assoc (texts_changes g m places h.width (entry_texts g h old specs (record { text = None; dir = None; next = p })))
    (texts_changes g m places h.width (entries_texts g h old specs (length fs) are.0.next)) cs) rest)
    (subst (λ (vs : List CellChange). CellRest g.cells cells end vs tail p q)
    (ap (λ (vs : List CellChange). vs ++ us) (ap (texts_cells g m places h.width) texts
    ∙ cells-append g m places h.width (entry_texts g h old specs (record { text = None; dir = None; next = p })) (entries_texts g h old specs (length fs) are.0.next))
    ∙ append_assoc (texts_cells g m places h.width (entry_texts g h old specs (record { text = None; dir = None; next = p })))
    (texts_cells g m places h.width (entries_texts g h old specs (length fs) are.0.next)) us) cell)
    (same-append (texts_cells g m places h.width (entries_texts g h old specs (length fs) are.0.next)) us (texts_changes g m places h.width (entries_texts g h old specs (length fs) are.0.next)) cs
    (texts-bytes g m places h.width (entries_texts g h old specs (length fs) are.0.next) w.own) both)
    behind.0 clear.0 in
    let more = files-moved g m bytes cells s l old new h n places end cs us tail specs are.0.next one.behind e fs w sides plain are.1 each.1 one.rest one.cells both from (clear.1 f are.0.next are.0.entry) in
    record {
      files = one.file ∷ more.files;
      behind = more.behind;
      are = (record { next = one.behind; entry = one.entry }, more.are);
      moved = (one.dir, one.says, more.moved);
      count = ap suc more.count;
      rest = more.rest;
      cells = more.cells;
      clear = (
        one.clear,
        λ d next read.
            subst (EntriesClear (edited_with g bytes cells s l) (moved_header h n) new specs (length more.files)) (same-next one.file d one.behind next (sym one.entry ∙ read)) more.clear,
      );
      mentions = subst (λ (xs : List LineText). MentionsMoved g (edited_with g bytes cells s l) m xs (entries_texts (edited_with g bytes cells s l) (moved_header h n) new specs (suc (length fs)) q)) (sym texts)
          (subst (λ (ys : List LineText). MentionsMoved g (edited_with g bytes cells s l) m (entry_texts g h old specs (record { text = None; dir = None; next = p }) ++ entries_texts g h old specs (length fs) are.0.next) ys)
          (sym (files-step (edited_with g bytes cells s l) (moved_header h n) new specs (length fs) q one.file one.behind one.entry))
          (mentions-both g (edited_with g bytes cells s l) m (entry_texts g h old specs (record { text = None; dir = None; next = p }))
          (entry_texts (edited_with g bytes cells s l) (moved_header h n) new specs (record { text = None; dir = None; next = q })) (entries_texts g h old specs (length fs) are.0.next)
          (entries_texts (edited_with g bytes cells s l) (moved_header h n) new specs (length fs) one.behind) one.mentions more.mentions));
      further = further-more g (edited_with g bytes cells s l) h (moved_header h n) old new specs (length fs) p q (f, are.0.next) (one.file, one.behind) are.0.entry one.entry one.further more.further;
    }

-- the formats of columns
record SpecIs (table : List ℕ) (a : ℕ) (x : Spec × ℕ) : Type 0 where
  name : ℕ × ℕ
  form : ℕ × ℕ
  name_is : uleb_at table a ≡ Some name
  form_is : uleb_at table (a + name.1) ≡ Some form
  same : x ≡ (record { name = name.0; form = form.0; implicit = pos 0 }, a + name.1 + form.1)

abbrev spec_made : ℕ → ℕ × ℕ → ℕ × ℕ → Spec × ℕ
spec_made place name form = (record { name = name.0; form = form.0; implicit = pos 0 }, place + name.1 + form.1)

spec-is : (table : List ℕ) (a : ℕ) (x : Spec × ℕ) → spec_at table a ≡ Some x → SpecIs table a x
unfolding spec_at
spec-is table a x e =
    let first = bound (λ (name : ℕ × ℕ). option_map (spec_made a name) (uleb_at table (a + name.1))) (uleb_at table a) x e in
    let second = made (spec_made a first.first) (uleb_at table (a + first.first.1)) x first.rest in
    record { name = first.first; form = second.first; name_is = first.is; form_is = second.is; same = sym second.same }

spec-there : (table : List ℕ) (a : ℕ) (name form : ℕ × ℕ) → uleb_at table a ≡ Some name → uleb_at table (a + name.1) ≡ Some form → spec_at table a ≡ Some (spec_made a name form)
unfolding spec_at
spec-there table a name form e f = rw (e, f) refl

record StepIs (table : List ℕ) (s t : List Spec × ℕ) : Type 0 where
  spec : Spec × ℕ
  at : spec_at table s.1 ≡ Some spec
  plain : is_column spec.0 ≡ true
  same : (s.0 ++ spec.0 ∷ [], spec.1) ≡ t

step-is : (table : List ℕ) (s t : List Spec × ℕ) → next_spec table s ≡ Some t → StepIs table s t
step-is table s t e =
    let first = bound (with_spec s.0) (spec_at table s.1) t e in
    let both = if-some (is_column first.first.0) (Some (s.0 ++ first.first.0 ∷ [], first.first.1)) t first.rest in
    record { spec = first.first; at = first.is; plain = both.0; same = some-same _ t both.1 }

columns-append : (xs : List Spec) (x : Spec) → AreColumns xs → is_column x ≡ true → AreColumns (xs ++ x ∷ [])
columns-append [] x h e = (e, tt)
columns-append (y ∷ ys) x h e = (h.0, columns-append ys x h.1 e)

record FormatIs (table : List ℕ) (s t : List Spec × ℕ) : Type 0 where
  behind : s.1 ≤ t.1
  within : s.1 ≤ length table → t.1 ≤ length table
  plain : AreColumns s.0 → AreColumns t.0

steps-place : (table : List ℕ) (n : ℕ) (s t : List Spec × ℕ) → steps (next_spec table) n s ≡ Some t → FormatIs table s t
steps-place table zero s t e =
    let same : s ≡ t = some-same s t e in
    let place : s.1 ≡ t.1 = ap (λ (x : List Spec × ℕ). x.1) same in
    record { behind = omega (arith, place); within = λ le. omega (arith, place, le); plain = λ h. subst (λ (x : List Spec × ℕ). AreColumns x.0) same h }
steps-place table (suc n) s t e =
    let first = bound (steps (next_spec table) n) (next_spec table s) t e in
    let one = step-is table s first.first first.is in
    let spec = spec-is table s.1 one.spec one.at in
    let rest = steps-place table n first.first t first.rest in
    let place : one.spec.1 ≡ first.first.1 = ap (λ (x : List Spec × ℕ). x.1) one.same in
    let next : one.spec.1 ≡ s.1 + spec.name.1 + spec.form.1 = ap (λ (x : Spec × ℕ). x.1) spec.same in
    let behind = rest.behind in
    record {
      behind = omega (arith, place, next, behind);
      within = λ le. rest.within (omega (arith, place, next, uleb-inside table (s.1 + spec.name.1) spec.form.0 spec.form.1 spec.form_is));
      plain = λ h. rest.plain (subst (λ (x : List Spec × ℕ). AreColumns x.0) one.same (columns-append s.0 one.spec.0 h one.plain));
    }

steps-both : (old new xs : List ℕ) (n : ℕ) (s t : List Spec × ℕ) (q : ℕ) → steps (next_spec old) n s ≡ Some t → Both old new xs s.1 q → t.1 ≤ s.1 + length xs
    → steps (next_spec new) n (s.0, q) ≡ Some (t.0, q + (t.1 - s.1))
steps-both old new xs zero s t q e b le =
    let same : s ≡ t = some-same s t e in
    let place : s.1 ≡ t.1 = ap (λ (x : List Spec × ℕ). x.1) same in
    ap (λ (x : List Spec × ℕ). Some (x.0, q)) same ∙ ap (λ (i : ℕ). Some (t.0, i)) (omega (arith, place))
steps-both old new xs (suc n) s t q e b le =
    let first = bound (steps (next_spec old) n) (next_spec old s) t e in
    let one = step-is old s first.first first.is in
    let spec = spec-is old s.1 one.spec one.at in
    let more = (steps-place old n first.first t first.rest).behind in
    let place : one.spec.1 ≡ first.first.1 = ap (λ (x : List Spec × ℕ). x.1) one.same in
    let next : one.spec.1 ≡ s.1 + spec.name.1 + spec.form.1 = ap (λ (x : Spec × ℕ). x.1) spec.same in
    let size : ℕ = spec.name.1 + spec.form.1 in
    let name : uleb_at new q ≡ Some spec.name = uleb-both old new xs s.1 q spec.name.0 spec.name.1 b spec.name_is (omega (arith, place, next, more, le)) in
    let form : uleb_at new (q + spec.name.1) ≡ Some spec.form =
    uleb-both old new (drop spec.name.1 xs) (s.1 + spec.name.1) (q + spec.name.1) spec.form.0 spec.form.1
    (both-behind old new xs s.1 q spec.name.1 b (omega (arith, place, next, more, le))) spec.form_is (omega (arith, place, next, more, le, length-drop spec.name.1 xs)) in
    let at_new : spec_at new q ≡ Some (one.spec.0, q + spec.name.1 + spec.form.1) =
    spec-there new q spec.name spec.form name form ∙ ap (λ (x : Spec × ℕ). Some (x.0, q + spec.name.1 + spec.form.1)) (sym spec.same) in
    let step : next_spec new (s.0, q) ≡ Some (first.first.0, q + spec.name.1 + spec.form.1) =
    rw (at_new, one.plain) (ap (λ (x : List Spec × ℕ). Some (x.0, q + spec.name.1 + spec.form.1)) one.same) in
    let start : s.1 + (spec.name.1 + spec.form.1) ≡ first.first.1 = omega (arith, place, next) in
    let place_new : q + (spec.name.1 + spec.form.1) ≡ q + spec.name.1 + spec.form.1 = omega arith in
    let b2 : Both old new (drop (spec.name.1 + spec.form.1) xs) first.first.1 (q + spec.name.1 + spec.form.1) =
    subst (λ (i : ℕ). Both old new (drop (spec.name.1 + spec.form.1) xs) i (q + spec.name.1 + spec.form.1)) start
    (subst (λ (i : ℕ). Both old new (drop (spec.name.1 + spec.form.1) xs) (s.1 + (spec.name.1 + spec.form.1)) i) place_new
    (both-behind old new xs s.1 q (spec.name.1 + spec.form.1) b (omega (arith, place, next, more, le)))) in
    let rest = steps-both old new (drop (spec.name.1 + spec.form.1) xs) n first.first t (q + spec.name.1 + spec.form.1) first.rest b2
    (omega (arith, place, next, more, le, length-drop (spec.name.1 + spec.form.1) xs)) in
    ap (option_and_then (steps (next_spec new) n)) step ∙ rest
    ∙ ap (λ (i : ℕ). Some (t.0, i)) (omega (arith, place, next, more))

-- one byte at two places
pub byte-both : (old new xs : List ℕ) (p q k : ℕ) → Both old new xs p q → k < length xs → slice_index new (q + k) ≡ slice_index old (p + k)
byte-both old new xs p q k b lt = there new q b.is ∙ sym (there old p b.was)
  where
    there : (bs : List ℕ) (i : ℕ) → StandsAt bs xs i → slice_index bs (i + k) ≡ slice_index xs k
    there bs i st = sym (get_or-drop i bs k 0) ∙ ap (λ (ys : List ℕ). get_or ys k 0) st.is ∙ get_or_append_left xs st.behind 0 k lt

record FormatAt (table : List ℕ) (p : ℕ) (f : List Spec × ℕ) : Type 0 where
  inside : p < length table
  walk : steps (next_spec table) (slice_index table p) ([], p + 1) ≡ Some f

format-is : (table : List ℕ) (p : ℕ) (f : List Spec × ℕ) → format_at table p ≡ Some f → FormatAt table p f
unfolding format_at
format-is table p f e =
    let both = if-some (nat_lt p (length table)) (steps (next_spec table) (slice_index table p) ([], p + 1)) f e in
    record { inside = ltb-true _ _ both.0; walk = both.1 }

pub format-place : (table : List ℕ) (p : ℕ) (f : List Spec × ℕ) → format_at table p ≡ Some f → (p < f.1) × (f.1 ≤ length table) × AreColumns f.0
format-place table p f e =
    let a = format-is table p f e in
    let b = steps-place table (slice_index table p) ([], p + 1) f a.walk in
    let behind = b.behind in
    let inside = a.inside in
    (omega (arith, behind), b.within (omega (arith, inside)), b.plain tt)

format-both : (old new xs : List ℕ) (p q : ℕ) (f : List Spec × ℕ) → format_at old p ≡ Some f → Both old new xs p q → f.1 ≤ p + length xs → format_at new q ≡ Some (f.0, q + (f.1 - p))
unfolding format_at
format-both old new xs p q f e b le =
    let a = format-is old p f e in
    let behind = (steps-place old (slice_index old p) ([], p + 1) f a.walk).behind in
    let some : 0 < length xs = omega (arith, behind, le) in
    let inside = b.is.inside in
    let first_q : q + 0 ≡ q = omega arith in
    let first_p : p + 0 ≡ p = omega arith in
    let byte : slice_index new q ≡ slice_index old p =
    ap (slice_index new) (sym first_q) ∙ byte-both old new xs p q 0 b some ∙ ap (slice_index old) first_p in
    let rest = steps-both old new (drop 1 xs) (slice_index old p) ([], p + 1) f (q + 1) a.walk (both-behind old new xs p q 1 b (omega (arith, some)))
    (omega (arith, le, some, length-drop 1 xs)) in
    rw (lt-ltb q (length new) (omega (arith, inside, some)), byte) (rest ∙ ap (λ (i : ℕ). Some (f.0, i)) (omega (arith, behind)))

-- the entries behind a format
pub record ListIs (g : LineSource) (h : LineHeader) (table : List ℕ) (p : ℕ) (files : List FilePlace) (e : ℕ) : Type 0 where
  pub format : List Spec × ℕ
  pub format_is : format_at table p ≡ Some format
  pub count : ℕ × ℕ
  pub count_is : uleb_at table format.1 ≡ Some count
  pub are : NewFiles g h table format.0 (format.1 + count.1) files e
  pub number : length files ≡ count.0

pub list-is : (g : LineSource) (h : LineHeader) (table : List ℕ) (p : ℕ) (files : List FilePlace) (e : ℕ) → entries_at g h table p ≡ Ok (files, e) → ListIs g h table p files e
unfolding entries_at
list-is g h table p files e is = by_format (format_at table p) refl is
  where
    by_count : (f : List Spec × ℕ) → format_at table p ≡ Some f → (o : Option (ℕ × ℕ)) → uleb_at table f.1 ≡ o → counted_entries g h table f.0 f.1 o ≡ Ok (files, e) → ListIs g h table p files e
    by_count f at None c is = absurd (err-ok _ (files, e) is)
    by_count f at (Some n) c is =
        let r = entries-read g h table f.0 n.0 ([], f.1 + n.1) (files, e) is in
        record {
          format = f;
          format_is = at;
          count = n;
          count_is = c;
          are = subst (λ (fs : List FilePlace). NewFiles g h table f.0 (f.1 + n.1) fs e) (sym r.all) r.are;
          number = ap length r.all ∙ r.count;
        }

    by_format : (o : Option (List Spec × ℕ)) → format_at table p ≡ o → entries_behind g h table o ≡ Ok (files, e) → ListIs g h table p files e
    by_format None at is = absurd (err-ok _ (files, e) is)
    by_format (Some f) at is = by_count f at (uleb_at table f.1) refl is

-- a list of entries under an edit
pub record ListMoved (g k : LineSource) (m : PathMap) (h : LineHeader) (n : LinePlaces) (old new : List ℕ) (end : ℕ) (cs : List Change)
    (us : List CellChange) (tail : List Cell) (p q e : ℕ) (fs : List FilePlace) : Type 0 where
  pub files : List FilePlace
  pub behind : ℕ
  pub is : entries_at k (moved_header h n) new q ≡ Ok (files, behind)
  pub moved : MovedFiles g k m fs files
  pub rest : Rest old new end cs e behind
  pub cells : CellRest g.cells k.cells end us tail e behind
  pub clear : ListClear k (moved_header h n) new q
  pub mentions : MentionsMoved g k m (list_texts g h old p) (list_texts k (moved_header h n) new q)
  pub further : listed_columns k (moved_header h n) new q ≡ listed_columns g h old p

-- the texts of a list that was read
pub list-texts-are : (g : LineSource) (h : LineHeader) (table : List ℕ) (p : ℕ) (files : List FilePlace) (e : ℕ) (x : ListIs g h table p files e)
    → list_texts g h table p ≡ entries_texts g h table x.format.0 (length files) (x.format.1 + x.count.1)
list-texts-are g h table p files e x =
    ap (λ (o : Option (List Spec × ℕ)). texts_formed g h table o) x.format_is
    ∙ ap (λ (o : Option (ℕ × ℕ)). texts_counted g h table x.format.0 x.format.1 o) x.count_is
    ∙ ap (λ (n : ℕ). entries_texts g h table x.format.0 n (x.format.1 + x.count.1)) (sym x.number)

list-columns : (g : LineSource) (h : LineHeader) (table : List ℕ) (p : ℕ) (f : List Spec × ℕ) (n : ℕ × ℕ) → format_at table p ≡ Some f → uleb_at table f.1 ≡ Some n
    → listed_columns g h table p ≡ entries_columns g h table f.0 n.0 (f.1 + n.1)
list-columns g h table p f n e u =
    ap (λ (o : Option (List Spec × ℕ)). columns_formed g h table o) e ∙ ap (λ (o : Option (ℕ × ℕ)). columns_counted g h table f.0 f.1 o) u

pub list-from : (g : LineSource) (m : PathMap) (s l old : List ℕ) (h : LineHeader) (places : LineText → Option ℕ) (end : ℕ) (cs : List Change) (p e : ℕ) (files : List FilePlace)
    → SourceMoves g m s l → entries_at g h old p ≡ Ok (files, e) → From end e cs → From end p (texts_changes g m places h.width (list_texts g h old p) ++ cs) × (p ≤ e)
list-from g m s l old h places end cs p e files w is from =
    let x = list-is g h old p files e is in
    let f = format-place old p x.format x.format_is in
    let r = files-from g m s l old h places end cs x.format.0 (x.format.1 + x.count.1) e files w f.2 x.are from in
    let behind = f.0 in
    let more = r.1 in (
      subst (λ (xs : List LineText). From end p (texts_changes g m places h.width xs ++ cs)) (sym (list-texts-are g h old p files e x))
          (from-before end p (x.format.1 + x.count.1) (texts_changes g m places h.width (entries_texts g h old x.format.0 (length files) (x.format.1 + x.count.1)) ++ cs) (omega (arith, behind)) r.0),
      omega (arith, behind, more),
    )

pub list-moved : (g : LineSource) (m : PathMap) (bytes : List ℕ) (cells : List Cell) (s l old new : List ℕ) (h : LineHeader) (n : LinePlaces) (places : LineText → Option ℕ) (end : ℕ) (cs : List Change)
    (us : List CellChange) (tail : List Cell) (p q e : ℕ) (fs : List FilePlace) → SourceMoves g m s l → Sides g bytes cells old new → entries_at g h old p ≡ Ok (fs, e) → EachMoves g m s l h.width places (list_texts g h old p)
    → Rest old new end (texts_changes g m places h.width (list_texts g h old p) ++ cs) p q
    → CellRest g.cells cells end (texts_cells g m places h.width (list_texts g h old p) ++ us) tail p q → SameChanges us cs → From end e cs → ListClear g h old p
    → ListMoved g (edited_with g bytes cells s l) m h n old new end cs us tail p q e fs
unfolding entries_at
list-moved g m bytes cells s l old new h n places end cs us tail p q e fs w sides is list_moves list_rest list_cell both from clear =
    let x = list-is g h old p fs e is in
    let texts = list-texts-are g h old p fs e x in
    let moves = subst (EachMoves g m s l h.width places) texts list_moves in
    let rest = subst (λ (xs : List LineText). Rest old new end (texts_changes g m places h.width xs ++ cs) p q) texts list_rest in
    let cell = subst (λ (xs : List LineText). CellRest g.cells cells end (texts_cells g m places h.width xs ++ us) tail p q) texts list_cell in
    let f = format-place old p x.format x.format_is in
    let front = f.0 in
    let inside : x.format.1 + x.count.1 ≤ length old = uleb-inside old x.format.1 x.count.0 x.count.1 x.count_is in
    let behind = files-from g m s l old h places end cs x.format.0 (x.format.1 + x.count.1) e fs w f.2 x.are from in
    let k = copied old new end (texts_changes g m places h.width (entries_texts g h old x.format.0 (length fs) (x.format.1 + x.count.1)) ++ cs) p q (x.format.1 + x.count.1) rest (omega (arith, front)) behind.0 in
    let last : x.format.1 + x.count.1 ≤ end = from-end end (x.format.1 + x.count.1) (texts_changes g m places h.width (entries_texts g h old x.format.0 (length fs) (x.format.1 + x.count.1)) ++ cs) behind.0 in
    let d = cells-copied g.cells cells end (texts_cells g m places h.width (entries_texts g h old x.format.0 (length fs) (x.format.1 + x.count.1)) ++ us) tail p q (x.format.1 + x.count.1) cell (omega (arith, front)) last
    (same-from end (x.format.1 + x.count.1) (texts_cells g m places h.width (entries_texts g h old x.format.0 (length fs) (x.format.1 + x.count.1)) ++ us) (texts_changes g m places h.width (entries_texts g h old x.format.0 (length fs) (x.format.1 + x.count.1)) ++ cs)
    (same-append (texts_cells g m places h.width (entries_texts g h old x.format.0 (length fs) (x.format.1 + x.count.1))) us (texts_changes g m places h.width (entries_texts g h old x.format.0 (length fs) (x.format.1 + x.count.1))) cs (texts-bytes g m places h.width (entries_texts g h old x.format.0 (length fs) (x.format.1 + x.count.1)) w.own) both) behind.0)
    (clear-none g.cells p (x.format.1 + x.count.1) (clear.front x.format x.count x.format_is x.count_is)) in
    let size : length (part old p (x.format.1 + x.count.1)) ≡ x.format.1 + x.count.1 - p = part-length old p (x.format.1 + x.count.1) (omega (arith, front)) inside in
    let format_new : format_at new q ≡ Some (x.format.0, q + (x.format.1 - p)) =
    format-both old new (part old p (x.format.1 + x.count.1)) p q x.format x.format_is k.both (omega (arith, size, front)) in
    let place : p + (x.format.1 - p) ≡ x.format.1 = omega (arith, front) in
    let count_new : uleb_at new (q + (x.format.1 - p)) ≡ Some x.count =
    uleb-both old new (drop (x.format.1 - p) (part old p (x.format.1 + x.count.1))) x.format.1 (q + (x.format.1 - p)) x.count.0 x.count.1
    (subst (λ (i : ℕ). Both old new (drop (x.format.1 - p) (part old p (x.format.1 + x.count.1))) i (q + (x.format.1 - p))) place
    (both-behind old new (part old p (x.format.1 + x.count.1)) p q (x.format.1 - p) k.both (omega (arith, size, front)))) x.count_is
    (omega (arith, size, front, length-drop (x.format.1 - p) (part old p (x.format.1 + x.count.1)))) in
    let mid : q + (x.format.1 + x.count.1 - p) ≡ q + (x.format.1 - p) + x.count.1 = omega (arith, front) in
    let r = files-moved g m bytes cells s l old new h n places end cs us tail x.format.0 (x.format.1 + x.count.1) (q + (x.format.1 - p) + x.count.1) e fs w sides f.2 x.are moves
    (subst (λ (i : ℕ). Rest old new end (texts_changes g m places h.width (entries_texts g h old x.format.0 (length fs) (x.format.1 + x.count.1)) ++ cs) (x.format.1 + x.count.1) i) mid k.rest)
    (subst (λ (i : ℕ). CellRest g.cells cells end (texts_cells g m places h.width (entries_texts g h old x.format.0 (length fs) (x.format.1 + x.count.1)) ++ us) tail (x.format.1 + x.count.1) i) mid d.rest) both from
    (subst (λ (k : ℕ). EntriesClear g h old x.format.0 k (x.format.1 + x.count.1)) (sym x.number) (clear.entries x.format x.count x.format_is x.count_is)) in
    let number : length r.files ≡ x.count.0 = r.count ∙ x.number in
    let front_clear : Clear cells q (q + (x.format.1 - p) + x.count.1) =
    subst (Clear cells q) mid
    (whole-clear g.cells cells p q (x.format.1 + x.count.1) d.same (clear.front x.format x.count x.format_is x.count_is)) in
    let run = entries-run (edited_with g bytes cells s l) (moved_header h n) new x.format.0 (q + (x.format.1 - p) + x.count.1) r.behind [] r.files r.are in
    record {
      files = r.files;
      behind = r.behind;
      is = ap (entries_behind (edited_with g bytes cells s l) (moved_header h n) new) format_new
          ∙ ap (counted_entries (edited_with g bytes cells s l) (moved_header h n) new x.format.0 (q + (x.format.1 - p))) count_new
          ∙ ap (λ (i : ℕ). fallible_steps (next_entry (edited_with g bytes cells s l) (moved_header h n) new x.format.0) i ([], q + (x.format.1 - p) + x.count.1)) (sym number) ∙ run;
      moved = r.moved;
      rest = r.rest;
      cells = r.cells;
      clear = record {
        front = λ format count at count_at.
            let format_same = some-same (x.format.0, q + (x.format.1 - p)) format (sym format_new ∙ at) in
            let count_same = some-same x.count count (sym count_new ∙ ap (λ (y : List Spec × ℕ). uleb_at new y.1) format_same ∙ count_at) in
            subst (λ (y : ℕ × ℕ). Clear cells q (format.1 + y.1)) count_same (subst (λ (y : List Spec × ℕ). Clear cells q (y.1 + x.count.1)) format_same front_clear);
        entries = λ format count at count_at.
            let format_same = some-same (x.format.0, q + (x.format.1 - p)) format (sym format_new ∙ at) in
            let count_same = some-same x.count count (sym count_new ∙ ap (λ (y : List Spec × ℕ). uleb_at new y.1) format_same ∙ count_at) in
            subst (λ (y : ℕ × ℕ). EntriesClear (edited_with g bytes cells s l) (moved_header h n) new format.0 y.0 (format.1 + y.1)) count_same
            (subst (λ (y : List Spec × ℕ). EntriesClear (edited_with g bytes cells s l) (moved_header h n) new y.0 x.count.0 (y.1 + x.count.1)) format_same
            (subst (λ (i : ℕ). EntriesClear (edited_with g bytes cells s l) (moved_header h n) new x.format.0 i (q + (x.format.1 - p) + x.count.1)) number r.clear));
      };
      mentions = subst (λ (xs : List LineText). MentionsMoved g (edited_with g bytes cells s l) m xs (list_texts (edited_with g bytes cells s l) (moved_header h n) new q)) (sym texts)
          (subst (λ (ys : List LineText). MentionsMoved g (edited_with g bytes cells s l) m (entries_texts g h old x.format.0 (length fs) (x.format.1 + x.count.1)) ys)
          (sym (ap (λ (o : Option (List Spec × ℕ)). texts_formed (edited_with g bytes cells s l) (moved_header h n) new o) format_new
          ∙ ap (λ (o : Option (ℕ × ℕ)). texts_counted (edited_with g bytes cells s l) (moved_header h n) new x.format.0 (q + (x.format.1 - p)) o) count_new
          ∙ ap (λ (i : ℕ). entries_texts (edited_with g bytes cells s l) (moved_header h n) new x.format.0 i (q + (x.format.1 - p) + x.count.1)) (sym x.number))) r.mentions);
      further = list-columns (edited_with g bytes cells s l) (moved_header h n) new q (x.format.0, q + (x.format.1 - p)) x.count format_new count_new
          ∙ ap (λ (i : ℕ). entries_columns (edited_with g bytes cells s l) (moved_header h n) new x.format.0 i (q + (x.format.1 - p) + x.count.1)) (sym x.number) ∙ r.further
          ∙ ap (λ (i : ℕ). entries_columns g h old x.format.0 i (x.format.1 + x.count.1)) x.number
          ∙ sym (list-columns g h old p x.format x.count x.format_is x.count_is);
    }
