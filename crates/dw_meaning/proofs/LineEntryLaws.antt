-- The directories and files of version 5 under an edit: each entry is one with its path mapped, whose further texts follow theirs, and its other
-- columns stay.
use Rattle.std.proofs.Common.{Bool, true, false, ◌≡◌, ℕ, ◌+◌, ◌-◌, ◌≤◌, ◌==◌, ◌&&◌, not, append_assoc, List, [], ◌∷◌, ◌++◌, length, take, drop, Option, Some, None, refl, sym, ap, ◌∙◌, subst, arith, if◌then◌else◌}
use Rattle.std.specs.Prelude.{Result, Ok, Err, ⊤, is_some}
use Rattle.std.proofs.lemmas.List.{take_all}
use Rattle.dw_base.specs.Cells.{Cell}
use Rattle.dw_base.specs.LineEntries.{first_of, with_column, next_column, columns, column_at, result_with}
use Rattle.dw_base.specs.LineFormats.{is_column}
use Rattle.dw_base.specs.LineMeanings.{place_text, LineColumn, column_value, is_there, column_there, further_columns}
use Rattle.dw_base.specs.LineSources.{LineSource}
use Rattle.dw_base.specs.Paths.{PathMap, mapped_path}
use Rattle.dw_base.specs.TableTexts.{column_text, column_texts, entry_texts, takes_path, texts_then}
use Rattle.dw_base.specs.TextLineChanges.{text_changes, texts_changes}
use Rattle.dw_base.specs.WrittenLines.{part, Change}
use Rattle.dw_base.specs.declared.fault.Refusal.{Refusal}
use Rattle.dw_base.specs.declared.line_numbers.TheConstants.{DW_LNCT_path}
use Rattle.dw_base.specs.declared.line_tables.Column.{Column}
use Rattle.dw_base.specs.declared.line_tables.Entry.{Entry}
use Rattle.dw_base.specs.declared.line_tables.LineHeader.{LineHeader}
use Rattle.dw_base.specs.declared.line_tables.LineText.{LineText}
use Rattle.dw_base.specs.declared.line_tables.TextPlace.{TextPlace}
use Rattle.dw_base.specs.declared.shared.Width.{Width}
use Rattle.dw_base.specs.declared.values.Spec.{Spec}
use Rattle.dw_meaning.specs.LineCells.{CellChange}
use Rattle.dw_meaning.specs.TextLineCells.{text_cells, texts_cells}
use Rattle.dw_meaning.proofs.CellRestLaws.{CellRest, cells-copied, same-from}
use Rattle.dw_meaning.proofs.ClearLaws.{Clear, ColumnsClear, clear_from, column-clear}
use Rattle.dw_meaning.proofs.LineCellLaws.{SameChanges, same-append}
use Rattle.dw_meaning.proofs.TextCellLaws.{texts-bytes}
use Rattle.dw_meaning.proofs.LineChangeLaws.{From, Rest, copied, from-before, from-end, part-length}
use Rattle.dw_meaning.proofs.LineColumnLaws.{edited_with, SourceMoves, TextMoves, moved_text, ColumnIs, column-is}
use Rattle.dw_meaning.proofs.LineMoveLaws.{LinePlaces, moved_header, Sides, column-from, column-kept, column-moved, column-own, column-place}
use Rattle.dw_meaning.proofs.LineReadLaws.{first-stand}
use Rattle.dw_meaning.proofs.LineWalkLaws.{bound-ok, made-ok}
use Rattle.dw_meaning.proofs.TextMentionLaws.{MentionsMoved, mentions-both, mentions-none, text_as, text-as}

-- each text of an entry, or of more, moves
abbrev pub EachMoves : LineSource → PathMap → List ℕ → List ℕ → Width → (LineText → Option ℕ) → List LineText → Type 0
EachMoves g m s l width places [] = ⊤
EachMoves g m s l width places (x ∷ xs) = TextMoves g m s l width places x × EachMoves g m s l width places xs

pub moves-parts : (g : LineSource) (m : PathMap) (s l : List ℕ) (w : Width) (places : LineText → Option ℕ) (xs ys : List LineText) → EachMoves g m s l w places (xs ++ ys)
    → EachMoves g m s l w places xs × EachMoves g m s l w places ys
moves-parts g m s l w places [] ys h = (tt, h)
moves-parts g m s l w places (x ∷ xs) ys h =
    let rest = moves-parts g m s l w places xs ys h.1 in
    ((h.0, rest.0), rest.1)

-- changes of texts, in bytes and in cells, one behind another
pub changes-append : (g : LineSource) (m : PathMap) (places : LineText → Option ℕ) (w : Width) (xs ys : List LineText)
    → texts_changes g m places w (xs ++ ys) ≡ texts_changes g m places w xs ++ texts_changes g m places w ys
changes-append g m places w [] ys = refl
changes-append g m places w (x ∷ xs) ys =
    ap (λ (cs : List Change). text_changes g m places w x ++ cs) (changes-append g m places w xs ys)
    ∙ sym (append_assoc (text_changes g m places w x) (texts_changes g m places w xs) (texts_changes g m places w ys))

pub cells-append : (g : LineSource) (m : PathMap) (places : LineText → Option ℕ) (w : Width) (xs ys : List LineText)
    → texts_cells g m places w (xs ++ ys) ≡ texts_cells g m places w xs ++ texts_cells g m places w ys
cells-append g m places w [] ys = refl
cells-append g m places w (x ∷ xs) ys =
    ap (λ (cs : List CellChange). text_cells g m places w x ++ cs) (cells-append g m places w xs ys)
    ∙ sym (append_assoc (text_cells g m places w x) (texts_cells g m places w xs) (texts_cells g m places w ys))

-- texts that are mapped
abbrev pub MovedText : LineSource → LineSource → PathMap → Option TextPlace → Option TextPlace → Type 0
MovedText g k m None None = ⊤
MovedText g k m (Some t) (Some u) = place_text k u ≡ mapped_path m (place_text g t)
MovedText g k m None (Some u) = ⊥
MovedText g k m (Some t) None = ⊥

-- each column is one that may stand there
abbrev pub AreColumns : List Spec → Type 0
AreColumns [] = ⊤
AreColumns (x ∷ xs) = (is_column x ≡ true) × AreColumns xs

-- the text of an entry with a column, and whether the column is its path
abbrev pub text_with : Bool → Option TextPlace → Option TextPlace → Option TextPlace
text_with b o t = if b then first_of o t else o

abbrev pub takes : Bool → Option TextPlace → Option TextPlace → Bool
takes b o t = not (is_there o) && b && is_there t

-- what it is to be the path
pub record TakesPath (b : Bool) (o t : Option TextPlace) : Type 0 where
  pub path : b ≡ true
  pub none : o ≡ None
  pub text : TextPlace
  pub is : t ≡ Some text

pub takes-path : (b : Bool) (o t : Option TextPlace) → takes b o t ≡ true → TakesPath b o t
takes-path false None t e = absurd cc
takes-path false (Some x) t e = absurd cc
takes-path true (Some x) t e = absurd cc
takes-path true None None e = absurd cc
takes-path true None (Some y) e = record { path = refl; none = refl; text = y; is = refl }

pub first-taken : (b : Bool) (o t : Option TextPlace) → (x : TakesPath b o t) → text_with b o t ≡ Some x.text
first-taken b o t x = ap (λ (d : Bool). text_with d o t) x.path ∙ ap (λ (y : Option TextPlace). first_of y t) x.none ∙ x.is

-- the first column, and the others
pub record ColumnStep (g : LineSource) (h : LineHeader) (table : List ℕ) (spec : Spec) (specs : List Spec) (e last : Entry) : Type 0 where
  pub column : Column
  pub is : column_at g h table spec e.next ≡ Ok column
  pub rest : columns g h table specs (with_column spec e column) ≡ Ok last

pub column-step : (g : LineSource) (h : LineHeader) (table : List ℕ) (spec : Spec) (specs : List Spec) (e last : Entry) → columns g h table (spec ∷ specs) e ≡ Ok last
    → ColumnStep g h table spec specs e last
column-step g h table spec specs e last is =
    let first = bound-ok (columns g h table specs) (next_column g h table spec e) last is in
    let one = made-ok (with_column spec e) (column_at g h table spec e.next) first.first first.is in
    record { column = one.first; is = one.is; rest = subst (λ (x : Entry). columns g h table specs x ≡ Ok last) (sym one.same) first.rest }

pub entry-same : (e last : Entry) → ◌≡◌ {A = Result Entry Refusal} (Ok e) (Ok last) → e ≡ last
entry-same e last is = ap (read_or e) is
  where
    read_or : Entry → Result Entry Refusal → Entry
    read_or d (Ok x) = x
    read_or d (Err r) = d

-- a path that was read stays
pub columns-keep : (g : LineSource) (h : LineHeader) (table : List ℕ) (specs : List Spec) (e last : Entry) (x : TextPlace) → columns g h table specs e ≡ Ok last → e.text ≡ Some x
    → last.text ≡ Some x
columns-keep g h table [] e last x is some = ap (λ (y : Entry). y.text) (sym (entry-same e last is)) ∙ some
columns-keep g h table (spec ∷ specs) e last x is some =
    let s = column-step g h table spec specs e last is in
    columns-keep g h table specs (with_column spec e s.column) last x s.rest
    (ap (λ (o : Option TextPlace). text_with (spec.name == DW_LNCT_path) o s.column.text) some ∙ by_name (spec.name == DW_LNCT_path) s.column.text)
  where
    by_name : (b : Bool) (t : Option TextPlace) → text_with b (Some x) t ≡ Some x
    by_name true t = refl
    by_name false t = refl

-- the texts of an entry whose first column was read
pub texts-step : (g : LineSource) (h : LineHeader) (table : List ℕ) (spec : Spec) (specs : List Spec) (e : Entry) (c : Column) → column_at g h table spec e.next ≡ Ok c
    → entry_texts g h table (spec ∷ specs) e ≡ column_text spec e c.text ++ entry_texts g h table specs (with_column spec e c)
texts-step g h table spec specs e c is =
    ap (λ (o : Result Column Refusal). column_texts spec e o ++ texts_then (λ n. entry_texts g h table specs n) (result_with (with_column spec e) o)) is

-- no change begins before the columns, and they end behind where they begin
pub columns-from : (g : LineSource) (m : PathMap) (s l old : List ℕ) (h : LineHeader) (places : LineText → Option ℕ) (end : ℕ) (cs : List Change) (specs : List Spec) (e last : Entry)
    → SourceMoves g m s l → AreColumns specs → columns g h old specs e ≡ Ok last → From end last.next cs
    → From end e.next (texts_changes g m places h.width (entry_texts g h old specs e) ++ cs) × (e.next ≤ last.next)
columns-from g m s l old h places end cs [] e last w plain is from =
    let next : e.next ≡ last.next = ap (λ (x : Entry). x.next) (entry-same e last is) in
    (from-before end e.next last.next cs (omega (arith, next)) from, omega (arith, next))
columns-from g m s l old h places end cs (spec ∷ specs) e last w plain is from =
    let step = column-step g h old spec specs e last is in
    let what = column-is g h old spec e.next step.column step.is in
    let place = column-place g h old spec e.next step.column plain.0 what in
    let behind = place.0 in
    let rest = columns-from g m s l old h places end cs specs (with_column spec e step.column) last w plain.1 step.rest from in
    let more = rest.1 in (
      subst (λ (xs : List LineText). From end e.next (texts_changes g m places h.width xs ++ cs)) (sym (texts-step g h old spec specs e step.column step.is))
          (by_text step.column.text step.column refl what place.0 (entry_texts g h old specs (with_column spec e step.column)) rest.0),
      omega (arith, behind, more),
    )
  where
    by_text : (o : Option TextPlace) (c : Column) → c.text ≡ o → ColumnIs g h old spec e.next c → e.next ≤ c.next → (xs : List LineText) → From end c.next (texts_changes g m places h.width xs ++ cs)
        → From end e.next (texts_changes g m places h.width (column_text spec e o ++ xs) ++ cs)
    by_text None c none what behind xs f = from-before end e.next c.next (texts_changes g m places h.width xs ++ cs) behind f
    by_text (Some t) c some what behind xs f =
        subst (From end e.next) (sym (append_assoc (text_changes g m places h.width (record { place = t; path = takes_path spec e })) (texts_changes g m places h.width xs) cs))
        (column-from g m s l old h places end (texts_changes g m places h.width xs ++ cs) spec e.next c t (takes_path spec e) w what some f)

-- one column under an edit
record StepMoved (g k : LineSource) (m : PathMap) (h : LineHeader) (n : LinePlaces) (old new : List ℕ) (end : ℕ) (cs : List Change)
    (us : List CellChange) (tail : List Cell) (spec : Spec) (o f : Option TextPlace) (p q : ℕ) (c : Column) : Type 0 where
  column : Column
  is : column_at k (moved_header h n) new spec q ≡ Ok column
  number : column.number ≡ c.number
  text : MovedText g k m (text_with (spec.name == DW_LNCT_path) o c.text) (text_with (spec.name == DW_LNCT_path) f column.text)
  rest : Rest old new end cs c.next column.next
  cells : CellRest g.cells k.cells end us tail c.next column.next
  clear : Clear k.cells (clear_from spec q) column.next
  mentions : MentionsMoved g k m (text_as spec o c.text) (text_as spec f column.text)
  further : (r s : Bool → ℕ → List LineColumn)
      → s (is_there (text_with (spec.name == DW_LNCT_path) o c.text)) column.next ≡ r (is_there (text_with (spec.name == DW_LNCT_path) o c.text)) c.next
      → column_there k new spec (is_there o) q s (Ok column) ≡ column_there g old spec (is_there o) p r (Ok c)

-- one that has no text
no-text : (b : Bool) (o t : Option TextPlace) → t ≡ None → text_with b o t ≡ o
no-text false o t e = refl
no-text true None t e = e
no-text true (Some x) t e = refl

none-taken : (a b : Bool) (t : Option TextPlace) → t ≡ None → (a && b && is_there t) ≡ false
none-taken a b t e = ap (λ (x : Option TextPlace). a && b && is_there x) e ∙ by a b
  where
    by : (a b : Bool) → (a && b && false) ≡ false
    by true true = refl
    by true false = refl
    by false b = refl

value-same : (g k : LineSource) (form number other : ℕ) (t u : Option TextPlace) (own : List ℕ) → t ≡ None → u ≡ None → other ≡ number
    → column_value k form u other own ≡ column_value g form t number own
value-same g k form number other t u own a b e = rw (a, b, e) refl

rest-test : (a b x y : List LineColumn) (t u : Bool) → t ≡ false → u ≡ false → x ≡ y → (if t then a else x) ≡ (if u then b else y)
rest-test a b x y t u e f g_ = rw (e, f) g_

taken-test : (a b x y : List LineColumn) (t u : Bool) → t ≡ true → u ≡ true → a ≡ b → (if t then a else x) ≡ (if u then b else y)
taken-test a b x y t u e f g_ = rw (e, f) g_

own-part : (new xs : List ℕ) (p q next : ℕ) → Rattle.dw_base.proofs.ContributionBackLaws.StandsAt new xs q → length xs ≡ next - p → part new q (q + (next - p)) ≡ xs
own-part new xs p q next st size =
    let n_ : q + (next - p) - q ≡ length xs = omega (arith, size) in
    ap (λ (i : ℕ). take i (drop q new)) n_ ∙ first-stand new xs q (length xs) st (omega arith) ∙ take_all (length xs) xs (omega arith)

step-value : (g : LineSource) (m : PathMap) (bytes : List ℕ) (cells : List Cell) (s l old new : List ℕ) (h : LineHeader) (n : LinePlaces) (end : ℕ) (cs : List Change)
    (us : List CellChange) (tail : List Cell) (spec : Spec) (o f : Option TextPlace) (p q : ℕ) (c : Column) → SourceMoves g m s l → Sides g bytes cells old new → is_column spec ≡ true → ColumnIs g h old spec p c
    → c.text ≡ None → MovedText g (edited_with g bytes cells s l) m o f → Rest old new end cs p q → CellRest g.cells cells end us tail p q → SameChanges us cs
    → From end c.next cs → Clear g.cells (clear_from spec p) c.next
    → StepMoved g (edited_with g bytes cells s l) m h n old new end cs us tail spec o f p q c
step-value g m bytes cells s l old new h n end cs us tail spec o f p q c w sides plain what none moved rest cell both from clear =
    let place = column-place g h old spec p c plain what in
    let k = copied old new end cs p q c.next rest place.0 from in
    let last_in : c.next ≤ end = from-end end c.next cs from in
    let d = cells-copied g.cells cells end us tail p q c.next cell place.0 last_in (same-from end c.next us cs both from) (column-own g m bytes cells s l old new h spec p c w sides what clear) in
    let kept = column-kept g bytes cells s l old new h n spec p q c plain what none k.both in
    let size : length (part old p c.next) ≡ c.next - p = part-length old p c.next place.0 place.1 in
    let own : part new q kept.column.next ≡ part old p c.next =
    ap (λ (i : ℕ). part new q i) kept.next ∙ own-part new (part old p c.next) p q c.next k.both.is size in
    record {
      column = kept.column;
      is = kept.is;
      number = kept.number;
      text = subst (λ (x : Option TextPlace). MovedText g (edited_with g bytes cells s l) m x (text_with (spec.name == DW_LNCT_path) f kept.column.text)) (sym (no-text (spec.name == DW_LNCT_path) o c.text none))
          (subst (λ (x : Option TextPlace). MovedText g (edited_with g bytes cells s l) m o x) (sym (no-text (spec.name == DW_LNCT_path) f kept.column.text kept.text)) moved);
      rest = subst (λ (i : ℕ). Rest old new end cs c.next i) (sym kept.next) k.rest;
      cells = subst (λ (i : ℕ). CellRest g.cells cells end us tail c.next i) (sym kept.next) d.rest;
      clear = subst (λ (i : ℕ). Clear cells (clear_from spec q) i) (sym kept.next) (column-clear spec g.cells cells p q c.next d.same clear);
      mentions = subst (λ (x : Option TextPlace). MentionsMoved g (edited_with g bytes cells s l) m (text_as spec o x) (text_as spec f kept.column.text)) (sym none)
          (subst (λ (x : Option TextPlace). MentionsMoved g (edited_with g bytes cells s l) m [] (text_as spec f x)) (sym kept.text) (mentions-none g (edited_with g bytes cells s l) m));
      further = λ r s_ e.
          let there : is_there (text_with (spec.name == DW_LNCT_path) o c.text) ≡ is_there o = ap (λ (x : Option TextPlace). is_there x) (no-text (spec.name == DW_LNCT_path) o c.text none) in
          let rest_same : s_ (is_there o) kept.column.next ≡ r (is_there o) c.next =
          ap (λ (b : Bool). s_ b kept.column.next) (sym there) ∙ e ∙ ap (λ (b : Bool). r b c.next) there in
          let value : column_value (edited_with g bytes cells s l) spec.form kept.column.text kept.column.number (part new q kept.column.next)
          ≡ column_value g spec.form c.text c.number (part old p c.next) =
          ap (column_value (edited_with g bytes cells s l) spec.form kept.column.text kept.column.number) own
          ∙ value-same g (edited_with g bytes cells s l) spec.form c.number kept.column.number c.text kept.column.text (part old p c.next) none kept.text kept.number in
          rest-test (s_ true kept.column.next) (r true c.next) _ _ (not (is_there o) && spec.name == DW_LNCT_path && is_there kept.column.text)
          (not (is_there o) && spec.name == DW_LNCT_path && is_there c.text)
          (none-taken (not (is_there o)) (spec.name == DW_LNCT_path) kept.column.text kept.text) (none-taken (not (is_there o)) (spec.name == DW_LNCT_path) c.text none)
          (ap (λ (v : _). record { name = spec.name; value = v } ∷ s_ (is_there o) kept.column.next) value
          ∙ ap (λ (cs_ : List LineColumn). record { name = spec.name; value = column_value g spec.form c.text c.number (part old p c.next) } ∷ cs_) rest_same);
    }

-- where there is a text there is its mapped one
some-moved : (g k : LineSource) (m : PathMap) (o f : Option TextPlace) → MovedText g k m o f → is_some f ≡ is_some o
some-moved g k m None None h = refl
some-moved g k m None (Some u) h = absurd h
some-moved g k m (Some t) None h = absurd h
some-moved g k m (Some t) (Some u) h = refl

-- one that has one, which is the path of its entry or isn't
moved-with : (g k : LineSource) (m : PathMap) (b : Bool) (o f : Option TextPlace) (t u : TextPlace) → MovedText g k m o f
    → place_text k u ≡ moved_text m (not (is_some o) && b) (place_text g t) → MovedText g k m (text_with b o (Some t)) (text_with b f (Some u))
moved-with g k m false o f t u moved says = moved
moved-with g k m true None None t u moved says = says
moved-with g k m true None (Some y) t u moved says = absurd moved
moved-with g k m true (Some x) None t u moved says = absurd moved
moved-with g k m true (Some x) (Some y) t u moved says = moved

there-moved : (g k : LineSource) (m : PathMap) (b : Bool) (o : Option TextPlace) (t : TextPlace) (r s : Bool → ℕ → List LineColumn) (p q : ℕ) → (not (is_there o) && b && true) ≡ false
    → s (is_there (text_with b o (Some t))) q ≡ r (is_there (text_with b o (Some t))) p → s (is_there o) q ≡ r (is_there o) p
there-moved g k m false o t r s p q none e = e
there-moved g k m true None t r s p q none e = absurd cc
there-moved g k m true (Some x) t r s p q none e = e

first-there : (b : Bool) (o : Option TextPlace) (t : TextPlace) (r s : Bool → ℕ → List LineColumn) (p q : ℕ) → (not (is_there o) && b && true) ≡ true
    → s (is_there (text_with b o (Some t))) q ≡ r (is_there (text_with b o (Some t))) p → s true q ≡ r true p
first-there false None t r s p q some e = absurd cc
first-there false (Some x) t r s p q some e = absurd cc
first-there true None t r s p q some e = e
first-there true (Some x) t r s p q some e = absurd cc

not-path : (b : Bool) (o : Option TextPlace) → (not (is_there o) && b && true) ≡ false → (not (is_some o) && b) ≡ false
not-path false None e = refl
not-path false (Some x) e = refl
not-path true None e = absurd cc
not-path true (Some x) e = refl

text-value : (g k : LineSource) (m : PathMap) (form number other : ℕ) (t u : TextPlace) (path : Bool) (own new : List ℕ) → path ≡ false → place_text k u ≡ moved_text m path (place_text g t)
    → column_value k form (Some u) other new ≡ column_value g form (Some t) number own
text-value g k m form number other t u path own new none says =
    ap (λ (x : List ℕ). Rattle.dw_base.specs.LineMeanings.text_column x) (says ∙ ap (λ (b : Bool). moved_text m b (place_text g t)) none)

further-text : (g k : LineSource) (m : PathMap) (old new : List ℕ) (spec : Spec) (o : Option TextPlace) (t u : TextPlace) (number other next behind p q : ℕ) (r s : Bool → ℕ → List LineColumn)
    → place_text k u ≡ moved_text m (not (is_some o) && spec.name == DW_LNCT_path) (place_text g t)
    → s (is_there (text_with (spec.name == DW_LNCT_path) o (Some t))) behind ≡ r (is_there (text_with (spec.name == DW_LNCT_path) o (Some t))) next
    → column_there k new spec (is_there o) q s (Ok (record { text = Some u; number = other; next = behind }))
    ≡ column_there g old spec (is_there o) p r (Ok (record { text = Some t; number = number; next = next }))
further-text g k m old new spec o t u number other next behind p q r s says e =
    by_taken (not (is_there o) && spec.name == DW_LNCT_path && true) refl
  where
    by_taken : (b : Bool) → (not (is_there o) && spec.name == DW_LNCT_path && true) ≡ b
        → column_there k new spec (is_there o) q s (Ok (record { text = Some u; number = other; next = behind }))
        ≡ column_there g old spec (is_there o) p r (Ok (record { text = Some t; number = number; next = next }))
    by_taken true is =
        taken-test (s true behind) (r true next) _ _ (not (is_there o) && spec.name == DW_LNCT_path && true) (not (is_there o) && spec.name == DW_LNCT_path && true) is is
        (first-there (spec.name == DW_LNCT_path) o t r s next behind is e)
    by_taken false is =
        rest-test (s true behind) (r true next) _ _ (not (is_there o) && spec.name == DW_LNCT_path && true) (not (is_there o) && spec.name == DW_LNCT_path && true) is is
        (ap (λ (v : _). record { name = spec.name; value = v } ∷ s (is_there o) behind)
        (text-value g k m spec.form number other t u (not (is_some o) && spec.name == DW_LNCT_path) (part old p next) (part new q behind) (not-path (spec.name == DW_LNCT_path) o is) says)
        ∙ ap (λ (cs : List LineColumn). record { name = spec.name; value = column_value g spec.form (Some t) number (part old p next) } ∷ cs)
        (there-moved g k m (spec.name == DW_LNCT_path) o t r s next behind is e))

step-text : (g : LineSource) (m : PathMap) (bytes : List ℕ) (cells : List Cell) (s l old new : List ℕ) (h : LineHeader) (n : LinePlaces) (places : LineText → Option ℕ) (end : ℕ) (cs : List Change)
    (us : List CellChange) (tail : List Cell) (spec : Spec) (o f : Option TextPlace) (p q : ℕ) (c : Column) (t : TextPlace) → SourceMoves g m s l → Sides g bytes cells old new → ColumnIs g h old spec p c
    → c.text ≡ Some t → TextMoves g m s l h.width places (record { place = t; path = not (is_some o) && spec.name == DW_LNCT_path }) → MovedText g (edited_with g bytes cells s l) m o f
    → Rest old new end (text_changes g m places h.width (record { place = t; path = not (is_some o) && spec.name == DW_LNCT_path }) ++ cs) p q
    → CellRest g.cells cells end (text_cells g m places h.width (record { place = t; path = not (is_some o) && spec.name == DW_LNCT_path }) ++ us) tail p q → SameChanges us cs
    → From end c.next cs → Clear g.cells (clear_from spec p) c.next → StepMoved g (edited_with g bytes cells s l) m h n old new end cs us tail spec o f p q c
step-text g m bytes cells s l old new h n places end cs us tail spec o f p q c t w sides what some moves moved rest cell both from clear =
    let d = column-moved g m bytes cells s l old new h n places end cs us tail spec p q c t (not (is_some o) && spec.name == DW_LNCT_path) w sides what some moves rest cell both from clear in
    record {
      column = d.column;
      is = d.is;
      number = d.number;
      text = subst (λ (x : Option TextPlace). MovedText g (edited_with g bytes cells s l) m (text_with (spec.name == DW_LNCT_path) o x) (text_with (spec.name == DW_LNCT_path) f d.column.text)) (sym some)
          (subst (λ (x : Option TextPlace). MovedText g (edited_with g bytes cells s l) m (text_with (spec.name == DW_LNCT_path) o (Some t)) (text_with (spec.name == DW_LNCT_path) f x)) (sym d.text)
          (moved-with g (edited_with g bytes cells s l) m (spec.name == DW_LNCT_path) o f t d.place moved d.says));
      rest = d.rest;
      cells = d.cells;
      clear = d.clear;
      mentions = subst (λ (x : Option TextPlace). MentionsMoved g (edited_with g bytes cells s l) m (text_as spec o x) (text_as spec f d.column.text)) (sym some)
          (subst (λ (x : Option TextPlace). MentionsMoved g (edited_with g bytes cells s l) m (text_as spec o (Some t)) (text_as spec f x)) (sym d.text)
          (subst (λ (b : Bool). MentionsMoved g (edited_with g bytes cells s l) m (text_as spec o (Some t)) (record { place = d.place; path = not b && spec.name == DW_LNCT_path } ∷ []))
          (sym (some-moved g (edited_with g bytes cells s l) m o f moved)) d.mentions));
      further = λ r s_ e.
          subst (λ (x : Option TextPlace). column_there (edited_with g bytes cells s l) new spec (is_there o) q s_ (Ok d.column)
          ≡ column_there g old spec (is_there o) p r (Ok (record { text = x; number = c.number; next = c.next }))) (sym some)
          (subst (λ (x : Option TextPlace). column_there (edited_with g bytes cells s l) new spec (is_there o) q s_ (Ok (record { text = x; number = d.column.number; next = d.column.next }))
          ≡ column_there g old spec (is_there o) p r (Ok (record { text = Some t; number = c.number; next = c.next }))) (sym d.text)
          (further-text g (edited_with g bytes cells s l) m old new spec o t d.place c.number d.column.number c.next d.column.next p q r s_ d.says
          (subst (λ (x : Option TextPlace). s_ (is_there (text_with (spec.name == DW_LNCT_path) o x)) d.column.next ≡ r (is_there (text_with (spec.name == DW_LNCT_path) o x)) c.next) some e)));
    }

same-column : (a b : Column) → ◌≡◌ {A = Result Column Refusal} (Ok a) (Ok b) → a ≡ b
same-column a b e = cc

-- the columns of an entry under an edit
pub record EntryMoved (g k : LineSource) (m : PathMap) (h : LineHeader) (n : LinePlaces) (old new : List ℕ) (end : ℕ) (cs : List Change)
    (us : List CellChange) (tail : List Cell) (specs : List Spec) (e f last : Entry) : Type 0 where
  pub entry : Entry
  pub is : columns k (moved_header h n) new specs f ≡ Ok entry
  pub dir : entry.dir ≡ last.dir
  pub text : MovedText g k m last.text entry.text
  pub rest : Rest old new end cs last.next entry.next
  pub cells : CellRest g.cells k.cells end us tail last.next entry.next
  pub clear : ColumnsClear k (moved_header h n) new specs f.next
  pub mentions : MentionsMoved g k m (entry_texts g h old specs e) (entry_texts k (moved_header h n) new specs f)
  pub further : further_columns k (moved_header h n) new specs (is_there e.text) f.next ≡ further_columns g h old specs (is_there e.text) e.next

pub columns-moved : (g : LineSource) (m : PathMap) (bytes : List ℕ) (cells : List Cell) (s l old new : List ℕ) (h : LineHeader) (n : LinePlaces) (places : LineText → Option ℕ) (end : ℕ) (cs : List Change)
    (us : List CellChange) (tail : List Cell) (specs : List Spec) (e f last : Entry) → SourceMoves g m s l → Sides g bytes cells old new → AreColumns specs → columns g h old specs e ≡ Ok last
    → EachMoves g m s l h.width places (entry_texts g h old specs e) → f.dir ≡ e.dir → MovedText g (edited_with g bytes cells s l) m e.text f.text
    → Rest old new end (texts_changes g m places h.width (entry_texts g h old specs e) ++ cs) e.next f.next
    → CellRest g.cells cells end (texts_cells g m places h.width (entry_texts g h old specs e) ++ us) tail e.next f.next → SameChanges us cs → From end last.next cs → ColumnsClear g h old specs e.next
    → EntryMoved g (edited_with g bytes cells s l) m h n old new end cs us tail specs e f last
columns-moved g m bytes cells s l old new h n places end cs us tail [] e f last w sides plain is moves dir text rest cell both from clear =
    let same : e ≡ last = entry-same e last is in
    record {
      entry = f;
      is = refl;
      dir = dir ∙ ap (λ (x : Entry). x.dir) same;
      text = subst (λ (x : Entry). MovedText g (edited_with g bytes cells s l) m x.text f.text) same text;
      rest = subst (λ (x : Entry). Rest old new end cs x.next f.next) same rest;
      cells = subst (λ (x : Entry). CellRest g.cells cells end us tail x.next f.next) same cell;
      clear = tt;
      mentions = mentions-none g (edited_with g bytes cells s l) m;
      further = refl;
    }
columns-moved g m bytes cells s l old new h n places end cs us tail (spec ∷ specs) e f last w sides plain is moves dir text rest cell both from clear =
    let step = column-step g h old spec specs e last is in
    let what = column-is g h old spec e.next step.column step.is in
    let here = clear step.column step.is in
    let behind = columns-from g m s l old h places end cs specs (with_column spec e step.column) last w plain.1 step.rest from in
    let texts : entry_texts g h old (spec ∷ specs) e ≡ column_text spec e step.column.text ++ entry_texts g h old specs (with_column spec e step.column) =
    texts-step g h old spec specs e step.column step.is in
    let one = by_text step.column.text step.column refl what here.0 (entry_texts g h old specs (with_column spec e step.column)) behind.0
    (subst (EachMoves g m s l h.width places) texts moves)
    (subst (λ (xs : List LineText). Rest old new end (texts_changes g m places h.width xs ++ cs) e.next f.next) texts rest)
    (subst (λ (xs : List LineText). CellRest g.cells cells end (texts_cells g m places h.width xs ++ us) tail e.next f.next) texts cell) in
    go step.column step.is one.0 here.1 (λ d. columns-moved g m bytes cells s l old new h n places end cs us tail specs (with_column spec e step.column) (with_column spec f d) last w sides plain.1 step.rest one.1)
  where
    k_ : LineSource
    k_ = edited_with g bytes cells s l

    same : (xs : List LineText) → SameChanges (texts_cells g m places h.width xs ++ us) (texts_changes g m places h.width xs ++ cs)
    same xs = same-append (texts_cells g m places h.width xs) us (texts_changes g m places h.width xs) cs (texts-bytes g m places h.width xs w.own) both

    by_text : (o : Option TextPlace) (c : Column) → c.text ≡ o → ColumnIs g h old spec e.next c → Clear g.cells (clear_from spec e.next) c.next → (xs : List LineText)
        → From end c.next (texts_changes g m places h.width xs ++ cs) → EachMoves g m s l h.width places (column_text spec e o ++ xs)
        → Rest old new end (texts_changes g m places h.width (column_text spec e o ++ xs) ++ cs) e.next f.next
        → CellRest g.cells cells end (texts_cells g m places h.width (column_text spec e o ++ xs) ++ us) tail e.next f.next
        → StepMoved g (edited_with g bytes cells s l) m h n old new end (texts_changes g m places h.width xs ++ cs) (texts_cells g m places h.width xs ++ us) tail spec e.text f.text e.next f.next c
        × EachMoves g m s l h.width places xs
    by_text None c none what here xs behind moves r d = (
      step-value g m bytes cells s l old new h n end (texts_changes g m places h.width xs ++ cs) (texts_cells g m places h.width xs ++ us) tail spec e.text f.text e.next f.next c w sides plain.0 what none
          text r d (same xs) behind here,
      moves,
    )
    by_text (Some t) c some what here xs behind moves r d = (
      step-text g m bytes cells s l old new h n places end (texts_changes g m places h.width xs ++ cs) (texts_cells g m places h.width xs ++ us) tail spec e.text f.text e.next f.next c t w sides what some
          moves.0 text
          (subst (λ (ds : List Change). Rest old new end ds e.next f.next)
          (append_assoc (text_changes g m places h.width (record { place = t; path = takes_path spec e })) (texts_changes g m places h.width xs) cs) r)
          (subst (λ (vs : List CellChange). CellRest g.cells cells end vs tail e.next f.next)
          (append_assoc (text_cells g m places h.width (record { place = t; path = takes_path spec e })) (texts_cells g m places h.width xs) us) d) (same xs) behind here,
      moves.1,
    )

    go : (c : Column) → column_at g h old spec e.next ≡ Ok c
        → StepMoved g (edited_with g bytes cells s l) m h n old new end (texts_changes g m places h.width (entry_texts g h old specs (with_column spec e c)) ++ cs)
        (texts_cells g m places h.width (entry_texts g h old specs (with_column spec e c)) ++ us) tail spec e.text f.text e.next f.next c
        → ColumnsClear g h old specs c.next → ((d : Column) → (with_column spec f d).dir ≡ (with_column spec e c).dir → MovedText g (edited_with g bytes cells s l) m (with_column spec e c).text (with_column spec f d).text
        → Rest old new end (texts_changes g m places h.width (entry_texts g h old specs (with_column spec e c)) ++ cs) (with_column spec e c).next (with_column spec f d).next
        → CellRest g.cells cells end (texts_cells g m places h.width (entry_texts g h old specs (with_column spec e c)) ++ us) tail (with_column spec e c).next (with_column spec f d).next
        → SameChanges us cs → From end last.next cs → ColumnsClear g h old specs (with_column spec e c).next
        → EntryMoved g (edited_with g bytes cells s l) m h n old new end cs us tail specs (with_column spec e c) (with_column spec f d) last)
        → EntryMoved g (edited_with g bytes cells s l) m h n old new end cs us tail (spec ∷ specs) e f last
    go c at st clear_rest rec =
        let dirs : (with_column spec f st.column).dir ≡ (with_column spec e c).dir = rw (dir, st.number) refl in
        let r = rec st.column dirs st.text st.rest st.cells both from clear_rest in
        record {
          entry = r.entry;
          is = rw st.is r.is;
          dir = r.dir;
          text = r.text;
          rest = r.rest;
          cells = r.cells;
          clear = λ d read.
              subst (λ (y : Column). Clear cells (clear_from spec f.next) y.next × ColumnsClear (edited_with g bytes cells s l) (moved_header h n) new specs y.next)
              (same-column st.column d (sym st.is ∙ read)) (st.clear, r.clear);
          mentions = subst (λ (xs : List LineText). MentionsMoved g (edited_with g bytes cells s l) m xs (entry_texts (edited_with g bytes cells s l) (moved_header h n) new (spec ∷ specs) f))
              (sym (texts-step g h old spec specs e c at ∙ ap (λ (xs : List LineText). xs ++ entry_texts g h old specs (with_column spec e c)) (text-as spec e c.text)))
              (subst (λ (ys : List LineText). MentionsMoved g (edited_with g bytes cells s l) m (text_as spec e.text c.text ++ entry_texts g h old specs (with_column spec e c)) ys)
              (sym (texts-step (edited_with g bytes cells s l) (moved_header h n) new spec specs f st.column st.is
              ∙ ap (λ (ys : List LineText). ys ++ entry_texts (edited_with g bytes cells s l) (moved_header h n) new specs (with_column spec f st.column)) (text-as spec f st.column.text)))
              (mentions-both g (edited_with g bytes cells s l) m (text_as spec e.text c.text) (text_as spec f.text st.column.text) (entry_texts g h old specs (with_column spec e c))
              (entry_texts (edited_with g bytes cells s l) (moved_header h n) new specs (with_column spec f st.column)) st.mentions r.mentions));
          further = rw (st.is, at) (st.further (λ t_ p_. further_columns g h old specs t_ p_) (λ t_ p_. further_columns (edited_with g bytes cells s l) (moved_header h n) new specs t_ p_) r.further);
        }
