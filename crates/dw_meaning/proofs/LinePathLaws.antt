-- The paths of a line table that was read: each stands in its section, or ends in the table of texts that its offset is of; and where the
-- tables of texts change, each text that an offset names has a new place, with its new text.
use Rattle.std.proofs.Common.{Bool, true, false, ◌≡◌, ◌≢◌, ℕ, ◌+◌, ◌^◌, ◌≤◌, ◌==◌, List, [], ◌∷◌, ◌++◌, length, Option, Some, None, refl, sym, ap, ◌∙◌, subst, arith, if◌then◌else◌, append_assoc}
use Rattle.std.specs.Prelude.{⊤, Ok}
use Rattle.std.proofs.lemmas.Bool.{eq-eqb, ne_eqb}
use Rattle.dw_base.specs.Forms.{width_size}
use Rattle.dw_base.specs.LineEntries.{first_of, with_column, columns}
use Rattle.dw_base.specs.LineReadings.{LineReading, table_read}
use Rattle.dw_base.specs.LineSources.{LineSource}
use Rattle.dw_base.specs.LineTables.{HasLists, old_lists, new_lists, texts_of}
use Rattle.dw_base.specs.LineTexts.{inline_text, text_of}
use Rattle.dw_base.specs.Paths.{PathMap, IsPathMap}
use Rattle.dw_base.specs.StringTables.{Mention, new_text, new_place, place_in, texts_after}
use Rattle.dw_base.specs.TextChanges.{TableChanges}
use Rattle.dw_base.specs.TextLineChanges.{mention_of, on_paths, text_mention, text_place, texts_mentions}
use Rattle.dw_base.specs.Texts.{text_in, ends_in, is_in, laid_texts}
use Rattle.dw_base.specs.declared.line_numbers.TheConstants.{DW_LNCT_path}
use Rattle.dw_base.specs.declared.line_tables.Column.{Column}
use Rattle.dw_base.specs.declared.line_tables.Entry.{Entry}
use Rattle.dw_base.specs.declared.line_tables.FilePlace.{FilePlace}
use Rattle.dw_base.specs.declared.line_tables.LineHeader.{LineHeader}
use Rattle.dw_base.specs.declared.line_tables.LineText.{LineText}
use Rattle.dw_base.specs.declared.line_tables.TextPlace.{TextPlace}
use Rattle.dw_base.specs.declared.shared.Width.{Width}
use Rattle.dw_base.specs.declared.values.Spec.{Spec}
use Rattle.dw_base.proofs.TableLaws.{is_in-mentioned}
use Rattle.dw_base.proofs.TextLaws.{has_nul-text_in, ends_in-inside, text_in-laid, ends_in-laid, place_in-lt}
use Rattle.dw_base.specs.RelocationFields.{relocation_at}
use Rattle.dw_base.specs.declared.debug_sections.DebugSection.TheVariants.{Str, LineStr}
use Rattle.dw_base.specs.declared.texts.TextSection.{TextSection}
use Rattle.dw_base.specs.declared.texts.TextSection.TheVariants.{InStr, InLineStr}
use Rattle.dw_meaning.specs.NewAddends.{EachTextMakes, EachTextsMake, MakesPath}
use Rattle.dw_meaning.proofs.FieldCellLaws.{makes-takes}
use Rattle.dw_meaning.proofs.LineColumnLaws.{texts_in, OffsetMoves, MovesIn, TextMoves, TakesPlace, ColumnIs, inline_is, offset_is, value_is, column-is}
use Rattle.dw_meaning.proofs.LineEntryLaws.{EachMoves, text_with, column-step, entry-same}
use Rattle.dw_meaning.proofs.LineListLaws.{entry-is, list-is}
use Rattle.dw_meaning.proofs.LineReadLaws.{inline-inside}
use Rattle.dw_meaning.proofs.LineWalkLaws.{OldDirs, OldFiles, NewFiles, dirs-of, files-of}
use Rattle.dw_meaning.proofs.TextEditLaws.{TextsAre, behind_piece, has_nul-new_text, offset-fits}

-- a path that stands in the section of line tables, or that an offset names
pub data PathIs (g : LineSource) : TextPlace → Type 0 where
  stands_there : (x : TextPlace) → x.section ≡ g.number → PathIs g x
  named_there : (z : TextSection) (at field : ℕ) → ends_in (texts_in g z).bytes at ≡ true → PathIs g (text_of (texts_in g z) at field)

abbrev pub EachPath : LineSource → List TextPlace → Type 0
EachPath g [] = ⊤
EachPath g (x ∷ xs) = PathIs g x × EachPath g xs

each-append : (g : LineSource) (xs ys : List TextPlace) → EachPath g xs → EachPath g ys → EachPath g (xs ++ ys)
each-append g [] ys h k = k
each-append g (x ∷ xs) ys h k = (h.0, each-append g xs ys h.1 k)

inline-path : (g : LineSource) (table : List ℕ) (p : ℕ) (t : TextPlace) → inline_text g.number table p ≡ Some t → PathIs g t
inline-path g table p t e = stands_there t (ap (λ (x : TextPlace). x.section) (inline-inside g.number table p t e).1)

dirs-paths : (g : LineSource) (table : List ℕ) (p : ℕ) (ts : List TextPlace) (e : ℕ) → OldDirs g.number table p ts e → EachPath g ts
dirs-paths g table p [] e d = tt
dirs-paths g table p (t ∷ ts) e d = (inline-path g table p t d.0, dirs-paths g table (p + t.len + 1) ts e d.2)

old-paths : (g : LineSource) (table : List ℕ) (p : ℕ) (fs : List FilePlace) (e : ℕ) → OldFiles g.number table p fs e → EachPath g (texts_of fs)
old-paths g table p [] e d = tt
old-paths g table p (f ∷ fs) e d = (inline-path g table p f.text d.0.text, old-paths g table d.0.next fs e d.1)

-- of entries of a format
abbrev pub AnyPath : LineSource → Option TextPlace → Type 0
AnyPath g None = ⊤
AnyPath g (Some t) = PathIs g t

pub column-path : (g : LineSource) (h : LineHeader) (table : List ℕ) (spec : Spec) (p : ℕ) (c : Column) → ColumnIs g h table spec p c → AnyPath g c.text
column-path g h table spec p c (inline_is form e) = stands_there _ refl
column-path g h table spec p c (offset_is z i form room reads e) = named_there z i p e
column-path g h table spec p c (value_is a b d v e) = tt

columns-path : (g : LineSource) (h : LineHeader) (table : List ℕ) (specs : List Spec) (e last : Entry) → columns g h table specs e ≡ Ok last → AnyPath g e.text → AnyPath g last.text
columns-path g h table [] e last is path = subst (λ (x : Entry). AnyPath g x.text) (entry-same e last is) path
columns-path g h table (spec ∷ specs) e last is path =
    let s = column-step g h table spec specs e last is in
    columns-path g h table specs (with_column spec e s.column) last s.rest
    (by_name (spec.name == DW_LNCT_path) e.text s.column.text path (column-path g h table spec e.next s.column (column-is g h table spec e.next s.column s.is)))
  where
    by_text : (o t : Option TextPlace) → AnyPath g o → AnyPath g t → AnyPath g (first_of o t)
    by_text None t a b = b
    by_text (Some x) t a b = a

    by_name : (b : Bool) (o t : Option TextPlace) → AnyPath g o → AnyPath g t → AnyPath g (text_with b o t)
    by_name true o t a b = by_text o t a b
    by_name false o t a b = a

new-paths : (g : LineSource) (h : LineHeader) (table : List ℕ) (specs : List Spec) (p : ℕ) (fs : List FilePlace) (e : ℕ) → NewFiles g h table specs p fs e → EachPath g (texts_of fs)
new-paths g h table specs p [] e d = tt
new-paths g h table specs p (f ∷ fs) e d =
    let x = entry-is g h table specs p f d.0.next d.0.entry in
    (subst (AnyPath g) x.text (columns-path g h table specs (record { text = None; dir = None; next = p }) x.last x.columns_are tt), new-paths g h table specs d.0.next fs e d.1)

pub lists-paths : (g : LineSource) (h : LineHeader) (table : List ℕ) (dirs : List TextPlace) (files : List FilePlace) (behind : ℕ) → HasLists g h table dirs files behind
    → EachPath g (dirs ++ texts_of files)
lists-paths g h table dirs files behind (old_lists ds fs place e other d f) =
    each-append g dirs (texts_of files) (dirs-paths g table h.lists dirs place (dirs-of g.number table h.lists place dirs d))
    (old-paths g table place files behind (files-of g.number table place behind files f))
lists-paths g h table dirs files behind (new_lists ds fs place e five d f) =
    let a = list-is g h table h.lists ds place d in
    let b = list-is g h table place files behind f in
    each-append g (texts_of ds) (texts_of files) (new-paths g h table a.format.0 (a.format.1 + a.count.1) ds place a.are)
    (new-paths g h table b.format.0 (b.format.1 + b.count.1) files behind b.are)

-- where a table of texts has no bytes, no text is in it
pub text-none : (g : LineSource) (table : TextSection) (x : TextPlace) (path : Bool) → ((at : ℕ) → ends_in g.line_str.bytes at ≡ true → g.line_str.number ≢ g.str.number)
    → (texts_in g table).bytes ≡ [] → PathIs g x → mention_of g table (record { place = x; path = path }) ≡ []
text-none g table x path apart none (stands_there y is) = by_table table
  where
    by_table : (z : TextSection) → mention_of g z (record { place = x; path = path }) ≡ []
    by_table InStr = rw (eq-eqb x.section g.number is) refl
    by_table InLineStr = rw (eq-eqb x.section g.number is) refl
text-none g table x path apart none (named_there z at field e) = by_own table none z e (((texts_in g z).number) == g.number)
  where
    clash : (bytes : List ℕ) → bytes ≡ [] → ends_in bytes at ≡ true → ⊥
    clash bytes empty ends =
        let inside : ends_in [] at ≡ true = ap (λ (t : List ℕ). ends_in t at) (sym empty) ∙ ends in
        omega (arith, ends_in-inside [] at inside)

    by_own : (table : TextSection) → (texts_in g table).bytes ≡ [] → (z : TextSection) → ends_in (texts_in g z).bytes at ≡ true → (own : Bool)
        → mention_of g table (record { place = text_of (texts_in g z) at field; path = path }) ≡ []
    by_own InStr none InStr e own = absurd (clash g.str.bytes none e)
    by_own InStr none InLineStr e own = by (g.line_str.number == g.number)
      where
        there : LineText
        there = record { place = text_of g.line_str at field; path = path }

        by : (b : Bool) → (if b then [] else (if g.line_str.number == g.str.number then text_mention g.str.bytes there ∷ [] else [])) ≡ []
        by true = refl
        by false = ap (λ (c : Bool). if c then text_mention g.str.bytes there ∷ [] else []) (ne_eqb g.line_str.number g.str.number (apart at e))
    by_own InLineStr none InStr e own = by (g.str.number == g.number)
      where
        there : LineText
        there = record { place = text_of g.str at field; path = path }

        by : (b : Bool) → (if b then [] else (if g.str.number == g.str.number then [] else text_mention g.line_str.bytes there ∷ [])) ≡ []
        by true = refl
        by false = ap (λ (c : Bool). if c then [] else text_mention g.line_str.bytes there ∷ []) (eq-eqb g.str.number g.str.number refl)
    by_own InLineStr none InLineStr e own = absurd (clash g.line_str.bytes none e)

-- so it is with each text
abbrev pub EachText : LineSource → List LineText → Type 0
EachText g [] = ⊤
EachText g (x ∷ xs) = PathIs g x.place × EachText g xs

pub texts-append : (g : LineSource) (xs ys : List LineText) → EachText g xs → EachText g ys → EachText g (xs ++ ys)
texts-append g [] ys h k = k
texts-append g (x ∷ xs) ys h k = (h.0, texts-append g xs ys h.1 k)

-- a text that an offset names has its place among the new texts of its table
place-moves : (m : PathMap) (ts : List (List ℕ)) (bytes : List ℕ) (w : Width) (x : LineText) → IsPathMap m → length (laid_texts ts) ≤ 2 ^ 32
    → is_in ts (new_text m (text_mention bytes x)) ≡ true → OffsetMoves m x.path w bytes (laid_texts ts) x.place.at (Some (new_place m ts (text_mention bytes x)))
place-moves m ts bytes w x is small there =
    let bare = has_nul-new_text m x.path (text_in bytes x.place.at) is (has_nul-text_in bytes x.place.at) in
    let within = place_in-lt ts (new_text m (text_mention bytes x)) there in (
      offset-fits w (width_size w) (place_in ts (new_text m (text_mention bytes x))) (length (laid_texts ts)) refl (omega (arith, within)) small,
      ends_in-laid ts (new_text m (text_mention bytes x)) there,
      text_in-laid ts (new_text m (text_mention bytes x)) there bare,
    )

-- what holds of both new tables: they have at most 2^32 bytes
pub record BothMove (c : TableChanges) : Type 0 where
  pub map : IsPathMap c.map
  pub str : length (laid_texts (c.new Str)) ≤ 2 ^ 32
  pub line_str : length (laid_texts (c.new LineStr)) ≤ 2 ^ 32

-- and the records of relocations at offsets can make the new places
abbrev pub TakesIn : LineSource → Width → ℕ → Option ℕ → Bool → Type 0
TakesIn g w field o true = ⊤
TakesIn g w field o false = TakesPlace g w field o

abbrev pub EachTakes : LineSource → (LineText → Option ℕ) → Width → List LineText → Type 0
EachTakes g places w [] = ⊤
EachTakes g places w (x ∷ xs) = TakesIn g w x.place.field (places x) (x.place.section == g.number) × EachTakes g places w xs

abbrev pub AllTake : LineSource → (LineText → Option ℕ) → List LineReading → Type 0
AllTake g places [] = ⊤
AllTake g places (r ∷ rs) = EachTakes g places r.header.width (table_read g r).texts × AllTake g places rs

text-moves : (c : TableChanges) (g : LineSource) (w : Width) (ts us : List (List ℕ)) (ms ns : List Mention) (x : LineText)
    → BothMove c → TextsAre c ts us (mention_of g InStr x ++ ms) (mention_of g InLineStr x ++ ns)
    → TakesIn g w x.place.field (text_place c.map (c.new Str) (c.new LineStr) g x) (x.place.section == g.number)
    → TextMoves g c.map (laid_texts (c.new Str)) (laid_texts (c.new LineStr)) w (text_place c.map (c.new Str) (c.new LineStr) g) x
text-moves c g w ts us ms ns x both all takes =
    by_section (x.place.section == g.number) (x.place.section == g.str.number) all takes
  where
    by_section : (a b : Bool)
        → TextsAre c ts us ((if a then [] else (if b then text_mention g.str.bytes x ∷ [] else [])) ++ ms) ((if a then [] else (if b then [] else text_mention g.line_str.bytes x ∷ [])) ++ ns)
        → TakesIn g w x.place.field (if b then Some (new_place c.map (c.new Str) (text_mention g.str.bytes x)) else Some (new_place c.map (c.new LineStr) (text_mention g.line_str.bytes x))) a
        → MovesIn g c.map (laid_texts (c.new Str)) (laid_texts (c.new LineStr)) w x
        (if b then Some (new_place c.map (c.new Str) (text_mention g.str.bytes x)) else Some (new_place c.map (c.new LineStr) (text_mention g.line_str.bytes x))) a b
    by_section true b all takes = tt
    by_section false true all takes = (
      place-moves c.map (c.new Str) g.str.bytes w x both.map both.str
          (subst (λ (vs : List (List ℕ)). is_in vs (new_text c.map (text_mention g.str.bytes x)) ≡ true) (sym all.str)
          (is_in-mentioned c.map ts (text_mention g.str.bytes x) ms)),
      takes,
    )
    by_section false false all takes = (
      place-moves c.map (c.new LineStr) g.line_str.bytes w x both.map both.line_str
          (subst (λ (vs : List (List ℕ)). is_in vs (new_text c.map (text_mention g.line_str.bytes x)) ≡ true) (sym all.line_str)
          (is_in-mentioned c.map us (text_mention g.line_str.bytes x) ns)),
      takes,
    )

pub texts-move : (c : TableChanges) (g : LineSource) (w : Width) (ts us : List (List ℕ)) (ms ns : List Mention) (xs : List LineText)
    → BothMove c → TextsAre c ts us (texts_mentions g InStr xs ++ ms) (texts_mentions g InLineStr xs ++ ns) → EachTakes g (text_place c.map (c.new Str) (c.new LineStr) g) w xs
    → EachMoves g c.map (laid_texts (c.new Str)) (laid_texts (c.new LineStr)) w (text_place c.map (c.new Str) (c.new LineStr) g) xs
texts-move c g w ts us ms ns [] both all takes = tt
texts-move c g w ts us ms ns (x ∷ xs) both all takes =
    let here : TextsAre c ts us (mention_of g InStr x ++ (texts_mentions g InStr xs ++ ms)) (mention_of g InLineStr x ++ (texts_mentions g InLineStr xs ++ ns)) = record {
      str = all.str ∙ ap (texts_after c.map ts) (append_assoc (mention_of g InStr x) (texts_mentions g InStr xs) ms);
      line_str = all.line_str ∙ ap (texts_after c.map us) (append_assoc (mention_of g InLineStr x) (texts_mentions g InLineStr xs) ns);
    } in (
      text-moves c g w ts us (texts_mentions g InStr xs ++ ms) (texts_mentions g InLineStr xs ++ ns) x both here takes.0,
      texts-move c g w (texts_after c.map ts (mention_of g InStr x)) (texts_after c.map us (mention_of g InLineStr x)) ms ns xs both
          (behind_piece c ts us (mention_of g InStr x) (mention_of g InLineStr x) (texts_mentions g InStr xs ++ ms) (texts_mentions g InLineStr xs ++ ns) here) takes.1,
    )

-- where addends make the new places
pub makes-take : (g : LineSource) (places : LineText → Option ℕ) (rs : List LineReading) → EachTextsMake g places rs → AllTake g places rs
makes-take g places [] h = tt
makes-take g places (r ∷ rs) h = (each r.header.width (table_read g r).texts h.0, makes-take g places rs h.1)
  where
    one : (w : Width) (x : TextPlace) (o : Option ℕ) (b : Bool) → MakesPath g w x o b → TakesIn g w x.field o b
    one w x o true h = tt
    one w x None false h = tt
    one w x (Some n) false h = makes-takes (relocation_at g.cells x.field) (width_size w) n h

    by_path : (w : Width) (x : TextPlace) (b : Bool)
        → MakesPath g w x (if b then on_paths places x else places (record { place = x; path = b })) (x.section == g.number)
        → TakesIn g w x.field (places (record { place = x; path = b })) (x.section == g.number)
    by_path w x true h = one w x (places (record { place = x; path = true })) (x.section == g.number) h
    by_path w x false h = one w x (places (record { place = x; path = false })) (x.section == g.number) h

    each : (w : Width) (xs : List LineText) → EachTextMakes g places w xs → EachTakes g places w xs
    each w [] h = tt
    each w (x ∷ xs) h = (by_path w x.place x.path h.0, each w xs h.1)
