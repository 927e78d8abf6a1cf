-- What the texts of a line table mention after an edit is what they mentioned, mapped: a text stays in its table of texts, and one that stands in the
-- line table mentions none.
use Rattle.std.proofs.Common.{Bool, true, ◌≡◌, ℕ, ◌+◌, ◌==◌, ◌&&◌, not, List, [], ◌∷◌, ◌++◌, Option, Some, None, refl, sym, ap, ◌∙◌, append_assoc}
use Rattle.std.specs.Prelude.{⊤, is_some}
use Rattle.std.proofs.lemmas.Bool.{eq-eqb, ne_eqb}
use Rattle.dw_base.specs.Cells.{Cell}
use Rattle.dw_base.specs.LineSources.{LineSource}
use Rattle.dw_base.specs.LineTables.{texts_of}
use Rattle.dw_base.specs.LineTexts.{text_of}
use Rattle.dw_base.specs.Paths.{PathMap}
use Rattle.dw_base.specs.StringTables.{Mention}
use Rattle.dw_base.specs.TableTexts.{as_paths, column_text}
use Rattle.dw_base.specs.TextLineChanges.{mention_of, texts_mentions}
use Rattle.dw_base.specs.Texts.{ends_in, text_in}
use Rattle.dw_base.specs.declared.line_numbers.TheConstants.{DW_LNCT_path}
use Rattle.dw_base.specs.declared.line_tables.Entry.{Entry}
use Rattle.dw_base.specs.declared.line_tables.FilePlace.{FilePlace}
use Rattle.dw_base.specs.declared.line_tables.LineText.{LineText}
use Rattle.dw_base.specs.declared.line_tables.TextPlace.{TextPlace}
use Rattle.dw_base.specs.declared.texts.TextSection.{TextSection}
use Rattle.dw_base.specs.declared.texts.TextSection.TheVariants.{InStr, InLineStr}
use Rattle.dw_base.specs.declared.values.Spec.{Spec}
use Rattle.dw_meaning.specs.RebuiltTables.{all_after}
use Rattle.dw_meaning.proofs.LineColumnLaws.{edited_with, SourceMoves, moved_text, new_texts_in, section-not, texts_in}
use Rattle.dw_meaning.proofs.LineReadLaws.{inline-inside}
use Rattle.dw_meaning.proofs.LineWalkLaws.{OldDirs, OldFiles}
use Rattle.dw_meaning.proofs.MentionLaws.{after-append}

-- what texts mention is what others did, mapped
pub record MentionsMoved (g k : LineSource) (m : PathMap) (xs ys : List LineText) : Type 0 where
  pub are : (table : TextSection) → texts_mentions k table ys ≡ all_after m (texts_mentions g table xs)

mentions-append : (g : LineSource) (table : TextSection) (xs ys : List LineText) → texts_mentions g table (xs ++ ys) ≡ texts_mentions g table xs ++ texts_mentions g table ys
mentions-append g table [] ys = refl
mentions-append g table (x ∷ xs) ys =
    ap (λ (ms : List Mention). mention_of g table x ++ ms) (mentions-append g table xs ys)
    ∙ sym (append_assoc (mention_of g table x) (texts_mentions g table xs) (texts_mentions g table ys))

pub mentions-none : (g k : LineSource) (m : PathMap) → MentionsMoved g k m [] []
mentions-none g k m = record { are = λ table. refl }

pub mentions-both : (g k : LineSource) (m : PathMap) (xs ys us vs : List LineText) → MentionsMoved g k m xs ys → MentionsMoved g k m us vs → MentionsMoved g k m (xs ++ us) (ys ++ vs)
mentions-both g k m xs ys us vs a b = record {
  are = λ table.
      mentions-append k table ys vs
      ∙ ap (λ (ms : List Mention). ms ++ texts_mentions k table vs) (a.are table)
      ∙ ap (λ (ms : List Mention). all_after m (texts_mentions g table xs) ++ ms) (b.are table)
      ∙ sym (after-append m (texts_mentions g table xs) (texts_mentions g table us))
      ∙ ap (all_after m) (sym (mentions-append g table xs us));
}

-- a text that stands in its line table mentions none
mention-own : (g : LineSource) (table : TextSection) (x : LineText) → x.place.section ≡ g.number → mention_of g table x ≡ []
mention-own g InStr x e = rw (eq-eqb x.place.section g.number e) refl
mention-own g InLineStr x e = rw (eq-eqb x.place.section g.number e) refl

pub own-moved : (g : LineSource) (m : PathMap) (bytes : List ℕ) (cells : List Cell) (s l : List ℕ) (x y : LineText) → x.place.section ≡ g.number → y.place.section ≡ g.number
    → MentionsMoved g (edited_with g bytes cells s l) m (x ∷ []) (y ∷ [])
own-moved g m bytes cells s l x y e f = record {
  are = λ table.
      ap (λ (ms : List Mention). ms ++ []) (mention-own (edited_with g bytes cells s l) table y f)
      ∙ ap (λ (ms : List Mention). all_after m (ms ++ [])) (sym (mention-own g table x e));
}

-- one that an offset names stays in its table of texts
pub offset-mentions : (g : LineSource) (m : PathMap) (bytes : List ℕ) (cells : List Cell) (s l : List ℕ) (z : TextSection) (i p to len q : ℕ) (path : Bool) → SourceMoves g m s l
    → ends_in (texts_in g z).bytes i ≡ true → text_in (new_texts_in g s l z).bytes to ≡ moved_text m path (text_in (texts_in g z).bytes i)
    → MentionsMoved g (edited_with g bytes cells s l) m (record { place = text_of (texts_in g z) i p; path = path } ∷ [])
    (record { place = record { section = (texts_in g z).number; at = to; len = len; field = q }; path = path } ∷ [])
offset-mentions g m bytes cells s l InStr i p to len q path w ends says = record { are = by_table }
  where
    by_table : (table : TextSection) → texts_mentions (edited_with g bytes cells s l) table (record { place = record { section = g.str.number; at = to; len = len; field = q }; path = path } ∷ [])
        ≡ all_after m (texts_mentions g table (record { place = text_of g.str i p; path = path } ∷ []))
    by_table InStr = rw (section-not g m s l InStr w, eq-eqb g.str.number g.str.number refl) (ap (λ (t : List ℕ). record { path = path; text = t } ∷ []) says)
    by_table InLineStr = rw (section-not g m s l InStr w, eq-eqb g.str.number g.str.number refl) refl
offset-mentions g m bytes cells s l InLineStr i p to len q path w ends says = record { are = by_table }
  where
    by_table : (table : TextSection) → texts_mentions (edited_with g bytes cells s l) table (record { place = record { section = g.line_str.number; at = to; len = len; field = q }; path = path } ∷ [])
        ≡ all_after m (texts_mentions g table (record { place = text_of g.line_str i p; path = path } ∷ []))
    by_table InStr = rw (section-not g m s l InLineStr w, ne_eqb g.line_str.number g.str.number (w.tables i ends)) refl
    by_table InLineStr =
        rw (section-not g m s l InLineStr w, ne_eqb g.line_str.number g.str.number (w.tables i ends)) (ap (λ (t : List ℕ). record { path = path; text = t } ∷ []) says)

-- the text of a column, by the text of its entry so far
abbrev pub text_as : Spec → Option TextPlace → Option TextPlace → List LineText
text_as spec o None = []
text_as spec o (Some t) = record { place = t; path = not (is_some o) && spec.name == DW_LNCT_path } ∷ []

pub text-as : (spec : Spec) (e : Entry) (t : Option TextPlace) → column_text spec e t ≡ text_as spec e.text t
text-as spec e None = refl
text-as spec e (Some t) = refl

-- before version 5 each text stands in its line table
abbrev pub AreOwn : ℕ → List TextPlace → Type 0
AreOwn section [] = ⊤
AreOwn section (x ∷ xs) = (x.section ≡ section) × AreOwn section xs

own-append : (section : ℕ) (xs ys : List TextPlace) → AreOwn section xs → AreOwn section ys → AreOwn section (xs ++ ys)
own-append section [] ys a b = b
own-append section (x ∷ xs) ys a b = (a.0, own-append section xs ys a.1 b)

own-dirs : (section : ℕ) (table : List ℕ) (p e : ℕ) (ts : List TextPlace) → OldDirs section table p ts e → AreOwn section ts
own-dirs section table p e [] d = tt
own-dirs section table p e (t ∷ ts) d = (ap (λ (x : TextPlace). x.section) (inline-inside section table p t d.0).1, own-dirs section table (p + t.len + 1) e ts d.2)

own-files : (section : ℕ) (table : List ℕ) (p e : ℕ) (fs : List FilePlace) → OldFiles section table p fs e → AreOwn section (texts_of fs)
own-files section table p e [] d = tt
own-files section table p e (f ∷ fs) d = (ap (λ (x : TextPlace). x.section) (inline-inside section table p f.text d.0.text).1, own-files section table d.0.next e fs d.1)

pub own-lists : (section : ℕ) (table : List ℕ) (p place e : ℕ) (ts : List TextPlace) (fs : List FilePlace) → OldDirs section table p ts place → OldFiles section table place fs e
    → AreOwn section (ts ++ texts_of fs)
own-lists section table p place e ts fs d f = own-append section ts (texts_of fs) (own-dirs section table p place ts d) (own-files section table place e fs f)

own-none : (g : LineSource) (table : TextSection) (xs : List TextPlace) → AreOwn g.number xs → texts_mentions g table (as_paths xs) ≡ []
own-none g table [] h = refl
own-none g table (x ∷ xs) h =
    ap (λ (ms : List Mention). ms ++ texts_mentions g table (as_paths xs)) (mention-own g table (record { place = x; path = true }) h.0) ∙ own-none g table xs h.1

pub own-texts : (g : LineSource) (m : PathMap) (bytes : List ℕ) (cells : List Cell) (s l : List ℕ) (xs ys : List TextPlace) → AreOwn g.number xs → AreOwn g.number ys
    → MentionsMoved g (edited_with g bytes cells s l) m (as_paths xs) (as_paths ys)
own-texts g m bytes cells s l xs ys a b = record {
  are = λ table. own-none (edited_with g bytes cells s l) table ys b ∙ ap (all_after m) (sym (own-none g table xs a));
}
