-- The texts that line tables mention are those of their fields.
use Rattle.std.proofs.Common.{Bool, true, false, ◌≡◌, ℕ, ◌==◌, ◌&&◌, not, List, [], ◌∷◌, ◌++◌, length, if◌then◌else◌, refl, sym, ap, ◌∙◌}
use Rattle.std.proofs.lemmas.Bool.{eq-eqb, ne_eqb, true≢false}
use Rattle.dw_base.proofs.TableLaws.{texts_after-append}
use Rattle.dw_base.specs.Cells.{bytes_of, cells_at, offset_of}
use Rattle.dw_base.specs.Forms.{width_size}
use Rattle.dw_base.specs.LineReadings.{LineReading, TablesTo, table_read}
use Rattle.dw_base.specs.LineSources.{LineSource}
use Rattle.dw_base.specs.Paths.{PathMap}
use Rattle.dw_base.specs.StringTables.{with_mention, texts_after}
use Rattle.dw_base.specs.Texts.{ends_in, text_in}
use Rattle.dw_base.specs.TextLineChanges.{all_texts_mentions, mention_of, text_mention, texts_mentions}
use Rattle.dw_base.specs.declared.line_tables.LineText.{LineText}
use Rattle.dw_base.specs.declared.line_tables.TextPlace.{TextPlace}
use Rattle.dw_base.specs.declared.shared.Width.{Width}
use Rattle.dw_offsets.specs.declared.fields.OffsetField.{OffsetField}
use Rattle.dw_base.specs.declared.texts.TextSection.{TextSection}
use Rattle.dw_base.specs.declared.texts.TextSection.TheVariants.{InStr, InLineStr}
use Rattle.dw_lines.specs.ViewTables.{tables_read}
use Rattle.dw_meaning.proofs.FieldPutLaws.{width-some}
use Rattle.dw_meaning.proofs.LineColumnLaws.{texts_in}
use Rattle.dw_rewrite.specs.Changes.{FieldSource, offset_at, field_mention, texts_at}
use Rattle.dw_read.specs.ViewLines.{is_text_of, table_fields, text_field, text_fields}
use Rattle.dw_read.proofs.LinePlaceLaws.{EachReads, TextReads, named_there, stands_there, table-texts}
use Rattle.dw_read.proofs.LineTextLaws.{TextsApart, named-offset}

-- where fields of line tables hold offsets into a table of texts
abbrev pub line_texts : LineSource → TextSection → FieldSource
line_texts g table = record { order = g.order; cells = g.cells; table = texts_in g table }

-- texts of the second table lie in a section of their own, and the bytes of the section are those of its cells
pub record IsWhole (g : LineSource) : Type 0 where
  pub apart : TextsApart g
  pub own : bytes_of g.cells ≡ g.bytes

pub texts_at-append : (m : PathMap) (s : FieldSource) (ts : List (List ℕ)) (fs gs : List OffsetField)
    → texts_at m s ts (fs ++ gs) ≡ texts_at m s (texts_at m s ts fs) gs
texts_at-append m s ts [] gs = refl
texts_at-append m s ts (f ∷ fs) gs = texts_at-append m s (with_mention m ts (field_mention s f)) fs gs

-- the offset that the field of a text in a table of texts holds is the text's place
no-both : (a : Bool) → (not a && false) ≡ true → ⊥
no-both true e = true≢false (sym e)
no-both false e = true≢false (sym e)

pub text-offset : (g : LineSource) (table : TextSection) (w : Width) (x : TextPlace) (path : Bool) → IsWhole g → TextReads g w x → is_text_of g.number g.str.number table x ≡ true
    → offset_at (line_texts g table) (record { at = x.field; size = width_size w; path = path }) ≡ x.at
text-offset g table w x path whole (stands_there y is) e = absurd (by_table table e)
  where
    here : (x.section == g.number) ≡ true
    here = eq-eqb x.section g.number is

    by_table : (t : TextSection) → is_text_of g.number g.str.number t x ≡ true → ⊥
    by_table InStr e = true≢false (sym e ∙ ap (λ (a : Bool). not a && x.section == g.str.number) here)
    by_table InLineStr e = true≢false (sym e ∙ ap (λ (a : Bool). not a && not (x.section == g.str.number)) here)
text-offset g table w x path whole (named_there z n field room reads ends) e =
    by_table table z (named-offset g (texts_in g z) field (width_size w) n whole.own (width-some w) room reads) ends e
  where
    by_table : (t u : TextSection) → offset_of g.order (texts_in g u) (cells_at g.cells field (width_size w)) ≡ n → ends_in (texts_in g u).bytes n ≡ true
        → is_text_of g.number g.str.number t (record { section = (texts_in g u).number; at = n; len = length (text_in (texts_in g u).bytes n); field = field }) ≡ true
        → offset_of g.order (texts_in g t) (cells_at g.cells field (width_size w)) ≡ n
    by_table InStr InStr number ends e = number
    by_table InLineStr InLineStr number ends e = number
    by_table InStr InLineStr number ends e =
        let other : (g.line_str.number == g.str.number) ≡ false = ne_eqb g.line_str.number g.str.number (whole.apart n ends) in
        absurd (no-both (g.line_str.number == g.number) (ap (λ (b : Bool). not (g.line_str.number == g.number) && b) (sym other) ∙ e))
    by_table InLineStr InStr number ends e =
        let same : (g.str.number == g.str.number) ≡ true = eq-eqb g.str.number g.str.number refl in
        absurd (no-both (g.str.number == g.number) (ap (λ (b : Bool). not (g.str.number == g.number) && not b) (sym same) ∙ e))

-- a text
text-texts : (g : LineSource) (table : TextSection) (w : Width) (m : PathMap) (ts : List (List ℕ)) (x : LineText) → IsWhole g → TextReads g w x.place
    → texts_after m ts (mention_of g table x) ≡ texts_at m (line_texts g table) ts (text_field g.number g.str.number table w x)
text-texts g InStr w m ts x whole reads = by (x.place.section == g.number) (x.place.section == g.str.number) refl refl
  where
    by : (a b : Bool) → (x.place.section == g.number) ≡ a → (x.place.section == g.str.number) ≡ b
        → texts_after m ts (if a then [] else (if b then text_mention g.str.bytes x ∷ [] else []))
        ≡ texts_at m (line_texts g InStr) ts (if (not a && b) then record { at = x.place.field; size = width_size w; path = x.path } ∷ [] else [])
    by true b e f = refl
    by false false e f = refl
    by false true e f =
        let says : is_text_of g.number g.str.number InStr x.place ≡ true = rw (e, f) refl in
        ap (λ (n : ℕ). with_mention m ts (record { path = x.path; text = text_in g.str.bytes n })) (sym (text-offset g InStr w x.place x.path whole reads says))
text-texts g InLineStr w m ts x whole reads = by (x.place.section == g.number) (x.place.section == g.str.number) refl refl
  where
    by : (a b : Bool) → (x.place.section == g.number) ≡ a → (x.place.section == g.str.number) ≡ b
        → texts_after m ts (if a then [] else (if b then [] else text_mention g.line_str.bytes x ∷ []))
        ≡ texts_at m (line_texts g InLineStr) ts (if (not a && not b) then record { at = x.place.field; size = width_size w; path = x.path } ∷ [] else [])
    by true b e f = refl
    by false true e f = refl
    by false false e f =
        let says : is_text_of g.number g.str.number InLineStr x.place ≡ true = rw (e, f) refl in
        ap (λ (n : ℕ). with_mention m ts (record { path = x.path; text = text_in g.line_str.bytes n })) (sym (text-offset g InLineStr w x.place x.path whole reads says))

all-texts : (g : LineSource) (table : TextSection) (w : Width) (m : PathMap) (ts : List (List ℕ)) (xs : List LineText) → IsWhole g → EachReads g w xs
    → texts_after m ts (texts_mentions g table xs) ≡ texts_at m (line_texts g table) ts (text_fields g.number g.str.number table w xs)
all-texts g table w m ts [] whole reads = refl
all-texts g table w m ts (x ∷ xs) whole reads =
    texts_after-append m ts (mention_of g table x) (texts_mentions g table xs)
    ∙ ap (λ (us : List (List ℕ)). texts_after m us (texts_mentions g table xs)) (text-texts g table w m ts x whole reads.0)
    ∙ all-texts g table w m (texts_at m (line_texts g table) ts (text_field g.number g.str.number table w x)) xs whole reads.1
    ∙ sym (texts_at-append m (line_texts g table) ts (text_field g.number g.str.number table w x) (text_fields g.number g.str.number table w xs))

-- those of tables
pub lines-texts : (g : LineSource) (table : TextSection) (m : PathMap) (ts : List (List ℕ)) (p e : ℕ) (rs : List LineReading) → IsWhole g → TablesTo g p rs e
    → texts_after m ts (all_texts_mentions g table rs)
    ≡ texts_at m (line_texts g table) ts (table_fields g.number g.str.number table (tables_read g rs))
lines-texts g table m ts p e [] whole reads = refl
lines-texts g table m ts p e (r ∷ rs) whole reads =
    texts_after-append m ts (texts_mentions g table (table_read g r).texts) (all_texts_mentions g table rs)
    ∙ ap (λ (us : List (List ℕ)). texts_after m us (all_texts_mentions g table rs))
    (all-texts g table r.header.width m ts (table_read g r).texts whole (table-texts g p r reads.0))
    ∙ lines-texts g table m (texts_at m (line_texts g table) ts (text_fields g.number g.str.number table r.header.width (table_read g r).texts)) r.header.end e rs whole reads.1
    ∙ sym (texts_at-append m (line_texts g table) ts (text_fields g.number g.str.number table r.header.width (table_read g r).texts)
    (table_fields g.number g.str.number table (tables_read g rs)))
