-- The fields of texts in line tables are fields, and texts of the second table lie in a section of their own.
use Rattle.std.proofs.Common.{Bool, true, false, ◌≡◌, ◌≢◌, ◌⊎◌, inl, inr, ℕ, ◌+◌, ◌<◌, ◌≤◌, ◌==◌, ◌&&◌, not, List, [], ◌∷◌, length, if◌then◌else◌, Option, Some, None, refl, sym, ap, ◌∙◌, arith}
use Rattle.std.specs.Prelude.{Result, Ok, Err}
use Rattle.std.proofs.lemmas.Bool.{eq-eqb, ne_eqb, true≢false}
use Rattle.dw_base.specs.Cells.{Located, bytes_of, cells_at, field_by, field_of, offset_into, offset_of}
use Rattle.dw_base.specs.Forms.{width_size}
use Rattle.dw_base.specs.LineReadings.{LineReading, TablesTo, table_read}
use Rattle.dw_base.specs.LineSources.{LineSource, line_field}
use Rattle.dw_base.specs.LineTexts.{named_text, text_by, text_of}
use Rattle.dw_base.specs.Numbers.{spelled}
use Rattle.dw_base.specs.Refusals.{at}
use Rattle.dw_base.specs.RelocationFields.{field_unless, partly_at, relocation_at}
use Rattle.dw_base.specs.Texts.{ends_in, text_in}
use Rattle.dw_base.specs.declared.fault.Kind.TheVariants.{Relocation as RelocationKind, StringOffset}
use Rattle.dw_base.specs.declared.fault.Refusal.{Refusal}
use Rattle.dw_base.specs.declared.line_tables.LineText.{LineText}
use Rattle.dw_base.specs.declared.line_tables.TextPlace.{TextPlace}
use Rattle.dw_base.specs.declared.shared.Width.{Width}
use Rattle.dw_base.specs.declared.shared.Width.TheVariants.{W32, W64}
use Rattle.dw_base.specs.declared.view_fields.Field.{Field}
use Rattle.dw_base.specs.declared.view_fields.Field.TheVariants.{Num, Into, Sym}
use Rattle.dw_lines.specs.ViewTables.{tables_read}
use Rattle.dw_base.proofs.LineFieldLaws.{named_text-by, named_text-refused}
use Rattle.dw_base.proofs.RelocationFieldLaws.{field_of-cells_at}
use Rattle.dw_base.proofs.UnitEditLaws.{length-bytes_of}
use Rattle.dw_base.specs.declared.texts.TextSection.{TextSection}
use Rattle.dw_base.specs.declared.texts.TextSection.TheVariants.{InStr, InLineStr}
use Rattle.dw_meaning.proofs.FieldPutLaws.{width-some}
use Rattle.dw_meaning.proofs.LineColumnLaws.{texts_in}
use Rattle.dw_unit_fields.specs.Fields.{AreOffsetFields, IsOffsetField}
use Rattle.dw_read.specs.ViewLines.{is_text_of, table_fields, text_field, text_fields}
use Rattle.dw_read.proofs.LinePlaceLaws.{EachReads, TextReads, stands_there, named_there, table-texts}
use Rattle.dw_unit_fields.proofs.PlaceValueLaws.{EachOf, each-append, each-get}

-- the offset of a text that a field names is the one that its cells hold
ok-same : (f h : Field) → ◌≡◌ {A = Result Field Refusal} (Ok f) (Ok h) → f ≡ h
ok-same f h e = cc

err-ok : (r : Refusal) (f : Field) → ◌≡◌ {A = Result Field Refusal} (Err r) (Ok f) → ⊥
err-ok r f e = cc

text-same : (t u : TextPlace) → ◌≡◌ {A = Result TextPlace Refusal} (Ok t) (Ok u) → t ≡ u
text-same t u e = cc

err-text : (r : Refusal) (t : TextPlace) → ◌≡◌ {A = Result TextPlace Refusal} (Err r) (Ok t) → ⊥
err-text r t e = cc

line-says : (g : LineSource) (place size : ℕ) (f : Field) → line_field g place size ≡ Ok f → field_by (relocation_at g.cells place) size (spelled g.order g.bytes place size) ≡ f
unfolding line_field
line-says g place size f e = by_partly (if g.is_read then partly_at g.cells place size else None) e
  where
    by_partly : (o : Option ℕ) → field_unless o g.number (field_by (relocation_at g.cells place) size (spelled g.order g.bytes place size)) ≡ Ok f
        → field_by (relocation_at g.cells place) size (spelled g.order g.bytes place size) ≡ f
    by_partly None e = ok-same _ f e
    by_partly (Some p) e = absurd (err-ok (at RelocationKind g.number p) f e)

pub named-offset : (g : LineSource) (z : Located) (place size n : ℕ) → bytes_of g.cells ≡ g.bytes → 0 < size → place + size ≤ length g.bytes
    → named_text g z place size ≡ Ok (text_of z n place) → offset_of g.order z (cells_at g.cells place size) ≡ n
unfolding offset_of
named-offset g z place size n own some inside e = by_field (line_field g place size) refl
  where
    long : length g.cells ≡ length g.bytes
    long = sym (length-bytes_of g.cells) ∙ ap (λ (bs : List ℕ). length bs) own

    holds : (f : Field) → line_field g place size ≡ Ok f → field_of g.order (cells_at g.cells place size) ≡ f
    holds f is =
        field_of-cells_at g.order g.cells place size some (omega (arith, inside, long))
        ∙ ap (λ (bs : List ℕ). field_by (relocation_at g.cells place) size (spelled g.order bs place size)) own
        ∙ line-says g place size f is

    by_ends : (m : ℕ) (b : Bool) → (if b then Ok (text_of z m place) else Err (at StringOffset g.number place)) ≡ Ok (text_of z n place) → m ≡ n
    by_ends m true e = ap (λ (t : TextPlace). t.at) (text-same (text_of z m place) (text_of z n place) e)
    by_ends m false e = absurd (err-text (at StringOffset g.number place) (text_of z n place) e)

    by_text : (f : Field) → text_by z g.number place f ≡ Ok (text_of z n place) → offset_into z f ≡ n
    by_text (Num m) e = by_ends m (ends_in z.bytes m) e
    by_text (Into s m) e = by_ends (offset_into z (Into s m)) (ends_in z.bytes (offset_into z (Into s m))) e
    by_text (Sym s k a) e = absurd (err-text (at RelocationKind g.number place) (text_of z n place) e)

    by_field : (x : Result Field Refusal) → line_field g place size ≡ x → offset_into z (field_of g.order (cells_at g.cells place size)) ≡ n
    by_field (Ok f) is = ap (offset_into z) (holds f is) ∙ by_text f (sym (named_text-by g z place size f is) ∙ e)
    by_field (Err r) is = absurd (err-text r (text_of z n place) (sym (named_text-refused g z place size r is) ∙ e))

-- the field of a text is one
each-if : {X : Type 0} (P : X → Type 0) (x : X) (b : Bool) → (b ≡ true → P x) → EachOf P (if b then x ∷ [] else [])
each-if P x true f = (f refl, tt)
each-if P x false f = tt

sized : (w : Width) → (width_size w ≡ 4) ⊎ (width_size w ≡ 8)
sized W32 = inl refl
sized W64 = inr refl

-- texts of the second table lie in a section of its own
abbrev pub TextsApart : LineSource → Type 0
TextsApart g = (at : ℕ) → ends_in g.line_str.bytes at ≡ true → g.line_str.number ≢ g.str.number

no-both : (a : Bool) → (not a && false) ≡ true → ⊥
no-both true e = true≢false (sym e)
no-both false e = true≢false (sym e)

place-field : (g : LineSource) (table : TextSection) (w : Width) (x : TextPlace) (path : Bool) → TextsApart g → bytes_of g.cells ≡ g.bytes → TextReads g w x
    → EachOf (IsOffsetField g.order (texts_in g table) g.cells) (text_field g.number g.str.number table w (record { place = x; path = path }))
place-field g table w x path apart own (stands_there y is) =
    each-if (IsOffsetField g.order (texts_in g table) g.cells) (record { at = x.field; size = width_size w; path = path }) (is_text_of g.number g.str.number table x) (λ e. absurd (by_table table e))
  where
    here : (x.section == g.number) ≡ true
    here = eq-eqb x.section g.number is

    by_table : (t : TextSection) → is_text_of g.number g.str.number t x ≡ true → ⊥
    by_table InStr e = true≢false (sym e ∙ ap (λ (a : Bool). not a && x.section == g.str.number) here)
    by_table InLineStr e = true≢false (sym e ∙ ap (λ (a : Bool). not a && not (x.section == g.str.number)) here)
place-field g table w x path apart own (named_there z n field room reads ends) =
    each-if (IsOffsetField g.order (texts_in g table) g.cells) (record { at = x.field; size = width_size w; path = path }) (is_text_of g.number g.str.number table x)
    (λ e. record { sized = sized w; inside = inside; ends = by_table table z (named-offset g (texts_in g z) field (width_size w) n own (width-some w) room reads) ends e })
  where
    inside : field + width_size w ≤ length g.cells
    inside =
        let long : length (bytes_of g.cells) ≡ length g.bytes = ap (λ (bs : List ℕ). length bs) own in
        omega (arith, room, long, length-bytes_of g.cells)

    by_table : (t u : TextSection) → offset_of g.order (texts_in g u) (cells_at g.cells field (width_size w)) ≡ n → ends_in (texts_in g u).bytes n ≡ true
        → is_text_of g.number g.str.number t (record { section = (texts_in g u).number; at = n; len = length (text_in (texts_in g u).bytes n); field = field }) ≡ true
        → ends_in (texts_in g t).bytes (offset_of g.order (texts_in g t) (cells_at g.cells field (width_size w))) ≡ true
    by_table InStr InStr number ends e = ap (ends_in g.str.bytes) number ∙ ends
    by_table InLineStr InLineStr number ends e = ap (ends_in g.line_str.bytes) number ∙ ends
    by_table InStr InLineStr number ends e =
        let other : (g.line_str.number == g.str.number) ≡ false = ne_eqb g.line_str.number g.str.number (apart n ends) in
        absurd (no-both (g.line_str.number == g.number) (ap (λ (b : Bool). not (g.line_str.number == g.number) && b) (sym other) ∙ e))
    by_table InLineStr InStr number ends e =
        let same : (g.str.number == g.str.number) ≡ true = eq-eqb g.str.number g.str.number refl in
        absurd (no-both (g.str.number == g.number) (ap (λ (b : Bool). not (g.str.number == g.number) && not b) (sym same) ∙ e))

texts-fields : (g : LineSource) (table : TextSection) (w : Width) (xs : List LineText) → TextsApart g → bytes_of g.cells ≡ g.bytes → EachReads g w xs
    → EachOf (IsOffsetField g.order (texts_in g table) g.cells) (text_fields g.number g.str.number table w xs)
texts-fields g table w [] apart own reads = tt
texts-fields g table w (x ∷ xs) apart own reads =
    each-append (IsOffsetField g.order (texts_in g table) g.cells) (text_field g.number g.str.number table w x) (text_fields g.number g.str.number table w xs)
    (place-field g table w x.place x.path apart own reads.0) (texts-fields g table w xs apart own reads.1)

lines-each : (g : LineSource) (table : TextSection) (p e : ℕ) (rs : List LineReading) → TextsApart g → bytes_of g.cells ≡ g.bytes → TablesTo g p rs e
    → EachOf (IsOffsetField g.order (texts_in g table) g.cells) (table_fields g.number g.str.number table (tables_read g rs))
lines-each g table p e [] apart own reads = tt
lines-each g table p e (r ∷ rs) apart own reads =
    each-append (IsOffsetField g.order (texts_in g table) g.cells) (text_fields g.number g.str.number table r.header.width (table_read g r).texts)
    (table_fields g.number g.str.number table (tables_read g rs))
    (texts-fields g table r.header.width (table_read g r).texts apart own (table-texts g p r reads.0)) (lines-each g table r.header.end e rs apart own reads.1)

pub lines-fields : (g : LineSource) (table : TextSection) (p e : ℕ) (rs : List LineReading) → TextsApart g → bytes_of g.cells ≡ g.bytes → TablesTo g p rs e
    → AreOffsetFields g.order (texts_in g table) g.cells (table_fields g.number g.str.number table (tables_read g rs))
lines-fields g table p e rs apart own reads = record {
  each = λ k d lt. each-get (IsOffsetField g.order (texts_in g table) g.cells) (table_fields g.number g.str.number table (tables_read g rs)) k d lt (lines-each g table p e rs apart own reads);
}
