-- The columns of the directories and files of version 5 under an edit: a path is mapped, and all else is read as it was.
use Rattle.std.proofs.Common.{Bool, true, false, ◌≡◌, ◌≢◌, ℕ, ◌+◌, ◌^◌, ◌<◌, ◌≤◌, ◌==◌, List, ◌++◌, length, take, drop, Option, Some, None, refl, sym, ap, ◌∙◌, subst, arith, if◌then◌else◌}
use Rattle.std.specs.Prelude.{nat_le, Result, Ok, Err, ⊤}
use Rattle.std.proofs.lemmas.Bool.{eqb-true, eq-eqb, ne_eqb, leb-true}
use Rattle.dw_base.specs.Cells.{Cell, Located, bytes_of, offset_into}
use Rattle.dw_base.specs.Forms.{width_size}
use Rattle.dw_base.specs.LineEntries.{column_params, inline_column, text_column, offset_column, value_column, column_at}
use Rattle.dw_base.specs.LineMeanings.{section_in, place_text}
use Rattle.dw_base.specs.LineSources.{LineSource, line_field}
use Rattle.dw_base.specs.LineTexts.{text_by, text_of, named_text}
use Rattle.dw_base.specs.Paths.{PathMap, IsPathMap}
use Rattle.dw_base.specs.Refusals.{at}
use Rattle.dw_base.specs.RelocationFields.{relocation_at}
use Rattle.dw_base.specs.StringTables.{new_text}
use Rattle.dw_base.specs.Texts.{ends_in, text_in}
use Rattle.dw_base.specs.Values.{value_at}
use Rattle.dw_base.specs.Walks.{or_refused}
use Rattle.dw_base.specs.declared.dwarf_numbers.TheConstants.{DW_FORM_string, DW_FORM_strp, DW_FORM_line_strp}
use Rattle.dw_base.specs.declared.fault.Kind.TheVariants.{StringOffset}
use Rattle.dw_base.specs.declared.fault.Refusal.{Refusal}
use Rattle.dw_base.specs.declared.view_fields.Field.{Field}
use Rattle.dw_base.specs.declared.view_fields.Field.TheVariants.{Num, Into, Sym}
use Rattle.dw_base.specs.declared.line_tables.Column.{Column}
use Rattle.dw_base.specs.declared.line_tables.LineHeader.{LineHeader}
use Rattle.dw_base.specs.declared.line_tables.LineText.{LineText}
use Rattle.dw_base.specs.declared.line_tables.TextPlace.{TextPlace}
use Rattle.dw_base.specs.declared.shared.Width.{Width}
use Rattle.dw_base.specs.declared.values.Spec.{Spec}
use Rattle.dw_base.specs.declared.values.Value.{Value}
use Rattle.dw_base.proofs.TextLaws.{ends_in-append, text_in-append, ends_in-inside, take-text}
use Rattle.dw_base.specs.declared.texts.TextSection.{TextSection}
use Rattle.dw_base.specs.declared.texts.TextSection.TheVariants.{InStr, InLineStr}
use Rattle.dw_meaning.proofs.FieldCellLaws.{TakesAt}
use Rattle.dw_meaning.proofs.LineReadLaws.{inline-inside}

-- the source of line tables after an edit: other bytes and cells, and tables of texts with other bytes
abbrev pub edited_with : LineSource → List ℕ → List Cell → List ℕ → List ℕ → LineSource
edited_with g bytes cells s l = record {
  order = g.order;
  number = g.number;
  is_read = g.is_read;
  bytes = bytes;
  cells = cells;
  str = record { number = g.str.number; bytes = s };
  line_str = record { number = g.line_str.number; bytes = l };
}

-- bytes with more behind them
pub record Grows (old new : List ℕ) : Type 0 where
  pub more : List ℕ
  pub is : new ≡ old ++ more

-- what holds of the section of line tables, which is one that is read, and of the tables of texts: they lie in sections of their own
pub record SourceMoves (g : LineSource) (m : PathMap) (s l : List ℕ) : Type 0 where
  pub map : IsPathMap m
  pub read : g.is_read ≡ true
  pub own : bytes_of g.cells ≡ g.bytes
  pub apart_str : g.number ≢ g.str.number
  pub apart_line : g.number ≢ g.line_str.number
  pub tables : (at : ℕ) → ends_in g.line_str.bytes at ≡ true → g.line_str.number ≢ g.str.number

-- what becomes of a text, which is a path or isn't
abbrev pub moved_text : PathMap → Bool → List ℕ → List ℕ
moved_text m path t = new_text m (record { path = path; text = t })

-- and of one that an offset names: it is where it was in the new table, or at its new place
abbrev pub OffsetMoves : PathMap → Bool → Width → List ℕ → List ℕ → ℕ → Option ℕ → Type 0
OffsetMoves m path width old new at None = (ends_in new at ≡ true) × (text_in new at ≡ moved_text m path (text_in old at))
OffsetMoves m path width old new at (Some n) = (n < 256 ^ width_size width) × (ends_in new n ≡ true) × (text_in new n ≡ moved_text m path (text_in old at))

-- and, where a relocation begins at the offset, its record can make the new place
abbrev pub TakesPlace : LineSource → Width → ℕ → Option ℕ → Type 0
TakesPlace g width field None = ⊤
TakesPlace g width field (Some n) = TakesAt (relocation_at g.cells field) (width_size width) n

abbrev pub MovesIn : LineSource → PathMap → List ℕ → List ℕ → Width → LineText → Option ℕ → Bool → Bool → Type 0
MovesIn g m s l width x o true b = ⊤
MovesIn g m s l width x o false true = OffsetMoves m x.path width g.str.bytes s x.place.at o × TakesPlace g width x.place.field o
MovesIn g m s l width x o false false = OffsetMoves m x.path width g.line_str.bytes l x.place.at o × TakesPlace g width x.place.field o

abbrev pub TextMoves : LineSource → PathMap → List ℕ → List ℕ → Width → (LineText → Option ℕ) → LineText → Type 0
TextMoves g m s l width places x = MovesIn g m s l width x (places x) (x.place.section == g.number) (x.place.section == g.str.number)

-- the tables of texts by their names, before and after
abbrev pub texts_in : LineSource → TextSection → Located
texts_in g InStr = g.str
texts_in g InLineStr = g.line_str

abbrev pub new_texts_in : LineSource → List ℕ → List ℕ → TextSection → Located
new_texts_in g s l InStr = record { number = g.str.number; bytes = s }
new_texts_in g s l InLineStr = record { number = g.line_str.number; bytes = l }

-- the section of a text that an offset names
pub section-not : (g : LineSource) (m : PathMap) (s l : List ℕ) (z : TextSection) → SourceMoves g m s l → ((texts_in g z).number == g.number) ≡ false
section-not g m s l InStr w = ne_eqb g.str.number g.number (λ e. w.apart_str (sym e))
section-not g m s l InLineStr w = ne_eqb g.line_str.number g.number (λ e. w.apart_line (sym e))

in-section : (g : LineSource) (m : PathMap) (s l : List ℕ) (z : TextSection) (at : ℕ) → SourceMoves g m s l → ends_in (texts_in g z).bytes at ≡ true
    → section_in g (texts_in g z).number ≡ (texts_in g z).bytes
in-section g m s l InStr at w e = rw (section-not g m s l InStr w, eq-eqb g.str.number g.str.number refl) refl
in-section g m s l InLineStr at w e = rw (section-not g m s l InLineStr w, ne_eqb g.line_str.number g.str.number (w.tables at e)) refl

new-section : (g : LineSource) (m : PathMap) (bytes : List ℕ) (cells : List Cell) (s l : List ℕ) (z : TextSection) (at : ℕ) → SourceMoves g m s l → ends_in (texts_in g z).bytes at ≡ true
    → section_in (edited_with g bytes cells s l) (texts_in g z).number ≡ (new_texts_in g s l z).bytes
new-section g m bytes cells s l InStr at w e = rw (section-not g m s l InStr w, eq-eqb g.str.number g.str.number refl) refl
new-section g m bytes cells s l InLineStr at w e = rw (section-not g m s l InLineStr w, ne_eqb g.line_str.number g.str.number (w.tables at e)) refl

-- what is said of its move
pub offset-says : (g : LineSource) (m : PathMap) (s l : List ℕ) (width : Width) (places : LineText → Option ℕ) (z : TextSection) (at field : ℕ) (path : Bool) → SourceMoves g m s l
    → ends_in (texts_in g z).bytes at ≡ true → TextMoves g m s l width places (record { place = text_of (texts_in g z) at field; path = path })
    → OffsetMoves m path width (texts_in g z).bytes (new_texts_in g s l z).bytes at (places (record { place = text_of (texts_in g z) at field; path = path }))
    × TakesPlace g width field (places (record { place = text_of (texts_in g z) at field; path = path }))
offset-says g m s l width places InStr at field path w e moves =
    subst (λ (b : Bool). MovesIn g m s l width (record { place = text_of g.str at field; path = path }) (places (record { place = text_of g.str at field; path = path })) false b) (eq-eqb g.str.number g.str.number refl)
    (subst (λ (b : Bool). MovesIn g m s l width (record { place = text_of g.str at field; path = path }) (places (record { place = text_of g.str at field; path = path })) b (g.str.number == g.str.number)) (section-not g m s l InStr w) moves)
offset-says g m s l width places InLineStr at field path w e moves =
    subst (λ (b : Bool). MovesIn g m s l width (record { place = text_of g.line_str at field; path = path }) (places (record { place = text_of g.line_str at field; path = path })) false b) (ne_eqb g.line_str.number g.str.number (w.tables at e))
    (subst (λ (b : Bool). MovesIn g m s l width (record { place = text_of g.line_str at field; path = path }) (places (record { place = text_of g.line_str at field; path = path })) b (g.line_str.number == g.str.number)) (section-not g m s l InLineStr w) moves)

-- the text at the place of one in a table of texts
placed-in : (bytes : List ℕ) (at : ℕ) → ends_in bytes at ≡ true → take (length (text_in bytes at)) (drop at bytes) ≡ text_in bytes at
unfolding ends_in text_in
placed-in bytes at e = take-text (drop at bytes) e

pub offset-text : (g : LineSource) (m : PathMap) (s l : List ℕ) (z : TextSection) (at field : ℕ) → SourceMoves g m s l → ends_in (texts_in g z).bytes at ≡ true
    → place_text g (text_of (texts_in g z) at field) ≡ text_in (texts_in g z).bytes at
offset-text g m s l z at field w e =
    ap (λ (bs : List ℕ). take (length (text_in (texts_in g z).bytes at)) (drop at bs)) (in-section g m s l z at w e) ∙ placed-in (texts_in g z).bytes at e

pub new-offset-text : (g : LineSource) (m : PathMap) (bytes : List ℕ) (cells : List Cell) (s l : List ℕ) (z : TextSection) (old at field : ℕ) → SourceMoves g m s l → ends_in (texts_in g z).bytes old ≡ true
    → ends_in (new_texts_in g s l z).bytes at ≡ true
    → place_text (edited_with g bytes cells s l) (record { section = (texts_in g z).number; at = at; len = length (text_in (new_texts_in g s l z).bytes at); field = field })
    ≡ text_in (new_texts_in g s l z).bytes at
new-offset-text g m bytes cells s l z old at field w e f =
    ap (λ (bs : List ℕ). take (length (text_in (new_texts_in g s l z).bytes at)) (drop at bs)) (new-section g m bytes cells s l z old w e) ∙ placed-in (new_texts_in g s l z).bytes at f

-- a text that stands in a table of lines, whose bytes are the first of the section
pub inline-placed : (g : LineSource) (table : List ℕ) (p : ℕ) → Grows table g.bytes → ends_in table p ≡ true
    → place_text g (record { section = g.number; at = p; len = length (text_in table p); field = p }) ≡ text_in table p
inline-placed g table p front e =
    let inside : p < length table = ends_in-inside table p e in
    let same : text_in g.bytes p ≡ text_in table p = ap (λ (bs : List ℕ). text_in bs p) front.is ∙ text_in-append table front.more p (omega arith) e in
    let ends : ends_in g.bytes p ≡ true = ap (λ (bs : List ℕ). ends_in bs p) front.is ∙ ends_in-append table front.more p (omega arith) e in
    ap (λ (b : Bool). take (length (text_in table p)) (drop p (if b then g.bytes else (if g.number == g.str.number then g.str.bytes else g.line_str.bytes)))) (eq-eqb g.number g.number refl)
    ∙ ap (λ (t : List ℕ). take (length t) (drop p g.bytes)) (sym same) ∙ placed-in g.bytes p ends ∙ same

-- what a column is
abbrev pub offset_form : TextSection → ℕ
offset_form InStr = DW_FORM_strp
offset_form InLineStr = DW_FORM_line_strp

pub data ColumnIs (g : LineSource) (h : LineHeader) (table : List ℕ) (spec : Spec) (p : ℕ) : Column → Type 0 where
  inline_is : spec.form ≡ DW_FORM_string → ends_in table p ≡ true
      → ColumnIs g h table spec p (record { text = Some (record { section = g.number; at = p; len = length (text_in table p); field = p }); number = 0; next = p + length (text_in table p) + 1 })
  offset_is : (z : TextSection) (n : ℕ) → spec.form ≡ offset_form z → p + width_size h.width ≤ length table
      → named_text g (texts_in g z) p (width_size h.width) ≡ Ok (text_of (texts_in g z) n p) → ends_in (texts_in g z).bytes n ≡ true
      → ColumnIs g h table spec p (record { text = Some (text_of (texts_in g z) n p); number = 0; next = p + width_size h.width })
  value_is : (spec.form == DW_FORM_string) ≡ false → (spec.form == DW_FORM_strp) ≡ false → (spec.form == DW_FORM_line_strp) ≡ false
      → (v : Value) → value_at (column_params g.order h) spec table p ≡ Some v
      → ColumnIs g h table spec p (record { text = None; number = v.number; next = p + v.size })

ok-same : {Y E : Type 0} (a b : Y) → ◌≡◌ {A = Result Y E} (Ok a) (Ok b) → a ≡ b
ok-same a b e = cc

err-ok : {Y E : Type 0} (r : E) (y : Y) → ◌≡◌ {A = Result Y E} (Err r) (Ok y) → ⊥
err-ok r y e = cc

inline-is : (g : LineSource) (h : LineHeader) (table : List ℕ) (spec : Spec) (p : ℕ) (c : Column) (o : Option TextPlace) → spec.form ≡ DW_FORM_string
    → Rattle.dw_base.specs.LineTexts.inline_text g.number table p ≡ o → inline_column g.number h p o ≡ Ok c → ColumnIs g h table spec p c
inline-is g h table spec p c None form is e = absurd (err-ok _ c e)
inline-is g h table spec p c (Some t) form is e =
    let both = inline-inside g.number table p t is in
    let same : record { text = Some t; number = 0; next = p + t.len + 1 } ≡ c = ok-same _ c e in
    subst (ColumnIs g h table spec p) (ap (λ (x : TextPlace). record { text = Some x; number = 0; next = p + x.len + 1 }) (sym both.1) ∙ same) (inline_is form both.0)

-- the text that a field names begins at an offset
pub record NamedAt (g : LineSource) (z : Located) (p size : ℕ) (t : TextPlace) : Type 0 where
  pub offset : ℕ
  pub is : t ≡ text_of z offset p
  pub ends : ends_in z.bytes offset ≡ true

pub named-at : (g : LineSource) (z : Located) (p size : ℕ) (t : TextPlace) → named_text g z p size ≡ Ok t → NamedAt g z p size t
unfolding named_text
named-at g z p size t e = by_field (line_field g p size) e
  where
    by_ends : (n : ℕ) (b : Bool) → ends_in z.bytes n ≡ b → (if b then Ok (text_of z n p) else Err (at StringOffset g.number p)) ≡ Ok t → NamedAt g z p size t
    by_ends n true is e = record { offset = n; is = sym (ok-same (text_of z n p) t e); ends = is }
    by_ends n false is e = absurd (err-ok _ t e)

    by_field : (x : Result Field Refusal) → or_refused (text_by z g.number p) x ≡ Ok t → NamedAt g z p size t
    by_field (Ok (Num n)) e = by_ends n (ends_in z.bytes n) refl e
    by_field (Ok (Into i n)) e = by_ends (offset_into z (Into i n)) (ends_in z.bytes (offset_into z (Into i n))) refl e
    by_field (Ok (Sym i k a)) e = absurd (err-ok _ t e)
    by_field (Err r) e = absurd (err-ok r t e)

offset-is : (g : LineSource) (h : LineHeader) (table : List ℕ) (spec : Spec) (p : ℕ) (c : Column) (z : TextSection) → spec.form ≡ offset_form z
    → offset_column g h table (texts_in g z) p ≡ Ok c → ColumnIs g h table spec p c
unfolding offset_column
offset-is g h table spec p c z form e = by_room (nat_le (p + width_size h.width) (length table)) refl e
  where
    by_text : (x : Result TextPlace Refusal) → named_text g (texts_in g z) p (width_size h.width) ≡ x → p + width_size h.width ≤ length table
        → text_column (p + width_size h.width) x ≡ Ok c → ColumnIs g h table spec p c
    by_text (Ok t) is room e =
        let named = named-at g (texts_in g z) p (width_size h.width) t is in
        let reads : named_text g (texts_in g z) p (width_size h.width) ≡ Ok (text_of (texts_in g z) named.offset p) = is ∙ ap Ok named.is in
        let same : record { text = Some (text_of (texts_in g z) named.offset p); number = 0; next = p + width_size h.width } ≡ c =
        ap (λ (u : TextPlace). record { text = Some u; number = 0; next = p + width_size h.width }) (sym named.is) ∙ ok-same _ c e in
        subst (ColumnIs g h table spec p) same (offset_is z named.offset form room reads named.ends)
    by_text (Err r) is room e = absurd (err-ok _ c e)

    by_room : (b : Bool) → nat_le (p + width_size h.width) (length table) ≡ b
        → (if b then text_column (p + width_size h.width) (named_text g (texts_in g z) p (width_size h.width)) else Err (Rattle.dw_base.specs.LineEntries.bad_table g.number h)) ≡ Ok c
        → ColumnIs g h table spec p c
    by_room true is e = by_text (named_text g (texts_in g z) p (width_size h.width)) refl (leb-true _ _ is) e
    by_room false is e = absurd (err-ok _ c e)

value-is : (g : LineSource) (h : LineHeader) (table : List ℕ) (spec : Spec) (p : ℕ) (c : Column) (o : Option Value) → (spec.form == DW_FORM_string) ≡ false
    → (spec.form == DW_FORM_strp) ≡ false → (spec.form == DW_FORM_line_strp) ≡ false → value_at (column_params g.order h) spec table p ≡ o → value_column g.number h p o ≡ Ok c
    → ColumnIs g h table spec p c
value-is g h table spec p c None a b d is e = absurd (err-ok _ c e)
value-is g h table spec p c (Some v) a b d is e = subst (ColumnIs g h table spec p) (ok-same _ c e) (value_is a b d v is)

pub column-is : (g : LineSource) (h : LineHeader) (table : List ℕ) (spec : Spec) (p : ℕ) (c : Column) → column_at g h table spec p ≡ Ok c → ColumnIs g h table spec p c
unfolding column_at
column-is g h table spec p c e = by_form (spec.form == DW_FORM_string) (spec.form == DW_FORM_strp) (spec.form == DW_FORM_line_strp) refl refl refl e
  where
    by_form : (a b d : Bool) → (spec.form == DW_FORM_string) ≡ a → (spec.form == DW_FORM_strp) ≡ b → (spec.form == DW_FORM_line_strp) ≡ d
        → (if a then inline_column g.number h p (Rattle.dw_base.specs.LineTexts.inline_text g.number table p)
        else (if b then offset_column g h table g.str p
        else (if d then offset_column g h table g.line_str p
        else value_column g.number h p (value_at (column_params g.order h) spec table p)))) ≡ Ok c
        → ColumnIs g h table spec p c
    by_form true b d x y z e = inline-is g h table spec p c (Rattle.dw_base.specs.LineTexts.inline_text g.number table p) (eqb-true spec.form DW_FORM_string x) refl e
    by_form false true d x y z e = offset-is g h table spec p c InStr (eqb-true spec.form DW_FORM_strp y) e
    by_form false false true x y z e = offset-is g h table spec p c InLineStr (eqb-true spec.form DW_FORM_line_strp z) e
    by_form false false false x y z e = value-is g h table spec p c (value_at (column_params g.order h) spec table p) x y z refl e
