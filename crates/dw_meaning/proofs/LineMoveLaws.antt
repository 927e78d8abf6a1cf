-- One column under an edit: where nothing changes in it, it is read as it was; the path of an entry is read mapped.
use Rattle.std.proofs.Common.{Bool, true, false, ◌≡◌, ℕ, zero, suc, ◌+◌, ◌-◌, ◌<◌, ◌≤◌, ◌==◌, List, [], ◌∷◌, ◌++◌, length, take, drop, Option, Some, None, refl, sym, ap, ◌∙◌, subst, arith}
use Rattle.std.specs.Prelude.{if◌then◌else◌, Ok}
use Rattle.std.proofs.lemmas.Bool.{eq-eqb, le-leb}
use Rattle.std.proofs.lemmas.List.{length-append, length-drop, length-take-le}
use Rattle.dw_base.proofs.PlainCellLaws.{plain_cells-plain}
use Rattle.dw_base.specs.Cells.{Cell, Relocation, bytes_of, cells_at, offset_of, plain_cells}
use Rattle.dw_base.specs.Forms.{width_size}
use Rattle.dw_base.specs.LineEntries.{column_params, offset_column, column_at}
use Rattle.dw_base.specs.LineFormats.{is_column}
use Rattle.dw_base.specs.LineMeanings.{place_text}
use Rattle.dw_base.specs.LineSources.{LineSource}
use Rattle.dw_base.specs.LineTexts.{text_of, named_text}
use Rattle.dw_base.specs.NewOffsets.{with_offset}
use Rattle.dw_base.specs.RelocationFields.{reach_of, relocation_at}
use Rattle.dw_base.specs.Paths.{PathMap, mapped_path}
use Rattle.dw_base.specs.TextLineChanges.{on_paths, text_changes}
use Rattle.dw_base.specs.Texts.{ends_in, text_in}
use Rattle.dw_base.specs.Values.{value_at}
use Rattle.dw_base.specs.WrittenLines.{part, bytes_at, Change, inline_change, offset_changes, path_changes}
use Rattle.dw_base.specs.declared.dwarf_numbers.TheConstants.{DW_FORM_string, DW_FORM_strp, DW_FORM_line_strp}
use Rattle.dw_base.specs.declared.line_tables.Column.{Column}
use Rattle.dw_base.specs.declared.line_tables.LineHeader.{LineHeader}
use Rattle.dw_base.specs.declared.line_tables.LineText.{LineText}
use Rattle.dw_base.specs.declared.line_tables.TextPlace.{TextPlace}
use Rattle.dw_base.specs.declared.shared.Order.{Order}
use Rattle.dw_base.specs.declared.values.Spec.{Spec}
use Rattle.dw_base.specs.declared.values.Value.{Value}
use Rattle.dw_base.proofs.PathLaws.{has_nul-mapped_path}
use Rattle.dw_base.proofs.RelocationFieldLaws.{bytes_of-drop, bytes_of-take, length-cells_at, relocation_at-plain}
use Rattle.dw_base.proofs.UnitEditLaws.{length-bytes_of}
use Rattle.dw_base.proofs.TextLaws.{ends_in-append, text_in-append, ends_in-inside, has_nul-text_in}
use Rattle.dw_base.specs.declared.texts.TextSection.{TextSection}
use Rattle.dw_base.specs.declared.texts.TextSection.TheVariants.{InStr, InLineStr}
use Rattle.dw_meaning.specs.LineCells.{CellChange, changed_cells, inline_cells, offset_cells, path_cells}
use Rattle.dw_meaning.specs.TextLineCells.{text_cells}
use Rattle.dw_meaning.proofs.CellRestLaws.{CellRest, cells-changed, cells-copied, clear-none, plain-none, plain-size, same-from}
use Rattle.dw_meaning.proofs.ClearLaws.{Clear, NoneOver, clear-join, clear-part, clear_from, front-clear, tail-clear, whole-clear}
use Rattle.dw_meaning.proofs.FieldCellLaws.{FieldNames, cells-own, field-kept, field-names, field-own, field-put, field-there, put-tail, read-tail}
use Rattle.dw_meaning.proofs.FieldPutLaws.{length-put, width-some}
use Rattle.dw_meaning.proofs.LineCellLaws.{SameChanges}
use Rattle.dw_meaning.proofs.LineChangeLaws.{From, Rest, copied, exchanged, TextChanged, text-changed, text-part, text-room, part-length, from-before, from-end, all-before}
use Rattle.dw_meaning.proofs.LineColumnLaws.{edited_with, Grows, SourceMoves, OffsetMoves, TakesPlace, TextMoves, moved_text, texts_in, new_texts_in, section-not, offset-says, offset-text, new-offset-text, inline-placed, offset_form, ColumnIs, inline_is, offset_is, value_is}
use Rattle.dw_meaning.proofs.LineReadLaws.{Both, text-both, inline-here}
use Rattle.dw_meaning.proofs.LineValueLaws.{column-plain, value-both, value-in}
use Rattle.dw_meaning.proofs.TextMentionLaws.{MentionsMoved, own-moved, offset-mentions}

-- where the parts of a table lie
pub record LinePlaces : Type 0 where
  pub start : ℕ
  pub end : ℕ
  pub program : ℕ
  pub operands : ℕ
  pub lists : ℕ

abbrev pub moved_header : LineHeader → LinePlaces → LineHeader
moved_header h n = record h { start = n.start; end = n.end; program = n.program; operands = n.operands; lists = n.lists }

-- a table before and after: its bytes are the first of its section, up to its end, and the section's bytes are those of its cells
pub record Sides (g : LineSource) (bytes : List ℕ) (cells : List Cell) (old new : List ℕ) : Type 0 where
  pub was : Grows old g.bytes
  pub is : Grows new bytes
  pub own : bytes_of cells ≡ bytes

-- a column that is copied, which has no text
pub record ColumnKept (k : LineSource) (h : LineHeader) (new : List ℕ) (spec : Spec) (p q : ℕ) (c : Column) : Type 0 where
  pub column : Column
  pub is : column_at k h new spec q ≡ Ok column
  pub number : column.number ≡ c.number
  pub next : column.next ≡ q + (c.next - p)
  pub text : column.text ≡ None

-- places in a table are places in the cells of its section
pub room-cells : (cells : List Cell) (bytes table : List ℕ) (n : ℕ) → bytes_of cells ≡ bytes → Grows table bytes → n ≤ length table → n ≤ length cells
room-cells cells bytes table n own front le =
    let size : length bytes ≡ length cells = sym (ap length own) ∙ length-bytes_of cells in
    let whole : length bytes ≡ length (table ++ front.more) = ap length front.is in
    omega (arith, size, whole, le, length-append table front.more)

-- a field that was read
pub read-field : (g : LineSource) (m : PathMap) (bytes : List ℕ) (cells : List Cell) (s l old new : List ℕ) (h : LineHeader) (z : TextSection) (p n : ℕ) → SourceMoves g m s l
    → Sides g bytes cells old new → p + width_size h.width ≤ length old → named_text g (texts_in g z) p (width_size h.width) ≡ Ok (text_of (texts_in g z) n p)
    → FieldNames g (texts_in g z) p (width_size h.width) n
read-field g m bytes cells s l old new h z p n w sides room reads =
    field-names g (texts_in g z) p (width_size h.width) n w.read w.own (width-some h.width)
    (room-cells g.cells g.bytes old (p + width_size h.width) w.own sides.was room) reads

-- a column by an offset that is there
same-number : (g : LineSource) (s l : List ℕ) (z : TextSection) → (new_texts_in g s l z).number ≡ (texts_in g z).number
same-number g s l InStr = refl
same-number g s l InLineStr = refl

offset-column : (g : LineSource) (bytes : List ℕ) (cells : List Cell) (s l new : List ℕ) (h : LineHeader) (spec : Spec) (z : TextSection) (q n : ℕ) → spec.form ≡ offset_form z
    → q + width_size h.width ≤ length new
    → named_text (edited_with g bytes cells s l) (new_texts_in g s l z) q (width_size h.width) ≡ Ok (text_of (new_texts_in g s l z) n q)
    → column_at (edited_with g bytes cells s l) h new spec q
    ≡ Ok (record { text = Some (record { section = (texts_in g z).number; at = n; len = length (text_in (new_texts_in g s l z).bytes n); field = q }); number = 0; next = q + width_size h.width })
unfolding column_at offset_column
offset-column g bytes cells s l new h spec InStr q n form room named = rw (form, le-leb (q + width_size h.width) (length new) room, named) refl
offset-column g bytes cells s l new h spec InLineStr q n form room named = rw (form, le-leb (q + width_size h.width) (length new) room, named) refl

inline-column : (g : LineSource) (bytes : List ℕ) (cells : List Cell) (s l new : List ℕ) (h : LineHeader) (spec : Spec) (q : ℕ) → spec.form ≡ DW_FORM_string → ends_in new q ≡ true
    → column_at (edited_with g bytes cells s l) h new spec q
    ≡ Ok (record { text = Some (record { section = g.number; at = q; len = length (text_in new q); field = q }); number = 0; next = q + length (text_in new q) + 1 })
unfolding column_at
inline-column g bytes cells s l new h spec q form ends = rw (form, inline-here g.number new q ends) refl

value-column : (g : LineSource) (bytes : List ℕ) (cells : List Cell) (s l new : List ℕ) (h : LineHeader) (spec : Spec) (q : ℕ) (v : Value) → (spec.form == DW_FORM_string) ≡ false
    → (spec.form == DW_FORM_strp) ≡ false → (spec.form == DW_FORM_line_strp) ≡ false → value_at (column_params g.order h) spec new q ≡ Some v
    → column_at (edited_with g bytes cells s l) h new spec q ≡ Ok (record { text = None; number = v.number; next = q + v.size })
unfolding column_at
value-column g bytes cells s l new h spec q v a b c e = rw (a, b, c, e) refl

-- where no relocation begins in a column that is no offset: from its start on
clear-inline : (spec : Spec) (p : ℕ) → spec.form ≡ DW_FORM_string → clear_from spec p ≡ p
clear-inline spec p e = rw e refl

clear-value : (spec : Spec) (p : ℕ) → (spec.form == DW_FORM_strp) ≡ false → (spec.form == DW_FORM_line_strp) ≡ false → clear_from spec p ≡ p
clear-value spec p a b = rw (a, b) refl

clear-offset : (spec : Spec) (z : TextSection) (p : ℕ) → spec.form ≡ offset_form z → clear_from spec p ≡ suc p
clear-offset spec InStr p e = rw e refl
clear-offset spec InLineStr p e = rw e refl

-- what a column takes
pub column-place : (g : LineSource) (h : LineHeader) (table : List ℕ) (spec : Spec) (p : ℕ) (c : Column) → is_column spec ≡ true → ColumnIs g h table spec p c
    → (p ≤ c.next) × (c.next ≤ length table)
column-place g h table spec p c plain (inline_is form ends) = (omega arith, text-room table p ends)
column-place g h table spec p c plain (offset_is z i form room reads ends) = (omega arith, room)
column-place g h table spec p c plain (value_is a b d v is) =
    (omega arith, value-in (column_params g.order h) spec table p v (column-plain (column_params g.order h) spec a b d plain) is)

-- where the cells of an offset stand at another place too, it is read there
offset-there : (g : LineSource) (m : PathMap) (bytes : List ℕ) (cells : List Cell) (s l old new : List ℕ) (h : LineHeader) (z : TextSection) (i p q : ℕ)
    → SourceMoves g m s l → Sides g bytes cells old new → p + width_size h.width ≤ length old
    → named_text g (texts_in g z) p (width_size h.width) ≡ Ok (text_of (texts_in g z) i p) → ends_in (texts_in g z).bytes i ≡ true → q + width_size h.width ≤ length new
    → cells_at cells q (width_size h.width) ≡ cells_at g.cells p (width_size h.width) → NoneOver cells q → ends_in (new_texts_in g s l z).bytes i ≡ true
    → named_text (edited_with g bytes cells s l) (new_texts_in g s l z) q (width_size h.width) ≡ Ok (text_of (new_texts_in g s l z) i q)
offset-there g m bytes cells s l old new h z i p q w sides room reads ends there same over new_ends =
    let field = read-field g m bytes cells s l old new h z p i w sides room reads in
    field-there (edited_with g bytes cells s l) (new_texts_in g s l z) (cells_at g.cells p (width_size h.width)) q (width_size h.width) i sides.own (width-some h.width)
    (room-cells cells bytes new (q + width_size h.width) sides.own sides.is there) same (λ k a b. read-tail g.cells p (width_size h.width) k field.whole a b) over
    (field-kept g (texts_in g z) (new_texts_in g s l z) p (width_size h.width) i field ends (same-number g s l z)) new_ends

-- no relocation in a column reaches over its end
pub column-own : (g : LineSource) (m : PathMap) (bytes : List ℕ) (cells : List Cell) (s l old new : List ℕ) (h : LineHeader) (spec : Spec) (p : ℕ) (c : Column) → SourceMoves g m s l
    → Sides g bytes cells old new → ColumnIs g h old spec p c → Clear g.cells (clear_from spec p) c.next
    → (x : ℕ) (r : Relocation) → relocation_at g.cells x ≡ Some r → p ≤ x → x < c.next → x + reach_of r ≤ c.next
column-own g m bytes cells s l old new h spec p c w sides (inline_is form ends) clear =
    clear-none g.cells p (p + length (text_in old p) + 1)
    (subst (λ (i : ℕ). Clear g.cells i (p + length (text_in old p) + 1)) (clear-inline spec p form) clear)
column-own g m bytes cells s l old new h spec p c w sides (offset_is z i form room reads ends) clear =
    field-own g (texts_in g z) p (width_size h.width) i (read-field g m bytes cells s l old new h z p i w sides room reads) ends
    (room-cells g.cells g.bytes old (p + width_size h.width) w.own sides.was room)
column-own g m bytes cells s l old new h spec p c w sides (value_is x y d v is) clear =
    clear-none g.cells p (p + v.size) (subst (λ (i : ℕ). Clear g.cells i (p + v.size)) (clear-value spec p y d) clear)

-- where the bytes of a column that has no text stand at another place too, it is read there
pub some-none : {Y : Type 0} (y : Y) → Some y ≡ None → ⊥
some-none y e = cc

pub column-kept : (g : LineSource) (bytes : List ℕ) (cells : List Cell) (s l old new : List ℕ) (h : LineHeader) (n : LinePlaces) (spec : Spec) (p q : ℕ) (c : Column)
    → is_column spec ≡ true → ColumnIs g h old spec p c → c.text ≡ None → Both old new (part old p c.next) p q → ColumnKept (edited_with g bytes cells s l) (moved_header h n) new spec p q c
column-kept g bytes cells s l old new h n spec p q c plain (inline_is form ends) none b = absurd (some-none _ none)
column-kept g bytes cells s l old new h n spec p q c plain (offset_is z i form room reads ends) none b = absurd (some-none _ none)
column-kept g bytes cells s l old new h n spec p q c plain (value_is x y d v is) none b =
    let kind = column-plain (column_params g.order h) spec x y d plain in
    let room : p + v.size ≤ length old = value-in (column_params g.order h) spec old p v kind is in
    let size : length (part old p (p + v.size)) ≡ p + v.size - p = part-length old p (p + v.size) (omega arith) room in
    let there = value-both (column_params g.order h) spec old new (part old p (p + v.size)) p q v kind b is (omega (arith, size)) in
    let size_same = there.size in
    record {
      column = record { text = None; number = there.value.number; next = q + there.value.size };
      is = value-column g bytes cells s l new (moved_header h n) spec q there.value x y d there.is;
      number = there.number;
      next = omega (arith, size_same);
      text = refl;
    }

-- a column that has a text, after the edit
pub record ColumnMoved (g k : LineSource) (m : PathMap) (h : LineHeader) (old new : List ℕ) (end : ℕ) (cs : List Change) (us : List CellChange) (tail : List Cell) (spec : Spec) (q : ℕ) (c : Column) (x : LineText) : Type 0 where
  pub column : Column
  pub is : column_at k h new spec q ≡ Ok column
  pub number : column.number ≡ c.number
  pub place : TextPlace
  pub text : column.text ≡ Some place
  pub says : place_text k place ≡ moved_text m x.path (place_text g x.place)
  pub mentions : MentionsMoved g k m (x ∷ []) (record { place = place; path = x.path } ∷ [])
  pub rest : Rest old new end cs c.next column.next
  pub cells : CellRest g.cells k.cells end us tail c.next column.next
  pub clear : Clear k.cells (clear_from spec q) column.next

-- a change that stands in the section of line tables, and one of an offset
pub inline-changes : (g : LineSource) (m : PathMap) (places : TextPlace → Option ℕ) (h : LineHeader) (x : TextPlace) → x.section ≡ g.number
    → path_changes g m places h.width x ≡ inline_change m g.bytes x ∷ []
inline-changes g m places h x e = rw (eq-eqb x.section g.number e) refl

offset-changed : (g : LineSource) (m : PathMap) (s l : List ℕ) (places : LineText → Option ℕ) (h : LineHeader) (z : TextSection) (at field : ℕ) (path : Bool) → SourceMoves g m s l
    → text_changes g m places h.width (record { place = text_of (texts_in g z) at field; path = path })
    ≡ offset_changes g.order h.width g.bytes g.cells field (places (record { place = text_of (texts_in g z) at field; path = path }))
offset-changed g m s l places h z at field true w = rw (section-not g m s l z w) refl
offset-changed g m s l places h z at field false w = rw (section-not g m s l z w) refl

offset-cells : (g : LineSource) (m : PathMap) (s l : List ℕ) (places : LineText → Option ℕ) (h : LineHeader) (z : TextSection) (at field : ℕ) (path : Bool) → SourceMoves g m s l
    → text_cells g m places h.width (record { place = text_of (texts_in g z) at field; path = path })
    ≡ offset_cells g.order h.width g.cells field (places (record { place = text_of (texts_in g z) at field; path = path }))
offset-cells g m s l places h z at field true w = rw (section-not g m s l z w) refl
offset-cells g m s l places h z at field false w = rw (section-not g m s l z w) refl

-- the text that stands in a column, which is a path or isn't
abbrev own_text : LineSource → List ℕ → ℕ → Bool → LineText
own_text g old p path = record { place = record { section = g.number; at = p; len = length (text_in old p); field = p }; path = path }

further-changed : (g : LineSource) (m : PathMap) (places : LineText → Option ℕ) (h : LineHeader) (old : List ℕ) (p : ℕ) → text_changes g m places h.width (own_text g old p false) ≡ []
further-changed g m places h old p = rw (eq-eqb g.number g.number refl) refl

further-cells : (g : LineSource) (m : PathMap) (places : LineText → Option ℕ) (h : LineHeader) (old : List ℕ) (p : ℕ) → text_cells g m places h.width (own_text g old p false) ≡ []
further-cells g m places h old p = rw (eq-eqb g.number g.number refl) refl

pub some-place : (t u : TextPlace) → Some t ≡ Some u → t ≡ u
some-place t u e = cc

pub none-place : (u : TextPlace) → None ≡ Some u → ⊥
none-place u e = cc

-- a text that stands in a table of lines, mapped
pub text-moved : (g : LineSource) (m : PathMap) (bytes : List ℕ) (cells : List Cell) (s l old new : List ℕ) (h : LineHeader) (places : TextPlace → Option ℕ) (end : ℕ) (cs : List Change)
    (p q : ℕ) → SourceMoves g m s l → Sides g bytes cells old new → ends_in old p ≡ true
    → Rest old new end (path_changes g m places h.width (record { section = g.number; at = p; len = length (text_in old p); field = p }) ++ cs) p q
    → From end (p + length (text_in old p) + 1) cs
    → TextChanged old new end cs (mapped_path m (text_in old p)) (p + length (text_in old p) + 1) q
text-moved g m bytes cells s l old new h places end cs p q w sides ends rest from =
    let own : bytes_at g.bytes p (length (text_in old p)) ≡ text_in old p = own-text in
    text-changed old new end (inline_change m g.bytes (record { section = g.number; at = p; len = length (text_in old p); field = p })) cs (mapped_path m (text_in old p)) p q
    (subst (λ (ds : List Change). Rest old new end (ds ++ cs) p q) (inline-changes g m places h (record { section = g.number; at = p; len = length (text_in old p); field = p }) refl) rest)
    refl ends (ap length own) (ap (mapped_path m) own) (has_nul-mapped_path m (text_in old p) w.map (has_nul-text_in old p)) from
  where
    own-text : bytes_at g.bytes p (length (text_in old p)) ≡ text_in old p
    own-text =
        let inside : p < length old = ends_in-inside old p ends in
        let same : text_in g.bytes p ≡ text_in old p = ap (λ (bs : List ℕ). text_in bs p) sides.was.is ∙ text_in-append old sides.was.more p (omega arith) ends in
        let there : ends_in g.bytes p ≡ true = ap (λ (bs : List ℕ). ends_in bs p) sides.was.is ∙ ends_in-append old sides.was.more p (omega arith) ends in
        ap (λ (u : List ℕ). bytes_at g.bytes p (length u)) (sym same) ∙ text-part g.bytes p there ∙ same

-- and its cells
pub record TextCells (old new : List Cell) (end : ℕ) (us : List CellChange) (tail : List Cell) (p q e : ℕ) : Type 0 where
  pub rest : CellRest old new end us tail p e
  pub clear : Clear new q e

pub text-cells : (g : LineSource) (m : PathMap) (cells : List Cell) (s l old : List ℕ) (h : LineHeader) (places : TextPlace → Option ℕ) (end : ℕ) (cs : List Change) (us : List CellChange)
    (tail : List Cell) (p q : ℕ) → SourceMoves g m s l → Grows old g.bytes → ends_in old p ≡ true
    → CellRest g.cells cells end (path_cells g m places h.width (record { section = g.number; at = p; len = length (text_in old p); field = p }) ++ us) tail p q → SameChanges us cs
    → From end (p + length (text_in old p) + 1) cs → Clear g.cells p (p + length (text_in old p) + 1)
    → TextCells g.cells cells end us tail (p + length (text_in old p) + 1) q (q + length (mapped_path m (text_in old p)) + 1)
text-cells g m cells s l old h places end cs us tail p q w was ends rest same from clear =
    let room : p + length (text_in old p) + 1 ≤ length g.cells = room-cells g.cells g.bytes old (p + length (text_in old p) + 1) w.own was (text-room old p ends) in
    let size : length (cells_at g.cells p (length (text_in old p))) ≡ length (text_in old p) = length-cells_at g.cells p (length (text_in old p)) (omega (arith, room)) in
    let one : CellRest g.cells cells end (inline_cells m g.cells (record { section = g.number; at = p; len = length (text_in old p); field = p }) ∷ us) tail p q =
    subst (λ (b : Bool). CellRest g.cells cells end ((if b then inline_cells m g.cells (record { section = g.number; at = p; len = length (text_in old p); field = p }) ∷ []
    else offset_cells g.order h.width g.cells p (places (record { section = g.number; at = p; len = length (text_in old p); field = p }))) ++ us) tail p q)
    (eq-eqb g.number g.number refl) rest in
    let x = cells-changed g.cells cells end (inline_cells m g.cells (record { section = g.number; at = p; len = length (text_in old p); field = p })) us tail p q one refl
    (plain-none (mapped_path m (bytes_of (cells_at g.cells p (length (text_in old p)))))) in
    let long : length (plain_cells (mapped_path m (bytes_of (cells_at g.cells p (length (text_in old p)))))) ≡ length (mapped_path m (text_in old p)) =
    plain-size (mapped_path m (bytes_of (cells_at g.cells p (length (text_in old p))))) ∙ ap (λ (t : List ℕ). length (mapped_path m t)) own-text in
    let mid : CellRest g.cells cells end us tail (p + length (text_in old p)) (q + length (mapped_path m (text_in old p))) =
    subst (λ (i : ℕ). CellRest g.cells cells end us tail (p + i) (q + length (mapped_path m (text_in old p)))) size
    (subst (λ (i : ℕ). CellRest g.cells cells end us tail (p + length (cells_at g.cells p (length (text_in old p)))) (q + i)) long x.rest) in
    let last : p + length (text_in old p) + 1 ≤ end = from-end end (p + length (text_in old p) + 1) cs from in
    let k = cells-copied g.cells cells end us tail (p + length (text_in old p)) (q + length (mapped_path m (text_in old p))) (p + length (text_in old p) + 1) mid (omega arith) last
    (same-from end (p + length (text_in old p) + 1) us cs same from)
    (clear-none g.cells (p + length (text_in old p)) (p + length (text_in old p) + 1)
    (clear-part g.cells p (p + length (text_in old p) + 1) (p + length (text_in old p)) (p + length (text_in old p) + 1) clear (omega arith) (omega arith))) in
    let place : q + length (mapped_path m (text_in old p)) + (p + length (text_in old p) + 1 - (p + length (text_in old p))) ≡ q + length (mapped_path m (text_in old p)) + 1 = omega arith in
    let bytes_clear : Clear cells q (q + length (plain_cells (mapped_path m (bytes_of (cells_at g.cells p (length (text_in old p))))))) =
    front-clear cells (plain_cells (mapped_path m (bytes_of (cells_at g.cells p (length (text_in old p))))))
    (changed_cells g.cells (p + length (cells_at g.cells p (length (text_in old p)))) end us ++ tail) q x.behind
    (λ i lt. relocation_at-plain (plain_cells (mapped_path m (bytes_of (cells_at g.cells p (length (text_in old p)))))) i
    (plain_cells-plain (mapped_path m (bytes_of (cells_at g.cells p (length (text_in old p))))))) in
    let last_clear : Clear cells (q + length (mapped_path m (text_in old p)))
    (q + length (mapped_path m (text_in old p)) + (p + length (text_in old p) + 1 - (p + length (text_in old p)))) =
    whole-clear g.cells cells (p + length (text_in old p)) (q + length (mapped_path m (text_in old p))) (p + length (text_in old p) + 1) k.same
    (clear-part g.cells p (p + length (text_in old p) + 1) (p + length (text_in old p)) (p + length (text_in old p) + 1) clear (omega arith) (omega arith)) in
    record {
      rest = subst (λ (i : ℕ). CellRest g.cells cells end us tail (p + length (text_in old p) + 1) i) place k.rest;
      clear = clear-join cells q (q + length (mapped_path m (text_in old p))) (q + length (mapped_path m (text_in old p)) + 1)
          (subst (λ (i : ℕ). Clear cells q (q + i)) long bytes_clear)
          (subst (λ (i : ℕ). Clear cells (q + length (mapped_path m (text_in old p))) i) place last_clear);
    }
  where
    own-text : bytes_of (cells_at g.cells p (length (text_in old p))) ≡ text_in old p
    own-text =
        let inside : p < length old = ends_in-inside old p ends in
        let text_same : text_in g.bytes p ≡ text_in old p = ap (λ (bs : List ℕ). text_in bs p) was.is ∙ text_in-append old was.more p (omega arith) ends in
        let there : ends_in g.bytes p ≡ true = ap (λ (bs : List ℕ). ends_in bs p) was.is ∙ ends_in-append old was.more p (omega arith) ends in
        bytes_of-take (length (text_in old p)) (drop p g.cells) ∙ ap (take (length (text_in old p))) (bytes_of-drop p g.cells ∙ ap (drop p) w.own)
        ∙ ap (λ (u : List ℕ). bytes_at g.bytes p (length u)) (sym text_same) ∙ text-part g.bytes p there ∙ text_same

-- the path stands in its column
inline-moved : (g : LineSource) (m : PathMap) (bytes : List ℕ) (cells : List Cell) (s l old new : List ℕ) (h : LineHeader) (n : LinePlaces) (places : TextPlace → Option ℕ) (end : ℕ) (cs : List Change)
    (us : List CellChange) (tail : List Cell) (spec : Spec) (p q : ℕ) → SourceMoves g m s l → Sides g bytes cells old new → spec.form ≡ DW_FORM_string → ends_in old p ≡ true
    → Rest old new end (path_changes g m places h.width (record { section = g.number; at = p; len = length (text_in old p); field = p }) ++ cs) p q
    → CellRest g.cells cells end (path_cells g m places h.width (record { section = g.number; at = p; len = length (text_in old p); field = p }) ++ us) tail p q → SameChanges us cs
    → From end (p + length (text_in old p) + 1) cs → Clear g.cells p (p + length (text_in old p) + 1)
    → ColumnMoved g (edited_with g bytes cells s l) m (moved_header h n) old new end cs us tail spec q
    (record { text = Some (record { section = g.number; at = p; len = length (text_in old p); field = p }); number = 0; next = p + length (text_in old p) + 1 })
    (own_text g old p true)
inline-moved g m bytes cells s l old new h n places end cs us tail spec p q w sides form ends rest cell same from clear =
    let r = text-moved g m bytes cells s l old new h places end cs p q w sides ends rest from in
    let d = text-cells g m cells s l old h places end cs us tail p q w sides.was ends cell same from clear in
    record {
      column = record { text = Some (record { section = g.number; at = q; len = length (text_in new q); field = q }); number = 0; next = q + length (text_in new q) + 1 };
      is = inline-column g bytes cells s l new (moved_header h n) spec q form r.ends;
      number = refl;
      place = record { section = g.number; at = q; len = length (text_in new q); field = q };
      text = refl;
      says = inline-placed (edited_with g bytes cells s l) new q sides.is r.ends ∙ r.says ∙ ap (mapped_path m) (sym (inline-placed g old p sides.was ends));
      mentions = own-moved g m bytes cells s l (own_text g old p true) (own_text g new q true) refl refl;
      rest = subst (λ (u : List ℕ). Rest old new end cs (p + length (text_in old p) + 1) (q + length u + 1)) (sym r.says) r.rest;
      cells = subst (λ (u : List ℕ). CellRest g.cells cells end us tail (p + length (text_in old p) + 1) (q + length u + 1)) (sym r.says) d.rest;
      clear = subst (λ (i : ℕ). Clear cells i (q + length (text_in new q) + 1)) (sym (clear-inline spec q form))
          (subst (λ (u : List ℕ). Clear cells q (q + length u + 1)) (sym r.says) d.clear);
    }

-- a text that isn't a path and stands in its column is copied
inline-copied : (g : LineSource) (m : PathMap) (bytes : List ℕ) (cells : List Cell) (s l old new : List ℕ) (h : LineHeader) (n : LinePlaces) (end : ℕ) (cs : List Change)
    (us : List CellChange) (tail : List Cell) (spec : Spec) (p q : ℕ) → SourceMoves g m s l → Sides g bytes cells old new → spec.form ≡ DW_FORM_string → ends_in old p ≡ true
    → Rest old new end cs p q → CellRest g.cells cells end us tail p q → SameChanges us cs → From end (p + length (text_in old p) + 1) cs → Clear g.cells p (p + length (text_in old p) + 1)
    → ColumnMoved g (edited_with g bytes cells s l) m (moved_header h n) old new end cs us tail spec q
    (record { text = Some (record { section = g.number; at = p; len = length (text_in old p); field = p }); number = 0; next = p + length (text_in old p) + 1 })
    (own_text g old p false)
inline-copied g m bytes cells s l old new h n end cs us tail spec p q w sides form ends rest cell same from clear =
    let room : p + length (text_in old p) + 1 ≤ length old = text-room old p ends in
    let k = copied old new end cs p q (p + length (text_in old p) + 1) rest (omega arith) from in
    let last : p + length (text_in old p) + 1 ≤ end = from-end end (p + length (text_in old p) + 1) cs from in
    let d = cells-copied g.cells cells end us tail p q (p + length (text_in old p) + 1) cell (omega arith) last (same-from end (p + length (text_in old p) + 1) us cs same from)
    (clear-none g.cells p (p + length (text_in old p) + 1) clear) in
    let size : length (part old p (p + length (text_in old p) + 1)) ≡ p + length (text_in old p) + 1 - p =
    part-length old p (p + length (text_in old p) + 1) (omega arith) room in
    let there = text-both old new (part old p (p + length (text_in old p) + 1)) p q k.both ends (omega (arith, size)) in
    let next : q + (p + length (text_in old p) + 1 - p) ≡ q + length (text_in new q) + 1 = omega arith ∙ ap (λ (t : List ℕ). q + length t + 1) (sym there.1) in
    record {
      column = record { text = Some (record { section = g.number; at = q; len = length (text_in new q); field = q }); number = 0; next = q + length (text_in new q) + 1 };
      is = inline-column g bytes cells s l new (moved_header h n) spec q form there.0;
      number = refl;
      place = record { section = g.number; at = q; len = length (text_in new q); field = q };
      text = refl;
      says = inline-placed (edited_with g bytes cells s l) new q sides.is there.0 ∙ there.1 ∙ sym (inline-placed g old p sides.was ends);
      mentions = own-moved g m bytes cells s l (own_text g old p false) (own_text g new q false) refl refl;
      rest = subst (λ (i : ℕ). Rest old new end cs (p + length (text_in old p) + 1) i) next k.rest;
      cells = subst (λ (i : ℕ). CellRest g.cells cells end us tail (p + length (text_in old p) + 1) i) next d.rest;
      clear = subst (λ (i : ℕ). Clear cells i (q + length (text_in new q) + 1)) (sym (clear-inline spec q form))
          (subst (Clear cells q) next (whole-clear g.cells cells p q (p + length (text_in old p) + 1) d.same clear));
    }

-- no relocation begins in a field with another offset but at its start
put-none : (order : Order) (p : List Cell) (n size : ℕ) → ((i : ℕ) → 0 < i → i < size → relocation_at p i ≡ None) → (i : ℕ) → 0 < i → i < size
    → relocation_at (with_offset order p n) i ≡ None
put-none order p n size h zero some lt = absurd (omega (arith, some))
put-none order p n size h (suc i) some lt = put-tail order p n i ∙ h (suc i) some lt

-- an offset names a text
offset-moved : (g : LineSource) (m : PathMap) (bytes : List ℕ) (cells : List Cell) (s l old new : List ℕ) (h : LineHeader) (n : LinePlaces) (end : ℕ) (cs : List Change) (us : List CellChange)
    (tail : List Cell) (spec : Spec) (z : TextSection) (i p q : ℕ) (path : Bool) (o : Option ℕ) → SourceMoves g m s l → Sides g bytes cells old new → spec.form ≡ offset_form z
    → p + width_size h.width ≤ length old → named_text g (texts_in g z) p (width_size h.width) ≡ Ok (text_of (texts_in g z) i p) → ends_in (texts_in g z).bytes i ≡ true
    → OffsetMoves m path h.width (texts_in g z).bytes (new_texts_in g s l z).bytes i o → TakesPlace g h.width p o → Rest old new end (offset_changes g.order h.width g.bytes g.cells p o ++ cs) p q
    → CellRest g.cells cells end (offset_cells g.order h.width g.cells p o ++ us) tail p q → SameChanges us cs → From end (p + width_size h.width) cs
    → ColumnMoved g (edited_with g bytes cells s l) m (moved_header h n) old new end cs us tail spec q
    (record { text = Some (text_of (texts_in g z) i p); number = 0; next = p + width_size h.width }) (record { place = text_of (texts_in g z) i p; path = path })
offset-moved g m bytes cells s l old new h n end cs us tail spec z i p q path None w sides form room reads ends moves takes rest cell same from =
    let k = copied old new end cs p q (p + width_size h.width) rest (omega arith) from in
    let field = read-field g m bytes cells s l old new h z p i w sides room reads in
    let last : p + width_size h.width ≤ end = from-end end (p + width_size h.width) cs from in
    let d = cells-copied g.cells cells end us tail p q (p + width_size h.width) cell (omega arith) last (same-from end (p + width_size h.width) us cs same from)
    (field-own g (texts_in g z) p (width_size h.width) i field ends (room-cells g.cells g.bytes old (p + width_size h.width) w.own sides.was room)) in
    let size : length (part old p (p + width_size h.width)) ≡ p + width_size h.width - p = part-length old p (p + width_size h.width) (omega arith) room in
    let inside = k.both.is.inside in
    let width : p + width_size h.width - p ≡ width_size h.width = omega arith in
    let next : q + (p + width_size h.width - p) ≡ q + width_size h.width = omega arith in
    let there : q + width_size h.width ≤ length new = omega (arith, inside, size) in
    let named = offset-there g m bytes cells s l old new h z i p q w sides room reads ends there
    (ap (λ (j : ℕ). take j (drop q cells)) (sym width) ∙ d.same ∙ ap (λ (j : ℕ). take j (drop p g.cells)) width) cell.over moves.0 in
    let tail_clear : Clear cells (suc q) (q + (p + width_size h.width - p)) =
    tail-clear cells (cells_at g.cells p (width_size h.width)) q (p + width_size h.width - p) (d.same ∙ ap (λ (j : ℕ). take j (drop p g.cells)) width)
    (λ j a b. read-tail g.cells p (width_size h.width) j field.whole a (omega (arith, b, width))) in
    record {
      column = record {
        text = Some (record { section = (texts_in g z).number; at = i; len = length (text_in (new_texts_in g s l z).bytes i); field = q });
        number = 0;
        next = q + width_size h.width;
      };
      is = offset-column g bytes cells s l new (moved_header h n) spec z q i form there named;
      number = refl;
      place = record { section = (texts_in g z).number; at = i; len = length (text_in (new_texts_in g s l z).bytes i); field = q };
      text = refl;
      says = new-offset-text g m bytes cells s l z i i q w ends moves.0 ∙ moves.1 ∙ ap (moved_text m path) (sym (offset-text g m s l z i p w ends));
      mentions = offset-mentions g m bytes cells s l z i p i (length (text_in (new_texts_in g s l z).bytes i)) q path w ends moves.1;
      rest = subst (λ (j : ℕ). Rest old new end cs (p + width_size h.width) j) next k.rest;
      cells = subst (λ (j : ℕ). CellRest g.cells cells end us tail (p + width_size h.width) j) next d.rest;
      clear = subst (λ (j : ℕ). Clear cells j (q + width_size h.width)) (sym (clear-offset spec z q form)) (subst (Clear cells (suc q)) next tail_clear);
    }
offset-moved g m bytes cells s l old new h n end cs us tail spec z i p q path (Some to) w sides form room reads ends moves takes rest cell same from =
    let cell_room : p + width_size h.width ≤ length g.cells = room-cells g.cells g.bytes old (p + width_size h.width) w.own sides.was room in
    let field = read-field g m bytes cells s l old new h z p i w sides room reads in
    let own_size : length (cells_at g.cells p (width_size h.width)) ≡ width_size h.width = length-cells_at g.cells p (width_size h.width) cell_room in
    let put_size : length (with_offset g.order (cells_at g.cells p (width_size h.width)) to) ≡ width_size h.width =
    length-put g.order (cells_at g.cells p (width_size h.width)) to ∙ own_size in
    let x = exchanged old new end (record { at = p; old = bytes_at g.bytes p (width_size h.width); new = bytes_of (with_offset g.order (cells_at g.cells p (width_size h.width)) to) }) cs p q rest refl in
    let whole : length g.bytes ≡ length (old ++ sides.was.more) = ap length sides.was.is in
    let old_size : length (bytes_at g.bytes p (width_size h.width)) ≡ width_size h.width =
    length-take-le (width_size h.width) (drop p g.bytes) (omega (arith, room, whole, length-append old sides.was.more, length-drop p g.bytes)) in
    let long : length (bytes_of (with_offset g.order (cells_at g.cells p (width_size h.width)) to)) ≡ width_size h.width =
    length-bytes_of (with_offset g.order (cells_at g.cells p (width_size h.width)) to) ∙ put_size in
    let inside = x.stands.inside in
    let there : q + width_size h.width ≤ length new = omega (arith, inside, long) in
    let none : (j : ℕ) → 0 < j → j < width_size h.width → relocation_at (with_offset g.order (cells_at g.cells p (width_size h.width)) to) j ≡ None =
    put-none g.order (cells_at g.cells p (width_size h.width)) to (width_size h.width) (λ j a b. read-tail g.cells p (width_size h.width) j field.whole a b) in
    let offset : offset_of g.order (new_texts_in g s l z) (with_offset g.order (cells_at g.cells p (width_size h.width)) to) ≡ to =
    field-put g (texts_in g z) (new_texts_in g s l z) p (width_size h.width) i to field ends (same-number g s l z) takes (width-some h.width) cell_room moves.0 in
    let d = cells-changed g.cells cells end
    (record { at = p; old = length (cells_at g.cells p (width_size h.width)); new = with_offset g.order (cells_at g.cells p (width_size h.width)) to }) us tail p q cell refl
    (cells-own g.order (new_texts_in g s l z) (with_offset g.order (cells_at g.cells p (width_size h.width)) to) to offset (ends_in-inside (new_texts_in g s l z).bytes to moves.1)
    (λ j a b. none j a (omega (arith, b, put_size)))) in
    let named : named_text (edited_with g bytes cells s l) (new_texts_in g s l z) q (width_size h.width) ≡ Ok (text_of (new_texts_in g s l z) to q) =
    field-there (edited_with g bytes cells s l) (new_texts_in g s l z) (with_offset g.order (cells_at g.cells p (width_size h.width)) to) q (width_size h.width) to sides.own (width-some h.width)
    (room-cells cells bytes new (q + width_size h.width) sides.own sides.is there) (ap (λ (j : ℕ). take j (drop q cells)) (sym put_size) ∙ d.same) none cell.over offset moves.1 in
    record {
      column = record {
        text = Some (record { section = (texts_in g z).number; at = to; len = length (text_in (new_texts_in g s l z).bytes to); field = q });
        number = 0;
        next = q + width_size h.width;
      };
      is = offset-column g bytes cells s l new (moved_header h n) spec z q to form there named;
      number = refl;
      place = record { section = (texts_in g z).number; at = to; len = length (text_in (new_texts_in g s l z).bytes to); field = q };
      text = refl;
      says =
          new-offset-text g m bytes cells s l z i to q w ends moves.1 ∙ moves.2
          ∙ ap (moved_text m path) (sym (offset-text g m s l z i p w ends));
      mentions = offset-mentions g m bytes cells s l z i p to (length (text_in (new_texts_in g s l z).bytes to)) q path w ends moves.2;
      rest = subst (λ (j : ℕ). Rest old new end cs (p + j) (q + width_size h.width)) old_size (subst (λ (j : ℕ). Rest old new end cs (p + length (bytes_at g.bytes p (width_size h.width))) (q + j)) long x.rest);
      cells = subst (λ (j : ℕ). CellRest g.cells cells end us tail (p + j) (q + width_size h.width)) own_size
          (subst (λ (j : ℕ). CellRest g.cells cells end us tail (p + length (cells_at g.cells p (width_size h.width))) (q + j)) put_size d.rest);
      clear = subst (λ (i : ℕ). Clear cells i (q + width_size h.width)) (sym (clear-offset spec z q form))
          (tail-clear cells (with_offset g.order (cells_at g.cells p (width_size h.width)) to) q (width_size h.width)
          (ap (λ (j : ℕ). take j (drop q cells)) (sym put_size) ∙ d.same) none);
    }

pub column-moved : (g : LineSource) (m : PathMap) (bytes : List ℕ) (cells : List Cell) (s l old new : List ℕ) (h : LineHeader) (n : LinePlaces) (places : LineText → Option ℕ) (end : ℕ) (cs : List Change)
    (us : List CellChange) (tail : List Cell) (spec : Spec) (p q : ℕ) (c : Column) (t : TextPlace) (path : Bool) → SourceMoves g m s l → Sides g bytes cells old new → ColumnIs g h old spec p c → c.text ≡ Some t
    → TextMoves g m s l h.width places (record { place = t; path = path }) → Rest old new end (text_changes g m places h.width (record { place = t; path = path }) ++ cs) p q
    → CellRest g.cells cells end (text_cells g m places h.width (record { place = t; path = path }) ++ us) tail p q
    → SameChanges us cs → From end c.next cs → Clear g.cells (clear_from spec p) c.next
    → ColumnMoved g (edited_with g bytes cells s l) m (moved_header h n) old new end cs us tail spec q c (record { place = t; path = path })
column-moved g m bytes cells s l old new h n places end cs us tail spec p q c t path w sides (inline_is form ends) is moves rest cell both from clear =
    let same : record { section = g.number; at = p; len = length (text_in old p); field = p } ≡ t = some-place _ t is in
    let own : Clear g.cells p (p + length (text_in old p) + 1) =
    subst (λ (i : ℕ). Clear g.cells i (p + length (text_in old p) + 1)) (clear-inline spec p form) clear in
    subst (λ (u : TextPlace). ColumnMoved g (edited_with g bytes cells s l) m (moved_header h n) old new end cs us tail spec q
    (record { text = Some (record { section = g.number; at = p; len = length (text_in old p); field = p }); number = 0; next = p + length (text_in old p) + 1 }) (record { place = u; path = path })) same
    (by_path path (subst (λ (u : TextPlace). Rest old new end (text_changes g m places h.width (record { place = u; path = path }) ++ cs) p q) (sym same) rest)
    (subst (λ (u : TextPlace). CellRest g.cells cells end (text_cells g m places h.width (record { place = u; path = path }) ++ us) tail p q) (sym same) cell) own)
  where
    by_path : (b : Bool) → Rest old new end (text_changes g m places h.width (own_text g old p b) ++ cs) p q
        → CellRest g.cells cells end (text_cells g m places h.width (own_text g old p b) ++ us) tail p q → Clear g.cells p (p + length (text_in old p) + 1)
        → ColumnMoved g (edited_with g bytes cells s l) m (moved_header h n) old new end cs us tail spec q
        (record { text = Some (record { section = g.number; at = p; len = length (text_in old p); field = p }); number = 0; next = p + length (text_in old p) + 1 }) (own_text g old p b)
    by_path true r d own = inline-moved g m bytes cells s l old new h n (on_paths places) end cs us tail spec p q w sides form ends r d both from own
    by_path false r d own =
        inline-copied g m bytes cells s l old new h n end cs us tail spec p q w sides form ends
        (subst (λ (ds : List Change). Rest old new end (ds ++ cs) p q) (further-changed g m places h old p) r)
        (subst (λ (vs : List CellChange). CellRest g.cells cells end (vs ++ us) tail p q) (further-cells g m places h old p) d) both from own
column-moved g m bytes cells s l old new h n places end cs us tail spec p q c t path w sides (offset_is z i form room reads ends) is moves rest cell both from clear =
    let same : text_of (texts_in g z) i p ≡ t = some-place _ t is in
    let says = offset-says g m s l h.width places z i p path w ends (subst (λ (u : TextPlace). TextMoves g m s l h.width places (record { place = u; path = path })) (sym same) moves) in
    subst (λ (u : TextPlace). ColumnMoved g (edited_with g bytes cells s l) m (moved_header h n) old new end cs us tail spec q
    (record { text = Some (text_of (texts_in g z) i p); number = 0; next = p + width_size h.width }) (record { place = u; path = path })) same
    (offset-moved g m bytes cells s l old new h n end cs us tail spec z i p q path (places (record { place = text_of (texts_in g z) i p; path = path })) w sides form room reads ends
    says.0 says.1
    (subst (λ (ds : List Change). Rest old new end (ds ++ cs) p q) (offset-changed g m s l places h z i p path w)
    (subst (λ (u : TextPlace). Rest old new end (text_changes g m places h.width (record { place = u; path = path }) ++ cs) p q) (sym same) rest))
    (subst (λ (vs : List CellChange). CellRest g.cells cells end (vs ++ us) tail p q) (offset-cells g m s l places h z i p path w)
    (subst (λ (u : TextPlace). CellRest g.cells cells end (text_cells g m places h.width (record { place = u; path = path }) ++ us) tail p q) (sym same) cell)) both from)
column-moved g m bytes cells s l old new h n places end cs us tail spec p q c t path w sides (value_is x y d v is_) is moves rest cell both from clear = absurd (none-place t is)

-- no change begins before the column of its text
pub column-from : (g : LineSource) (m : PathMap) (s l old : List ℕ) (h : LineHeader) (places : LineText → Option ℕ) (end : ℕ) (cs : List Change) (spec : Spec) (p : ℕ) (c : Column)
    (t : TextPlace) (path : Bool) → SourceMoves g m s l → ColumnIs g h old spec p c → c.text ≡ Some t → From end c.next cs
    → From end p (text_changes g m places h.width (record { place = t; path = path }) ++ cs)
column-from g m s l old h places end cs spec p c t path w (inline_is form ends) is from =
    let same : record { section = g.number; at = p; len = length (text_in old p); field = p } ≡ t = some-place _ t is in
    let last : p + length (text_in old p) + 1 ≤ end = from-end end (p + length (text_in old p) + 1) cs from in
    subst (λ (u : TextPlace). From end p (text_changes g m places h.width (record { place = u; path = path }) ++ cs)) same (by_path path last)
  where
    by_path : (b : Bool) → p + length (text_in old p) + 1 ≤ end → From end p (text_changes g m places h.width (own_text g old p b) ++ cs)
    by_path true last =
        subst (λ (ds : List Change). From end p (ds ++ cs)) (sym (inline-changes g m (on_paths places) h (record { section = g.number; at = p; len = length (text_in old p); field = p }) refl))
        (omega arith, omega (arith, last), all-before end (p + length (text_in old p) + 1) cs from)
    by_path false last =
        subst (λ (ds : List Change). From end p (ds ++ cs)) (sym (further-changed g m places h old p))
        (from-before end p (p + length (text_in old p) + 1) cs (omega arith) from)
column-from g m s l old h places end cs spec p c t path w (offset_is z i form room reads ends) is from =
    let same : text_of (texts_in g z) i p ≡ t = some-place _ t is in
    let last : p + width_size h.width ≤ end = from-end end (p + width_size h.width) cs from in
    subst (λ (u : TextPlace). From end p (text_changes g m places h.width (record { place = u; path = path }) ++ cs)) same
    (subst (λ (ds : List Change). From end p (ds ++ cs)) (sym (offset-changed g m s l places h z i p path w))
    (by_place (places (record { place = text_of (texts_in g z) i p; path = path })) last))
  where
    by_place : (o : Option ℕ) → p + width_size h.width ≤ end → From end p (offset_changes g.order h.width g.bytes g.cells p o ++ cs)
    by_place None last = from-before end p (p + width_size h.width) cs (omega arith) from
    by_place (Some to) last = (omega arith, omega (arith, last), all-before end (p + width_size h.width) cs from)
column-from g m s l old h places end cs spec p c t path w (value_is x y d v is_) is from = absurd (none-place t is)
