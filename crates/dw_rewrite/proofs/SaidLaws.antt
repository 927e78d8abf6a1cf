-- The relocations of a section's pieces when these are edited: each stays at its byte, and says the offset of its field.
use Rattle.std.proofs.Common.{Bool, true, false, ◌≡◌, ℕ, zero, suc, ◌+◌, ◌≤◌, ◌<◌, ◌==◌, List, [], ◌∷◌, ◌++◌, length, drop, if◌then◌else◌, Option, Some, None, refl, sym, ap, ◌∙◌, subst, arith, append_assoc}
use Rattle.std.specs.Bool.{⊤}
use Rattle.std.proofs.lemmas.Bool.{eq-eqb, ne_eqb}
use Rattle.dw_base.specs.Cells.{Cell, bytes_of, offset_of, with_bytes}
use Rattle.dw_base.specs.DebugData.{Around, start_number, table_of}
use Rattle.dw_base.specs.InlinePaths.{mapped_inline}
use Rattle.dw_base.specs.LineReadings.{starts_from}
use Rattle.dw_base.specs.NewOffsets.{with_offset}
use Rattle.dw_base.specs.Roles.{Role, fixed, offset, inline_path, line_start}
use Rattle.dw_base.specs.TextChanges.{TableChanges, change_of, edited_by, moved_start}
use Rattle.dw_base.specs.Texts.{text}
use Rattle.dw_base.specs.declared.debug_sections.DebugSection.TheVariants.{Str, LineStr, Line}
use Rattle.dw_base.specs.declared.shared.Order.{Order}
use Rattle.dw_offsets.specs.declared.fields.OffsetField.{OffsetField}
use Rattle.dw_base.specs.declared.texts.TextSection.{TextSection}
use Rattle.dw_base.specs.declared.texts.TextSection.TheVariants.{InStr, InLineStr}
use Rattle.elf_relocs.proofs.OffsetLaws.{same-bytes, same-self}
use Rattle.dw_patch.specs.RecordMoves.{patch_for}
use Rattle.elf_layout.specs.declared.patch.Patch.{Patch}
use Rattle.dw_patch.proofs.SaidCellLaws.{NoneBegin, SaidAll, said-kept, said-put}
use Rattle.dw_rewrite.specs.Changes.{FieldSource, new_start, offset_at, start_known}
use Rattle.dw_rewrite.specs.NewOffsets.{asked, offset_by, offsets_after, offsets_known}
use Rattle.dw_rewrite.specs.UnitsAfter.{start_source, text_source}
use Rattle.dw_rewrite.proofs.EditedLaws.{piece-there}
use Rattle.dw_unit_fields.specs.SectionFields.{field_by, start_by}
use Rattle.dw_unit_fields.proofs.PieceFieldLaws.{FieldsFrom}

-- a list in front in which no field begins at a place, and one in which one does
pub patch-skip : (xs ys : List Patch) (q : ℕ) → patch_for xs q ≡ None → patch_for (xs ++ ys) q ≡ patch_for ys q
patch-skip [] ys q none = refl
patch-skip (x ∷ xs) ys q none = by (x.at == q) none (λ e. patch-skip xs ys q e)
  where
    by : (b : Bool) → (if b then Some x else patch_for xs q) ≡ None → (patch_for xs q ≡ None → patch_for (xs ++ ys) q ≡ patch_for ys q)
        → (if b then Some x else patch_for (xs ++ ys) q) ≡ patch_for ys q
    by true e rest = absurd cc
    by false e rest = rest e

patch-first : (x : Patch) (ys : List Patch) (q : ℕ) → x.at ≡ q → patch_for (x ∷ ys) q ≡ Some x
patch-first x ys q e = rw (eq-eqb x.at q e) refl

pub patch-further : (x : Patch) (ys : List Patch) (q : ℕ) → (x.at ≡ q → ⊥) → patch_for (x ∷ ys) q ≡ patch_for ys q
patch-further x ys q other = rw (ne_eqb x.at q other) refl

-- fields that begin from a place on begin nowhere before it
none-one : (f : OffsetField) (known : Option ℕ) (n q : ℕ) → n ≤ f.at → q < n → patch_for (offset_by f known) q ≡ None
none-one f None n q le lt = refl
none-one f (Some new) n q le lt = patch-further (record { at = f.at; size = f.size; value = new }) [] q (λ e. omega (arith, e, le, lt))

none-below : (s : FieldSource) (known : Bool → ℕ → Option ℕ) (fs : List OffsetField) (n q : ℕ) → FieldsFrom n fs → q < n → patch_for (offsets_known s known fs) q ≡ None
none-below s known [] n q from lt = refl
none-below s known (f ∷ fs) n q from lt =
    patch-skip (offset_by f (known f.path (offset_at s f))) (offsets_known s known fs) q (none-one f (known f.path (offset_at s f)) n q from.0 lt)
    ∙ none-below s known fs n q from.1 lt

-- each field has bytes
abbrev pub Sized : List OffsetField → Type 0
Sized [] = ⊤
Sized (f ∷ fs) = (0 < f.size) × Sized fs

pub sized-parts : (fs gs : List OffsetField) → Sized (fs ++ gs) → Sized fs × Sized gs
sized-parts [] gs h = (tt, h)
sized-parts (f ∷ fs) gs h = let rest = sized-parts fs gs h.1 in ((h.0, rest.0), rest.1)

-- from a place on the offsets are those of the fields that are left
pub record FromHere (c : TableChanges) (a : Around) (cells : List Cell) (offs : List Patch) (place : ℕ) (fs gs hs : List OffsetField) : Type 0 where
  pub each : (q : ℕ) → place ≤ q → patch_for offs q ≡ patch_for (offsets_after c a cells fs gs hs) q

-- what becomes of a field by its new offset
abbrev by_new : Order → List Cell → Option ℕ → List Cell
by_new order p None = p
by_new order p (Some new) = with_offset order p new

-- where a field begins, and nothing else in its bytes
record Begins (offs : List Patch) (place size : ℕ) (path : Bool) (new : Option ℕ) : Type 0 where
  first : patch_for offs place ≡ patch_for (offset_by (record { at = place; size = size; path = path }) new) place
  rest : (q : ℕ) → place < q → q < place + size → patch_for offs q ≡ None

said-field : (offs : List Patch) (place : ℕ) (order : Order) (p : List Cell) (path : Bool) (new : Option ℕ) → 0 < length p → Begins offs place (length p) path new
    → SaidAll offs place p (by_new order p new)
said-field offs place order [] path new some h = absurd (omega (arith, some))
said-field offs place order (x ∷ xs) path None some h = said-kept offs place (x ∷ xs) (x ∷ xs) none (same-self (x ∷ xs))
  where
    none : NoneBegin offs place (length (x ∷ xs))
    none zero lt = let here : place + 0 ≡ place = omega arith in ap (patch_for offs) here ∙ h.first
    none (suc k) lt = h.rest (place + suc k) (omega arith) (omega (arith, lt))
said-field offs place order (x ∷ xs) path (Some n) some h =
    let f : Patch = record { at = place; size = suc (length xs); value = n } in
    said-put offs place order x xs (record { at = place; size = suc (length xs); value = n })
    (h.first ∙ patch-first (record { at = place; size = suc (length xs); value = n }) [] place refl) refl
    (λ k lt. h.rest (suc place + k) (omega arith) (omega (arith, lt)))

-- lists in which none begins in the bytes of a piece
record NoneHere (list : List Patch) (place n : ℕ) : Type 0 where
  each : (q : ℕ) → place ≤ q → q < place + n → patch_for list q ≡ None

none-here : (s : FieldSource) (known : Bool → ℕ → Option ℕ) (fs : List OffsetField) (place n : ℕ) → FieldsFrom (place + n) fs → NoneHere (offsets_known s known fs) place n
none-here s known fs place n from = record { each = λ q le lt. none-below s known fs (place + n) q from lt }

none-both : (xs ys : List Patch) (place n : ℕ) → NoneHere xs place n → NoneHere ys place n → NoneHere (xs ++ ys) place n
none-both xs ys place n h k = record { each = λ q le lt. patch-skip xs ys q (h.each q le lt) ∙ k.each q le lt }

patch-front : (xs ys : List Patch) (q : ℕ) → patch_for ys q ≡ None → patch_for (xs ++ ys) q ≡ patch_for xs q
patch-front [] ys q none = none
patch-front (x ∷ xs) ys q none = ap (λ (o : Option Patch). if x.at == q then Some x else o) (patch-front xs ys q none)

-- lists that go on alike behind a front
patch-behind : (xs ys zs : List Patch) (q : ℕ) → patch_for ys q ≡ patch_for zs q → patch_for (xs ++ ys) q ≡ patch_for (xs ++ zs) q
patch-behind [] ys zs q same = same
patch-behind (x ∷ xs) ys zs q same = ap (λ (o : Option Patch). if x.at == q then Some x else o) (patch-behind xs ys zs q same)

-- one field among those of lists
off-here : (place n : ℕ) (path : Bool) (known : Option ℕ) (q : ℕ) → (place ≡ q → ⊥) → patch_for (offset_by (record { at = place; size = n; path = path }) known) q ≡ None
off-here place n path None q other = refl
off-here place n path (Some new) q other = patch-further (record { at = place; size = n; value = new }) [] q other

begins-among : (offs as_ bs : List Patch) (place n : ℕ) (path : Bool) (known : Option ℕ) → 0 < n
    → ((q : ℕ) → place ≤ q → patch_for offs q ≡ patch_for (as_ ++ (offset_by (record { at = place; size = n; path = path }) known ++ bs)) q)
    → NoneHere as_ place n → NoneHere bs place n → Begins offs place n path known
begins-among offs as_ bs place n path known some here before behind = record {
  first = here place (omega arith)
      ∙ patch-skip as_ (offset_by (record { at = place; size = n; path = path }) known ++ bs) place (before.each place (omega arith) (omega (arith, some)))
      ∙ patch-front (offset_by (record { at = place; size = n; path = path }) known) bs place (behind.each place (omega arith) (omega (arith, some)));
  rest = λ q lt below. here q (omega (arith, lt))
      ∙ patch-skip as_ (offset_by (record { at = place; size = n; path = path }) known ++ bs) q (before.each q (omega (arith, lt)) below)
      ∙ patch-skip (offset_by (record { at = place; size = n; path = path }) known) bs q (off-here place n path known q (λ e. omega (arith, e, lt)))
      ∙ behind.each q (omega (arith, lt)) below;
}

past-among : (offs as_ bs : List Patch) (place n : ℕ) (path : Bool) (known : Option ℕ) → 0 < n
    → ((q : ℕ) → place ≤ q → patch_for offs q ≡ patch_for (as_ ++ (offset_by (record { at = place; size = n; path = path }) known ++ bs)) q)
    → (q : ℕ) → place + n ≤ q → patch_for offs q ≡ patch_for (as_ ++ bs) q
past-among offs as_ bs place n path known some here q le =
    here q (omega (arith, le))
    ∙ patch-behind as_ (offset_by (record { at = place; size = n; path = path }) known ++ bs) bs q
    (patch-skip (offset_by (record { at = place; size = n; path = path }) known) bs q (off-here place n path known q (λ e. omega (arith, e, le, some))))

-- a piece without a field
later : (c : TableChanges) (a : Around) (cells : List Cell) (offs : List Patch) (place n : ℕ) (fs gs hs : List OffsetField) → FromHere c a cells offs place fs gs hs
    → FromHere c a cells offs (place + n) fs gs hs
later c a cells offs place n fs gs hs here = record { each = λ q le. here.each q (omega (arith, le)) }

none-left : (c : TableChanges) (a : Around) (cells : List Cell) (place n : ℕ) (fs gs hs : List OffsetField) → FieldsFrom (place + n) fs → FieldsFrom (place + n) gs → FieldsFrom (place + n) hs
    → NoneHere (offsets_after c a cells fs gs hs) place n
none-left c a cells place n fs gs hs from_fs from_gs from_hs =
    none-both _ _ place n (none-here (text_source a cells InStr) (asked (c.new Str) c.map (a.stands Str).bytes) fs place n from_fs)
    (none-both _ _ place n (none-here (text_source a cells InLineStr) (asked (c.new LineStr) c.map (a.stands LineStr).bytes) gs place n from_gs)
    (none-here (start_source a cells) (start_known (a.stands Line).starts (starts_from 0 (c.new Line))) hs place n from_hs))

said-none : (c : TableChanges) (a : Around) (cells : List Cell) (offs : List Patch) (place n : ℕ) (fs gs hs : List OffsetField) → FromHere c a cells offs place fs gs hs
    → FieldsFrom (place + n) fs → FieldsFrom (place + n) gs → FieldsFrom (place + n) hs → NoneBegin offs place n
said-none c a cells offs place n fs gs hs here from_fs from_gs from_hs k lt =
    here.each (place + k) (omega arith) ∙ (none-left c a cells place n fs gs hs from_fs from_gs from_hs).each (place + k) (omega arith) (omega (arith, lt))

-- a piece by its role
pub record SaidStep (c : TableChanges) (a : Around) (cells : List Cell) (offs : List Patch) (place : ℕ) (p q : List Cell) (fs gs hs : List OffsetField) : Type 0 where
  pub said : SaidAll offs place p q
  pub later : FromHere c a cells offs (place + length p) fs gs hs

same-cells : (offs : List Patch) (place : ℕ) (p q r : List Cell) → q ≡ r → SaidAll offs place p q → SaidAll offs place p r
same-cells offs place p q r e h = subst (SaidAll offs place p) e h

-- what the edit makes of a field of a text, and of one that says where a line table starts
edited-text : (table : TextSection) (path : Bool) (c : TableChanges) (a : Around) (cells p behind : List Cell) (place : ℕ) → p ++ behind ≡ drop place cells
    → by_new a.lasting.base.order p (asked (change_of c table) c.map (table_of a table).bytes path (offset_at (text_source a cells table) (record { at = place; size = length p; path = path })))
    ≡ edited_by (offset table path) c a p
edited-text table path c a cells p behind place e =
    ap (λ (q : List Cell). by_new a.lasting.base.order p (asked (change_of c table) c.map (table_of a table).bytes path (offset_of a.lasting.base.order (table_of a table) q)))
    (piece-there p behind cells place e)

edited-start : (c : TableChanges) (a : Around) (cells p behind : List Cell) (place : ℕ) → p ++ behind ≡ drop place cells
    → by_new a.lasting.base.order p (start_known (a.stands Line).starts (starts_from 0 (c.new Line)) false (offset_at (start_source a cells) (record { at = place; size = length p; path = false })))
    ≡ edited_by line_start c a p
edited-start c a cells p behind place e =
    ap (λ (q : List Cell). by_new a.lasting.base.order p (new_start (starts_from 0 (c.new Line)) (start_number 0 (a.stands Line).starts (offset_of a.lasting.base.order (a.stands Line).located q))))
    (piece-there p behind cells place e)
    ∙ by (start_number 0 (a.stands Line).starts (offset_of a.lasting.base.order (a.stands Line).located p))
  where
    by : (o : Option ℕ) → by_new a.lasting.base.order p (new_start (starts_from 0 (c.new Line)) o) ≡ moved_start (starts_from 0 (c.new Line)) a.lasting.base.order o p
    by None = refl
    by (Some k) = refl

pub said-step : (r : Role) (c : TableChanges) (a : Around) (cells : List Cell) (offs : List Patch) (p behind : List Cell) (place : ℕ) (fs gs hs : List OffsetField)
    → p ++ behind ≡ drop place cells
    → FieldsFrom (place + length p) fs → FieldsFrom (place + length p) gs → FieldsFrom (place + length p) hs
    → Sized (field_by InStr r place (length p)) → Sized (field_by InLineStr r place (length p)) → Sized (start_by r place (length p))
    → FromHere c a cells offs place (field_by InStr r place (length p) ++ fs) (field_by InLineStr r place (length p) ++ gs) (start_by r place (length p) ++ hs)
    → SaidStep c a cells offs place p (edited_by r c a p) fs gs hs
said-step fixed c a cells offs p behind place fs gs hs e ff fg fh zs zl zt here = record {
  said = said-kept offs place p p (said-none c a cells offs place (length p) fs gs hs here ff fg fh) (same-self p);
  later = later c a cells offs place (length p) fs gs hs here;
}
said-step inline_path c a cells offs p behind place fs gs hs e ff fg fh zs zl zt here = record {
  said = said-kept offs place p (with_bytes p (mapped_inline c.map (text (bytes_of p)))) (said-none c a cells offs place (length p) fs gs hs here ff fg fh)
      (same-bytes p (mapped_inline c.map (text (bytes_of p))));
  later = later c a cells offs place (length p) fs gs hs here;
}
said-step (offset InStr path) c a cells offs p behind place fs gs hs e ff fg fh zs zl zt here =
    let new : Option ℕ = asked (c.new Str) c.map (a.stands Str).bytes path (offset_at (text_source a cells InStr) (record { at = place; size = length p; path = path })) in
    let tail : List Patch = offsets_after c a cells fs gs hs in
    let own : List Patch = offset_by (record { at = place; size = length p; path = path })
    (asked (c.new Str) c.map (a.stands Str).bytes path (offset_at (text_source a cells InStr) (record { at = place; size = length p; path = path }))) in
    let there : (q : ℕ) → place ≤ q → patch_for offs q ≡ patch_for ([] ++ (own ++ offsets_after c a cells fs gs hs)) q =
    λ q le. here.each q le ∙ ap (λ (l : List Patch). patch_for l q) (append_assoc own
    (offsets_known (text_source a cells InStr) (asked (c.new Str) c.map (a.stands Str).bytes) fs)
    (offsets_known (text_source a cells InLineStr) (asked (c.new LineStr) c.map (a.stands LineStr).bytes) gs
    ++ offsets_known (start_source a cells) (start_known (a.stands Line).starts (starts_from 0 (c.new Line))) hs)) in
    record {
      said = same-cells offs place p (by_new a.lasting.base.order p new) (edited_by (offset InStr path) c a p) (edited-text InStr path c a cells p behind place e)
          (said-field offs place a.lasting.base.order p path new zs.0
          (begins-among offs [] (offsets_after c a cells fs gs hs) place (length p) path new zs.0 there (record { each = λ q le lt. refl })
          (none-left c a cells place (length p) fs gs hs ff fg fh)));
      later = record { each = past-among offs [] (offsets_after c a cells fs gs hs) place (length p) path new zs.0 there };
    }
said-step (offset InLineStr path) c a cells offs p behind place fs gs hs e ff fg fh zs zl zt here =
    let new : Option ℕ = asked (c.new LineStr) c.map (a.stands LineStr).bytes path (offset_at (text_source a cells InLineStr) (record { at = place; size = length p; path = path })) in
    let first : List Patch = offsets_known (text_source a cells InStr) (asked (c.new Str) c.map (a.stands Str).bytes) fs in
    let second : List Patch = offsets_known (text_source a cells InLineStr) (asked (c.new LineStr) c.map (a.stands LineStr).bytes) gs in
    let third : List Patch = offsets_known (start_source a cells) (start_known (a.stands Line).starts (starts_from 0 (c.new Line))) hs in
    let own : List Patch = offset_by (record { at = place; size = length p; path = path })
    (asked (c.new LineStr) c.map (a.stands LineStr).bytes path (offset_at (text_source a cells InLineStr) (record { at = place; size = length p; path = path }))) in
    let there : (q : ℕ) → place ≤ q → patch_for offs q ≡ patch_for (first ++ (own ++ (second ++ third))) q =
    λ q le. here.each q le ∙ ap (λ (l : List Patch). patch_for (first ++ l) q) (append_assoc own second third) in
    record {
      said = same-cells offs place p (by_new a.lasting.base.order p new) (edited_by (offset InLineStr path) c a p) (edited-text InLineStr path c a cells p behind place e)
          (said-field offs place a.lasting.base.order p path new zl.0
          (begins-among offs first (second ++ third) place (length p) path new zl.0 there
          (none-here (text_source a cells InStr) (asked (c.new Str) c.map (a.stands Str).bytes) fs place (length p) ff)
          (none-both second third place (length p) (none-here (text_source a cells InLineStr) (asked (c.new LineStr) c.map (a.stands LineStr).bytes) gs place (length p) fg)
          (none-here (start_source a cells) (start_known (a.stands Line).starts (starts_from 0 (c.new Line))) hs place (length p) fh))));
      later = record { each = past-among offs first (second ++ third) place (length p) path new zl.0 there };
    }
said-step line_start c a cells offs p behind place fs gs hs e ff fg fh zs zl zt here =
    let new : Option ℕ = start_known (a.stands Line).starts (starts_from 0 (c.new Line)) false (offset_at (start_source a cells) (record { at = place; size = length p; path = false })) in
    let first : List Patch = offsets_known (text_source a cells InStr) (asked (c.new Str) c.map (a.stands Str).bytes) fs in
    let second : List Patch = offsets_known (text_source a cells InLineStr) (asked (c.new LineStr) c.map (a.stands LineStr).bytes) gs in
    let third : List Patch = offsets_known (start_source a cells) (start_known (a.stands Line).starts (starts_from 0 (c.new Line))) hs in
    let own : List Patch = offset_by (record { at = place; size = length p; path = false })
    (start_known (a.stands Line).starts (starts_from 0 (c.new Line)) false (offset_at (start_source a cells) (record { at = place; size = length p; path = false }))) in
    let there : (q : ℕ) → place ≤ q → patch_for offs q ≡ patch_for ((first ++ second) ++ (own ++ third)) q =
    λ q le. here.each q le ∙ ap (λ (l : List Patch). patch_for l q) (sym (append_assoc first second (own ++ third))) in
    record {
      said = same-cells offs place p (by_new a.lasting.base.order p new) (edited_by line_start c a p) (edited-start c a cells p behind place e)
          (said-field offs place a.lasting.base.order p false new zt.0
          (begins-among offs (first ++ second) third place (length p) false new zt.0 there
          (none-both first second place (length p) (none-here (text_source a cells InStr) (asked (c.new Str) c.map (a.stands Str).bytes) fs place (length p) ff)
          (none-here (text_source a cells InLineStr) (asked (c.new LineStr) c.map (a.stands LineStr).bytes) gs place (length p) fg))
          (none-here (start_source a cells) (start_known (a.stands Line).starts (starts_from 0 (c.new Line))) hs place (length p) fh)));
      later = record {
        each = λ q le. past-among offs (first ++ second) third place (length p) false new zt.0 there q le
            ∙ ap (λ (l : List Patch). patch_for l q) (append_assoc first second third);
      };
    }
