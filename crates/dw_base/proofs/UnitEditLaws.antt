-- Units under a change of the tables of texts: what a piece may become by its role, and that units stay units.
use Rattle.std.proofs.Common.{Bool, true, false, suc, ◌≡◌, ℕ, ◌+◌, ◌≤◌, List, [], ◌∷◌, length, get_or, Option, Some, None, IsTrue, sym, ap, ◌∙◌, refl, subst, arith, if◌then◌else◌}
use Rattle.std.specs.Prelude.{nat_le, ⊤}
use Rattle.std.proofs.lemmas.Bool.{leb-true, le-leb}
use Rattle.dw_base.specs.Cells.{Cell, bytes_of}
use Rattle.dw_base.specs.DebugData.{Around, line_table, table_of}
use Rattle.dw_base.specs.Forms.{ValueKind, number_of, inline_text, text_offset, form_in_front, kind_in}
use Rattle.dw_base.specs.InlinePaths.{mapped_inline}
use Rattle.dw_base.specs.Numbers.{spelled, number_at}
use Rattle.dw_base.specs.Paths.{PathMap}
use Rattle.dw_base.specs.Pieces.{Piece}
use Rattle.dw_base.specs.LineMeanings.{is_there}
use Rattle.dw_base.specs.Roles.{Role, fixed, offset, inline_path, line_start, is_line_start, role_of_kind, role_of_mode, is_path_use, use_of}
use Rattle.dw_base.specs.StringTables.{new_text}
use Rattle.dw_base.specs.TextChanges.{mention_at, offset_in}
use Rattle.dw_base.specs.TextIndexes.{index_value, slot_of}
use Rattle.dw_base.specs.Texts.{text, text_in, ends_in}
use Rattle.dw_base.specs.UnitHeaders.{UnitBase}
use Rattle.dw_base.specs.UnitPieces.{IsValue, FitsKind, FitsMode, unit_grammar}
use Rattle.dw_base.specs.UnitStates.{Mode, at_header, at_code, at_values, at_chosen, stuck, UnitState, past, inside, after_value, code_value}
use Rattle.dw_base.specs.Values.{value_of, number_value, offset_class}
use Rattle.dw_base.specs.declared.shared.Order.{Order}
use Rattle.dw_base.specs.declared.values.Spec.{Spec}
use Rattle.dw_base.specs.declared.values.Value.{Value}
use Rattle.dw_base.specs.declared.values.ValueClass.{ValueClass}
use Rattle.dw_base.specs.declared.values.ValueClass.TheVariants.{InlineText}
use Rattle.dw_base.proofs.PieceFrameLaws.{AllChanged, Preserves}
use Rattle.dw_base.specs.declared.debug_sections.DebugSection.TheVariants.{StrOffsets}
use Rattle.dw_base.specs.declared.texts.TextSection.{TextSection}
use Rattle.dw_base.specs.declared.values.AttributeUse.{AttributeUse}

-- what stands around units before and after a change, and the map that was applied. What units are read by stays, and so do
-- the places of entries.
pub record Shift : Type 0 where
  pub map : PathMap
  pub old : Around
  pub new : Around
  pub lasting : new.lasting ≡ old.lasting

-- a field of an offset is another of the same size, which names the new text
pub record Renamed (c : Shift) (table : TextSection) (path : Bool) (p q : List Cell) : Type 0 where
  pub size : length q ≡ length p
  pub says : text_in (table_of c.new table).bytes (offset_in c.new table q) ≡ new_text c.map (mention_at c.old table path p)
  pub ends : IsTrue (ends_in (table_of c.new table).bytes (offset_in c.new table q))

-- a path that stands in its value is another text in the same room
pub record Rewritten (c : Shift) (p q : List Cell) : Type 0 where
  pub size : length q ≡ length p
  pub ends : ends_in (bytes_of q) 0 ≡ true
  pub whole : length (text_in (bytes_of q) 0) + 1 ≡ length q
  pub says : text (bytes_of q) ≡ mapped_inline c.map (text (bytes_of p))

-- the start of a line table is another of the same size, which names the table of the same number
pub record Restarted (c : Shift) (p q : List Cell) : Type 0 where
  pub size : length q ≡ length p
  pub says : line_table c.new q ≡ line_table c.old p
  pub names : IsTrue (is_there (line_table c.new q))

abbrev pub Becomes : Role → Shift → List Cell → List Cell → Type 0
Becomes fixed c p q = q ≡ p
Becomes (offset table path) c p q = Renamed c table path p q
Becomes inline_path c p q = Rewritten c p q
Becomes line_start c p q = Restarted c p q

-- the slot of a number has the new text of a value that names it
abbrev pub SlotBecomes : Option ℕ → Bool → Shift → Type 0
SlotBecomes None path c = ⊤
SlotBecomes (Some n) path c = get_or (c.new.stands StrOffsets) n [] ≡ new_text c.map (record { path = path; text = get_or (c.old.stands StrOffsets) n [] })

-- and so has the slot of an index of a unit
abbrev pub IndexBecomes : Option ℕ → Bool → Shift → ℕ → Type 0
IndexBecomes None path c unit = ⊤
IndexBecomes (Some index) path c unit = SlotBecomes (slot_of (c.old.lasting.kept StrOffsets) unit index) path c

-- so a value by index says the new text, although its cells stay
abbrev pub ValueSlot : ValueKind → Bool → Shift → ℕ → List Cell → Type 0
ValueSlot k path c unit p = IndexBecomes (index_value c.old.lasting.base.order k p) path c unit

abbrev pub PieceSlot : Mode → Shift → UnitState → List Cell → Type 0
PieceSlot (at_values n tag (x ∷ xs)) c s p = ValueSlot (kind_in s.header.params x.form) (is_path_use (use_of n tag x.name)) c s.unit p
PieceSlot (at_chosen n tag start x xs) c s p = ValueSlot (kind_in s.header.params x.form) (is_path_use (use_of n tag x.name)) c s.unit p
PieceSlot m c s p = ⊤

abbrev pub UnitChange : Shift → UnitState → List Cell → List Cell → Type 0
UnitChange c s p q = Becomes (role_of_mode s.mode s.header.params) c p q × PieceSlot s.mode c s p

abbrev pub UnitsChanged : Shift → List (Piece UnitState) → List (Piece UnitState) → Type 0
UnitsChanged c xs ys = AllChanged UnitState (UnitChange c) xs ys

pub length-becomes : (r : Role) (c : Shift) (p q : List Cell) → Becomes r c p q → length q ≡ length p
length-becomes fixed c p q h = ap length h
length-becomes (offset table path) c p q h = h.size
length-becomes inline_path c p q h = h.size
length-becomes line_start c p q h = h.size

pub length-bytes_of : (p : List Cell) → length (bytes_of p) ≡ length p
length-bytes_of [] = refl
length-bytes_of (c ∷ cs) = ap suc (length-bytes_of cs)

-- a number of so many bytes stands at the front
pub number-there : (order : Order) (bs : List ℕ) (class : ValueClass) (n : ℕ) (v : Value) → number_value class 0 n (number_at order bs 0 n) ≡ Some v
    → (n ≤ length bs) × (v.size ≡ n)
unfolding number_at
number-there order bs class n v e = by_room (nat_le (0 + n) (length bs)) refl e
  where
    by_room : (b : Bool) → nat_le (0 + n) (length bs) ≡ b → number_value class 0 n (if b then Some (spelled order bs 0 n) else None) ≡ Some v
        → (n ≤ length bs) × (v.size ≡ n)
    by_room true is e = (omega (arith, leb-true _ _ is), cc)
    by_room false is e = absurd cc

abbrev field_at : Order → List ℕ → ValueClass → ℕ → Value
field_at order bs class n = record { class = class; number = spelled order bs 0 n; at = 0; len = n; size = n }

pub number-stands : (order : Order) (bs : List ℕ) (class : ValueClass) (n : ℕ) → n ≤ length bs
    → number_value class 0 n (number_at order bs 0 n) ≡ Some (field_at order bs class n)
unfolding number_at
number-stands order bs class n h = rw (le-leb (0 + n) (length bs) (omega arith)) refl

same-value : (s : UnitState) (x : Spec) (k : ValueKind) (p q : List Cell) → q ≡ p → IsValue s x k p → IsValue s x k q
same-value s x k p q h f = subst (λ (z : List Cell). IsValue s x k z) (sym h) f

before-same : (s : UnitState) (p q : List Cell) → length q ≡ length p → s.place + length p ≤ s.header.end → s.place + length q ≤ s.header.end
before-same s p q e h = subst (λ (n : ℕ). s.place + n ≤ s.header.end) (sym e) h

-- an offset of the same size
offset-value : (s : UnitState) (x : Spec) (table : TextSection) (n : ℕ) (p q : List Cell) → length q ≡ length p
    → IsValue s x (text_offset table n) p → IsValue s x (text_offset table n) q
unfolding value_of
offset-value s x table n p q e f =
    let order : Order = s.header.params.order in
    let there = number-there order (bytes_of p) (offset_class table) n f.value f.is in
    let size : n ≡ length p = sym there.1 ∙ f.size in
    let room : length (bytes_of q) ≡ length p = length-bytes_of q ∙ e in
    record {
      value = field_at order (bytes_of q) (offset_class table) n;
      is = number-stands order (bytes_of q) (offset_class table) n (omega (arith, size, room));
      size = size ∙ sym e;
      before = before-same s p q e f.before;
    }

-- a number of the same size
number-value : (s : UnitState) (x : Spec) (class : ValueClass) (n : ℕ) (p q : List Cell) → length q ≡ length p → IsValue s x (number_of class n) p → IsValue s x (number_of class n) q
unfolding value_of
number-value s x class n p q e f =
    let order : Order = s.header.params.order in
    let there = number-there order (bytes_of p) class n f.value f.is in
    let size : n ≡ length p = sym there.1 ∙ f.size in
    let room : length (bytes_of q) ≡ length p = length-bytes_of q ∙ e in
    record {
      value = field_at order (bytes_of q) class n;
      is = number-stands order (bytes_of q) class n (omega (arith, size, room));
      size = size ∙ sym e;
      before = before-same s p q e f.before;
    }

number-becomes : (b : Bool) (c : Shift) (s : UnitState) (x : Spec) (class : ValueClass) (n : ℕ) (p q : List Cell) → Becomes (if b then line_start else fixed) c p q
    → IsValue s x (number_of class n) p → IsValue s x (number_of class n) q
number-becomes true c s x class n p q h f = number-value s x class n p q h.size f
number-becomes false c s x class n p q h f = same-value s x (number_of class n) p q h f

-- a text in place of a text
inline-value : (b : Bool) (c : Shift) (s : UnitState) (x : Spec) (p q : List Cell) → Becomes (if b then inline_path else fixed) c p q
    → IsValue s x inline_text p → IsValue s x inline_text q
unfolding value_of
inline-value true c s x p q h f = record {
  value = record { class = InlineText; number = 0; at = 0; len = length (text_in (bytes_of q) 0); size = length (text_in (bytes_of q) 0) + 1 };
  is = rw h.ends refl;
  size = h.whole;
  before = before-same s p q h.size f.before;
}
inline-value false c s x p q h f = same-value s x inline_text p q h f

-- a value after the change
value-becomes : (k : ValueKind) (u : AttributeUse) (c : Shift) (s : UnitState) (x : Spec) (p q : List Cell) → Becomes (role_of_kind k u) c p q
    → IsValue s x k p → IsValue s x k q
value-becomes (text_offset table n) u c s x p q h f = offset-value s x table n p q h.size f
value-becomes inline_text u c s x p q h f = inline-value (is_path_use u) c s x p q h f
value-becomes (number_of class n) u c s x p q h f = number-becomes (is_line_start u class n) c s x class n p q h f
value-becomes k u c s x p q h f = same-value s x k p q h f

kind-becomes : (k : ValueKind) (u : AttributeUse) (c : Shift) (s : UnitState) (x : Spec) (p q : List Cell) → Becomes (role_of_kind k u) c p q
    → FitsKind k s x p → FitsKind k s x q
kind-becomes form_in_front u c s x p q h f = subst (λ (z : List Cell). FitsKind form_in_front s x z) (sym h) f
kind-becomes (text_offset table n) u c s x p q h f = offset-value s x table n p q h.size f
kind-becomes inline_text u c s x p q h f = inline-value (is_path_use u) c s x p q h f
kind-becomes (number_of class n) u c s x p q h f = number-becomes (is_line_start u class n) c s x class n p q h f
kind-becomes k u c s x p q h f = subst (λ (z : List Cell). FitsKind k s x z) (sym h) f

fits-becomes : (m : Mode) (base : UnitBase) (c : Shift) (s : UnitState) (p q : List Cell) → Becomes (role_of_mode m s.header.params) c p q
    → FitsMode m base s p → FitsMode m base s q
fits-becomes at_header base c s p q h f = subst (λ (z : List Cell). FitsMode at_header base s z) (sym h) f
fits-becomes at_code base c s p q h f = subst (λ (z : List Cell). FitsMode at_code base s z) (sym h) f
fits-becomes (at_values n tag []) base c s p q h f = absurd f
fits-becomes (at_values n tag (x ∷ xs)) base c s p q h f = kind-becomes (kind_in s.header.params x.form) (use_of n tag x.name) c s x p q h f
fits-becomes (at_chosen n tag start x xs) base c s p q h f = value-becomes (kind_in s.header.params x.form) (use_of n tag x.name) c s x p q h f
fits-becomes stuck base c s p q h f = absurd f

-- what comes after a value
after-becomes : (k : ValueKind) (u : AttributeUse) (c : Shift) (s : UnitState) (n tag : ℕ) (x : Spec) (xs : List Spec) (p q : List Cell)
    → Becomes (role_of_kind k u) c p q
    → after_value k s (s.place + length q) (code_value q) n tag x xs ≡ after_value k s (s.place + length p) (code_value p) n tag x xs
after-becomes form_in_front u c s n tag x xs p q h =
    ap (λ (z : List Cell). after_value form_in_front s (s.place + length z) (code_value z) n tag x xs) h
after-becomes k u c s n tag x xs p q h = ap (λ (m : ℕ). inside s (s.place + m) s.entry s.depth n tag xs) (length-becomes (role_of_kind k u) c p q h)

next-becomes : (m : Mode) (base : UnitBase) (c : Shift) (s : UnitState) (p q : List Cell) → Becomes (role_of_mode m s.header.params) c p q
    → past m base s q ≡ past m base s p
next-becomes at_header base c s p q h = ap (past at_header base s) h
next-becomes at_code base c s p q h = ap (past at_code base s) h
next-becomes (at_values n tag []) base c s p q h = refl
next-becomes (at_values n tag (x ∷ xs)) base c s p q h = after-becomes (kind_in s.header.params x.form) (use_of n tag x.name) c s n tag x xs p q h
next-becomes (at_chosen n tag start x xs) base c s p q h =
    ap (λ (m : ℕ). inside s (s.place + m) s.entry s.depth n tag xs)
    (length-becomes (role_of_kind (kind_in s.header.params x.form) (use_of n tag x.name)) c p q h)
next-becomes stuck base c s p q h = refl

-- units don't see the change
pub units_preserve : (base : UnitBase) (c : Shift) → Preserves (unit_grammar base) (UnitChange c)
units_preserve base c = record {
  fits = λ (s : UnitState) (p q : List Cell) h f. fits-becomes s.mode base c s p q h.0 f;
  next = λ (s : UnitState) (p q : List Cell) h f. next-becomes s.mode base c s p q h.0;
}
