-- Each offset of a text in a value names a text, and each path that stands in its value fits its room, or a condition holds (DWARF 5, 7.5.5).
use Rattle.std.specs.Bool.{⊤}
use Rattle.std.specs.Prelude.{ℤ}
use Rattle.std.proofs.Common.{Bool, true, false, ◌≡◌, ◌⊎◌, inl, inr, ℕ, ◌+◌, ◌≤◌, ◌==◌, if◌then◌else◌, List, [], ◌∷◌, length, take, drop, Option, Some, None, IsTrue, refl, sym, ap, ◌∙◌, subst}
use Rattle.std.proofs.lemmas.Bool.{cases_Bool}
use Rattle.std.proofs.lemmas.List.{take-append-drop}
use Rattle.dw_base.specs.AbbreviationTables.{Abbreviation}
use Rattle.dw_base.specs.Cells.{Cell, bytes_of, cells_at, field_of, is_placed, offset_of}
use Rattle.dw_base.specs.DebugData.{Around, DataReadings, DebugData, around_of, table_of}
use Rattle.dw_base.specs.EntryValues.{HasTable, HasValue, bytes_up_to}
use Rattle.dw_base.specs.Forms.{ValueKind, block_of, counted, counted_leb, form_in_front, in_abbreviation, inline_text, kind_in, leb_number, number_of, present, signed_leb, supplementary, text_offset, unlisted}
use Rattle.dw_base.specs.InlinePaths.{inline_fits}
use Rattle.dw_base.specs.Numbers.{number_at}
use Rattle.dw_base.specs.Paths.{PathMap}
use Rattle.dw_base.specs.Readings.{EachReading}
use Rattle.dw_base.specs.Refusals.{at}
use Rattle.dw_base.specs.Roles.{Role, fixed, inline_path, is_line_start, is_macros, is_path, is_path_use, line_start, offset, role_of, role_of_kind, use_of}
use Rattle.dw_base.specs.TextChanges.{InlineFits, InlineFitsBy, offset_in}
use Rattle.dw_base.specs.Texts.{ends_in, has_nul, text, text_in}
use Rattle.dw_base.specs.UnitHeaders.{UnitSection}
use Rattle.dw_base.specs.Values.{number_value, offset_class, value_at, value_of}
use Rattle.dw_base.specs.declared.dwarf_numbers.TheConstants.{DW_AT_stmt_list}
use Rattle.dw_base.specs.declared.fault.Kind.TheVariants.{InlineGrows, StringOffset}
use Rattle.dw_base.specs.declared.fault.Refusal.{Refusal}
use Rattle.dw_base.specs.declared.shared.Order.{Order}
use Rattle.dw_base.specs.declared.texts.TextSection.{TextSection}
use Rattle.dw_base.specs.declared.texts.TextSection.TheVariants.{InLineStr, InStr}
use Rattle.dw_base.specs.declared.units.UnitHeader.{UnitHeader}
use Rattle.dw_base.specs.declared.values.AttributeUse.{AttributeUse}
use Rattle.dw_base.specs.declared.values.AttributeUse.TheVariants.{NamesLineTable, NamesMacroUnit, NamesOther, NamesPath}
use Rattle.dw_base.specs.declared.values.Spec.{Spec}
use Rattle.dw_base.specs.declared.values.Value.{Value}
use Rattle.dw_base.specs.declared.values.ValueClass.{ValueClass}
use Rattle.dw_base.specs.declared.values.ValueClass.TheVariants.{InlineText}
use Rattle.dw_base.proofs.FormLaws.{value_by-own}
use Rattle.dw_base.proofs.TextLaws.{text-append}
use Rattle.dw_meaning.specs.DataFails.{InlineFails, TextFails, grows, no_text, text_table}
use Rattle.dw_meaning.proofs.ScanPieceLaws.{Chosen, before-end, chosen-read, is_front, part-bytes}
use Rattle.dw_meaning.proofs.ValueCutLaws.{IsCut, value_of-own}
use Rattle.dw_meaning.proofs.ValueRowLaws.{offset-parts}
use Rattle.refusal_laws.specs.Decided.{Decided, refused, taken}
use Rattle.refusal_laws.specs.Readable.{ArePieces}
use Rattle.refusal_laws.proofs.Decisions.{clash}
use Rattle.refusal_laws.proofs.ListDecisions.{Each}
use Rattle.refusal_laws.proofs.ValueWalk.{EveryValue, Stand, chosen-stand, own-stand, value_stands, values-decided}

-- ### The cells of a value, of its own form or behind one

-- something is decided of the role and cells of a value of a kind, read at a field
abbrev OneKind : (Role → List Cell → Type 0) → (Refusal → Type 0) → UnitSection → UnitHeader → AttributeUse → Value → ℤ → Type 0
OneKind Q F z h u v i =
    (k : ValueKind) (field : ℕ) (w : Value) → value_of k h.params.order (bytes_up_to z h) field i ≡ Some w → w.class ≡ v.class → w.at ≡ v.at → w.len ≡ v.len
    → Decided (Q (role_of_kind k u) (take w.size (drop field z.contents))) F

abbrev Holding : (Role → List Cell → Type 0) → Stand → Type 0
Holding Q x = Q x.role x.cells

alone : (Q : Role → List Cell → Type 0) (F : Refusal → Type 0) (role : Role) (p : List Cell) → Decided (Q role p) F → Decided (Each (Holding Q) (record { role = role; cells = p } ∷ [])) F
alone Q F role p (refused r f) = refused r f
alone Q F role p (taken h) = taken (h, tt)

by-kind : (Q : Role → List Cell → Type 0) (F : Refusal → Type 0) (z : UnitSection) (h : UnitHeader) (number tag : ℕ) (x : Spec) (place : ℕ) (v : Value)
    → value_at h.params x (bytes_up_to z h) place ≡ Some v → OneKind Q F z h (use_of number tag x.name) v x.implicit
    → Decided (Each (Holding Q) (value_stands h.params (bytes_up_to z h) z.contents number tag x place v)) F
unfolding value_at
by-kind Q F z h number tag x place v is one = by_front (is_front (kind_in h.params x.form))
  where
    by_front : (kind_in h.params x.form ≡ form_in_front) ⊎ (kind_in h.params x.form ≡ form_in_front → ⊥)
        → Decided (Each (Holding Q) (value_stands h.params (bytes_up_to z h) z.contents number tag x place v)) F
    by_front (inr other) =
        let own : value_of (kind_in h.params x.form) h.params.order (bytes_up_to z h) place x.implicit ≡ Some v =
        sym (value_by-own (kind_in h.params x.form) h.params x (bytes_up_to z h) place other) ∙ is in
        subst (λ (xs : List Stand). Decided (Each (Holding Q) xs) F) (own-stand (kind_in h.params x.form) h.params (bytes_up_to z h) z.contents (use_of number tag x.name) place v other)
        (alone Q F (role_of_kind (kind_in h.params x.form) (use_of number tag x.name)) (take v.size (drop place z.contents))
        (one (kind_in h.params x.form) place v own refl refl refl))
    by_front (inl front) =
        let c : Chosen h.params x (bytes_up_to z h) place v = chosen-read h.params x (bytes_up_to z h) place v front is in
        subst (λ (xs : List Stand). Decided (Each (Holding Q) xs) F) (chosen-stand h.params x (bytes_up_to z h) z.contents (use_of number tag x.name) place v front c)
        (alone Q F (role_of_kind (kind_in h.params c.form) (use_of number tag x.name)) (take c.value.size (drop (place + c.size) z.contents))
        (one (kind_in h.params c.form) (place + c.size) c.value c.is (sym c.class_is) (sym c.at_is) (sym c.len_is)))

-- ### Texts

-- an offset of a text that is placed names one
abbrev pub TextThere : Around → Role → List Cell → Type 0
TextThere around (offset table path) p =
    is_placed (field_of around.lasting.base.order p) ≡ true → IsTrue (ends_in (table_of around table).bytes (offset_in around table p))
TextThere around r p = ⊤

number-class : (class : ValueClass) (at n : ℕ) (o : Option ℕ) (v : Value) → number_value class at n o ≡ Some v → v.class ≡ class
number-class class at n None v e = absurd cc
number-class class at n (Some x) v e =
    let same : record { class = class; number = x; at = at; len = n; size = n } ≡ v = once _ v e in
    sym (ap (λ (w : Value). w.class) same)
  where
    once : (w v : Value) → Some w ≡ Some v → w ≡ v
    once w v e = cc

offset-class : (table : TextSection) (n : ℕ) (order : Order) (bytes : List ℕ) (at : ℕ) (i : ℤ) (v : Value) → value_of (text_offset table n) order bytes at i ≡ Some v
    → v.class ≡ offset_class table
unfolding value_of
offset-class table n order bytes at i v e = number-class (offset_class table) at n (number_at order bytes at n) v e

table-is : (d : DebugData) (r : DataReadings) (table : TextSection) (c : ValueClass) → c ≡ offset_class table → text_table d c ≡ Some (table_of (around_of d r) table)
table-is d r InStr c e = ap (text_table d) e
table-is d r InLineStr c e = ap (text_table d) e

text-known : (d : DebugData) (r : DataReadings) (z : UnitSection) (h : UnitHeader) (list : List Abbreviation) (number : ℕ) (a : Abbreviation) (x : Spec) (place : ℕ) (v : Value)
    (table : TextSection) (path : Bool) (p : List Cell) → HasTable d z h list → HasValue h list (bytes_up_to z h) number a x place v → v.class ≡ offset_class table
    → p ≡ cells_at z.contents v.at v.len → Decided (TextThere (around_of d r) (offset table path) p) (TextFails d)
text-known d r z h list number a x place v table path p t y class cells =
    by (cases_Bool (is_placed (field_of d.base.order p)))
    (cases_Bool (ends_in (table_of (around_of d r) table).bytes (offset_in (around_of d r) table p)))
  where
    by : (is_placed (field_of d.base.order p) ≡ true) ⊎ (is_placed (field_of d.base.order p) ≡ false)
        → (ends_in (table_of (around_of d r) table).bytes (offset_in (around_of d r) table p) ≡ true)
        ⊎ (ends_in (table_of (around_of d r) table).bytes (offset_in (around_of d r) table p) ≡ false)
        → Decided (TextThere (around_of d r) (offset table path) p) (TextFails d)
    by placed (inl ends) = taken (λ is. ends)
    by (inr nowhere) (inr none) = taken (λ is. absurd (clash is nowhere))
    by (inl placed) (inr none) =
        refused (at StringOffset z.number v.at)
        (no_text z h list number a x place v (table_of (around_of d r) table) t y (table-is d r table v.class class)
        (subst (λ (q : List Cell). is_placed (field_of d.base.order q) ≡ true) cells placed)
        (subst (λ (q : List Cell). ends_in (table_of (around_of d r) table).bytes (offset_of d.base.order (table_of (around_of d r) table) q) ≡ false) cells none))

-- a role that is none of an offset
fixed-or : (around : Around) (b : Bool) (r : Role) (p : List Cell) → TextThere around r p → TextThere around (if b then r else fixed) p
fixed-or around true r p h = h
fixed-or around false r p h = tt

text-kind : (k : ValueKind) (u : AttributeUse) (d : DebugData) (r : DataReadings) (z : UnitSection) (h : UnitHeader) (list : List Abbreviation) (number : ℕ) (a : Abbreviation) (x : Spec)
    (place : ℕ) (v : Value) (i : ℤ) (field : ℕ) (w : Value) → HasTable d z h list → HasValue h list (bytes_up_to z h) number a x place v
    → value_of k h.params.order (bytes_up_to z h) field i ≡ Some w → w.class ≡ v.class → w.at ≡ v.at → w.len ≡ v.len
    → Decided (TextThere (around_of d r) (role_of_kind k u) (take w.size (drop field z.contents))) (TextFails d)
text-kind (text_offset table n) u d r z h list number a x place v i field w t y is class place_is len =
    let parts = offset-parts table n h.params.order (bytes_up_to z h) field i w is in
    text-known d r z h list number a x place v table (is_path_use u) (take w.size (drop field z.contents)) t y
    (sym class ∙ offset-class table n h.params.order (bytes_up_to z h) field i w is)
    (ap (λ (m : ℕ). take m (drop field z.contents)) (sym parts.1 ∙ len) ∙ ap (λ (m : ℕ). take v.len (drop m z.contents)) (sym parts.0 ∙ place_is))
text-kind (number_of c n) u d r z h list number a x place v i field w t y is class place_is len =
    taken (fixed-or (around_of d r) (is_line_start u c n) line_start (take w.size (drop field z.contents)) tt)
text-kind inline_text u d r z h list number a x place v i field w t y is class place_is len =
    taken (fixed-or (around_of d r) (is_path_use u) inline_path (take w.size (drop field z.contents)) tt)
text-kind (leb_number c) u d r z h list number a x place v i field w t y is class place_is len = taken tt
text-kind signed_leb u d r z h list number a x place v i field w t y is class place_is len = taken tt
text-kind (block_of n) u d r z h list number a x place v i field w t y is class place_is len = taken tt
text-kind (counted n) u d r z h list number a x place v i field w t y is class place_is len = taken tt
text-kind counted_leb u d r z h list number a x place v i field w t y is class place_is len = taken tt
text-kind present u d r z h list number a x place v i field w t y is class place_is len = taken tt
text-kind in_abbreviation u d r z h list number a x place v i field w t y is class place_is len = taken tt
text-kind form_in_front u d r z h list number a x place v i field w t y is class place_is len = taken tt
text-kind supplementary u d r z h list number a x place v i field w t y is class place_is len = taken tt
text-kind unlisted u d r z h list number a x place v i field w t y is class place_is len = taken tt

every-text : (d : DebugData) (r : DataReadings) → EveryValue (TextThere (around_of d r)) (TextFails d) d
every-text d r z h list t number a x place v y =
    by-kind (TextThere (around_of d r)) (TextFails d) z h number a.tag x place v y.is
    (λ k field w is class place_is len. text-kind k (use_of number a.tag x.name) d r z h list number a x place v x.implicit field w t y is class place_is len)

pub texts-decided : (d : DebugData) (r : DataReadings) → ArePieces d r → Decided (EachReading (λ x. TextThere (around_of d r) (role_of x) x.cells) r.units) (TextFails d)
texts-decided d r p = values-decided (TextThere (around_of d r)) (TextFails d) d r.units (λ q. tt) (every-text d r) p.units

-- ### Paths that stand in their values

record InlineParts (bytes : List ℕ) (at : ℕ) (v : Value) : Type 0 where
  class : v.class ≡ InlineText
  place : v.at ≡ at

inline-parts : (order : Order) (bytes : List ℕ) (at : ℕ) (i : ℤ) (v : Value) → value_of inline_text order bytes at i ≡ Some v → InlineParts bytes at v
unfolding value_of
inline-parts order bytes at i v e = by_end (ends_in bytes at) e
  where
    once : (w v : Value) → Some w ≡ Some v → w ≡ v
    once w v e = cc

    by_end : (b : Bool) → (if b then Some (record { class = InlineText; number = 0; at = at; len = length (text_in bytes at); size = length (text_in bytes at) + 1 }) else None) ≡ Some v
        → InlineParts bytes at v
    by_end true e = record { class = sym (ap (λ (w : Value). w.class) (once _ v e)); place = sym (ap (λ (w : Value). w.at) (once _ v e)) }
    by_end false e = absurd cc

ends-there : (order : Order) (bs : List ℕ) (i : ℤ) (v : Value) → value_of inline_text order bs 0 i ≡ Some v → has_nul bs ≡ true
unfolding value_of ends_in
ends-there order bs i v e = by_end (has_nul bs) e
  where
    by_end : (b : Bool) → (if b then Some (record { class = InlineText; number = 0; at = 0; len = length (text_in bs 0); size = length (text_in bs 0) + 1 }) else None) ≡ Some v → b ≡ true
    by_end true e = refl
    by_end false e = absurd cc

text-there : (order : Order) (cells : List Cell) (end at : ℕ) (i : ℤ) (v : Value) → value_of inline_text order (take end (bytes_of cells)) at i ≡ Some v
    → text (bytes_of (take v.size (drop at cells))) ≡ text_in (take end (bytes_of cells)) at
unfolding text_in
text-there order cells end at i v e =
    let c : IsCut inline_text order (take end (bytes_of cells)) at i v.size = value_of-own inline_text order (take end (bytes_of cells)) at i v e in
    let within : at + v.size ≤ end = before-end (at + v.size) end (bytes_of cells) c.inside in
    let nul : has_nul (take v.size (drop at (take end (bytes_of cells)))) ≡ true = ends-there order (take v.size (drop at (take end (bytes_of cells)))) i c.value c.is in
    ap text (sym (part-bytes v.size at end cells within))
    ∙ sym (text-append (take v.size (drop at (take end (bytes_of cells)))) (drop v.size (drop at (take end (bytes_of cells)))) nul)
    ∙ ap text (take-append-drop v.size (drop at (take end (bytes_of cells))))

path-of : (number tag name : ℕ) → is_path_use (use_of number tag name) ≡ true → is_path number tag name ≡ true
path-of number tag name e = by (is_path number tag name) (name == DW_AT_stmt_list) (is_macros name) e
  where
    by : (p l m : Bool) → is_path_use (if p then NamesPath else (if l then NamesLineTable else (if m then NamesMacroUnit else NamesOther))) ≡ true → p ≡ true
    by true l m e = refl
    by false true m e = absurd cc
    by false false true e = absurd cc
    by false false false e = absurd cc

inline-known : (m : PathMap) (d : DebugData) (z : UnitSection) (h : UnitHeader) (list : List Abbreviation) (number : ℕ) (a : Abbreviation) (x : Spec) (place : ℕ) (v : Value) (i : ℤ)
    (field : ℕ) (w : Value) → HasTable d z h list → HasValue h list (bytes_up_to z h) number a x place v → value_of inline_text h.params.order (bytes_up_to z h) field i ≡ Some w
    → w.class ≡ v.class → w.at ≡ v.at
    → Decided (InlineFitsBy (role_of_kind inline_text (use_of number a.tag x.name)) m (take w.size (drop field z.contents))) (InlineFails m d)
inline-known m d z h list number a x place v i field w t y is class place_is = by (is_path_use (use_of number a.tag x.name)) refl
  where
    parts : InlineParts (bytes_up_to z h) field w
    parts = inline-parts h.params.order (bytes_up_to z h) field i w is

    words : text (bytes_of (take w.size (drop field z.contents))) ≡ text_in (bytes_up_to z h) v.at
    words = text-there h.params.order z.contents h.end field i w is ∙ ap (text_in (bytes_up_to z h)) (sym parts.place ∙ place_is)

    by_room : is_path_use (use_of number a.tag x.name) ≡ true
        → (inline_fits m (text (bytes_of (take w.size (drop field z.contents)))) ≡ true) ⊎ (inline_fits m (text (bytes_of (take w.size (drop field z.contents)))) ≡ false)
        → Decided (InlineFitsBy inline_path m (take w.size (drop field z.contents))) (InlineFails m d)
    by_room path (inl fits) = taken fits
    by_room path (inr over) =
        refused (at InlineGrows z.number v.at)
        (grows z h list number a x place v t y (path-of number a.tag x.name path) (sym class ∙ parts.class) (ap (inline_fits m) (sym words) ∙ over))

    by : (b : Bool) → is_path_use (use_of number a.tag x.name) ≡ b
        → Decided (InlineFitsBy (if b then inline_path else fixed) m (take w.size (drop field z.contents))) (InlineFails m d)
    by false e = taken tt
    by true e = by_room e (cases_Bool (inline_fits m (text (bytes_of (take w.size (drop field z.contents))))))

start-fits : (m : PathMap) (b : Bool) (p : List Cell) → InlineFitsBy (if b then line_start else fixed) m p
start-fits m true p = tt
start-fits m false p = tt

inline-kind : (k : ValueKind) (m : PathMap) (d : DebugData) (z : UnitSection) (h : UnitHeader) (list : List Abbreviation) (number : ℕ) (a : Abbreviation) (x : Spec) (place : ℕ) (v : Value)
    (i : ℤ) (field : ℕ) (w : Value) → HasTable d z h list → HasValue h list (bytes_up_to z h) number a x place v → value_of k h.params.order (bytes_up_to z h) field i ≡ Some w
    → w.class ≡ v.class → w.at ≡ v.at → Decided (InlineFitsBy (role_of_kind k (use_of number a.tag x.name)) m (take w.size (drop field z.contents))) (InlineFails m d)
inline-kind inline_text m d z h list number a x place v i field w t y is class place_is = inline-known m d z h list number a x place v i field w t y is class place_is
inline-kind (number_of c n) m d z h list number a x place v i field w t y is class place_is =
    taken (start-fits m (is_line_start (use_of number a.tag x.name) c n) (take w.size (drop field z.contents)))
inline-kind (text_offset table n) m d z h list number a x place v i field w t y is class place_is = taken tt
inline-kind (leb_number c) m d z h list number a x place v i field w t y is class place_is = taken tt
inline-kind signed_leb m d z h list number a x place v i field w t y is class place_is = taken tt
inline-kind (block_of n) m d z h list number a x place v i field w t y is class place_is = taken tt
inline-kind (counted n) m d z h list number a x place v i field w t y is class place_is = taken tt
inline-kind counted_leb m d z h list number a x place v i field w t y is class place_is = taken tt
inline-kind present m d z h list number a x place v i field w t y is class place_is = taken tt
inline-kind in_abbreviation m d z h list number a x place v i field w t y is class place_is = taken tt
inline-kind form_in_front m d z h list number a x place v i field w t y is class place_is = taken tt
inline-kind supplementary m d z h list number a x place v i field w t y is class place_is = taken tt
inline-kind unlisted m d z h list number a x place v i field w t y is class place_is = taken tt

-- whether a path fits its room is asked of a role and cells
abbrev RoomThere : PathMap → Role → List Cell → Type 0
RoomThere m r p = InlineFitsBy r m p

every-path : (m : PathMap) (d : DebugData) → EveryValue (RoomThere m) (InlineFails m d) d
every-path m d z h list t number a x place v y =
    by-kind (RoomThere m) (InlineFails m d) z h number a.tag x place v y.is
    (λ k field w is class place_is len. inline-kind k m d z h list number a x place v x.implicit field w t y is class place_is)

pub inline-decided : (m : PathMap) (d : DebugData) (r : DataReadings) → ArePieces d r → Decided (EachReading (InlineFits m) r.units) (InlineFails m d)
inline-decided m d r p = values-decided (RoomThere m) (InlineFails m d) d r.units (λ q. tt) (every-path m d) p.units
