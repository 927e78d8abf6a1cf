-- The meaning law: units whose texts are moved and mapped mean the mapped meaning.
use Rattle.std.proofs.Common.{Bool, true, false, IsTrue, sym, ◌≡◌, ℕ, List, [], ◌∷◌, length, ap, ◌∙◌, refl}
use Rattle.std.specs.Prelude.{◌==◌, ◌&&◌, ◌+◌, if◌then◌else◌, Option, Some, None}
use Rattle.dw_base.specs.AbbreviationTables.{Abbreviation, abbreviation_of}
use Rattle.dw_base.specs.Cells.{Cell, bytes_of, field_of, offset_of}
use Rattle.dw_base.specs.LineMeanings.{is_there}
use Rattle.dw_base.specs.DebugData.{Lasting, EntryPlace, line_table, macro_unit, table_of}
use Rattle.dw_base.specs.Forests.{AttributeMeaning, Forest, no_entries, entry, Mark, begins, opens, attribute, null, no_mark, followed_by, all_entries, innermost, outer, with_entry}
use Rattle.dw_base.specs.Forms.{ValueKind, number_of, leb_number, inline_text, text_offset, form_in_front, kind_in}
use Rattle.dw_base.specs.MappedUnits.{mapped_value, mapped_attribute, mapped_attributes, mapped_forest, mapped_units}
use Rattle.dw_base.specs.Paths.{PathMap}
use Rattle.dw_base.specs.Pieces.{Piece}
use Rattle.dw_base.specs.Roles.{fixed, inline_path, line_start, is_line_start, is_macro_start, role_of_kind, role_of_mode, is_path_use, use_of}
use Rattle.dw_base.specs.StringTables.{new_text}
use Rattle.dw_base.specs.TextChanges.{offset_in}
use Rattle.dw_base.specs.Numbers.{spelled}
use Rattle.dw_base.specs.TextIndexes.{slot_of}
use Rattle.dw_base.specs.Texts.{text, text_in}
use Rattle.dw_base.specs.UnitMeanings.{head_mark, entry_mark, code_mark, value_mark, mark_by, mark_of, Following, with_mark, following, unit_meanings}
use Rattle.dw_base.specs.UnitStates.{Mode, at_header, at_code, at_values, at_chosen, stuck, UnitState, code_value, piece_header}
use Rattle.dw_base.specs.ValueMeanings.{ValueMeaning, string, entry_of, stray, inline, by_offset, found_entry, first_of, global_entry, local_entry, meaning_of_number, meaning_of_leb, by_slot, indexed, number_meaning, leb_meaning, meaning_of_value, line_meaning, table_named, unit_meant, macro_meaning, plain_meaning}
use Rattle.dw_base.specs.TextIndexes.{holds_number}
use Rattle.dw_base.specs.declared.units.UnitHeader.{UnitHeader}
use Rattle.dw_base.specs.declared.values.Spec.{Spec}
use Rattle.dw_base.specs.declared.values.ValueClass.{ValueClass}
use Rattle.dw_base.specs.declared.values.ValueClass.TheVariants.{Address, LocalRef, GlobalRef, StrIndex}
use Rattle.dw_base.specs.declared.view_fields.Field.{Field}
use Rattle.dw_base.specs.declared.view_fields.Field.TheVariants.{Num, Into, Sym}
use Rattle.dw_base.proofs.UnitEditLaws.{Shift, Restarted, Becomes, SlotBecomes, ValueSlot, PieceSlot, UnitsChanged}
use Rattle.dw_base.specs.declared.debug_sections.DebugSection.TheVariants.{Info, StrOffsets, Line}
use Rattle.dw_base.specs.declared.values.AttributeUse.{AttributeUse}

abbrev mapped_mark : PathMap → Mark → Mark
mapped_mark m (attribute a) = attribute (mapped_attribute m a)
mapped_mark m k = k

text-meaning : (m : PathMap) (path : Bool) (t u : List ℕ) → u ≡ new_text m (record { path = path; text = t })
    → string path by_offset u ≡ mapped_value m (string path by_offset t)
text-meaning m true t u h = ap (string true by_offset) h
text-meaning m false t u h = ap (string false by_offset) h

-- what isn't a string is as it was
found-mapped : (m : PathMap) (es : List EntryPlace) (section place n : ℕ) → found_entry es section place n ≡ mapped_value m (found_entry es section place n)
found-mapped m [] section place n = refl
found-mapped m (e ∷ es) section place n = by_here (e.section == section && e.place == place) (found-mapped m es section place n)
  where
    by_here : (b : Bool) → found_entry es section place n ≡ mapped_value m (found_entry es section place n)
        → (if b then entry_of e.unit e.number else found_entry es section place n)
        ≡ mapped_value m (if b then entry_of e.unit e.number else found_entry es section place n)
    by_here true h = refl
    by_here false h = h

global-mapped : (m : PathMap) (g : Lasting) (f : Field) → global_entry g f ≡ mapped_value m (global_entry g f)
global-mapped m g (Num n) = found-mapped m (g.kept Info).entries (first_of (g.kept Info).infos) n n
global-mapped m g (Sym s k d) = refl
global-mapped m g (Into z n) = by_info (holds_number (g.kept Info).infos z)
  where
    by_info : (b : Bool) → (if b then found_entry (g.kept Info).entries z n n else stray n) ≡ mapped_value m (if b then found_entry (g.kept Info).entries z n n else stray n)
    by_info true = found-mapped m (g.kept Info).entries z n n
    by_info false = refl

local-mapped : (m : PathMap) (g : Lasting) (s : UnitState) (n : ℕ) → local_entry g s n ≡ mapped_value m (local_entry g s n)
local-mapped m g s n = found-mapped m (g.kept Info).entries s.section (s.header.start + n) n

number-mapped : (m : PathMap) (g : Lasting) (s : UnitState) (class : ValueClass) (p : List Cell)
    → meaning_of_number g s class p ≡ mapped_value m (meaning_of_number g s class p)
number-mapped m g s Address p = refl
number-mapped m g s LocalRef p = local-mapped m g s (spelled g.base.order (bytes_of p) 0 (length p))
number-mapped m g s GlobalRef p = global-mapped m g (field_of g.base.order p)
number-mapped m g s class p = refl

leb-mapped : (m : PathMap) (g : Lasting) (s : UnitState) (class : ValueClass) (n : ℕ) → meaning_of_leb g s class n ≡ mapped_value m (meaning_of_leb g s class n)
leb-mapped m g s LocalRef n = local-mapped m g s n
leb-mapped m g s class n = refl

inline-changed : (b : Bool) (c : Shift) (p q : List Cell) → Becomes (if b then inline_path else fixed) c p q
    → string b inline (text (bytes_of q)) ≡ mapped_value c.map (string b inline (text (bytes_of p)))
inline-changed true c p q h = ap (string true inline) h.says
inline-changed false c p q h = ap (λ (z : List Cell). string false inline (text (bytes_of z))) h

number-changed : (c : Shift) (s : UnitState) (class : ValueClass) (p q : List Cell) → q ≡ p
    → meaning_of_number c.new.lasting s class q ≡ mapped_value c.map (meaning_of_number c.old.lasting s class p)
number-changed c s class p q h =
    ap (λ (g : Lasting). meaning_of_number g s class q) c.lasting
    ∙ ap (λ (z : List Cell). meaning_of_number c.old.lasting s class z) h
    ∙ number-mapped c.map c.old.lasting s class p

leb-changed : (c : Shift) (s : UnitState) (class : ValueClass) (p q : List Cell) → q ≡ p
    → meaning_of_leb c.new.lasting s class (code_value q) ≡ mapped_value c.map (meaning_of_leb c.old.lasting s class (code_value p))
leb-changed c s class p q h =
    ap (λ (g : Lasting). meaning_of_leb g s class (code_value q)) c.lasting
    ∙ ap (λ (z : List Cell). meaning_of_leb c.old.lasting s class (code_value z)) h
    ∙ leb-mapped c.map c.old.lasting s class (code_value p)

-- a text by index is that of its slot, with the same number
indexed-changed : (o : Option ℕ) (path : Bool) (c : Shift) (p : List Cell) → SlotBecomes o path c
    → indexed (c.new.stands StrOffsets) path o p ≡ mapped_value c.map (indexed (c.old.stands StrOffsets) path o p)
indexed-changed None path c p i = refl
indexed-changed (Some n) true c p i = ap (string true (by_slot n)) i
indexed-changed (Some n) false c p i = ap (string false (by_slot n)) i

number-means : (class : ValueClass) (n : ℕ) (u : AttributeUse) (c : Shift) (s : UnitState) (p q : List Cell) → q ≡ p → ValueSlot (number_of class n) (is_path_use u) c s.unit p
    → number_meaning c.new s u class q ≡ mapped_value c.map (number_meaning c.old s u class p)
number-means StrIndex n u c s p q h i =
    ap (λ (g : Lasting). indexed (c.new.stands StrOffsets) (is_path_use u) (slot_of (g.kept StrOffsets) s.unit (spelled g.base.order (bytes_of q) 0 (length q))) q) c.lasting
    ∙ ap (λ (z : List Cell). indexed (c.new.stands StrOffsets) (is_path_use u) (slot_of (c.old.lasting.kept StrOffsets) s.unit (spelled c.old.lasting.base.order (bytes_of z) 0 (length z))) z) h
    ∙ indexed-changed (slot_of (c.old.lasting.kept StrOffsets) s.unit (spelled c.old.lasting.base.order (bytes_of p) 0 (length p))) (is_path_use u) c p i
number-means class n u c s p q h i = number-changed c s class p q h

leb-means : (class : ValueClass) (u : AttributeUse) (c : Shift) (s : UnitState) (p q : List Cell) → q ≡ p → ValueSlot (leb_number class) (is_path_use u) c s.unit p
    → leb_meaning c.new s u class q ≡ mapped_value c.map (leb_meaning c.old s u class p)
leb-means StrIndex u c s p q h i =
    ap (λ (g : Lasting). indexed (c.new.stands StrOffsets) (is_path_use u) (slot_of (g.kept StrOffsets) s.unit (code_value q)) q) c.lasting
    ∙ ap (λ (z : List Cell). indexed (c.new.stands StrOffsets) (is_path_use u) (slot_of (c.old.lasting.kept StrOffsets) s.unit (code_value z)) z) h
    ∙ indexed-changed (slot_of (c.old.lasting.kept StrOffsets) s.unit (code_value p)) (is_path_use u) c p i
leb-means class u c s p q h i = leb-changed c s class p q h

-- a line table is that of the same number
line-means : (c : Shift) (p q : List Cell) → Restarted c p q → line_meaning c.new q ≡ mapped_value c.map (line_meaning c.old p)
line-means c p q h = by_table (line_table c.new q) refl h.names
  where
    by_table : (o : Option ℕ) → line_table c.new q ≡ o → IsTrue (is_there o) → line_meaning c.new q ≡ mapped_value c.map (line_meaning c.old p)
    by_table None e some = absurd cc
    by_table (Some k) e some =
        ap (λ (o : Option ℕ). table_named o (offset_of c.new.lasting.base.order (c.new.stands Line).located q)) e
        ∙ sym (ap (λ (o : Option ℕ). mapped_value c.map (table_named o (offset_of c.old.lasting.base.order (c.old.stands Line).located p))) (sym h.says ∙ e))

-- and so is a macro unit: its start stays
unit-mapped : (m : PathMap) (o : Option ℕ) (f : Field) → unit_meant o f ≡ mapped_value m (unit_meant o f)
unit-mapped m None f = refl
unit-mapped m (Some k) f = refl

plain-means : (class : ValueClass) (n : ℕ) (u : AttributeUse) (c : Shift) (s : UnitState) (p q : List Cell) → q ≡ p → ValueSlot (number_of class n) (is_path_use u) c s.unit p
    → plain_meaning c.new s u class n q ≡ mapped_value c.map (plain_meaning c.old s u class n p)
plain-means class n u c s p q h i = by_unit (is_macro_start u class n)
  where
    by_unit : (b : Bool) → (if b then macro_meaning c.new.lasting q else number_meaning c.new s u class q)
        ≡ mapped_value c.map (if b then macro_meaning c.old.lasting p else number_meaning c.old s u class p)
    by_unit true =
        ap (λ (g : Lasting). macro_meaning g q) c.lasting ∙ ap (macro_meaning c.old.lasting) h
        ∙ unit-mapped c.map (macro_unit c.old.lasting p) (field_of c.old.lasting.base.order p)
    by_unit false = number-means class n u c s p q h i

-- what a value means after the change: a further form is a clause here
value-changed : (k : ValueKind) (u : AttributeUse) (x : Spec) (c : Shift) (s : UnitState) (p q : List Cell) → Becomes (role_of_kind k u) c p q
    → ValueSlot k (is_path_use u) c s.unit p → meaning_of_value c.new s u x k q ≡ mapped_value c.map (meaning_of_value c.old s u x k p)
value-changed (text_offset table n) u x c s p q h i =
    text-meaning c.map (is_path_use u) (text_in (table_of c.old table).bytes (offset_in c.old table p))
    (text_in (table_of c.new table).bytes (offset_in c.new table q)) h.says
value-changed inline_text u x c s p q h i = inline-changed (is_path_use u) c p q h
value-changed (number_of class n) u x c s p q h i = by_start (is_line_start u class n) h
  where
    by_start : (b : Bool) → Becomes (if b then line_start else fixed) c p q
        → (if b then line_meaning c.new q else plain_meaning c.new s u class n q) ≡ mapped_value c.map (if b then line_meaning c.old p else plain_meaning c.old s u class n p)
    by_start true h = line-means c p q h
    by_start false h = plain-means class n u c s p q h i
value-changed (leb_number class) u x c s p q h i = leb-means class u c s p q h i
value-changed k u x c s p q h i = ap (λ (z : List Cell). meaning_of_value c.old s u x k z) h

-- marks of entries have no text
entry_mark-mapped : (m : PathMap) (a : Option Abbreviation) → entry_mark a ≡ mapped_mark m (entry_mark a)
entry_mark-mapped m None = refl
entry_mark-mapped m (Some a) = refl

code_mark-mapped : (m : PathMap) (table : List Abbreviation) (n : ℕ) → code_mark table n ≡ mapped_mark m (code_mark table n)
code_mark-mapped m table n = by_null (n == 0)
  where
    by_null : (b : Bool) → (if b then null else entry_mark (abbreviation_of table n)) ≡ mapped_mark m (if b then null else entry_mark (abbreviation_of table n))
    by_null true = refl
    by_null false = entry_mark-mapped m (abbreviation_of table n)

head-mapped : (m : PathMap) (g : Lasting) (h : Option UnitHeader) → head_mark g h ≡ mapped_mark m (head_mark g h)
head-mapped m g None = refl
head-mapped m g (Some h) = refl

value_mark-changed : (k : ValueKind) (c : Shift) (s : UnitState) (n tag : ℕ) (x : Spec) (p q : List Cell) → Becomes (role_of_kind k (use_of n tag x.name)) c p q
    → ValueSlot k (is_path_use (use_of n tag x.name)) c s.unit p → value_mark k c.new s n tag x q ≡ mapped_mark c.map (value_mark k c.old s n tag x p)
value_mark-changed form_in_front c s n tag x p q h i = refl
value_mark-changed k c s n tag x p q h i = ap (λ (v : ValueMeaning). attribute (record { name = x.name; value = v })) (value-changed k (use_of n tag x.name) x c s p q h i)

mark-changed : (mode : Mode) (c : Shift) (s : UnitState) (p q : List Cell) → Becomes (role_of_mode mode s.header.params) c p q
    → PieceSlot mode c s p → mark_by mode c.new s q ≡ mapped_mark c.map (mark_by mode c.old s p)
mark-changed at_header c s p q h i =
    ap (λ (g : Lasting). head_mark g (piece_header g.base s q)) c.lasting
    ∙ ap (λ (z : List Cell). head_mark c.old.lasting (piece_header c.old.lasting.base s z)) h
    ∙ head-mapped c.map c.old.lasting (piece_header c.old.lasting.base s p)
mark-changed at_code c s p q h i = ap (λ (z : List Cell). code_mark s.table (code_value z)) h ∙ code_mark-mapped c.map s.table (code_value p)
mark-changed (at_values n tag []) c s p q h i = refl
mark-changed (at_values n tag (x ∷ xs)) c s p q h i = value_mark-changed (kind_in s.header.params x.form) c s n tag x p q h i
mark-changed (at_chosen n tag start x xs) c s p q h i = value_mark-changed (kind_in s.header.params x.form) c s n tag x p q h i
mark-changed stuck c s p q h i = refl

-- what follows a place, mapped
abbrev mapped_levels : PathMap → List Forest → List Forest
mapped_levels m [] = []
mapped_levels m (f ∷ fs) = mapped_forest m f ∷ mapped_levels m fs

abbrev mapped_following : PathMap → Following → Following
mapped_following m r =
    record { attributes = mapped_attributes m r.attributes; levels = mapped_levels m r.levels; units = mapped_units m r.units }

innermost-mapped : (m : PathMap) (fs : List Forest) → innermost (mapped_levels m fs) ≡ mapped_forest m (innermost fs)
innermost-mapped m [] = refl
innermost-mapped m (f ∷ fs) = refl

outer-mapped : (m : PathMap) (fs : List Forest) → outer (mapped_levels m fs) ≡ mapped_levels m (outer fs)
outer-mapped m [] = refl
outer-mapped m (f ∷ fs) = refl

followed_by-mapped : (m : PathMap) (f g : Forest) → followed_by (mapped_forest m f) (mapped_forest m g) ≡ mapped_forest m (followed_by f g)
followed_by-mapped m no_entries g = refl
followed_by-mapped m (entry tag attributes children siblings) g =
    ap (entry tag (mapped_attributes m attributes) (mapped_forest m children)) (followed_by-mapped m siblings g)

all_entries-mapped : (m : PathMap) (fs : List Forest) → all_entries (mapped_levels m fs) ≡ mapped_forest m (all_entries fs)
all_entries-mapped m [] = refl
all_entries-mapped m (f ∷ fs) =
    ap (followed_by (mapped_forest m f)) (all_entries-mapped m fs) ∙ followed_by-mapped m f (all_entries fs)

with_entry-mapped : (m : PathMap) (tag : ℕ) (children : Bool) (attributes : List AttributeMeaning) (fs : List Forest)
    → with_entry tag children (mapped_attributes m attributes) (mapped_levels m fs) ≡ mapped_levels m (with_entry tag children attributes fs)
with_entry-mapped m tag true attributes fs =
    rw (innermost-mapped m fs, outer-mapped m fs, innermost-mapped m (outer fs), outer-mapped m (outer fs)) refl
with_entry-mapped m tag false attributes fs = rw (innermost-mapped m fs, outer-mapped m fs) refl

with_mark-mapped : (m : PathMap) (section : ℕ) (mark : Mark) (r : Following) → with_mark section (mapped_mark m mark) (mapped_following m r) ≡ mapped_following m (with_mark section mark r)
with_mark-mapped m section (begins h) r = rw (all_entries-mapped m r.levels) refl
with_mark-mapped m section (opens tag children) r = rw (with_entry-mapped m tag children r.attributes r.levels) refl
with_mark-mapped m section (attribute a) r = refl
with_mark-mapped m section null r = refl
with_mark-mapped m section no_mark r = refl

pub following-changed : (c : Shift) (section : ℕ) (xs ys : List (Piece UnitState)) → UnitsChanged c xs ys
    → following section c.new ys ≡ mapped_following c.map (following section c.old xs)
following-changed c section [] [] h = refl
following-changed c section [] (y ∷ ys) h = absurd h
following-changed c section (x ∷ xs) [] h = absurd h
following-changed c section (x ∷ xs) (y ∷ ys) h =
    let state : mark_of c.new y ≡ mark_by x.state.mode c.new x.state y.cells =
    ap (λ (s : UnitState). mark_by s.mode c.new s y.cells) h.0.state in
    let mark : mark_of c.new y ≡ mapped_mark c.map (mark_of c.old x) =
    state ∙ mark-changed x.state.mode c x.state x.cells y.cells h.0.cells.0 h.0.cells.1 in
    ap (λ (k : Mark). with_mark section k (following section c.new ys)) mark
    ∙ ap (with_mark section (mapped_mark c.map (mark_of c.old x))) (following-changed c section xs ys h.1)
    ∙ with_mark-mapped c.map section (mark_of c.old x) (following section c.old xs)

-- the meaning law: what the units of a section mean after the change is what they meant, mapped
pub units-changed : (c : Shift) (section : ℕ) (xs ys : List (Piece UnitState)) → UnitsChanged c xs ys
    → unit_meanings section c.new ys ≡ mapped_units c.map (unit_meanings section c.old xs)
units-changed c section xs ys h = ap (λ (r : Following). r.units) (following-changed c section xs ys h)
