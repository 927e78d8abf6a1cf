-- What the values of lifted units mean: a value that stays means what it did, and a path that grew is a string by offset, with zeros behind it.
use Rattle.std.proofs.Common.{Bool, true, false, ◌≡◌, ℕ, suc, ◌+◌, ◌-◌, ◌==◌, List, [], ◌∷◌, ◌++◌, length, drop, replicate, Option, Some, None, refl, sym, ap, ◌∙◌, if◌then◌else◌}
use Rattle.std.specs.Prelude.{◌&&◌, not}
use Rattle.std.proofs.lemmas.Bool.{eqb-false}
use Rattle.std.proofs.lemmas.List.{drop_at}
use Rattle.dw_base.specs.Cells.{Cell, bytes_of, field_of, offset_of, plain_cells}
use Rattle.dw_base.specs.DebugData.{Around, EntryPlace, Lasting, line_table, macro_unit, table_of}
use Rattle.dw_base.specs.Forms.{ValueKind, number_of, leb_number, counted, inline_text, text_offset, width_size}
use Rattle.dw_base.specs.InlinePaths.{inline_fits}
use Rattle.dw_base.specs.Numbers.{number_bytes, spelled}
use Rattle.dw_base.specs.Paths.{PathMap}
use Rattle.dw_base.specs.Roles.{fixed, inline_path, is_line_start, is_macro_start, is_path_use, role_of_kind, use_of}
use Rattle.dw_base.specs.TextChanges.{NamesTextBy}
use Rattle.dw_base.specs.TextIndexes.{holds_number, slot_of}
use Rattle.dw_base.specs.Texts.{ends_in, text, text_in, is_in, laid_texts}
use Rattle.dw_base.specs.UnitPieces.{IsValue}
use Rattle.dw_base.specs.UnitStates.{UnitState, code_value}
use Rattle.dw_base.specs.ValueMeanings.{ValueMeaning, by_offset, entry_of, first_of, found_entry, global_entry, indexed, inline, leb_meaning, line_meaning, macro_meaning, meaning_of_value, number_meaning, raw, stray, string, table_named, unit_meant}
use Rattle.dw_base.specs.Values.{value_of}
use Rattle.dw_base.specs.declared.debug_sections.DebugSection.TheVariants.{Info, StrOffsets, Line}
use Rattle.dw_base.specs.declared.shared.Order.{Order}
use Rattle.dw_base.specs.declared.shared.Width.{Width}
use Rattle.dw_base.specs.declared.texts.TextSection.TheVariants.{InStr, InLineStr}
use Rattle.dw_base.specs.declared.values.AttributeUse.{AttributeUse}
use Rattle.dw_base.specs.declared.values.Spec.{Spec}
use Rattle.dw_base.specs.declared.values.Value.{Value}
use Rattle.dw_base.specs.declared.values.ValueClass.{ValueClass}
use Rattle.dw_base.specs.declared.values.ValueClass.TheVariants.{InlineText, LocalRef, GlobalRef, StrIndex}
use Rattle.dw_base.specs.declared.view_fields.Field.{Field}
use Rattle.dw_base.specs.declared.view_fields.Field.TheVariants.{Num, Into, Sym}
use Rattle.dw_base.proofs.NumberLaws.{length-number_bytes}
use Rattle.dw_base.proofs.PlainCellLaws.{plain_cells-append}
use Rattle.dw_base.proofs.TextLaws.{has_nul-text}
use Rattle.inline_lift.specs.Filled.{filled_if, filled_value, filler_zeros}
use Rattle.inline_lift.specs.GrowingPaths.{Fate, grows_by}
use Rattle.inline_lift.specs.Lifted.{Lift, lifted_state, lifted_str, offset_cells}
use Rattle.inline_lift.specs.LiftedTables.{filler_bytes, is_short}
use Rattle.inline_lift.proofs.FateLaws.{path-other}
use Rattle.inline_lift.proofs.PieceLiftLaws.{count_size, length-plain}
use Rattle.inline_lift.proofs.SurroundingLaws.{IsSmall, Standing, held-text, new_around, offset-held, old_around, text-longer}

-- a value means the same with more abbreviations and more texts behind
global-longer : (l : Lift) (g : Standing) (f : Field) → global_entry (new_around l g).lasting f ≡ global_entry (old_around l g).lasting f
global-longer l g (Num n) = refl
global-longer l g (Into z n) = refl
global-longer l g (Sym s k a) = refl

number-longer : (class : ValueClass) (l : Lift) (g : Standing) (s : UnitState) (u : AttributeUse) (p : List Cell) → number_meaning (new_around l g) s u class p ≡ number_meaning (old_around l g) s u class p
number-longer StrIndex l g s u p = refl
number-longer GlobalRef l g s u p = global-longer l g (field_of l.base.order p)
number-longer class l g s u p = refl

leb-longer : (class : ValueClass) (l : Lift) (g : Standing) (s : UnitState) (u : AttributeUse) (p : List Cell) → leb_meaning (new_around l g) s u class p ≡ leb_meaning (old_around l g) s u class p
leb-longer StrIndex l g s u p = refl
leb-longer class l g s u p = refl

pub meaning-longer : (k : ValueKind) (l : Lift) (g : Standing) (s : UnitState) (u : AttributeUse) (x : Spec) (p : List Cell) → NamesTextBy (role_of_kind k u) (old_around l g) p
    → meaning_of_value (new_around l g) s u x k p ≡ meaning_of_value (old_around l g) s u x k p
meaning-longer (number_of class n) l g s u x p h =
    ap (λ (v : ValueMeaning). if is_line_start u class n then line_meaning (old_around l g) p else (if is_macro_start u class n then macro_meaning (old_around l g).lasting p else v))
    (number-longer class l g s u p)
meaning-longer (leb_number class) l g s u x p h = leb-longer class l g s u p
meaning-longer (text_offset InStr n) l g s u x p h = ap (string (is_path_use u) by_offset) (text-longer l.base.order g.number l.str (laid_texts l.texts) p h)
meaning-longer (text_offset InLineStr n) l g s u x p h = refl
meaning-longer k l g s u x p h = refl

-- and in a lifted state
number-state : (class : ValueClass) (a : Around) (l : Lift) (table : ℕ) (fs : List Fate) (s : UnitState) (u : AttributeUse) (p : List Cell)
    → number_meaning a (lifted_state l table fs s) u class p ≡ number_meaning a s u class p
number-state StrIndex a l table fs s u p = refl
number-state class a l table fs s u p = refl

leb-state : (class : ValueClass) (a : Around) (l : Lift) (table : ℕ) (fs : List Fate) (s : UnitState) (u : AttributeUse) (p : List Cell)
    → leb_meaning a (lifted_state l table fs s) u class p ≡ leb_meaning a s u class p
leb-state StrIndex a l table fs s u p = refl
leb-state class a l table fs s u p = refl

pub meaning-state : (k : ValueKind) (a : Around) (l : Lift) (table : ℕ) (fs : List Fate) (s : UnitState) (u : AttributeUse) (x : Spec) (p : List Cell)
    → meaning_of_value a (lifted_state l table fs s) u x k p ≡ meaning_of_value a s u x k p
meaning-state (number_of class n) a l table fs s u x p =
    ap (λ (v : ValueMeaning). if is_line_start u class n then line_meaning a p else (if is_macro_start u class n then macro_meaning a.lasting p else v)) (number-state class a l table fs s u p)
meaning-state (leb_number class) a l table fs s u x p = leb-state class a l table fs s u p
meaning-state k a l table fs s u x p = refl

-- a value that doesn't stand as a text is itself when paths are filled
abbrev Stays : PathMap → Width → ℕ → ValueMeaning → Type 0
Stays m w name v = filled_value m w name v ≡ record { name = name; value = v } ∷ []

found-stays : (m : PathMap) (w : Width) (name : ℕ) (es : List EntryPlace) (section place n : ℕ) → Stays m w name (found_entry es section place n)
found-stays m w name [] section place n = refl
found-stays m w name (e ∷ es) section place n = by_here (e.section == section && e.place == place) (found-stays m w name es section place n)
  where
    by_here : (b : Bool) → Stays m w name (found_entry es section place n) → Stays m w name (if b then entry_of e.unit e.number else found_entry es section place n)
    by_here true h = refl
    by_here false h = h

global-stays : (m : PathMap) (w : Width) (name : ℕ) (g : Lasting) (f : Field) → Stays m w name (global_entry g f)
global-stays m w name g (Num n) = found-stays m w name (g.kept Info).entries (first_of (g.kept Info).infos) n n
global-stays m w name g (Sym s k d) = refl
global-stays m w name g (Into z n) = by_info (holds_number (g.kept Info).infos z)
  where
    by_info : (b : Bool) → Stays m w name (if b then found_entry (g.kept Info).entries z n n else stray n)
    by_info true = found-stays m w name (g.kept Info).entries z n n
    by_info false = refl

indexed-stays : (m : PathMap) (w : Width) (name : ℕ) (texts : List (List ℕ)) (path : Bool) (o : Option ℕ) (p : List Cell) → Stays m w name (indexed texts path o p)
indexed-stays m w name texts path None p = refl
indexed-stays m w name texts true (Some n) p = refl
indexed-stays m w name texts false (Some n) p = refl

number-stays : (class : ValueClass) (m : PathMap) (w : Width) (name : ℕ) (a : Around) (s : UnitState) (u : AttributeUse) (p : List Cell) → Stays m w name (number_meaning a s u class p)
number-stays StrIndex m w name a s u p =
    indexed-stays m w name (a.stands StrOffsets) (is_path_use u) (slot_of (a.lasting.kept StrOffsets) s.unit (spelled a.lasting.base.order (bytes_of p) 0 (length p))) p
number-stays LocalRef m w name a s u p =
    found-stays m w name (a.lasting.kept Info).entries s.section (s.header.start + spelled a.lasting.base.order (bytes_of p) 0 (length p)) (spelled a.lasting.base.order (bytes_of p) 0 (length p))
number-stays GlobalRef m w name a s u p = global-stays m w name a.lasting (field_of a.lasting.base.order p)
number-stays class m w name a s u p = refl

leb-stays : (class : ValueClass) (m : PathMap) (w : Width) (name : ℕ) (a : Around) (s : UnitState) (u : AttributeUse) (p : List Cell) → Stays m w name (leb_meaning a s u class p)
leb-stays StrIndex m w name a s u p = indexed-stays m w name (a.stands StrOffsets) (is_path_use u) (slot_of (a.lasting.kept StrOffsets) s.unit (code_value p)) p
leb-stays LocalRef m w name a s u p = found-stays m w name (a.lasting.kept Info).entries s.section (s.header.start + code_value p) (code_value p)
leb-stays class m w name a s u p = refl

table-stays : (m : PathMap) (w : Width) (name : ℕ) (o : Option ℕ) (n : ℕ) → Stays m w name (table_named o n)
table-stays m w name None n = refl
table-stays m w name (Some k) n = refl

unit-stays : (m : PathMap) (w : Width) (name : ℕ) (o : Option ℕ) (f : Field) → Stays m w name (unit_meant o f)
unit-stays m w name None f = refl
unit-stays m w name (Some k) f = refl

numbers-stay : (class : ValueClass) (n : ℕ) (m : PathMap) (w : Width) (name : ℕ) (a : Around) (s : UnitState) (u : AttributeUse) (x : Spec) (p : List Cell)
    → Stays m w name (meaning_of_value a s u x (number_of class n) p)
numbers-stay class n m w name a s u x p = by_start (is_line_start u class n) (is_macro_start u class n)
  where
    by_start : (b c : Bool) → Stays m w name (if b then line_meaning a p else (if c then macro_meaning a.lasting p else number_meaning a s u class p))
    by_start true c = table-stays m w name (line_table a p) (offset_of a.lasting.base.order (a.stands Line).located p)
    by_start false true = unit-stays m w name (macro_unit a.lasting p) (field_of a.lasting.base.order p)
    by_start false false = number-stays class m w name a s u p

-- a text that stands is itself where it isn't a path, or fits
text-stays : (b : Bool) (m : PathMap) (w : Width) (name : ℕ) (t : List ℕ) → (b ≡ true → inline_fits m t ≡ true) → Stays m w name (string b inline t)
text-stays true m w name t h = ap (λ (c : Bool). filled_if c w name t) (h refl)
text-stays false m w name t h = refl

not-grown : (b c : Bool) → (if b then not c else false) ≡ false → b ≡ true → c ≡ true
not-grown true true h e = refl
not-grown true false h e = absurd cc
not-grown false c h e = absurd cc

inline-grows : (b : Bool) (m : PathMap) (p : List Cell) → grows_by (if b then inline_path else fixed) m p ≡ (if b then not (inline_fits m (text (bytes_of p))) else false)
inline-grows true m p = refl
inline-grows false m p = refl

string-stays : (b : Bool) (m : PathMap) (w : Width) (name : ℕ) (t : List ℕ) → Stays m w name (string b by_offset t)
string-stays true m w name t = refl
string-stays false m w name t = refl

pub value-stays : (k : ValueKind) (m : PathMap) (w : Width) (name : ℕ) (a : Around) (s : UnitState) (u : AttributeUse) (x : Spec) (p : List Cell)
    → grows_by (role_of_kind k u) m p ≡ false → Stays m w name (meaning_of_value a s u x k p)
value-stays (number_of class n) m w name a s u x p h = numbers-stay class n m w name a s u x p
value-stays (leb_number class) m w name a s u x p h = leb-stays class m w name a s u p
value-stays inline_text m w name a s u x p h =
    text-stays (is_path_use u) m w name (text (bytes_of p)) (not-grown (is_path_use u) (inline_fits m (text (bytes_of p))) (sym (inline-grows (is_path_use u) m p) ∙ h))
value-stays (text_offset table n) m w name a s u x p h = string-stays (is_path_use u) m w name (text_in (table_of a table).bytes (offset_of a.lasting.base.order (table_of a table) p))
value-stays k m w name a s u x p h = refl

-- an offset in place of a path that grew means its text
pub offset-means : (l : Lift) (g : Standing) (s t : UnitState) (u : AttributeUse) (x : Spec) (p : List Cell) → IsSmall l → is_in l.texts (text (bytes_of p)) ≡ true → is_path_use u ≡ true
    → meaning_of_value (new_around l g) t u x (text_offset InStr (width_size s.header.params.width)) (offset_cells l s p) ≡ string true by_offset (text (bytes_of p))
offset-means l g s t u x p small held is =
    ap (λ (b : Bool). string b by_offset (text_in (lifted_str l) (offset_of l.base.order (record { number = g.number; bytes = lifted_str l }) (offset_cells l s p)))) is
    ∙ ap (λ (n : ℕ). string true by_offset (text_in (lifted_str l) n)) (offset-held l (record { number = g.number; bytes = lifted_str l }) s p small held)
    ∙ ap (string true by_offset) (held-text l (text (bytes_of p)) held (has_nul-text (bytes_of p)))

-- and behind it are zeros
pub zeros-behind : (o : Order) (n : ℕ) → drop (count_size (is_short n)) (plain_cells (filler_bytes o (suc n))) ≡ plain_cells (replicate (filler_zeros n) 0)
zeros-behind o n = by_size (is_short n)
  where
    by_size : (b : Bool) → drop (count_size b) (plain_cells (if b then n ∷ replicate n 0 else number_bytes o 4 (n - 3) ++ replicate (n - 3) 0)) ≡ plain_cells (replicate (if b then n else n - 3) 0)
    by_size true = refl
    by_size false =
        ap (drop 4) (plain_cells-append (number_bytes o 4 (n - 3)) (replicate (n - 3) 0))
        ∙ drop_at (plain_cells (number_bytes o 4 (n - 3))) (plain_cells (replicate (n - 3) 0)) 4 (length-plain (number_bytes o 4 (n - 3)) ∙ length-number_bytes o 4 (n - 3))

pub filler-means : (a : Around) (t : UnitState) (u : AttributeUse) (x : Spec) (o : Order) (n : ℕ)
    → meaning_of_value a t u x (counted (count_size (is_short n))) (plain_cells (filler_bytes o (suc n))) ≡ raw (plain_cells (replicate (filler_zeros n) 0))
filler-means a t u x o n = ap raw (zeros-behind o n)

-- the room of a text that stands is its bytes and a NUL
of_value : (v y : Value) → Some v ≡ Some y → v ≡ y
of_value v y e = cc

pub text-size : (s : UnitState) (x : Spec) (p : List Cell) → IsValue s x inline_text p → length p ≡ length (text (bytes_of p)) + 1
unfolding value_of text_in
text-size s x p f = by_end (ends_in (bytes_of p) 0) f.value f.is f.size
  where
    by_end : (b : Bool) (v : Value)
        → (if b then Some (record { class = InlineText; number = 0; at = 0; len = length (text (bytes_of p)); size = length (text (bytes_of p)) + 1 }) else None) ≡ Some v
        → v.size ≡ length p → length p ≡ length (text (bytes_of p)) + 1
    by_end true v e size = sym size ∙ ap (λ (y : Value). y.size) (sym (of_value (record { class = InlineText; number = 0; at = 0; len = length (text (bytes_of p)); size = length (text (bytes_of p)) + 1 }) v e))
    by_end false v e size = absurd cc

-- a path is an attribute of the first entry
pub path-first : (number tag name : ℕ) → is_path_use (use_of number tag name) ≡ true → (number == 0) ≡ true
path-first number tag name is = by_zero (number == 0) refl
  where
    by_zero : (b : Bool) → (number == 0) ≡ b → b ≡ true
    by_zero true e = refl
    by_zero false e = let none : is_path_use (use_of number tag name) ≡ false = path-other number tag name (eqb-false number 0 e) in absurd cc
