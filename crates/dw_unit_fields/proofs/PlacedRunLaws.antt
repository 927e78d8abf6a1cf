-- Where texts stand in the pieces of a unit.
use Rattle.std.proofs.Common.{ℤ, Bool, true, false, ◌≡◌, ◌≢◌, ℕ, ◌+◌, ◌==◌, ◌≤◌, List, [], ◌∷◌, ◌++◌, length, take, drop, cond, nat_le, Option, Some, None, refl, sym, ap, ◌∙◌, append_assoc, arith, suc, zero}
use Rattle.std.specs.Bool.{⊤}
use Rattle.std.proofs.lemmas.List.{length-take-le, length-drop, take-append-drop}
use Rattle.dw_base.specs.Cells.{Cell, cells_at, bytes_of}
use Rattle.dw_base.specs.Forms.{ValueKind, number_of, leb_number, signed_leb, block_of, counted, counted_leb, inline_text, text_offset, present, in_abbreviation, form_in_front, supplementary, unlisted, kind_in}
use Rattle.dw_base.specs.Lebs.{uleb_at}
use Rattle.dw_base.specs.Numbers.{number_at, spelled}
use Rattle.dw_base.specs.Pieces.{Piece}
use Rattle.dw_base.specs.Roles.{is_macros, is_path, is_start_name, role_of, role_of_kind, role_of_mode, use_of}
use Rattle.dw_base.specs.TableStarts.{is_start_form, macro_value_by, own_form, start_form_by}
use Rattle.dw_base.specs.declared.dwarf_numbers.TheConstants.{DW_AT_stmt_list}
use Rattle.dw_base.specs.TextIndexes.{is_base}
use Rattle.dw_base.specs.UnitHeaders.{UnitBase, IsUnit, UnitSection}
use Rattle.dw_base.specs.UnitPieces.{unit_grammar}
use Rattle.dw_base.specs.UnitStates.{Mode, at_values, at_chosen, UnitState, code_value}
use Rattle.dw_base.specs.Values.{number_value, leb_value_at, value_of}
use Rattle.dw_base.specs.declared.shared.Order.{Order}
use Rattle.dw_base.specs.declared.values.Spec.{Spec}
use Rattle.dw_base.specs.declared.values.Value.{Value}
use Rattle.dw_base.specs.declared.values.ValueClass.{ValueClass}
use Rattle.dw_base.specs.declared.values.ValueClass.TheVariants.{InlineText, Number, StrOffset, LineStrOffset, StrIndex, SecOffset}
use Rattle.dw_base.proofs.NumberLaws.{spelled-append, spelled-drop}
use Rattle.dw_meaning.proofs.ScanPieceLaws.{Chosen, part-bytes, before-end, part-length, unit_bytes, NumberPiece, number-piece}
use Rattle.dw_meaning.proofs.ValueCutLaws.{value_of-own}
use Rattle.dw_unit_fields.specs.TextPlaces.{TextPlace, class_places, entries_places, entry_places, indexed_in, indexed_kind, line_at, line_places, of_entry, of_value, place_of, places_in, said_base, said_places, said_start, said_value, value_places}
use Rattle.dw_base.proofs.StartFormLaws.{chosen-form, form-starts, plain-form}
use Rattle.dw_unit_fields.proofs.ValuePlaceLaws.{SpellsNumber, kind_plain, value-placed}
use Rattle.dw_base.specs.AbbreviationTables.{Abbreviation}
use Rattle.dw_base.specs.EntryScans.{AreEntries}
use Rattle.dw_base.specs.EntryValues.{bytes_up_to}
use Rattle.dw_base.specs.UnitTables.{IsUnitTable}
use Rattle.dw_base.specs.declared.shared.Params.{Params}
use Rattle.dw_base.specs.declared.units.Scanned.{Scanned}
use Rattle.dw_base.specs.declared.units.UnitHeader.{UnitHeader}
use Rattle.dw_meaning.proofs.ScanSectionLaws.{before, in_headed}
use Rattle.dw_base.proofs.HeaderOfLaws.{header-of}
use Rattle.dw_meaning.proofs.RunLaws.{PieceRun}
use Rattle.dw_meaning.proofs.UnitRunLaws.{UnitSays, entries_out-more}
use Rattle.dw_meaning.specs.PieceRuns.{all_of}
use Rattle.dw_meaning.proofs.WholeUnitLaws.{unit-run}

-- a piece of a unit: its section and its unit, and the byte order of its values
abbrev pub OrderIs : Mode → Order → Order → Type 0
OrderIs (at_values n tag xs) own order = own ≡ order
OrderIs (at_chosen n tag start x xs) own order = own ≡ order
OrderIs m own order = ⊤

pub record IsNumbered (order : Order) (cells : List Cell) (section unit : ℕ) (x : Piece UnitState) : Type 0 where
  pub section_is : x.state.section ≡ section
  pub unit_is : x.state.unit ≡ unit
  pub order_is : OrderIs x.state.mode x.state.header.params.order order
  pub stands : cells_at cells x.state.place (length x.cells) ≡ x.cells

-- so many as there are
take-take : (n : ℕ) (p : List Cell) → take (length (take n p)) p ≡ take n p
take-take zero p = refl
take-take (suc n) [] = refl
take-take (suc n) (c ∷ p) = ap (λ (q : List Cell). c ∷ q) (take-take n p)

-- a number at a place is that of the bytes there
pub number-at_place : (o : Order) (bs : List ℕ) (a n : ℕ) → a + n ≤ length bs → spelled o (take n (drop a bs)) 0 n ≡ spelled o bs a n
number-at_place o bs a n le =
    let size : length (take n (drop a bs)) ≡ n = length-take-le n (drop a bs) (omega (arith, le, length-drop a bs)) in
    sym (spelled-append o (take n (drop a bs)) (drop n (drop a bs)) 0 n (omega (arith, size)))
    ∙ ap (λ (x : List ℕ). spelled o x 0 n) (take-append-drop n (drop a bs))
    ∙ spelled-drop o bs a 0 n ∙ ap (λ (i : ℕ). spelled o bs i n) (omega arith)

-- a number that was read is the one that its cells spell
number-spells : (class : ValueClass) (n : ℕ) (s : UnitState) (cells : List Cell) (place : ℕ) (v : Value)
    → number_value class place n (number_at s.header.params.order (unit_bytes s cells) place n) ≡ Some v → place + v.size ≤ length (unit_bytes s cells)
    → spelled s.header.params.order (bytes_of (take v.size (drop place cells))) 0 (length (take v.size (drop place cells))) ≡ v.number
unfolding number_at
number-spells class n s cells place v is inside_ =
    let o : Order = s.header.params.order in
    let bs : List ℕ = unit_bytes s cells in
    let before : place + v.size ≤ s.header.end = before-end (place + v.size) s.header.end (bytes_of cells) inside_ in
    let size : length (take v.size (drop place cells)) ≡ v.size = part-length v.size place s.header.end cells inside_ in
    ap (λ (m : ℕ). spelled o (bytes_of (take v.size (drop place cells))) 0 m) size
    ∙ ap (λ (x : List ℕ). spelled o x 0 v.size) (sym (part-bytes v.size place s.header.end cells before))
    ∙ number-at_place o bs place v.size inside_
    ∙ by_room (nat_le (place + n) (length (unit_bytes s cells))) is
  where
    by_room : (b : Bool) → number_value class place n (cond b (Some (spelled s.header.params.order (unit_bytes s cells) place n)) None) ≡ Some v
        → spelled s.header.params.order (unit_bytes s cells) place v.size ≡ v.number
    by_room true e =
        let size : v.size ≡ n = cc in
        let number : v.number ≡ spelled s.header.params.order (unit_bytes s cells) place n = cc in
        ap (spelled s.header.params.order (unit_bytes s cells) place) size ∙ sym number
    by_room false e = absurd cc

leb-spells : (class : ValueClass) (s : UnitState) (cells : List Cell) (place : ℕ) (v : Value) → leb_value_at class place (uleb_at (unit_bytes s cells) place) ≡ Some v
    → code_value (take v.size (drop place cells)) ≡ v.number
leb-spells class s cells place v is = by_read (uleb_at (unit_bytes s cells) place) refl is
  where
    by_read : (o : Option (ℕ × ℕ)) → uleb_at (unit_bytes s cells) place ≡ o → leb_value_at class place o ≡ Some v → code_value (take v.size (drop place cells)) ≡ v.number
    by_read None e f = absurd cc
    by_read (Some (x, n)) e f =
        let size : v.size ≡ n = cc in
        let number : v.number ≡ x = cc in
        let c : NumberPiece s cells place x n = number-piece s cells place x n e in
        ap (λ (m : ℕ). code_value (take m (drop place cells))) size ∙ c.value ∙ sym number

-- and its cells spell its number
value-spells : (s : UnitState) (k : ValueKind) (cells : List Cell) (place : ℕ) (implicit : ℤ) (v : Value)
    → value_of k s.header.params.order (unit_bytes s cells) place implicit ≡ Some v → place + v.size ≤ length (unit_bytes s cells)
    → SpellsNumber k s.header.params.order (take v.size (drop place cells)) v.number
unfolding value_of
value-spells s (number_of class n) cells place implicit v is inside_ =
    number-spells class n s cells place v is inside_
value-spells s (leb_number class) cells place implicit v is inside_ = leb-spells class s cells place v is
value-spells s signed_leb cells place implicit v is inside_ = tt
value-spells s (block_of n) cells place implicit v is inside_ = tt
value-spells s (counted n) cells place implicit v is inside_ = tt
value-spells s counted_leb cells place implicit v is inside_ = tt
value-spells s inline_text cells place implicit v is inside_ = tt
value-spells s (text_offset table n) cells place implicit v is inside_ = tt
value-spells s present cells place implicit v is inside_ = tt
value-spells s in_abbreviation cells place implicit v is inside_ = tt
value-spells s form_in_front cells place implicit v is inside_ = tt
value-spells s supplementary cells place implicit v is inside_ = tt
value-spells s unlisted cells place implicit v is inside_ = tt

-- the places of a value by its own form
value-own : (n tag : ℕ) (x : Spec) (bytes : List ℕ) (place form : ℕ) (v : Value) → own_form x bytes place ≡ form
    → line_places (x.name == DW_AT_stmt_list) form v
    ++ (class_places v.class (is_path n tag x.name) (is_base n x.name) (is_start_form form) place v ++ said_places (is_start_name x.name) (is_macros x.name) form place v)
    ≡ value_places n tag x bytes place v
value-own n tag x bytes place form v f =
    ap (λ (k : ℕ). line_places (x.name == DW_AT_stmt_list) k v
    ++ (class_places v.class (is_path n tag x.name) (is_base n x.name) (is_start_form k) place v ++ said_places (is_start_name x.name) (is_macros x.name) k place v)) (sym f)

-- values that are the same but for their sizes
base-same : (field : Bool) (place : ℕ) (v w : Value) → v.at ≡ w.at → v.len ≡ w.len → v.number ≡ w.number
    → said_base field place w.at w.len w.number ≡ said_base field place v.at v.len v.number
base-same field place v w at len number = rw (at, len, number) refl

class_places-same : (class : ValueClass) (path base field : Bool) (place : ℕ) (v w : Value) → v.at ≡ w.at → v.len ≡ w.len → v.number ≡ w.number
    → class_places class path base field place w ≡ class_places class path base field place v
class_places-same StrOffset path base field place v w at len number = rw (at, len) refl
class_places-same LineStrOffset path base field place v w at len number = rw (at, len) refl
class_places-same InlineText true base field place v w at len number = rw (at, len) refl
class_places-same InlineText false base field place v w at len number = refl
class_places-same StrIndex path base field place v w at len number = rw number refl
class_places-same Number path true field place v w at len number = base-same field place v w at len number
class_places-same Number path false field place v w at len number = refl
class_places-same SecOffset path true field place v w at len number = base-same field place v w at len number
class_places-same SecOffset path false field place v w at len number = refl
class_places-same class path base field place v w at len number = refl

line_at-same : (b : Bool) (v w : Value) → v.at ≡ w.at → v.len ≡ w.len → line_at b w ≡ line_at b v
line_at-same true v w at len = rw (at, len) refl
line_at-same false v w at len = refl

line_places-same : (line : Bool) (form : ℕ) (v w : Value) → v.at ≡ w.at → v.len ≡ w.len → line_places line form w ≡ line_places line form v
line_places-same true form v w at len = line_at-same (is_start_form form) v w at len
line_places-same false form v w at len = refl

said_value-same : (b macro : Bool) (place : ℕ) (v w : Value) → v.at ≡ w.at → v.len ≡ w.len → said_value b macro place w ≡ said_value b macro place v
said_value-same true true place v w at len = rw (at, len) refl
said_value-same true false place v w at len = refl
said_value-same false macro place v w at len = refl

said_places-same : (start macro : Bool) (form place : ℕ) (v w : Value) → v.at ≡ w.at → v.len ≡ w.len → said_places start macro form place w ≡ said_places start macro form place v
said_places-same true macro form place v w at len = said_value-same (is_start_form form) macro place v w at len
said_places-same false macro form place v w at len = refl

places-same : (n tag : ℕ) (x : Spec) (bytes : List ℕ) (place : ℕ) (v w : Value) → v.class ≡ w.class → v.at ≡ w.at → v.len ≡ w.len → v.number ≡ w.number
    → value_places n tag x bytes place w ≡ value_places n tag x bytes place v
places-same n tag x bytes place v w class at len number =
    ap (λ (ts : List TextPlace). ts ++ (class_places w.class (is_path n tag x.name) (is_base n x.name) (is_start_form (own_form x bytes place)) place w
    ++ said_places (is_start_name x.name) (is_macros x.name) (own_form x bytes place) place w))
    (line_places-same (x.name == DW_AT_stmt_list) (own_form x bytes place) v w at len)
    ∙ ap (λ (ts : List TextPlace). line_places (x.name == DW_AT_stmt_list) (own_form x bytes place) v
    ++ (ts ++ said_places (is_start_name x.name) (is_macros x.name) (own_form x bytes place) place w))
    (class_places-same w.class (is_path n tag x.name) (is_base n x.name) (is_start_form (own_form x bytes place)) place v w at len number
    ∙ ap (λ (c : ValueClass). class_places c (is_path n tag x.name) (is_base n x.name) (is_start_form (own_form x bytes place)) place v) (sym class))
    ∙ ap (λ (ts : List TextPlace). line_places (x.name == DW_AT_stmt_list) (own_form x bytes place) v
    ++ (class_places v.class (is_path n tag x.name) (is_base n x.name) (is_start_form (own_form x bytes place)) place v ++ ts))
    (said_places-same (is_start_name x.name) (is_macros x.name) (own_form x bytes place) place v w at len)

-- the places of a piece
abbrev pub piece_places : Piece UnitState → List TextPlace
piece_places x = place_of (role_of_mode x.state.mode x.state.header.params) x.state.place (length x.cells) ++ indexed_in x.state.mode x.state x.cells

-- those of pieces, in order
pub places-all : (xs : List (Piece UnitState)) → places_in xs ≡ all_of piece_places xs
unfolding role_of
places-all [] = refl
places-all (x ∷ xs) =
    ap (λ (ts : List TextPlace). place_of (role_of_mode x.state.mode x.state.header.params) x.state.place (length x.cells) ++ (indexed_in x.state.mode x.state x.cells ++ ts))
    (places-all xs)
    ∙ sym (append_assoc (place_of (role_of_mode x.state.mode x.state.header.params) x.state.place (length x.cells)) (indexed_in x.state.mode x.state x.cells) (all_of piece_places xs))

-- those of entries, and of one more
pub entries_places-more : (params : Params) (table : List Abbreviation) (bytes : List ℕ) (n : ℕ) (items : List Scanned) (x : Scanned)
    → entries_places params table bytes n (items ++ x ∷ []) ≡ entries_places params table bytes n items ++ entry_places params table bytes (n + length items) x
unfolding entry_places
entries_places-more params table bytes n items x = entries_out-more of_entry (of_value bytes) params table bytes n items x

-- pieces of a unit, and the places of texts in them
abbrev pub PlacedRun : UnitBase → List Cell → ℕ → ℕ → UnitState → UnitState → ℕ → ℕ → List TextPlace → Type 0
PlacedRun base cells section unit s t a b ts = PieceRun (unit_grammar base) (IsNumbered base.order cells section unit) piece_places cells s t a b ts

order-is : (m : Mode) (own order : Order) → own ≡ order → OrderIs m own order
order-is (at_values n tag xs) own order e = e
order-is (at_chosen n tag start x xs) own order e = e
order-is m own order e = tt

own-says : (cells : List Cell) (s : UnitState) (place n tag : ℕ) (x : Spec) (v : Value) → kind_in s.header.params x.form ≢ form_in_front
    → value_of (kind_in s.header.params x.form) s.header.params.order (unit_bytes s cells) place x.implicit ≡ Some v
    → place_of (role_of_kind (kind_in s.header.params x.form) (use_of n tag x.name)) place (length (take v.size (drop place cells)))
    ++ (indexed_kind (kind_in s.header.params x.form) (is_path n tag x.name) (is_base n x.name) s.header.params.order place place (length (take v.size (drop place cells))) (take v.size (drop place cells))
    ++ said_start (start_form_by (kind_in s.header.params x.form) (use_of n tag x.name)) (macro_value_by (kind_in s.header.params x.form) (use_of n tag x.name)) place place (length (take v.size (drop place cells))))
    ≡ value_places n tag x (unit_bytes s cells) place v
own-says cells s place n tag x v other is =
    let inside_ : place + v.size ≤ length (unit_bytes s cells) =
    (value_of-own (kind_in s.header.params x.form) s.header.params.order (unit_bytes s cells) place x.implicit v is).inside in
    let size : length (take v.size (drop place cells)) ≡ v.size = part-length v.size place s.header.end cells inside_ in
    ap (λ (m : ℕ). place_of (role_of_kind (kind_in s.header.params x.form) (use_of n tag x.name)) place m
    ++ (indexed_kind (kind_in s.header.params x.form) (is_path n tag x.name) (is_base n x.name) s.header.params.order place place m (take v.size (drop place cells))
    ++ said_start (start_form_by (kind_in s.header.params x.form) (use_of n tag x.name)) (macro_value_by (kind_in s.header.params x.form) (use_of n tag x.name)) place place m)) size
    ∙ value-placed (kind_in s.header.params x.form) s.header.params.order (unit_bytes s cells) place x.implicit n tag x.name x.form (is_base n x.name) place
    (take v.size (drop place cells)) v (kind_plain s.header.params x.form) other (form-starts s.header.params x.form) is
    (value-spells s (kind_in s.header.params x.form) cells place x.implicit v is inside_)
    ∙ value-own n tag x (unit_bytes s cells) place x.form v (plain-form s.header.params x (unit_bytes s cells) place other)

chosen-says : (cells : List Cell) (s : UnitState) (place n tag : ℕ) (x : Spec) (v : Value) → kind_in s.header.params x.form ≡ form_in_front
    → (c : Chosen s.header.params x (unit_bytes s cells) place v)
    → place_of (role_of_kind (kind_in s.header.params c.form) (use_of n tag x.name)) (place + c.size) (length (take c.value.size (drop (place + c.size) cells)))
    ++ (indexed_kind (kind_in s.header.params c.form) (is_path n tag x.name) (is_base n x.name) s.header.params.order place (place + c.size) (length (take c.value.size (drop (place + c.size) cells)))
    (take c.value.size (drop (place + c.size) cells))
    ++ said_start (start_form_by (kind_in s.header.params c.form) (use_of n tag x.name)) (macro_value_by (kind_in s.header.params c.form) (use_of n tag x.name)) place (place + c.size)
    (length (take c.value.size (drop (place + c.size) cells))))
    ≡ value_places n tag x (unit_bytes s cells) place v
chosen-says cells s place n tag x v front c =
    let inside_ : place + c.size + c.value.size ≤ length (unit_bytes s cells) =
    (value_of-own (kind_in s.header.params c.form) s.header.params.order (unit_bytes s cells) (place + c.size) x.implicit c.value c.is).inside in
    let size : length (take c.value.size (drop (place + c.size) cells)) ≡ c.value.size = part-length c.value.size (place + c.size) s.header.end cells inside_ in
    ap (λ (m : ℕ). place_of (role_of_kind (kind_in s.header.params c.form) (use_of n tag x.name)) (place + c.size) m
    ++ (indexed_kind (kind_in s.header.params c.form) (is_path n tag x.name) (is_base n x.name) s.header.params.order place (place + c.size) m (take c.value.size (drop (place + c.size) cells))
    ++ said_start (start_form_by (kind_in s.header.params c.form) (use_of n tag x.name)) (macro_value_by (kind_in s.header.params c.form) (use_of n tag x.name)) place (place + c.size) m)) size
    ∙ value-placed (kind_in s.header.params c.form) s.header.params.order (unit_bytes s cells) (place + c.size) x.implicit n tag x.name c.form (is_base n x.name) place
    (take c.value.size (drop (place + c.size) cells)) c.value (kind_plain s.header.params c.form) c.other (form-starts s.header.params c.form) c.is
    (value-spells s (kind_in s.header.params c.form) cells (place + c.size) x.implicit c.value c.is inside_)
    ∙ value-own n tag x (unit_bytes s cells) place c.form c.value (chosen-form s.header.params x (unit_bytes s cells) place c.form c.size front c.spells)
    ∙ places-same n tag x (unit_bytes s cells) place v c.value c.class_is c.at_is c.len_is c.number_is

values-say : (base : UnitBase) (cells : List Cell) (s : UnitState) → s.header.params.order ≡ base.order
    → UnitSays (IsNumbered base.order cells s.section s.unit) piece_places cells s of_entry (of_value (unit_bytes s cells))
values-say base cells s order = record {
  holds = λ m place e d k. record { section_is = refl; unit_is = refl; order_is = order-is m s.header.params.order base.order order; stands = take-take k (drop place cells) };
  nulls = λ place e d p zero_. refl;
  codes = λ place e d a p some listed. refl;
  forms = λ place e d n tag x xs p front.
      ap (λ (k : ValueKind). place_of (role_of_kind k (use_of n tag x.name)) place (length p)
      ++ (indexed_kind k (is_path n tag x.name) (is_base n x.name) s.header.params.order place place (length p) p
      ++ said_start (start_form_by k (use_of n tag x.name)) (macro_value_by k (use_of n tag x.name)) place place (length p))) front;
  owns = λ place e d n tag x xs v other is. own-says cells s place n tag x v other is;
  chosen = λ place e d n tag x xs v front c. chosen-says cells s place n tag x v front c;
}

-- a unit is pieces, and in them texts stand at the places of its entries
pub unit-placed : (base : UnitBase) (z : UnitSection) (start unit : ℕ) (h : UnitHeader) (table : List Abbreviation) (items : List Scanned) → IsUnit base z start h
    → IsUnitTable base h table → AreEntries h table (bytes_up_to z h) items
    → PlacedRun base z.contents z.number unit (before z start unit) (before z h.end (unit + 1)) start h.end (entries_places h.params table (bytes_up_to z h) 0 items)
unit-placed base z start unit h table items u t entries =
    unit-run (IsNumbered base.order z.contents z.number unit) piece_places of_entry (of_value (bytes_up_to z h)) base z start unit h table items [] u t entries
    (λ p r split found. refl)
    (λ k. record { section_is = refl; unit_is = refl; order_is = tt; stands = take-take k (drop start z.contents) })
    (values-say base z.contents (in_headed base z start unit h) ((header-of base z start h u.header).order))
