-- The bases of texts by index that the pieces of units say are those that the first entries say.
use Rattle.std.proofs.Common.{Bool, true, false, suc, ◌≡◌, ◌≢◌, ℕ, ◌+◌, ◌==◌, ◌≤◌, List, [], ◌∷◌, ◌++◌, length, take, drop, cond, nat_le, Option, Some, None, refl, sym, ap, ◌∙◌, arith, if◌then◌else◌, append-nil}
use Rattle.std.specs.Prelude.{◌&&◌, ◌||◌}
use Rattle.std.proofs.lemmas.Bool.{ne_eqb, eq-eqb}
use Rattle.dw_base.specs.AbbreviationTables.{Abbreviation, abbreviation_of}
use Rattle.dw_base.specs.Cells.{Cell, Located, bytes_of, field_of, is_placed, offset_into, offset_of}
use Rattle.dw_base.specs.FileViews.{View}
use Rattle.dw_base.specs.Forms.{ValueKind, number_of, leb_number, signed_leb, block_of, counted, counted_leb, inline_text, text_offset, present, in_abbreviation, form_in_front, supplementary, unlisted, kind_in}
use Rattle.dw_base.specs.Lebs.{uleb_at}
use Rattle.dw_base.specs.Numbers.{number_at, spelled}
use Rattle.dw_base.specs.Pieces.{Piece}
use Rattle.dw_base.specs.TextIndexes.{SaidBase, base_of, base_placed, base_said, base_value, bases_by, bases_in, is_base, said_by}
use Rattle.dw_base.specs.ViewData.{located}
use Rattle.dw_base.specs.UnitStates.{UnitState, of_chosen, code_value}
use Rattle.dw_base.specs.Values.{value_of, value_at, counted_value, counted_leb_value, signed_bits}
use Rattle.dw_base.specs.declared.debug_sections.DebugSection.TheVariants.{StrOffsets}
use Rattle.dw_base.specs.declared.dwarf_numbers.TheConstants.{DW_AT_str_offsets_base}
use Rattle.dw_base.specs.declared.shared.Order.{Order}
use Rattle.dw_base.specs.declared.units.Scanned.{Scanned}
use Rattle.dw_base.specs.declared.units.UnitHeader.{UnitHeader}
use Rattle.dw_base.specs.declared.values.Spec.{Spec}
use Rattle.dw_base.specs.declared.values.Value.{Value}
use Rattle.dw_base.specs.declared.values.ValueClass.{ValueClass}
use Rattle.dw_base.specs.declared.values.ValueClass.TheVariants.{Address, Number, Signed, Bytes, Flag, InlineText, StrOffset, LineStrOffset, GlobalRef, SecOffset}
use Rattle.dw_base.specs.declared.view_fields.Field.{Field}
use Rattle.dw_meaning.proofs.ScanPieceLaws.{unit_bytes, NumberPiece, number-piece}
use Rattle.dw_attrs.specs.UnitValues.{SaidUnit, base_behind, base_number, coded_base, entry_base, first_base, is_base_class, listed_base, number_field, value_field, values_base}
use Rattle.dw_base.proofs.StartFormLaws.{chosen-form, plain-form}
use Rattle.dw_attrs.proofs.FormFactLaws.{FormFacts, form-facts, number-plain}
use Rattle.dw_attrs.proofs.KindMeantLaws.{field-same, unit-small}
use Rattle.dw_attrs.proofs.ValueMeantLaws.{IsIn, number-read, leb-read, signed-read, block-read, text-read, own-field, spelled-own}
use Rattle.dw_base.specs.TableStarts.{is_start_form, own_form}
use Rattle.dw_base.specs.declared.texts.TextSection.TheVariants.{InStr, InLineStr}
use Rattle.dw_meaning.proofs.UnitRunLaws.{UnitSays}
use Rattle.dw_meaning.specs.PieceRuns.{all_of, value_out, values_out, listed_out, coded_out, entry_out, entries_out, any_piece}

-- the base that a number of a class says
abbrev pub class_base : ValueClass → ℕ → Option ℕ
class_base class n = if is_base_class class then Some n else None

-- a value of a form is a number, or an offset that is one
abbrev pub value_placed : View → UnitHeader → List ℕ → ℕ → Value → Bool
value_placed v h bytes form y = if is_start_form form then is_placed (number_field v h.section bytes form y) else true

abbrev pub value_base : View → UnitHeader → List ℕ → ℕ → ℕ → Value → List SaidBase
value_base v h bytes unit form y = said_by unit (value_placed v h bytes form y) (class_base y.class (base_number v h bytes form y))

-- what a value says, of entry `number`
abbrev pub base_says : View → UnitHeader → List ℕ → ℕ → ℕ → ℕ → Spec → ℕ → Value → List SaidBase
base_says v h bytes unit number tag x place y = if is_base number x.name then value_base v h bytes unit (own_form x bytes place) y else []

abbrev pub no_base : ℕ → ℕ → ℕ → Abbreviation → List SaidBase
no_base number place depth a = []

abbrev pub bases_of : Order → Located → Piece UnitState → List SaidBase
bases_of order z x = bases_by x.state.mode order z x.state x.cells

pub bases-all : (order : Order) (z : Located) (xs : List (Piece UnitState)) → bases_in order z xs ≡ all_of (bases_of order z) xs
bases-all order z [] = refl
bases-all order z (x ∷ xs) = ap (λ (t : List SaidBase). bases_by x.state.mode order z x.state x.cells ++ t) (bases-all order z xs)

-- the base that the cells of a value say is that of its class
start-number : {X : Type 0} (n : ℕ) (b : Bool) (form : ℕ) (offset plain k : X) → (n == 4 || n == 8) ≡ b → is_start_form form ≡ b → plain ≡ k
    → (if n == 4 || n == 8 then offset else plain) ≡ (if is_start_form form then offset else k)
start-number n true form offset plain k size start e =
    ap (λ (t : Bool). if t then offset else plain) size ∙ sym (ap (λ (t : Bool). if t then offset else k) start)
start-number n false form offset plain k size start e =
    ap (λ (t : Bool). if t then offset else plain) size ∙ e ∙ sym (ap (λ (t : Bool). if t then offset else k) start)

number-base : (v : View) (h : UnitHeader) (bytes : List ℕ) (order : Order) (z : Located) (class : ValueClass) (n form : ℕ) (y : Value) (p : List Cell)
    → FormFacts (number_of class n) form → spelled order (bytes_of p) 0 (length p) ≡ y.number
    → offset_of order z p ≡ offset_into (located v StrOffsets) (number_field v h.section bytes form y)
    → base_value order z (number_of class n) p ≡ class_base class (base_number v h bytes form y)
number-base v h bytes order z Number n form y p f number offset =
    ap (λ (m : ℕ). Some (if n == 4 || n == 8 then m else spelled order (bytes_of p) 0 (length p))) offset
    ∙ ap (λ (m : ℕ). Some m)
    (start-number n (n == 4 || n == 8) form (offset_into (located v StrOffsets) (number_field v h.section bytes form y)) (spelled order (bytes_of p) 0 (length p)) y.number refl (sym f.starts) number)
number-base v h bytes order z SecOffset n form y p f number offset =
    ap (λ (m : ℕ). Some m) offset
    ∙ sym (ap (λ (t : Bool). Some (if t then offset_into (located v StrOffsets) (number_field v h.section bytes form y) else y.number)) (sym f.starts))
number-base v h bytes order z Signed n form y p f number offset = (let own = f.own in absurd cc)
number-base v h bytes order z Bytes n form y p f number offset = (let own = f.own in absurd cc)
number-base v h bytes order z InlineText n form y p f number offset = (let own = f.own in absurd cc)
number-base v h bytes order z StrOffset n form y p f number offset = (let own = f.own in absurd cc)
number-base v h bytes order z LineStrOffset n form y p f number offset = (let own = f.own in absurd cc)
number-base v h bytes order z class n form y p f number offset = refl

leb-base : (v : View) (h : UnitHeader) (bytes : List ℕ) (order : Order) (z : Located) (class : ValueClass) (form : ℕ) (y : Value) (p : List Cell) → FormFacts (leb_number class) form
    → code_value p ≡ y.number → base_value order z (leb_number class) p ≡ class_base class (base_number v h bytes form y)
leb-base v h bytes order z Number form y p f e =
    ap (λ (m : ℕ). Some m) e
    ∙ sym (ap (λ (t : Bool). Some (if t then offset_into (located v StrOffsets) (number_field v h.section bytes form y) else y.number)) (sym f.starts))
leb-base v h bytes order z SecOffset form y p f e = (let own = f.own in absurd cc)
leb-base v h bytes order z GlobalRef form y p f e = (let own = f.own in absurd cc)
leb-base v h bytes order z Address form y p f e = (let own = f.own in absurd cc)
leb-base v h bytes order z Signed form y p f e = (let own = f.own in absurd cc)
leb-base v h bytes order z Bytes form y p f e = (let own = f.own in absurd cc)
leb-base v h bytes order z InlineText form y p f e = (let own = f.own in absurd cc)
leb-base v h bytes order z StrOffset form y p f e = (let own = f.own in absurd cc)
leb-base v h bytes order z LineStrOffset form y p f e = (let own = f.own in absurd cc)
leb-base v h bytes order z class form y p f e = refl

-- a class that says none
none-base : (class other : ValueClass) (k : ℕ) → other ≡ class → is_base_class class ≡ false → None ≡ class_base other k
none-base class other k e none = sym (ap (λ (b : Bool). if b then Some k else None) (ap is_base_class e ∙ none))

kind-base : (z : Located) (u : SaidUnit) (cells : List Cell) (s : UnitState) (order : Order) (x : Spec) (k : ValueKind) (place form : ℕ) (v : Value) → IsIn cells s u
    → s.header.params.order ≡ order → z ≡ located u.source.view StrOffsets → FormFacts k form → k ≢ form_in_front
    → value_of k s.header.params.order (unit_bytes s cells) place x.implicit ≡ Some v
    → base_value order z k (take v.size (drop place cells)) ≡ class_base v.class (base_number u.source.view u.header u.bytes form v)
unfolding value_of offset_of
kind-base z u cells s order x (number_of class n) place form v i same at f other is =
    let r = number-read class s.header.params.order (unit_bytes s cells) place n v is in
    let inside : place + v.size ≤ length (unit_bytes s cells) = (let e = r.size_is in let le = r.inside in omega (arith, e, le)) in
    number-base u.source.view u.header u.bytes order z class n form v (take v.size (drop place cells)) f
    (ap (λ (w : Order). spelled w (bytes_of (take v.size (drop place cells))) 0 (length (take v.size (drop place cells)))) (sym same)
    ∙ spelled-own u cells s place v.size i inside ∙ ap (spelled s.header.params.order (unit_bytes s cells) place) r.size_is ∙ sym r.number_is)
    (ap (λ (w : Order). offset_into z (field_of w (take v.size (drop place cells)))) (sym same)
    ∙ ap (offset_into z) (own-field u cells s class place n form v i (number-plain class n form f) f.small r)
    ∙ ap (λ (y : Located). offset_into y (value_field u form v)) at)
    ∙ ap (λ (c : ValueClass). class_base c (base_number u.source.view u.header u.bytes form v)) (sym r.class_is)
kind-base z u cells s order x (leb_number class) place form v i same at f other is =
    let r = leb-read class (unit_bytes s cells) place v is in
    let c : NumberPiece s cells place r.number r.size = number-piece s cells place r.number r.size r.read in
    leb-base u.source.view u.header u.bytes order z class form v (take v.size (drop place cells)) f
    (ap (λ (m : ℕ). code_value (take m (drop place cells))) r.size_is ∙ c.value ∙ sym r.number_is)
    ∙ ap (λ (d : ValueClass). class_base d (base_number u.source.view u.header u.bytes form v)) (sym r.class_is)
kind-base z u cells s order x signed_leb place form v i same at f other is =
    none-base Signed v.class _ (signed-read (unit_bytes s cells) place v is).class_is refl
kind-base z u cells s order x (block_of n) place form v i same at f other is =
    none-base Bytes v.class _ (block-read (unit_bytes s cells) place 0 n v is).class_is refl
kind-base z u cells s order x (counted n) place form v i same at f other is = by_count (number_at s.header.params.order (unit_bytes s cells) place n) is
  where
    by_count : (o : Option ℕ) → counted_value (unit_bytes s cells) place n o ≡ Some v → None ≡ class_base v.class (base_number u.source.view u.header u.bytes form v)
    by_count None e = absurd cc
    by_count (Some k) e = none-base Bytes v.class _ (block-read (unit_bytes s cells) place n k v e).class_is refl
kind-base z u cells s order x counted_leb place form v i same at f other is = by_count (uleb_at (unit_bytes s cells) place) is
  where
    by_count : (o : Option (ℕ × ℕ)) → counted_leb_value (unit_bytes s cells) place o ≡ Some v → None ≡ class_base v.class (base_number u.source.view u.header u.bytes form v)
    by_count None e = absurd cc
    by_count (Some (k, m)) e = none-base Bytes v.class _ (block-read (unit_bytes s cells) place m k v e).class_is refl
kind-base z u cells s order x inline_text place form v i same at f other is =
    none-base InlineText v.class _ (text-read (unit_bytes s cells) place v is).class_is refl
kind-base z u cells s order x (text_offset InStr n) place form v i same at f other is =
    none-base StrOffset v.class _ (number-read StrOffset s.header.params.order (unit_bytes s cells) place n v is).class_is refl
kind-base z u cells s order x (text_offset InLineStr n) place form v i same at f other is =
    none-base LineStrOffset v.class _ (number-read LineStrOffset s.header.params.order (unit_bytes s cells) place n v is).class_is refl
kind-base z u cells s order x present place form v i same at f other is = by_room (nat_le place (length (unit_bytes s cells))) is
  where
    by_room : (b : Bool) → cond b (Some (record { class = Flag; number = 1; at = place; len = 0; size = 0 })) None ≡ Some v
        → None ≡ class_base v.class (base_number u.source.view u.header u.bytes form v)
    by_room true e =
        let class_is : v.class ≡ Flag = cc in
        none-base Flag v.class _ class_is refl
    by_room false e = absurd cc
kind-base z u cells s order x in_abbreviation place form v i same at f other is = by_room (nat_le place (length (unit_bytes s cells))) is
  where
    by_room : (b : Bool) → cond b (Some (record { class = Signed; number = signed_bits x.implicit; at = place; len = 0; size = 0 })) None ≡ Some v
        → None ≡ class_base v.class (base_number u.source.view u.header u.bytes form v)
    by_room true e =
        let class_is : v.class ≡ Signed = cc in
        none-base Signed v.class _ class_is refl
    by_room false e = absurd cc
kind-base z u cells s order x form_in_front place form v i same at f other is = absurd (other refl)
kind-base z u cells s order x supplementary place form v i same at f other is = absurd cc
kind-base z u cells s order x unlisted place form v i same at f other is = absurd cc

-- so what they say of a unit is that, with its place
said-same : (unit : ℕ) (a b : Bool) (x y : Option ℕ) → a ≡ b → x ≡ y → said_by unit a x ≡ said_by unit b y
said-same unit a b x y p e = ap (λ (t : Bool). said_by unit t x) p ∙ ap (said_by unit b) e

said-none : (unit : ℕ) (a b : Bool) (x y : Option ℕ) → x ≡ None → x ≡ y → said_by unit a x ≡ said_by unit b y
said-none unit a b x y none e = ap (said_by unit a) none ∙ sym (ap (said_by unit b) (sym e ∙ none))

number-said : (unit : ℕ) (v : View) (h : UnitHeader) (bytes : List ℕ) (order : Order) (z : Located) (class : ValueClass) (n form : ℕ) (y : Value) (p : List Cell) (o : Option ℕ)
    → FormFacts (number_of class n) form → field_of order p ≡ number_field v h.section bytes form y → base_value order z (number_of class n) p ≡ o
    → base_said unit order z (number_of class n) p ≡ said_by unit (value_placed v h bytes form y) o
number-said unit v h bytes order z Number n form y p o f same e =
    said-same unit (base_placed order (number_of Number n) p) (value_placed v h bytes form y) (base_value order z (number_of Number n) p) o
    (ap (λ (x : Field). if n == 4 || n == 8 then is_placed x else true) same
    ∙ start-number n (n == 4 || n == 8) form (is_placed (number_field v h.section bytes form y)) true true refl (sym f.starts) refl) e
number-said unit v h bytes order z SecOffset n form y p o f same e =
    said-same unit (base_placed order (number_of SecOffset n) p) (value_placed v h bytes form y) (base_value order z (number_of SecOffset n) p) o
    (ap is_placed same ∙ sym (ap (λ (t : Bool). if t then is_placed (number_field v h.section bytes form y) else true) (sym f.starts))) e
number-said unit v h bytes order z class n form y p o f same e =
    said-none unit (base_placed order (number_of class n) p) (value_placed v h bytes form y) (base_value order z (number_of class n) p) o refl e

leb-said : (unit : ℕ) (v : View) (h : UnitHeader) (bytes : List ℕ) (order : Order) (z : Located) (class : ValueClass) (form : ℕ) (y : Value) (p : List Cell) (o : Option ℕ)
    → FormFacts (leb_number class) form → base_value order z (leb_number class) p ≡ o → base_said unit order z (leb_number class) p ≡ said_by unit (value_placed v h bytes form y) o
leb-said unit v h bytes order z Number form y p o f e =
    said-same unit true (value_placed v h bytes form y) (base_value order z (leb_number Number) p) o
    (sym (ap (λ (t : Bool). if t then is_placed (number_field v h.section bytes form y) else true) (sym f.starts))) e
leb-said unit v h bytes order z class form y p o f e =
    said-none unit (base_placed order (leb_number class) p) (value_placed v h bytes form y) (base_value order z (leb_number class) p) o refl e

kind-said : (z : Located) (u : SaidUnit) (cells : List Cell) (s : UnitState) (order : Order) (x : Spec) (k : ValueKind) (place form : ℕ) (v : Value) → IsIn cells s u
    → s.header.params.order ≡ order → z ≡ located u.source.view StrOffsets → FormFacts k form → k ≢ form_in_front
    → value_of k s.header.params.order (unit_bytes s cells) place x.implicit ≡ Some v
    → base_said s.unit order z k (take v.size (drop place cells)) ≡ value_base u.source.view u.header u.bytes s.unit form v
unfolding value_of
kind-said z u cells s order x (number_of class n) place form v i same at f other is =
    let r = number-read class s.header.params.order (unit_bytes s cells) place n v is in
    number-said s.unit u.source.view u.header u.bytes order z class n form v (take v.size (drop place cells)) (class_base v.class (base_number u.source.view u.header u.bytes form v)) f
    (ap (λ (w : Order). field_of w (take v.size (drop place cells))) (sym same) ∙ own-field u cells s class place n form v i (number-plain class n form f) f.small r)
    (kind-base z u cells s order x (number_of class n) place form v i same at f other is)
kind-said z u cells s order x (leb_number class) place form v i same at f other is =
    leb-said s.unit u.source.view u.header u.bytes order z class form v (take v.size (drop place cells)) (class_base v.class (base_number u.source.view u.header u.bytes form v)) f
    (kind-base z u cells s order x (leb_number class) place form v i same at f other is)
kind-said z u cells s order x k place form v i same at f other is =
    said-none s.unit (base_placed order k (take v.size (drop place cells))) (value_placed u.source.view u.header u.bytes form v)
    (base_value order z k (take v.size (drop place cells))) (class_base v.class (base_number u.source.view u.header u.bytes form v)) refl
    (kind-base z u cells s order x k place form v i same at f other is)

-- values with the same number and bytes say the same
number-same : (u : SaidUnit) (form : ℕ) (v w : Value) → w.at ≡ v.at → w.len ≡ v.len → w.number ≡ v.number
    → base_number u.source.view u.header u.bytes form w ≡ base_number u.source.view u.header u.bytes form v
number-same u form v w at len n =
    ap (λ (f : Field). if is_start_form form then offset_into (located u.source.view StrOffsets) f else w.number) (field-same u form v w at len n)
    ∙ ap (λ (k : ℕ). if is_start_form form then offset_into (located u.source.view StrOffsets) (value_field u form v) else k) n

pub unit-bases : (z : Located) (u : SaidUnit) (cells : List Cell) (s : UnitState) (order : Order) → IsIn cells s u → s.header.params.order ≡ order
    → z ≡ located u.source.view StrOffsets → UnitSays any_piece (bases_of order z) cells s no_base (base_says u.source.view u.header u.bytes s.unit)
unit-bases z u cells s order i same at = record {
  holds = λ m place e d k. tt;
  nulls = λ place e d p zero_. refl;
  codes = λ place e d a p some listed. refl;
  forms = λ place e d n tag x xs p front.
      ap (λ (k : ValueKind). if is_base n x.name then base_said s.unit order z k p else []) front ∙ none-said (is_base n x.name);
  owns = λ place e d n tag x xs v other is.
      ap (λ (bs : List SaidBase). if is_base n x.name then bs else [])
      (kind-said z u cells s order x (kind_in s.header.params x.form) place x.form v i same at (form-facts s.header.params x.form (unit-small cells s u i)) other is
      ∙ ap (λ (f : ℕ). value_base u.source.view u.header u.bytes s.unit f v) (sym (plain-form s.header.params x u.bytes place other)));
  chosen = λ place e d n tag x xs v front c.
      ap (λ (bs : List SaidBase). if is_base n x.name then bs else [])
      (kind-said z u cells s order (of_chosen x c.form) (kind_in s.header.params c.form) (place + c.size) c.form c.value i same at (form-facts s.header.params c.form (unit-small cells s u i)) c.other c.is
      ∙ ap (λ (t : ValueClass). said_by s.unit (value_placed u.source.view u.header u.bytes c.form c.value) (class_base t (base_number u.source.view u.header u.bytes c.form c.value))) (sym c.class_is)
      ∙ said-same s.unit _ _ _ _
      (ap (λ (f : Field). if is_start_form c.form then is_placed f else true) (field-same u c.form v c.value (sym c.at_is) (sym c.len_is) (sym c.number_is)))
      (ap (class_base v.class) (number-same u c.form v c.value (sym c.at_is) (sym c.len_is) (sym c.number_is)))
      ∙ ap (λ (f : ℕ). value_base u.source.view u.header u.bytes s.unit f v)
      (sym (ap (λ (bs : List ℕ). own_form x bs place) (sym i.bytes_are) ∙ chosen-form s.header.params x (unit_bytes s cells) place c.form c.size front c.spells)));
}
  where
    none-said : (b : Bool) → (if b then said_by s.unit true None else []) ≡ []
    none-said true = refl
    none-said false = refl

-- the first of them is the unit's
abbrev pub or_base : Option ℕ → Option ℕ → Option ℕ
or_base None rest = rest
or_base (Some b) rest = Some b

values-first : (unit tag : ℕ) (v : View) (h : UnitHeader) (bytes : List ℕ) (xs : List Spec) (place : ℕ) (rest : List SaidBase)
    → base_of (values_out (base_says v h bytes unit) h.params bytes 0 tag xs place ++ rest) unit ≡ or_base (values_base v h bytes xs place) (base_of rest unit)
values-first unit tag v h bytes [] place rest = refl
values-first unit tag v h bytes (x ∷ xs) place rest = by_value (value_at h.params x bytes place) (λ p. values-first unit tag v h bytes xs p rest)
  where
    by_says : (y : Value) (k : ℕ) (placed a b : Bool) → (base_of (values_out (base_says v h bytes unit) h.params bytes 0 tag xs (place + y.size) ++ rest) unit
        ≡ or_base (values_base v h bytes xs (place + y.size)) (base_of rest unit))
        → base_of (((if a then said_by unit placed (if b then Some k else None) else []) ++ values_out (base_says v h bytes unit) h.params bytes 0 tag xs (place + y.size)) ++ rest) unit
        ≡ or_base (if a && b then Some k else values_base v h bytes xs (place + y.size)) (base_of rest unit)
    by_says y k placed true true step =
        ap (λ (t : Bool). if t then Some k else base_of (values_out (base_says v h bytes unit) h.params bytes 0 tag xs (place + y.size) ++ rest) unit) (eq-eqb unit unit refl)
    by_says y k placed true false step = step
    by_says y k placed false true step = step
    by_says y k placed false false step = step

    by_value : (o : Option Value)
        → ((p : ℕ) → base_of (values_out (base_says v h bytes unit) h.params bytes 0 tag xs p ++ rest) unit ≡ or_base (values_base v h bytes xs p) (base_of rest unit))
        → base_of (value_out (base_says v h bytes unit) (λ p. values_out (base_says v h bytes unit) h.params bytes 0 tag xs p) 0 tag x place o ++ rest) unit
        ≡ or_base (base_behind (λ p. values_base v h bytes xs p) v h bytes x place o) (base_of rest unit)
    by_value None step = refl
    by_value (Some y) step =
        by_says y (base_number v h bytes (own_form x bytes place) y) (value_placed v h bytes (own_form x bytes place) y) (x.name == DW_AT_str_offsets_base) (is_base_class y.class) (step (place + y.size))

-- no other entry says one
values-none : (unit n tag : ℕ) (v : View) (h : UnitHeader) (bytes : List ℕ) (xs : List Spec) (place : ℕ) → values_out (base_says v h bytes unit) h.params bytes (suc n) tag xs place ≡ []
values-none unit n tag v h bytes [] place = refl
values-none unit n tag v h bytes (x ∷ xs) place = by_value (value_at h.params x bytes place) (λ p. values-none unit n tag v h bytes xs p)
  where
    by_value : (o : Option Value) → ((p : ℕ) → values_out (base_says v h bytes unit) h.params bytes (suc n) tag xs p ≡ [])
        → value_out (base_says v h bytes unit) (λ p. values_out (base_says v h bytes unit) h.params bytes (suc n) tag xs p) (suc n) tag x place o ≡ []
    by_value None step = refl
    by_value (Some y) step =
        ap (λ (b : Bool). (if b && x.name == DW_AT_str_offsets_base then value_base v h bytes unit (own_form x bytes place) y else [])
        ++ values_out (base_says v h bytes unit) h.params bytes (suc n) tag xs (place + y.size)) (ne_eqb (suc n) 0 (λ (e : suc n ≡ 0). omega (arith, e)))
        ∙ step (place + y.size)

entry-none : (unit n : ℕ) (v : View) (h : UnitHeader) (table : List Abbreviation) (bytes : List ℕ) (e : Scanned) → entry_out no_base (base_says v h bytes unit) h.params table bytes (suc n) e ≡ []
entry-none unit n v h table bytes e = by_code (uleb_at bytes e.offset)
  where
    by_listed : (from : ℕ) (o : Option Abbreviation) → listed_out no_base (base_says v h bytes unit) h.params bytes (suc n) e from o ≡ []
    by_listed from None = refl
    by_listed from (Some a) = values-none unit n a.tag v h bytes a.specs from

    by_code : (o : Option (ℕ × ℕ)) → coded_out no_base (base_says v h bytes unit) h.params table bytes (suc n) e o ≡ []
    by_code None = refl
    by_code (Some (code, size)) = by_listed (e.offset + size) (abbreviation_of table code)

entries-none : (unit n : ℕ) (v : View) (h : UnitHeader) (table : List Abbreviation) (bytes : List ℕ) (es : List Scanned) → entries_out no_base (base_says v h bytes unit) h.params table bytes (suc n) es ≡ []
entries-none unit n v h table bytes [] = refl
entries-none unit n v h table bytes (e ∷ es) =
    let next : suc n + 1 ≡ suc (n + 1) = omega arith in
    ap (λ (t : List SaidBase). t ++ entries_out no_base (base_says v h bytes unit) h.params table bytes (suc n + 1) es) (entry-none unit n v h table bytes e)
    ∙ ap (λ (k : ℕ). entries_out no_base (base_says v h bytes unit) h.params table bytes k es) next ∙ entries-none unit (n + 1) v h table bytes es

pub unit-base : (unit : ℕ) (v : View) (h : UnitHeader) (table : List Abbreviation) (bytes : List ℕ) (es : List Scanned) (rest : List SaidBase)
    → base_of (entries_out no_base (base_says v h bytes unit) h.params table bytes 0 es ++ rest) unit ≡ or_base (first_base v h table bytes es) (base_of rest unit)
unfolding entry_base
unit-base unit v h table bytes [] rest = refl
unit-base unit v h table bytes (e ∷ es) rest =
    let one : 0 + 1 ≡ suc 0 = omega arith in
    ap (λ (t : List SaidBase). base_of ((entry_out no_base (base_says v h bytes unit) h.params table bytes 0 e ++ t) ++ rest) unit)
    (ap (λ (k : ℕ). entries_out no_base (base_says v h bytes unit) h.params table bytes k es) one ∙ entries-none unit 0 v h table bytes es)
    ∙ ap (λ (t : List SaidBase). base_of (t ++ rest) unit) (append-nil (entry_out no_base (base_says v h bytes unit) h.params table bytes 0 e))
    ∙ by_code (uleb_at bytes e.offset)
  where
    by_listed : (from : ℕ) (o : Option Abbreviation)
        → base_of (listed_out no_base (base_says v h bytes unit) h.params bytes 0 e from o ++ rest) unit ≡ or_base (listed_base v h bytes from o) (base_of rest unit)
    by_listed from None = refl
    by_listed from (Some a) = values-first unit a.tag v h bytes a.specs from rest

    by_code : (o : Option (ℕ × ℕ))
        → base_of (coded_out no_base (base_says v h bytes unit) h.params table bytes 0 e o ++ rest) unit ≡ or_base (coded_base v h table bytes e.offset o) (base_of rest unit)
    by_code None = refl
    by_code (Some (code, size)) = by_listed (e.offset + size) (abbreviation_of table code)
