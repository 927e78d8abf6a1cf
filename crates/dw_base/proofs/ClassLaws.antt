-- What the class of a value says of its kind: texts and their offsets are of their own kinds alone.
use Rattle.std.proofs.Common.{Bool, true, false, ◌≡◌, ℕ, ℤ, List, [], ◌∷◌, Option, Some, None, refl, sym, ap, ◌∙◌, if◌then◌else◌}
use Rattle.std.specs.Prelude.{◌==◌, ◌&&◌}
use Rattle.std.proofs.lemmas.Bool.{and_parts}
use Rattle.dw_base.specs.Forms.{ValueKind, number_of, leb_number, signed_leb, block_of, counted, counted_leb, inline_text, text_offset, present, in_abbreviation, form_in_front, supplementary, unlisted, FormRow, form_rows, kind_by, kind_in}
use Rattle.dw_base.specs.Lebs.{uleb_at, sleb_at}
use Rattle.dw_base.specs.Numbers.{number_at}
use Rattle.dw_base.specs.Texts.{ends_in}
use Rattle.dw_base.specs.Values.{value_of, number_value, leb_value_at, signed_value_at, counted_value, counted_leb_value, offset_class}
use Rattle.dw_base.specs.declared.shared.Order.{Order}
use Rattle.dw_base.specs.declared.shared.Params.{Params}
use Rattle.dw_base.specs.declared.texts.TextSection.{TextSection}
use Rattle.dw_base.specs.declared.texts.TextSection.TheVariants.{InStr, InLineStr}
use Rattle.dw_base.specs.declared.values.Value.{Value}
use Rattle.dw_base.specs.declared.values.ValueClass.{ValueClass}
use Rattle.dw_base.specs.declared.values.ValueClass.TheVariants.{InlineText, StrOffset, LineStrOffset, Bytes, Flag, Signed}

-- a class that says of a text, or of an offset of one
abbrev pub is_textual : ValueClass → Bool
is_textual InlineText = true
is_textual StrOffset = true
is_textual LineStrOffset = true
is_textual class = false

-- a number's class isn't
abbrev pub is_proper : ValueKind → Bool
is_proper (number_of class n) = if is_textual class then false else true
is_proper (leb_number class) = if is_textual class then false else true
is_proper k = true

abbrev all_proper : List FormRow → Bool
all_proper [] = true
all_proper (r ∷ rs) = is_proper r.kind && all_proper rs

rows_proper : (params : Params) → all_proper (form_rows params) ≡ true
unfolding form_rows
rows_proper params = refl

kind_proper : (rows : List FormRow) (form : ℕ) → all_proper rows ≡ true → is_proper (kind_by rows form) ≡ true
kind_proper [] form all = refl
kind_proper (r ∷ rs) form all =
    let parts = and_parts (is_proper r.kind) (all_proper rs) all in
    by_form (r.form == form) parts.0 (kind_proper rs form parts.1)
  where
    by_form : (b : Bool) → is_proper r.kind ≡ true → is_proper (kind_by rs form) ≡ true → is_proper (if b then r.kind else kind_by rs form) ≡ true
    by_form true one rest = one
    by_form false one rest = rest

-- the forms of numbers are of no such class
pub form-proper : (params : Params) (form : ℕ) → is_proper (kind_in params form) ≡ true
unfolding kind_in
form-proper params form = kind_proper (form_rows params) form (rows_proper params)

-- the class of a kind
abbrev pub class_of_kind : ValueKind → Option ValueClass
class_of_kind (number_of class n) = Some class
class_of_kind (leb_number class) = Some class
class_of_kind signed_leb = Some Signed
class_of_kind (block_of n) = Some Bytes
class_of_kind (counted n) = Some Bytes
class_of_kind counted_leb = Some Bytes
class_of_kind inline_text = Some InlineText
class_of_kind (text_offset table n) = Some (offset_class table)
class_of_kind present = Some Flag
class_of_kind in_abbreviation = Some Signed
class_of_kind k = None

abbrev class_read : Option Value → Option ValueClass
class_read None = None
class_read (Some v) = Some v.class

number-class : (class : ValueClass) (at n : ℕ) (o : Option ℕ) (v : Value) → number_value class at n o ≡ Some v → Some class ≡ Some v.class
number-class class at n None v e = absurd cc
number-class class at n (Some x) v e = ap class_read e

leb-class : (class : ValueClass) (at : ℕ) (o : Option (ℕ × ℕ)) (v : Value) → leb_value_at class at o ≡ Some v → Some class ≡ Some v.class
leb-class class at None v e = absurd cc
leb-class class at (Some x) v e = ap class_read e

signed-class : (at : ℕ) (o : Option (ℤ × ℕ)) (v : Value) → signed_value_at at o ≡ Some v → Some Signed ≡ Some v.class
signed-class at None v e = absurd cc
signed-class at (Some x) v e = ap class_read e

if-class : (b : Bool) (w v : Value) → (if b then Some w else None) ≡ Some v → Some w.class ≡ Some v.class
if-class true w v e = ap class_read e
if-class false w v e = absurd cc

counted-class : (bytes : List ℕ) (at n : ℕ) (o : Option ℕ) (v : Value) → counted_value bytes at n o ≡ Some v → Some Bytes ≡ Some v.class
counted-class bytes at n None v e = absurd cc
counted-class bytes at n (Some x) v e = if-class _ _ v e

counted_leb-class : (bytes : List ℕ) (at : ℕ) (o : Option (ℕ × ℕ)) (v : Value) → counted_leb_value bytes at o ≡ Some v → Some Bytes ≡ Some v.class
counted_leb-class bytes at None v e = absurd cc
counted_leb-class bytes at (Some x) v e = if-class _ _ v e

-- a value has the class of its kind
pub value-class : (k : ValueKind) (o : Order) (bytes : List ℕ) (at : ℕ) (i : ℤ) (v : Value) → value_of k o bytes at i ≡ Some v → class_of_kind k ≡ Some v.class
unfolding value_of
value-class (number_of class n) o bytes at i v e = number-class class at n (number_at o bytes at n) v e
value-class (text_offset table n) o bytes at i v e = number-class (offset_class table) at n (number_at o bytes at n) v e
value-class (leb_number class) o bytes at i v e = leb-class class at (uleb_at bytes at) v e
value-class signed_leb o bytes at i v e = signed-class at (sleb_at bytes at) v e
value-class (block_of n) o bytes at i v e = if-class _ _ v e
value-class (counted n) o bytes at i v e = counted-class bytes at n (number_at o bytes at n) v e
value-class counted_leb o bytes at i v e = counted_leb-class bytes at (uleb_at bytes at) v e
value-class inline_text o bytes at i v e = if-class (ends_in bytes at) _ v e
value-class present o bytes at i v e = if-class _ _ v e
value-class in_abbreviation o bytes at i v e = if-class _ _ v e
value-class form_in_front o bytes at i v e = absurd cc
value-class supplementary o bytes at i v e = absurd cc
value-class unlisted o bytes at i v e = absurd cc

-- the kind of a text, and of an offset of one
pub inline-kind : (k : ValueKind) → is_proper k ≡ true → class_of_kind k ≡ Some InlineText → k ≡ inline_text
inline-kind (number_of class n) p e = absurd (textual class (if is_textual class then false else true) p refl e)
  where
    textual : (class : ValueClass) (b : Bool) → b ≡ true → b ≡ (if is_textual class then false else true) → Some class ≡ Some InlineText → ⊥
    textual class b p q e =
        let same : class ≡ InlineText = cc in
        let no : true ≡ false = sym p ∙ q ∙ ap (λ (c : ValueClass). if is_textual c then false else true) same in
        cc
inline-kind (leb_number class) p e = absurd (textual class (if is_textual class then false else true) p refl e)
  where
    textual : (class : ValueClass) (b : Bool) → b ≡ true → b ≡ (if is_textual class then false else true) → Some class ≡ Some InlineText → ⊥
    textual class b p q e =
        let same : class ≡ InlineText = cc in
        let no : true ≡ false = sym p ∙ q ∙ ap (λ (c : ValueClass). if is_textual c then false else true) same in
        cc
inline-kind signed_leb p e = absurd cc
inline-kind (block_of n) p e = absurd cc
inline-kind (counted n) p e = absurd cc
inline-kind counted_leb p e = absurd cc
inline-kind inline_text p e = refl
inline-kind (text_offset InStr n) p e = absurd cc
inline-kind (text_offset InLineStr n) p e = absurd cc
inline-kind present p e = absurd cc
inline-kind in_abbreviation p e = absurd cc
inline-kind form_in_front p e = absurd cc
inline-kind supplementary p e = absurd cc
inline-kind unlisted p e = absurd cc

class-apart : (class c : ValueClass) → is_textual c ≡ true → (if is_textual class then false else true) ≡ true → Some class ≡ Some c → ⊥
class-apart class c t p e =
    let same : class ≡ c = cc in
    let no : true ≡ false = sym p ∙ ap (λ (x : ValueClass). if is_textual x then false else true) same ∙ ap (λ (b : Bool). if b then false else true) t in
    cc

textual-offset : (table : TextSection) → is_textual (offset_class table) ≡ true
textual-offset InStr = refl
textual-offset InLineStr = refl

pub offset-kind : (k : ValueKind) (table : TextSection) → is_proper k ≡ true → class_of_kind k ≡ Some (offset_class table) → (n : ℕ) × (k ≡ text_offset table n)
offset-kind (number_of class n) table p e = absurd (class-apart class (offset_class table) (textual-offset table) p e)
offset-kind (leb_number class) table p e = absurd (class-apart class (offset_class table) (textual-offset table) p e)
offset-kind (text_offset InStr n) InStr p e = (n, refl)
offset-kind (text_offset InLineStr n) InLineStr p e = (n, refl)
offset-kind (text_offset InStr n) InLineStr p e = absurd cc
offset-kind (text_offset InLineStr n) InStr p e = absurd cc
offset-kind signed_leb InStr p e = absurd cc
offset-kind signed_leb InLineStr p e = absurd cc
offset-kind (block_of n) InStr p e = absurd cc
offset-kind (block_of n) InLineStr p e = absurd cc
offset-kind (counted n) InStr p e = absurd cc
offset-kind (counted n) InLineStr p e = absurd cc
offset-kind counted_leb InStr p e = absurd cc
offset-kind counted_leb InLineStr p e = absurd cc
offset-kind inline_text InStr p e = absurd cc
offset-kind inline_text InLineStr p e = absurd cc
offset-kind present InStr p e = absurd cc
offset-kind present InLineStr p e = absurd cc
offset-kind in_abbreviation InStr p e = absurd cc
offset-kind in_abbreviation InLineStr p e = absurd cc
offset-kind form_in_front table p e = absurd cc
offset-kind supplementary table p e = absurd cc
offset-kind unlisted table p e = absurd cc
