-- What is known of a value that was read: it lies in the bytes, and an offset of a text is the number that its field spells.
use Rattle.std.proofs.Common.{Bool, true, false, ◌≡◌, ◌⊎◌, inl, inr, ℕ, ◌+◌, ◌≤◌, List, length, Option, Some, None, cond, refl, sym, ap, ◌∙◌, subst, arith}
use Rattle.std.specs.Prelude.{ℤ, nat_le}
use Rattle.std.specs.Bool.{⊤}
use Rattle.std.proofs.lemmas.Bool.{leb-true}
use Rattle.dw_base.specs.Forms.{ValueKind, number_of, leb_number, signed_leb, block_of, counted, counted_leb, inline_text, text_offset, present, in_abbreviation, form_in_front, supplementary, unlisted, kind_in, width_size}
use Rattle.dw_base.specs.Lebs.{uleb_at, sleb_at}
use Rattle.dw_base.specs.Numbers.{spelled, number_at}
use Rattle.dw_base.specs.Values.{value_of, value_at, number_value, offset_class}
use Rattle.dw_base.specs.declared.shared.Params.{Params}
use Rattle.dw_base.specs.declared.shared.Width.{Width}
use Rattle.dw_base.specs.declared.shared.Width.TheVariants.{W32, W64}
use Rattle.dw_base.specs.declared.values.Spec.{Spec}
use Rattle.dw_base.specs.declared.values.Value.{Value}
use Rattle.dw_base.specs.declared.values.ValueClass.{ValueClass}
use Rattle.dw_base.specs.declared.values.ValueClass.TheVariants.{InlineText, StrOffset, LineStrOffset, Signed, Bytes, Flag}
use Rattle.dw_base.proofs.FormLaws.{value_by-own}
use Rattle.dw_base.proofs.FormSizeLaws.{is_sized, offset_sized, offset-size}
use Rattle.dw_base.specs.TableStarts.{is_start_form, own_form}
use Rattle.dw_base.specs.declared.texts.TextSection.{TextSection}
use Rattle.dw_base.specs.declared.texts.TextSection.TheVariants.{InStr, InLineStr}
use Rattle.dw_meaning.proofs.ValueCutLaws.{value_of-own}
use Rattle.dw_unit_fields.specs.EntryTexts.{OffsetLies, OffsetSized}
use Rattle.dw_base.proofs.StartFormLaws.{StartKind, chosen-form, plain-form, start-kind}
use Rattle.dw_unit_fields.proofs.ValuePlaceLaws.{is_plain_kind, kind_plain, is_plain_class, leb_plain, number-fields, leb-class, signed-class, block-class, counted-class, counted_leb-class, bare-class, text-fields}
use Rattle.dw_meaning.proofs.ScanPieceLaws.{is_front, Chosen, chosen-read}

-- a field of four or eight bytes in the bytes, and its number
pub record OffsetRead (params : Params) (bytes : List ℕ) (v : Value) : Type 0 where
  pub sized : (v.len ≡ 4) ⊎ (v.len ≡ 8)
  pub inside : v.at + v.len ≤ length bytes
  pub number : v.number ≡ spelled params.order bytes v.at v.len

abbrev pub OffsetFacts : ValueClass → Params → List ℕ → Value → Type 0
OffsetFacts StrOffset params bytes v = OffsetRead params bytes v
OffsetFacts LineStrOffset params bytes v = OffsetRead params bytes v
OffsetFacts class params bytes v = ⊤

width-size : (w : Width) (n : ℕ) → n ≡ width_size w → (n ≡ 4) ⊎ (n ≡ 8)
width-size W32 n e = inl e
width-size W64 n e = inr e

-- a number that was read at a place
number-read : (params : Params) (class : ValueClass) (bytes : List ℕ) (at n : ℕ) (v : Value) → n ≡ width_size params.width
    → number_value class at n (number_at params.order bytes at n) ≡ Some v → OffsetRead params bytes v
unfolding number_at
number-read params class bytes at n v size e = by_room (nat_le (at + n) (length bytes)) refl e
  where
    by_room : (b : Bool) → nat_le (at + n) (length bytes) ≡ b
        → number_value class at n (cond {A = Option ℕ} b (Some (spelled params.order bytes at n)) None) ≡ Some v → OffsetRead params bytes v
    by_room true is e =
        let at_is : v.at ≡ at = cc in
        let len_is : v.len ≡ n = cc in
        let number_is : v.number ≡ spelled params.order bytes at n = cc in
        record {
          sized = width-size params.width v.len (len_is ∙ size);
          inside = omega (arith, at_is, len_is, leb-true _ _ is);
          number = number_is ∙ rw (at_is, len_is) refl;
        }
    by_room false is e = absurd cc

-- the same of so many bytes
sized-read : (params : Params) (class : ValueClass) (bytes : List ℕ) (at n : ℕ) (v : Value) → (n ≡ 4) ⊎ (n ≡ 8)
    → number_value class at n (number_at params.order bytes at n) ≡ Some v → OffsetRead params bytes v
unfolding number_at
sized-read params class bytes at n v size e = by_room (nat_le (at + n) (length bytes)) refl e
  where
    by_room : (b : Bool) → nat_le (at + n) (length bytes) ≡ b
        → number_value class at n (cond {A = Option ℕ} b (Some (spelled params.order bytes at n)) None) ≡ Some v → OffsetRead params bytes v
    by_room true is e =
        let at_is : v.at ≡ at = cc in
        let len_is : v.len ≡ n = cc in
        let number_is : v.number ≡ spelled params.order bytes at n = cc in
        record {
          sized = subst (λ (m : ℕ). (m ≡ 4) ⊎ (m ≡ 8)) (sym len_is) size;
          inside = omega (arith, at_is, len_is, leb-true _ _ is);
          number = number_is ∙ rw (at_is, len_is) refl;
        }
    by_room false is e = absurd cc

read-same : (params : Params) (bytes : List ℕ) (v w : Value) → v.at ≡ w.at → v.len ≡ w.len → v.number ≡ w.number → OffsetRead params bytes w → OffsetRead params bytes v
read-same params bytes v w at len number f = record {
  sized = subst (λ (n : ℕ). (n ≡ 4) ⊎ (n ≡ 8)) (sym len) f.sized;
  inside = omega (arith, at, len, f.inside);
  number = number ∙ f.number ∙ ap (λ (n : ℕ). spelled params.order bytes n w.len) (sym at) ∙ ap (spelled params.order bytes v.at) (sym len);
}

-- of a class that isn't of offsets nothing is to be known
no_facts : (class : ValueClass) (params : Params) (bytes : List ℕ) (v : Value) → is_plain_class class ≡ true → OffsetFacts class params bytes v
no_facts StrOffset params bytes v plain = absurd cc
no_facts LineStrOffset params bytes v plain = absurd cc
no_facts class params bytes v plain = tt

plain-facts : (class : ValueClass) (params : Params) (bytes : List ℕ) (v : Value) → is_plain_class class ≡ true → v.class ≡ class → OffsetFacts v.class params bytes v
plain-facts class params bytes v plain e = subst (λ (c : ValueClass). OffsetFacts c params bytes v) (sym e) (no_facts class params bytes v plain)

text-facts : (params : Params) (bytes : List ℕ) (v : Value) → v.class ≡ InlineText → OffsetFacts v.class params bytes v
text-facts params bytes v e = subst (λ (c : ValueClass). OffsetFacts c params bytes v) (sym e) tt

offset-facts : (table : TextSection) (params : Params) (bytes : List ℕ) (at n : ℕ) (v : Value) → n ≡ width_size params.width
    → number_value (offset_class table) at n (number_at params.order bytes at n) ≡ Some v → OffsetFacts v.class params bytes v
offset-facts InStr params bytes at n v size e =
    subst (λ (c : ValueClass). OffsetFacts c params bytes v) (sym (number-fields StrOffset at n (number_at params.order bytes at n) v e).class_is)
    (number-read params StrOffset bytes at n v size e)
offset-facts InLineStr params bytes at n v size e =
    subst (λ (c : ValueClass). OffsetFacts c params bytes v) (sym (number-fields LineStrOffset at n (number_at params.order bytes at n) v e).class_is)
    (number-read params LineStrOffset bytes at n v size e)

-- a value of a kind
kind-facts : (k : ValueKind) (params : Params) (bytes : List ℕ) (at : ℕ) (implicit : ℤ) (v : Value) → is_plain_kind k ≡ true → is_sized params.width k ≡ true
    → value_of k params.order bytes at implicit ≡ Some v → OffsetFacts v.class params bytes v
unfolding value_of
kind-facts (text_offset table n) params bytes at i v plain sized e =
    offset-facts table params bytes at n v (offset-size params (text_offset table n) table n sized refl) e
kind-facts (number_of class n) params bytes at i v plain sized e =
    plain-facts class params bytes v plain (number-fields class at n (number_at params.order bytes at n) v e).class_is
kind-facts (leb_number class) params bytes at i v plain sized e = plain-facts class params bytes v (leb_plain class plain) (leb-class class at (uleb_at bytes at) v e)
kind-facts signed_leb params bytes at i v plain sized e = plain-facts Signed params bytes v refl (signed-class at (sleb_at bytes at) v e)
kind-facts (block_of n) params bytes at i v plain sized e = plain-facts Bytes params bytes v refl (block-class bytes at 0 n v e)
kind-facts (counted n) params bytes at i v plain sized e =
    plain-facts Bytes params bytes v refl (counted-class bytes at n (number_at params.order bytes at n) v e)
kind-facts counted_leb params bytes at i v plain sized e = plain-facts Bytes params bytes v refl (counted_leb-class bytes at (uleb_at bytes at) v e)
kind-facts inline_text params bytes at i v plain sized e = text-facts params bytes v (text-fields bytes at v e).class_is
kind-facts present params bytes at i v plain sized e = plain-facts Flag params bytes v refl (bare-class bytes at Flag 1 v e)
kind-facts in_abbreviation params bytes at i v plain sized e = plain-facts Signed params bytes v refl (bare-class bytes at Signed _ v e)
kind-facts form_in_front params bytes at i v plain sized e = absurd cc
kind-facts supplementary params bytes at i v plain sized e = absurd cc
kind-facts unlisted params bytes at i v plain sized e = absurd cc

-- facts of a value with the same fields
facts-same : (class : ValueClass) (params : Params) (bytes : List ℕ) (v w : Value) → v.at ≡ w.at → v.len ≡ w.len → v.number ≡ w.number
    → OffsetFacts class params bytes w → OffsetFacts class params bytes v
facts-same StrOffset params bytes v w at len number f = read-same params bytes v w at len number f
facts-same LineStrOffset params bytes v w at len number f = read-same params bytes v w at len number f
facts-same class params bytes v w at len number f = tt

-- of a value of an attribute
pub record ValueFacts (params : Params) (bytes : List ℕ) (place : ℕ) (v : Value) : Type 0 where
  pub inside : place + v.size ≤ length bytes
  pub offset : OffsetFacts v.class params bytes v

pub value-facts : (params : Params) (x : Spec) (bytes : List ℕ) (place : ℕ) (v : Value) → value_at params x bytes place ≡ Some v → ValueFacts params bytes place v
unfolding value_at
value-facts params x bytes place v is = by_front (is_front (kind_in params x.form))
  where
    by_front : (kind_in params x.form ≡ form_in_front) ⊎ (kind_in params x.form ≡ form_in_front → ⊥) → ValueFacts params bytes place v
    by_front (inl front) =
        let c : Chosen params x bytes place v = chosen-read params x bytes place v front is in
        let room : place + c.size + c.value.size ≤ length bytes =
        (value_of-own (kind_in params c.form) params.order bytes (place + c.size) x.implicit c.value c.is).inside in
        record {
          inside = omega (arith, room, c.whole);
          offset = subst (λ (class : ValueClass). OffsetFacts class params bytes v) (sym c.class_is)
              (facts-same c.value.class params bytes v c.value c.at_is c.len_is c.number_is
              (kind-facts (kind_in params c.form) params bytes (place + c.size) x.implicit c.value (kind_plain params c.form) (offset_sized params c.form) c.is));
        }
    by_front (inr other) =
        let own : value_of (kind_in params x.form) params.order bytes place x.implicit ≡ Some v =
        sym (value_by-own (kind_in params x.form) params x bytes place other) ∙ is in
        record {
          inside = (value_of-own (kind_in params x.form) params.order bytes place x.implicit v own).inside;
          offset = kind-facts (kind_in params x.form) params bytes place x.implicit v (kind_plain params x.form) (offset_sized params x.form) own;
        }

sized-class : (class : ValueClass) (params : Params) (bytes : List ℕ) (v : Value) → OffsetFacts class params bytes v → OffsetSized class v.len
sized-class StrOffset params bytes v f = f.sized
sized-class LineStrOffset params bytes v f = f.sized
sized-class class params bytes v f = tt

pub value-inside : (params : Params) (x : Spec) (bytes : List ℕ) (place : ℕ) (v : Value) → value_at params x bytes place ≡ Some v → place + v.size ≤ length bytes
value-inside params x bytes place v is = (value-facts params x bytes place v is).inside

pub value-sized : (params : Params) (x : Spec) (bytes : List ℕ) (place : ℕ) (v : Value) → value_at params x bytes place ≡ Some v → OffsetSized v.class v.len
value-sized params x bytes place v is = sized-class v.class params bytes v (value-facts params x bytes place v is).offset

lies-class : (class : ValueClass) (params : Params) (bytes : List ℕ) (v : Value) → OffsetFacts class params bytes v → OffsetLies (length bytes) class v
lies-class StrOffset params bytes v f = f.inside
lies-class LineStrOffset params bytes v f = f.inside
lies-class class params bytes v f = tt

pub value-lies : (params : Params) (x : Spec) (bytes : List ℕ) (place : ℕ) (v : Value) → value_at params x bytes place ≡ Some v → OffsetLies (length bytes) v.class v
value-lies params x bytes place v is = lies-class v.class params bytes v (value-facts params x bytes place v is).offset

-- a value of a form that can say where a line table starts is a field of four or eight bytes
kind-start : (params : Params) (form : ℕ) (bytes : List ℕ) (at : ℕ) (implicit : ℤ) (v : Value) → is_start_form form ≡ true
    → value_of (kind_in params form) params.order bytes at implicit ≡ Some v → OffsetRead params bytes v
unfolding value_of
kind-start params form bytes at i v is e =
    let k : StartKind params form = start-kind params form is in
    sized-read params k.class bytes at k.size v k.sized (sym (ap (λ (y : ValueKind). value_of y params.order bytes at i) k.kind_is) ∙ e)

pub start-read : (params : Params) (x : Spec) (bytes : List ℕ) (place : ℕ) (v : Value) → value_at params x bytes place ≡ Some v → is_start_form (own_form x bytes place) ≡ true
    → OffsetRead params bytes v
unfolding value_at
start-read params x bytes place v is start = by_front (is_front (kind_in params x.form))
  where
    by_front : (kind_in params x.form ≡ form_in_front) ⊎ (kind_in params x.form ≡ form_in_front → ⊥) → OffsetRead params bytes v
    by_front (inl front) =
        let c : Chosen params x bytes place v = chosen-read params x bytes place v front is in
        read-same params bytes v c.value c.at_is c.len_is c.number_is
        (kind-start params c.form bytes (place + c.size) x.implicit c.value
        (ap is_start_form (sym (chosen-form params x bytes place c.form c.size front c.spells)) ∙ start) c.is)
    by_front (inr other) =
        kind-start params x.form bytes place x.implicit v (ap is_start_form (sym (plain-form params x bytes place other)) ∙ start)
        (sym (value_by-own (kind_in params x.form) params x bytes place other) ∙ is)
