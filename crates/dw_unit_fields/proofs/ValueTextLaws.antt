-- What is known of a value that is a text: where it lies, and which it is.
use Rattle.std.proofs.Common.{true, ◌≡◌, ◌⊎◌, inl, inr, ℕ, ◌+◌, ◌≤◌, List, length, Some, sym, ap, ◌∙◌, arith}
use Rattle.std.specs.Prelude.{ℤ}
use Rattle.dw_base.specs.Forms.{ValueKind, inline_text, form_in_front, kind_in}
use Rattle.dw_base.specs.Texts.{text_in}
use Rattle.dw_base.specs.Values.{value_of, value_at}
use Rattle.dw_base.specs.declared.shared.Order.{Order}
use Rattle.dw_base.specs.declared.shared.Params.{Params}
use Rattle.dw_base.specs.declared.values.Spec.{Spec}
use Rattle.dw_base.specs.declared.values.Value.{Value}
use Rattle.dw_base.specs.declared.values.ValueClass.{ValueClass}
use Rattle.dw_base.specs.declared.values.ValueClass.TheVariants.{InlineText}
use Rattle.dw_base.proofs.ClassLaws.{is_proper, form-proper, value-class, inline-kind}
use Rattle.dw_base.proofs.FormLaws.{value_by-own}
use Rattle.dw_meaning.proofs.ValueCutLaws.{value_of-own}
use Rattle.dw_unit_fields.proofs.ValuePlaceLaws.{text-fields}
use Rattle.dw_meaning.proofs.ScanPieceLaws.{is_front, Chosen, chosen-read}

-- the text lies in the bytes, and is the one there
pub record TextRead (bytes : List ℕ) (v : Value) : Type 0 where
  pub len_is : v.len ≡ length (text_in bytes v.at)
  pub inside : v.at + v.len ≤ length bytes

text-read : (o : Order) (bytes : List ℕ) (at : ℕ) (i : ℤ) (v : Value) → value_of inline_text o bytes at i ≡ Some v → TextRead bytes v
unfolding value_of
text-read o bytes at i v e =
    let f = text-fields bytes at v e in
    let room : at + v.size ≤ length bytes = (value_of-own inline_text o bytes at i v e).inside in
    record {
      len_is = f.len_is ∙ ap (λ (n : ℕ). length (text_in bytes n)) (sym f.at_is);
      inside = omega (arith, f.at_is, f.len_is, f.size_is, room);
    }

kind-text : (k : ValueKind) (o : Order) (bytes : List ℕ) (at : ℕ) (i : ℤ) (v : Value) → is_proper k ≡ true → value_of k o bytes at i ≡ Some v
    → v.class ≡ InlineText → TextRead bytes v
kind-text k o bytes at i v proper e class =
    let same : k ≡ inline_text = inline-kind k proper (value-class k o bytes at i v e ∙ ap (λ (c : ValueClass). Some c) class) in
    text-read o bytes at i v (ap (λ (y : ValueKind). value_of y o bytes at i) (sym same) ∙ e)

text-same : (bytes : List ℕ) (v w : Value) → v.at ≡ w.at → v.len ≡ w.len → TextRead bytes w → TextRead bytes v
text-same bytes v w at len r = record {
  len_is = len ∙ r.len_is ∙ ap (λ (n : ℕ). length (text_in bytes n)) (sym at);
  inside = omega (arith, at, len, r.inside);
}

pub value-text : (params : Params) (x : Spec) (bytes : List ℕ) (place : ℕ) (v : Value) → value_at params x bytes place ≡ Some v → v.class ≡ InlineText → TextRead bytes v
unfolding value_at
value-text params x bytes place v is class = by_front (is_front (kind_in params x.form))
  where
    by_front : (kind_in params x.form ≡ form_in_front) ⊎ (kind_in params x.form ≡ form_in_front → ⊥) → TextRead bytes v
    by_front (inl front) =
        let c : Chosen params x bytes place v = chosen-read params x bytes place v front is in
        text-same bytes v c.value c.at_is c.len_is
        (kind-text (kind_in params c.form) params.order bytes (place + c.size) x.implicit c.value (form-proper params c.form) c.is (sym c.class_is ∙ class))
    by_front (inr other) =
        kind-text (kind_in params x.form) params.order bytes place x.implicit v (form-proper params x.form)
        (sym (value_by-own (kind_in params x.form) params x bytes place other) ∙ is) class
