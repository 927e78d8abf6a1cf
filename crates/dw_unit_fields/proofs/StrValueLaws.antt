-- The value of an attribute whose form is an offset of a text in `.debug_str`.
use Rattle.std.proofs.Common.{◌≡◌, ℕ, List, Some, refl, sym, ap, ◌∙◌}
use Rattle.dw_base.specs.Forms.{ValueKind, form_rows, kind_in, text_offset, width_size}
use Rattle.dw_base.specs.Numbers.{number_at}
use Rattle.dw_base.specs.Values.{number_value, value_at, value_by, value_of}
use Rattle.dw_base.specs.declared.dwarf_numbers.TheConstants.{DW_FORM_strp}
use Rattle.dw_base.specs.declared.shared.Params.{Params}
use Rattle.dw_base.specs.declared.texts.TextSection.TheVariants.{InStr}
use Rattle.dw_base.specs.declared.values.Spec.{Spec}
use Rattle.dw_base.specs.declared.values.Value.{Value}
use Rattle.dw_base.specs.declared.values.ValueClass.TheVariants.{StrOffset}
use Rattle.dw_unit_fields.specs.EntryTexts.{IsStrValue}

pub str-read : (params : Params) (bytes : List ℕ) (place size n : ℕ) → size ≡ width_size params.width → Some n ≡ number_at params.order bytes place size
    → IsStrValue params bytes place (record { class = StrOffset; number = n; at = place; len = size; size = size })
str-read params bytes place size n is e = record {
  is = sym (ap (λ (m : ℕ). number_value StrOffset place m (number_at params.order bytes place m)) is) ∙ ap (number_value StrOffset place size) (sym e);
}

str-kind : (params : Params) → kind_in params DW_FORM_strp ≡ text_offset InStr (width_size params.width)
unfolding kind_in form_rows
str-kind params = refl

pub str-value : (params : Params) (x : Spec) (bytes : List ℕ) (place : ℕ) (v : Value) → x.form ≡ DW_FORM_strp → IsStrValue params bytes place v
    → value_at params x bytes place ≡ Some v
unfolding value_at value_of
str-value params x bytes place v form s =
    ap (λ (n : ℕ). value_by (kind_in params n) params x bytes place) form
    ∙ ap (λ (k : ValueKind). value_by k params x bytes place) (str-kind params) ∙ s.is
