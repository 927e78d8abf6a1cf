-- Laws of the fields of values, by their forms.
use Rattle.std.proofs.Common.{◌≡◌, ◌≢◌, ℕ, ◌&&◌, Bool, true, false, if◌then◌else◌, Option, Some, None, refl, sym, ap, ◌∙◌}
use Rattle.dw_base.specs.Forms.{ValueKind, kind_in, number_of, text_offset, width_size}
use Rattle.dw_base.specs.RelocationRows.{FieldUse, can_be_offset, is_offset_use, kind_field, listed_field, offset_field, plain_field, use_of_number}
use Rattle.dw_base.specs.declared.shared.Params.{Params}
use Rattle.dw_base.specs.declared.texts.TextSection.{TextSection}
use Rattle.dw_base.specs.declared.values.ValueClass.{ValueClass}
use Rattle.dw_base.specs.declared.values.ValueClass.TheVariants.{Address, GlobalRef}
use Rattle.dw_relocs.specs.FieldForms.{fields_by, form_by_use, form_of, is_front}
use Rattle.dw_relocs.specs.declared.forms.FieldForm.{FieldForm}
use Rattle.dw_forms.specs.Kinds.{as_kind}
use Rattle.dw_forms.specs.declared.kinds.FormKind.{FormKind}
use Rattle.dw_forms.specs.declared.kinds.FormKind.TheVariants.{Number, LebNumber, SignedLeb, Block, Counted, CountedLeb, InlineText, StrOffset, LineStrOffset, Present, InAbbreviation, FormInFront, Supplementary, Unlisted}

-- whether a number is an offset
use-is : (t : Bool) → is_offset_use (if t then offset_field else plain_field) ≡ t
use-is true = refl
use-is false = refl

other-use : (class : ValueClass) (n : ℕ) (start : Bool) → class ≢ Address → class ≢ GlobalRef
    → use_of_number class n start ≡ Some (if start && can_be_offset class n then offset_field else plain_field)
other-use Address n start a g = absurd (a refl)
other-use GlobalRef n start a g = absurd (g refl)
other-use class n start a g = refl

pub number-other : (class : ValueClass) (n : ℕ) (start t : Bool) → class ≢ Address → class ≢ GlobalRef → t ≡ (start && can_be_offset class n)
    → Some (record { size = n; offset = t }) ≡ form_by_use n (use_of_number class n start)
number-other class n start t a g e =
    ap (λ (b : Bool). Some (record { size = n; offset = b })) (e ∙ sym (use-is (start && can_be_offset class n)))
    ∙ ap (form_by_use n) (sym (other-use class n start a g))

pub ruleset number_rules = (number-other)

-- the field at a place
number-field : (place n : ℕ) (o : Option FieldUse) → listed_field place n o ≡ fields_by place (form_by_use n o)
number-field place n None = refl
number-field place n (Some offset_field) = refl
number-field place n (Some plain_field) = refl

pub kind-field : (k : ValueKind) (place : ℕ) (start : Bool) → kind_field k place start ≡ fields_by place (form_of k start)
kind-field (text_offset table n) place start = refl
kind-field (number_of class n) place start = number-field place n (use_of_number class n start)
kind-field k place start = refl

-- the field of a value of a kind, case by case
pub field-of : (params : Params) (start : Bool) (k g : FormKind) (x : Option FieldForm) → k ≡ g → x ≡ form_of (as_kind params g) start
    → x ≡ form_of (as_kind params k) start
field-of params start k g x is e = e ∙ ap (λ (j : FormKind). form_of (as_kind params j) start) (sym is)

-- the field of a text's offset
pub text-of : (params : Params) (start : Bool) (k g : FormKind) (f : FieldForm) (table : TextSection) → k ≡ g
    → as_kind params g ≡ text_offset table (width_size params.width) → f.size ≡ width_size params.width → f.offset ≡ true
    → Some f ≡ form_of (as_kind params k) start
text-of params start k g f table is kind size offset =
    ap (λ (n : ℕ). Some (record { size = n; offset = f.offset })) size ∙ ap (λ (t : Bool). Some (record { size = width_size params.width; offset = t })) offset
    ∙ ap (λ (j : ValueKind). form_of j start) (sym kind) ∙ ap (λ (j : FormKind). form_of (as_kind params j) start) (sym is)

pub ruleset form_rules = (field-of, text-of)

-- a form that stands in front of a value
not-front : (params : Params) (k : FormKind) → (k ≡ FormInFront → ⊥) → is_front (as_kind params k) ≡ false
not-front params FormInFront h = absurd (h refl)
not-front params (Number class n) h = refl
not-front params (LebNumber class) h = refl
not-front params SignedLeb h = refl
not-front params (Block n) h = refl
not-front params (Counted n) h = refl
not-front params CountedLeb h = refl
not-front params InlineText h = refl
not-front params StrOffset h = refl
not-front params LineStrOffset h = refl
not-front params Present h = refl
not-front params InAbbreviation h = refl
not-front params Supplementary h = refl
not-front params Unlisted h = refl

pub front-of : (params : Params) (k : FormKind) → k ≡ FormInFront → true ≡ is_front (as_kind params k)
front-of params k is = ap (λ (j : FormKind). is_front (as_kind params j)) (sym is)

pub other-of : (params : Params) (k : FormKind) → (k ≡ FormInFront → ⊥) → false ≡ is_front (as_kind params k)
other-of params k other = sym (not-front params k other)

pub ruleset front_rules = (front-of, other-of)

-- the same of the form whose kind it is
pub front-by : (params : Params) (form : ℕ) (k : FormKind) (b t : Bool) → ((params : Params) → as_kind params k ≡ kind_in params form)
    → b ≡ is_front (as_kind params k) → b ≡ t → is_front (kind_in params form) ≡ t
front-by params form k b t all is e = ap is_front (sym (all params)) ∙ sym is ∙ e

pub form-by : (params : Params) (form : ℕ) (start : Bool) (k : FormKind) (x : Option FieldForm) → ((params : Params) → as_kind params k ≡ kind_in params form)
    → x ≡ form_of (as_kind params k) start → x ≡ form_of (kind_in params form) start
form-by params form start k x all is = is ∙ ap (λ (j : ValueKind). form_of j start) (all params)
