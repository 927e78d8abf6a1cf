-- The field of a value that is the offset of a text, or says a start: the one field of its kind.
use Rattle.std.proofs.Common.{Bool, true, if◌then◌else◌, ◌≡◌, ◌⊎◌, inl, inr, ℕ, ◌+◌, List, [], ◌∷◌, Option, Some, refl, sym, ap, ◌∙◌}
use Rattle.std.specs.Prelude.{ℤ}
use Rattle.dw_base.specs.Forms.{ValueKind, form_in_front, kind_in, number_of, text_offset}
use Rattle.dw_base.specs.Numbers.{number_at}
use Rattle.dw_base.specs.RelocationRows.{field_place, kind_field, listed_field, offset_field, plain_field, use_of_number}
use Rattle.dw_base.specs.Roles.{is_line_start}
use Rattle.dw_base.specs.UnitStates.{read_value}
use Rattle.dw_base.specs.Values.{offset_class, value_at, value_of}
use Rattle.dw_base.specs.declared.shared.Order.{Order}
use Rattle.dw_base.specs.declared.shared.Params.{Params}
use Rattle.dw_base.specs.declared.values.Spec.{Spec}
use Rattle.dw_base.specs.declared.values.Value.{Value}
use Rattle.dw_base.specs.declared.values.ValueClass.{ValueClass}
use Rattle.dw_base.specs.declared.values.ValueClass.TheVariants.{Address, GlobalRef, Number, SecOffset}
use Rattle.dw_base.proofs.ClassLaws.{form-proper, is_proper, offset-kind, value-class}
use Rattle.dw_base.proofs.FormLaws.{value_by-own}
use Rattle.dw_base.specs.TableStarts.{is_start_form, own_form}
use Rattle.dw_base.specs.declared.texts.TextSection.{TextSection}
use Rattle.dw_base.specs.declared.values.AttributeUse.TheVariants.{NamesLineTable}
use Rattle.dw_meaning.specs.RelocationFails.{behind_front, kind_there}
use Rattle.dw_unit_fields.specs.EntryTexts.{value_field}
use Rattle.dw_base.proofs.StartFormLaws.{StartKind, chosen-form, plain-form, start-kind}
use Rattle.dw_unit_fields.proofs.ValuePlaceLaws.{Fields, number-fields}
use Rattle.dw_meaning.proofs.ScanPieceLaws.{Chosen, chosen-read, is_front}

-- a value of a kind
kind-field : (k : ValueKind) (table : TextSection) (o : Order) (bytes : List ℕ) (at : ℕ) (i : ℤ) (v : Value) (start : Bool) → is_proper k ≡ true
    → value_of k o bytes at i ≡ Some v → v.class ≡ offset_class table → kind_field k v.at start ≡ value_field v ∷ []
unfolding value_of
kind-field k table o bytes at i v start proper e class =
    let kind : (n : ℕ) × (k ≡ text_offset table n) =
    offset-kind k table proper (value-class k o bytes at i v e ∙ ap (λ (c : ValueClass). Some c) class) in
    let own : value_of (text_offset table kind.0) o bytes at i ≡ Some v = sym (ap (λ (y : ValueKind). value_of y o bytes at i) kind.1) ∙ e in
    let f : Fields v (offset_class table) at kind.0 kind.0 = number-fields (offset_class table) at kind.0 (number_at o bytes at kind.0) v own in
    ap (λ (y : ValueKind). kind_field y v.at start) kind.1 ∙ ap (λ (n : ℕ). field_place v.at n offset_field ∷ []) (sym f.len_is)

behind-own : (k : ValueKind) (params : Params) (bytes : List ℕ) (place : ℕ) → (k ≡ form_in_front → ⊥) → behind_front k params bytes place ≡ k
behind-own form_in_front params bytes place other = absurd (other refl)
behind-own k params bytes place other = refl

-- a value at a place
pub text-field : (params : Params) (x : Spec) (bytes : List ℕ) (place : ℕ) (v : Value) (table : TextSection) (start : Bool) → value_at params x bytes place ≡ Some v
    → v.class ≡ offset_class table → kind_field (kind_there params x bytes place) v.at start ≡ value_field v ∷ []
unfolding value_at
text-field params x bytes place v table start is class = by_front (is_front (kind_in params x.form))
  where
    by_front : (kind_in params x.form ≡ form_in_front) ⊎ (kind_in params x.form ≡ form_in_front → ⊥)
        → kind_field (kind_there params x bytes place) v.at start ≡ value_field v ∷ []
    by_front (inl front) =
        let c : Chosen params x bytes place v = chosen-read params x bytes place v front is in
        let kind : kind_there params x bytes place ≡ kind_in params c.form =
        ap (λ (k : ValueKind). behind_front k params bytes place) front ∙ ap (λ (o : Option (ℕ × ℕ)). kind_in params (read_value o)) c.spells in
        ap (λ (k : ValueKind). kind_field k v.at start) kind
        ∙ ap (λ (n : ℕ). kind_field (kind_in params c.form) n start) c.at_is
        ∙ kind-field (kind_in params c.form) table params.order bytes (place + c.size) x.implicit c.value start (form-proper params c.form) c.is (sym c.class_is ∙ class)
        ∙ ap (λ (n : ℕ). field_place n c.value.len offset_field ∷ []) (sym c.at_is)
        ∙ ap (λ (n : ℕ). field_place v.at n offset_field ∷ []) (sym c.len_is)
    by_front (inr other) =
        ap (λ (k : ValueKind). kind_field k v.at start) (behind-own (kind_in params x.form) params bytes place other)
        ∙ kind-field (kind_in params x.form) table params.order bytes place x.implicit v start (form-proper params x.form)
        (sym (value_by-own (kind_in params x.form) params x bytes place other) ∙ is) class

-- and one that says where a line table or a macro unit starts
class-field : (class : ValueClass) (n place : ℕ) → is_line_start NamesLineTable class n ≡ true → listed_field place n (use_of_number class n true) ≡ field_place place n offset_field ∷ []
class-field SecOffset n place e = refl
class-field Number n place e = ap (λ (b : Bool). listed_field place n (Some (if b then offset_field else plain_field))) e
class-field Address n place e = absurd cc
class-field GlobalRef n place e = absurd cc
class-field class n place e = absurd cc

kind-start-field : (params : Params) (form : ℕ) (o : Order) (bytes : List ℕ) (at : ℕ) (i : ℤ) (v : Value) → is_start_form form ≡ true
    → value_of (kind_in params form) o bytes at i ≡ Some v → kind_field (kind_in params form) v.at true ≡ value_field v ∷ []
unfolding value_of
kind-start-field params form o bytes at i v is e =
    let k : StartKind params form = start-kind params form is in
    let own : value_of (number_of k.class k.size) o bytes at i ≡ Some v = sym (ap (λ (y : ValueKind). value_of y o bytes at i) k.kind_is) ∙ e in
    let f : Fields v k.class at k.size k.size = number-fields k.class at k.size (number_at o bytes at k.size) v own in
    ap (λ (y : ValueKind). kind_field y v.at true) k.kind_is ∙ class-field k.class k.size v.at k.says
    ∙ ap (λ (n : ℕ). field_place v.at n offset_field ∷ []) (sym f.len_is)

pub start-field : (params : Params) (x : Spec) (bytes : List ℕ) (place : ℕ) (v : Value) (start : Bool) → value_at params x bytes place ≡ Some v
    → is_start_form (own_form x bytes place) ≡ true → start ≡ true → kind_field (kind_there params x bytes place) v.at start ≡ value_field v ∷ []
unfolding value_at
start-field params x bytes place v start is form says = by_front (is_front (kind_in params x.form))
  where
    by_front : (kind_in params x.form ≡ form_in_front) ⊎ (kind_in params x.form ≡ form_in_front → ⊥)
        → kind_field (kind_there params x bytes place) v.at start ≡ value_field v ∷ []
    by_front (inl front) =
        let c : Chosen params x bytes place v = chosen-read params x bytes place v front is in
        let kind : kind_there params x bytes place ≡ kind_in params c.form =
        ap (λ (k : ValueKind). behind_front k params bytes place) front ∙ ap (λ (o : Option (ℕ × ℕ)). kind_in params (read_value o)) c.spells in
        ap (kind_field (kind_there params x bytes place) v.at) says
        ∙ ap (λ (k : ValueKind). kind_field k v.at true) kind
        ∙ ap (λ (n : ℕ). kind_field (kind_in params c.form) n true) c.at_is
        ∙ kind-start-field params c.form params.order bytes (place + c.size) x.implicit c.value
        (ap is_start_form (sym (chosen-form params x bytes place c.form c.size front c.spells)) ∙ form) c.is
        ∙ ap (λ (n : ℕ). field_place n c.value.len offset_field ∷ []) (sym c.at_is)
        ∙ ap (λ (n : ℕ). field_place v.at n offset_field ∷ []) (sym c.len_is)
    by_front (inr other) =
        ap (kind_field (kind_there params x bytes place) v.at) says
        ∙ ap (λ (k : ValueKind). kind_field k v.at true) (behind-own (kind_in params x.form) params bytes place other)
        ∙ kind-start-field params x.form params.order bytes place x.implicit v (ap is_start_form (sym (plain-form params x bytes place other)) ∙ form)
        (sym (value_by-own (kind_in params x.form) params x bytes place other) ∙ is)
