-- Laws of a pass over the fields of values.
use Rattle.std.proofs.Common.{◌≡◌, ◌≢◌, ℕ, ◌+◌, ◌<◌, ◌≤◌, Bool, true, false, Option, Some, None, List, [], ◌∷◌, ◌++◌, length, drop, take, get_or, Result, refl, sym, ap, ◌∙◌, subst, arith, append_assoc, append-nil}
use Rattle.std.proofs.lemmas.List.{drop_all, take_all}
use Rattle.dw_base.specs.Cells.{Cell}
use Rattle.dw_base.specs.Forms.{ValueKind, form_in_front, kind_in, number_of, text_offset}
use Rattle.dw_base.specs.Lebs.{uleb_at}
use Rattle.dw_base.specs.Numbers.{number_at}
use Rattle.dw_base.specs.RelocationRows.{FieldPlace, FieldUse, field_place, kind_field, offset_field, plain_field, use_of_number, is_section_offset}
use Rattle.dw_base.specs.Values.{number_value, offset_class, value_at, value_of, value_size}
use Rattle.dw_base.specs.declared.fault.Refusal.{Refusal}
use Rattle.dw_base.specs.declared.shared.Order.{Order}
use Rattle.dw_base.specs.declared.shared.Params.{Params}
use Rattle.dw_base.specs.declared.values.Spec.{Spec}
use Rattle.dw_base.specs.declared.values.Value.{Value}
use Rattle.dw_base.specs.declared.values.ValueClass.{ValueClass}
use Rattle.dw_base.proofs.FormLaws.{value_by-own}
use Rattle.dw_forms.proofs.InsideLaws.{value_at-inside}
use Rattle.dw_meaning.proofs.ScanPieceLaws.{chosen-read}
use Rattle.std.specs.Prelude.{ℤ, is_some}
use Rattle.dw_relocs.specs.FieldForms.{fields_by, form_by_use, form_end, form_of, is_front, use_by}
use Rattle.dw_relocs.specs.FieldWalks.{Goes, Ground, StandsAt}
use Rattle.dw_relocs.specs.UnitFields.{chosen_fields, fields_of_kind, of_value, value_fields, values_fields}
use Rattle.dw_relocs.specs.UnitPasses.{ValuePassed}
use Rattle.dw_relocs.specs.declared.forms.FieldForm.{FieldForm}
use Rattle.dw_relocs.specs.declared.marks.Marks.{Marks}
use Rattle.dw_relocs.proofs.FormFieldLaws.{kind-field}
use Rattle.dw_relocs.proofs.WalkLaws.{goes-from, goes-more, goes-none, goes-to, stands-on}
use Rattle.dw_relocs.proofs.ListItemLaws.{front-at}
use Rattle.dw_meaning.specs.PieceRuns.{end_behind, value_out, values_end}

-- the field at a place, where there is one
pub form-none : (g : Ground) (place : ℕ) (o : Option FieldForm) (p : Result Marks Refusal) → o ≡ None → StandsAt g.cells place p
    → Goes g place (form_end place o) (fields_by place o) p p
form-none g place o p e h =
    subst (λ (q : Option FieldForm). Goes g place (form_end place q) (fields_by place q) p p) (sym e) (goes-none g place place p (omega arith) h)

use-by : (place size : ℕ) (t : Bool) (u : FieldUse) → use_by t ≡ u → field_place place size u ∷ [] ≡ fields_by place (Some (record { size = size; offset = t }))
use-by place size t u e = ap (λ (v : FieldUse). field_place place size v ∷ []) (sym e)

pub form-offset : (g : Ground) (place : ℕ) (o : Option FieldForm) (f : FieldForm) (p q : Result Marks Refusal) → o ≡ Some f → f.offset ≡ true
    → Goes g place (place + f.size) (field_place place f.size offset_field ∷ []) p q → Goes g place (form_end place o) (fields_by place o) p q
form-offset g place o f p q e t h =
    subst (λ (x : Option FieldForm). Goes g place (form_end place x) (fields_by place x) p q) (sym e)
    (subst (λ (fs : List FieldPlace). Goes g place (place + f.size) fs p q) (use-by place f.size f.offset offset_field (ap use_by t)) h)

pub form-number : (g : Ground) (place : ℕ) (o : Option FieldForm) (f : FieldForm) (p q : Result Marks Refusal) → o ≡ Some f → f.offset ≡ false
    → Goes g place (place + f.size) (field_place place f.size plain_field ∷ []) p q → Goes g place (form_end place o) (fields_by place o) p q
form-number g place o f p q e t h =
    subst (λ (x : Option FieldForm). Goes g place (form_end place x) (fields_by place x) p q) (sym e)
    (subst (λ (fs : List FieldPlace). Goes g place (place + f.size) fs p q) (use-by place f.size f.offset plain_field (ap use_by t)) h)

pub ruleset form_rules = (form-none, form-offset, form-number)

-- the field of a value ends with the value
value-once : (v w : Value) → Some v ≡ Some w → v ≡ w
value-once v w e = cc

number-size : (class : ValueClass) (place n : ℕ) (o : Option ℕ) (v : Value) → number_value class place n o ≡ Some v → v.size ≡ n
number-size class place n None v e = absurd cc
number-size class place n (Some k) v e = ap (λ (x : Value). x.size) (sym (value-once (record { class = class; number = k; at = place; len = n; size = n }) v e))

use-end : (place n : ℕ) (o : Option FieldUse) → form_end place (form_by_use n o) ≤ place + n
use-end place n None = omega arith
use-end place n (Some u) = omega arith

kind-end : (k : ValueKind) (order : Order) (bytes : List ℕ) (place : ℕ) (i : ℤ) (v : Value) (start : Bool) → value_of k order bytes place i ≡ Some v
    → form_end place (form_of k start) ≤ place + v.size
unfolding value_of
kind-end (text_offset table n) order bytes place i v start e =
    let size = number-size (offset_class table) place n (number_at order bytes place n) v e in omega (arith, size)
kind-end (number_of class n) order bytes place i v start e =
    let size = number-size class place n (number_at order bytes place n) v e in
    let end = use-end place n (use_of_number class n start) in
    omega (arith, size, end)
kind-end k order bytes place i v start e = omega arith

-- a value of so many bytes
record ValueThere (params : Params) (x : Spec) (bytes : List ℕ) (place size : ℕ) : Type 0 where
  value : Value
  is : value_at params x bytes place ≡ Some value
  size_is : value.size ≡ size

value-there : (params : Params) (x : Spec) (bytes : List ℕ) (place size : ℕ) → value_size (value_at params x bytes place) ≡ Some size
    → ValueThere params x bytes place size
value-there params x bytes place size e = by_value (value_at params x bytes place) refl e
  where
    by_value : (o : Option Value) → value_at params x bytes place ≡ o → value_size o ≡ Some size → ValueThere params x bytes place size
    by_value None is e = absurd cc
    by_value (Some v) is e = record { value = v; is = is; size_is = cc }

pub value-room : (params : Params) (x : Spec) (bytes : List ℕ) (place size : ℕ) → value_size (value_at params x bytes place) ≡ Some size
    → place + size ≤ length bytes
value-room params x bytes place size e =
    let v = value-there params x bytes place size e in
    let inside_ = value_at-inside params x bytes place v.value v.is in
    let same = v.size_is in
    omega (arith, inside_, same)

not-front : (k : ValueKind) → is_front k ≡ false → k ≢ form_in_front
not-front k e f = let there : is_front k ≡ true = ap is_front f in cc

front-is : (k : ValueKind) → is_front k ≡ true → k ≡ form_in_front
front-is form_in_front e = refl
front-is k e = absurd cc

own-end : (params : Params) (x : Spec) (bytes : List ℕ) (place size : ℕ) (start : Bool) → is_front (kind_in params x.form) ≡ false
    → value_size (value_at params x bytes place) ≡ Some size → form_end place (form_of (kind_in params x.form) start) ≤ place + size
unfolding value_at
own-end params x bytes place size start front e =
    let v = value-there params x bytes place size e in
    let own : value_of (kind_in params x.form) params.order bytes place x.implicit ≡ Some v.value =
    sym (value_by-own (kind_in params x.form) params x bytes place (not-front (kind_in params x.form) front)) ∙ v.is in
    let end = kind-end (kind_in params x.form) params.order bytes place x.implicit v.value start own in
    let same = v.size_is in
    omega (arith, end, same)

pub own-inside : (params : Params) (x : Spec) (bytes : List ℕ) (place size whole : ℕ) (start : Bool) (o : Option FieldForm) → is_front (kind_in params x.form) ≡ false
    → value_size (value_at params x bytes place) ≡ Some size → o ≡ form_of (kind_in params x.form) start → length bytes ≤ whole → form_end place o ≤ whole
own-inside params x bytes place size whole start o front e is le =
    let end = own-end params x bytes place size start front e in
    let room = value-room params x bytes place size e in
    subst (λ (q : Option FieldForm). form_end place q ≤ whole) (sym is) (omega (arith, end, room, le))

kind-own : (k : ValueKind) (params : Params) (bytes : List ℕ) (place : ℕ) (start : Bool) → is_front k ≡ false → kind_field k place start ≡ fields_of_kind k params bytes start place
kind-own form_in_front params bytes place start e = absurd cc
kind-own k params bytes place start e = refl

pub own-goes : (g : Ground) (params : Params) (x : Spec) (bytes : List ℕ) (place size : ℕ) (start : Bool) (o : Option FieldForm) (p q : Result Marks Refusal)
    → is_front (kind_in params x.form) ≡ false → value_size (value_at params x bytes place) ≡ Some size → o ≡ form_of (kind_in params x.form) start
    → Goes g place (form_end place o) (fields_by place o) p q
    → Goes g place (place + size) (fields_of_kind (kind_in params x.form) params bytes start place) p q
own-goes g params x bytes place size start o p q front e is h =
    let own : Goes g place (form_end place (form_of (kind_in params x.form) start)) (fields_by place (form_of (kind_in params x.form) start)) p q =
    subst (λ (f : Option FieldForm). Goes g place (form_end place f) (fields_by place f) p q) is h in
    goes-to g place (form_end place (form_of (kind_in params x.form) start)) (place + size) (fields_of_kind (kind_in params x.form) params bytes start place) p q
    (own-end params x bytes place size start front e)
    (subst (λ (fs : List FieldPlace). Goes g place (form_end place (form_of (kind_in params x.form) start)) fs p q)
    (sym (kind-field (kind_in params x.form) place start) ∙ kind-own (kind_in params x.form) params bytes place start front) own)

pub ruleset value_rules = (own-inside, own-goes)

-- a value whose form stands in front of it
record ChosenThere (params : Params) (x : Spec) (bytes : List ℕ) (place size number front : ℕ) (start : Bool) : Type 0 where
  end : form_end (place + front) (form_of (kind_in params number) start) ≤ place + size

same-pair : (a b c d : ℕ) → ◌≡◌ {A = Option (ℕ × ℕ)} (Some (a, b)) (Some (c, d)) → (a ≡ c) × (b ≡ d)
same-pair a b c d e = (ap (λ (o : Option (ℕ × ℕ)). first o) e, ap (λ (o : Option (ℕ × ℕ)). second o) e)
  where
    first : Option (ℕ × ℕ) → ℕ
    first None = 0
    first (Some p) = p.0

    second : Option (ℕ × ℕ) → ℕ
    second None = 0
    second (Some p) = p.1

chosen-there : (params : Params) (x : Spec) (bytes : List ℕ) (place size number front : ℕ) (start : Bool) → is_front (kind_in params x.form) ≡ true
    → value_size (value_at params x bytes place) ≡ Some size → Some (number, front) ≡ uleb_at bytes place → ChosenThere params x bytes place size number front start
chosen-there params x bytes place size number front start is e spelled_ =
    let v = value-there params x bytes place size e in
    let c = chosen-read params x bytes place v.value (front-is (kind_in params x.form) is) v.is in
    let same = same-pair c.form c.size number front (sym c.spells ∙ sym spelled_) in
    let end : form_end (place + c.size) (form_of (kind_in params c.form) start) ≤ place + c.size + c.value.size =
    kind-end (kind_in params c.form) params.order bytes (place + c.size) x.implicit c.value start c.is in
    let moved : form_end (place + front) (form_of (kind_in params number) start) ≤ place + c.size + c.value.size =
    subst (λ (n : ℕ). form_end (place + n) (form_of (kind_in params number) start) ≤ place + c.size + c.value.size) same.1
    (subst (λ (n : ℕ). form_end (place + c.size) (form_of (kind_in params n) start) ≤ place + c.size + c.value.size) same.0 end) in
    let whole = c.whole in
    let size_is = v.size_is in
    record { end = omega (arith, moved, whole, size_is) }

pub chosen-none : (params : Params) (x : Spec) (bytes : List ℕ) (place size : ℕ) → is_front (kind_in params x.form) ≡ true
    → value_size (value_at params x bytes place) ≡ Some size → None ≡ uleb_at bytes place → ⊥
chosen-none params x bytes place size is e none =
    let v = value-there params x bytes place size e in
    let c = chosen-read params x bytes place v.value (front-is (kind_in params x.form) is) v.is in
    let both = none ∙ c.spells in
    absurd cc

pub chosen-inside : (params : Params) (x : Spec) (bytes : List ℕ) (place size whole number front : ℕ) (start : Bool) (o : Option FieldForm)
    → is_front (kind_in params x.form) ≡ true → value_size (value_at params x bytes place) ≡ Some size → Some (number, front) ≡ uleb_at bytes place
    → o ≡ form_of (kind_in params number) start → length bytes ≤ whole → form_end (place + front) o ≤ whole
chosen-inside params x bytes place size whole number front start o is e spelled_ form le =
    let c = chosen-there params x bytes place size number front start is e spelled_ in
    let end = c.end in
    let room = value-room params x bytes place size e in
    subst (λ (q : Option FieldForm). form_end (place + front) q ≤ whole) (sym form) (omega (arith, end, room, le))

pub chosen-goes : (g : Ground) (params : Params) (x : Spec) (bytes : List ℕ) (place size number front : ℕ) (start : Bool) (o : Option FieldForm) (p q : Result Marks Refusal)
    → is_front (kind_in params x.form) ≡ true → value_size (value_at params x bytes place) ≡ Some size → Some (number, front) ≡ uleb_at bytes place
    → o ≡ form_of (kind_in params number) start → Goes g (place + front) (form_end (place + front) o) (fields_by (place + front) o) p q
    → Goes g place (place + size) (fields_of_kind (kind_in params x.form) params bytes start place) p q
chosen-goes g params x bytes place size number front start o p q is e spelled_ form h =
    let c = chosen-there params x bytes place size number front start is e spelled_ in
    let own : Goes g (place + front) (form_end (place + front) (form_of (kind_in params number) start)) (fields_by (place + front) (form_of (kind_in params number) start)) p q =
    subst (λ (f : Option FieldForm). Goes g (place + front) (form_end (place + front) f) (fields_by (place + front) f) p q) form h in
    let said : fields_by (place + front) (form_of (kind_in params number) start) ≡ fields_of_kind (kind_in params x.form) params bytes start place =
    sym (kind-field (kind_in params number) (place + front) start) ∙ ap (chosen_fields params start place) spelled_
    ∙ ap (λ (k : ValueKind). fields_of_kind k params bytes start place) (sym (front-is (kind_in params x.form) is)) in
    goes-from g place (place + front) (place + size) (fields_of_kind (kind_in params x.form) params bytes start place) p q (omega arith)
    (goes-to g (place + front) (form_end (place + front) (form_of (kind_in params number) start)) (place + size)
    (fields_of_kind (kind_in params x.form) params bytes start place) p q c.end
    (subst (λ (fs : List FieldPlace). Goes g (place + front) (form_end (place + front) (form_of (kind_in params number) start)) fs p q) said own))

pub chosen-stands : (cells : List Cell) (place front : ℕ) (p : Result Marks Refusal) → StandsAt cells place p → StandsAt cells (place + front) p
chosen-stands cells place front p h = stands-on cells place (place + front) p (omega arith) h

pub ruleset chosen_rules = (chosen-none, chosen-inside, chosen-goes, chosen-stands)

-- values, one after another: those that were passed, and those that are left
pub record ValuesSo (g : Ground) (params : Params) (bytes : List ℕ) (number tag : ℕ) (specs : List Spec) (from after i place : ℕ) (p q : Result Marks Refusal) : Type 0 where
  pub front : List FieldPlace
  pub is : front ++ values_fields params bytes number tag (drop i specs) place ≡ values_fields params bytes number tag specs from
  pub ends : values_end params bytes (drop i specs) place ≡ Some after
  pub goes : Goes g from place front p q

pub values-start : (g : Ground) (params : Params) (bytes : List ℕ) (number tag : ℕ) (specs : List Spec) (from after : ℕ) (p : Result Marks Refusal)
    → values_end params bytes specs from ≡ Some after → StandsAt g.cells from p → ValuesSo g params bytes number tag specs from after 0 from p p
values-start g params bytes number tag specs from after p ends h = record { front = []; is = refl; ends = ends; goes = goes-none g from from p (omega arith) h }

pub values-stand : (g : Ground) (params : Params) (bytes : List ℕ) (number tag : ℕ) (specs : List Spec) (from after i place : ℕ) (p q : Result Marks Refusal)
    → ValuesSo g params bytes number tag specs from after i place p q → StandsAt g.cells place q
values-stand g params bytes number tag specs from after i place p q h = h.goes.stands

-- the next value
next-ends : (params : Params) (bytes : List ℕ) (specs : List Spec) (x : Spec) (after i place : ℕ) → i < length specs → x ≡ get_or specs i x
    → values_end params bytes (drop i specs) place ≡ Some after
    → end_behind (λ n. values_end params bytes (drop (i + 1) specs) n) place (value_at params x bytes place) ≡ Some after
next-ends params bytes specs x after i place lt is e =
    sym (ap (λ (l : List Spec). values_end params bytes l place) (front-at specs x i lt is)) ∙ e

pub values-more : (g : Ground) (params : Params) (bytes : List ℕ) (number tag : ℕ) (specs : List Spec) (x : Spec) (from after i place size : ℕ) (p q r : Result Marks Refusal)
    → i < length specs → x ≡ get_or specs i x → ValuesSo g params bytes number tag specs from after i place p q
    → value_size (value_at params x bytes place) ≡ Some size → Goes g place (place + size) (value_fields params bytes number tag x place) q r
    → ValuesSo g params bytes number tag specs from after (i + 1) (place + size) p r
values-more g params bytes number tag specs x from after i place size p q r lt is h e goes =
    let v = value-there params x bytes place size e in
    let place_is : place + v.value.size ≡ place + size = ap (λ (n : ℕ). place + n) v.size_is in
    let behind : value_out (of_value params bytes) (λ n. values_fields params bytes number tag (drop (i + 1) specs) n) number tag x place (value_at params x bytes place)
    ≡ value_fields params bytes number tag x place ++ values_fields params bytes number tag (drop (i + 1) specs) (place + size) =
    ap (value_out (of_value params bytes) (λ n. values_fields params bytes number tag (drop (i + 1) specs) n) number tag x place) v.is
    ∙ ap (λ (n : ℕ). value_fields params bytes number tag x place ++ values_fields params bytes number tag (drop (i + 1) specs) n) place_is in
    record {
      front = h.front ++ value_fields params bytes number tag x place;
      is =
          append_assoc h.front (value_fields params bytes number tag x place) (values_fields params bytes number tag (drop (i + 1) specs) (place + size))
          ∙ ap (λ (l : List FieldPlace). h.front ++ l) (sym behind)
          ∙ ap (λ (l : List Spec). h.front ++ values_fields params bytes number tag l place) (sym (front-at specs x i lt is)) ∙ h.is;
      ends =
          ap (λ (n : ℕ). values_end params bytes (drop (i + 1) specs) n) (sym place_is)
          ∙ sym (ap (end_behind (λ n. values_end params bytes (drop (i + 1) specs) n) place) v.is)
          ∙ next-ends params bytes specs x after i place lt is h.ends;
      goes = goes-more g from place place (place + size) h.front (value_fields params bytes number tag x place) p q r (omega arith) h.goes goes;
    }

-- by what the code knows of the attribute
pub values-step : (g : Ground) (params : Params) (bytes : List ℕ) (number tag : ℕ) (specs : List Spec) (x : Spec) (from after i place size : ℕ) (start : Bool)
    (p q r : Result Marks Refusal) → i < length specs → x ≡ get_or specs i x → ValuesSo g params bytes number tag specs from after i place p q
    → value_size (value_at params x bytes place) ≡ Some size → start ≡ is_section_offset number tag x.name
    → Goes g place (place + size) (fields_of_kind (kind_in params x.form) params bytes start place) q r
    → ValuesSo g params bytes number tag specs from after (i + 1) (place + size) p r
values-step g params bytes number tag specs x from after i place size start p q r lt is h e said goes =
    values-more g params bytes number tag specs x from after i place size p q r lt is h e
    (subst (λ (b : Bool). Goes g place (place + size) (fields_of_kind (kind_in params x.form) params bytes b place) q r) said goes)

end-once : (a b : ℕ) → Some a ≡ Some b → a ≡ b
end-once a b e = cc

pub values-over : (g : Ground) (params : Params) (bytes : List ℕ) (number tag : ℕ) (specs : List Spec) (from after i place : ℕ) (p q : Result Marks Refusal)
    → length specs ≤ i → ValuesSo g params bytes number tag specs from after i place p q
    → Goes g from after (values_fields params bytes number tag specs from) p q
values-over g params bytes number tag specs from after i place p q over h =
    let rest : drop i specs ≡ [] = drop_all i specs over in
    let place_is : place ≡ after = end-once place after (sym (ap (λ (l : List Spec). values_end params bytes l place) rest) ∙ h.ends) in
    let whole : h.front ≡ values_fields params bytes number tag specs from =
    sym (append-nil h.front) ∙ ap (λ (l : List Spec). h.front ++ values_fields params bytes number tag l place) (sym rest) ∙ h.is in
    subst (λ (n : ℕ). Goes g from n (values_fields params bytes number tag specs from) p q) place_is
    (subst (λ (l : List FieldPlace). Goes g from place l p q) whole h.goes)

-- the next value stands there
behind-there : (f : ℕ → Option ℕ) (place : ℕ) (o : Option Value) (after : ℕ) → end_behind f place o ≡ Some after → is_some o ≡ true
behind-there f place None after e = absurd cc
behind-there f place (Some v) after e = refl

pub next-there : (params : Params) (bytes : List ℕ) (specs : List Spec) (x : Spec) (after i place : ℕ) → i < length specs → x ≡ get_or specs i x
    → values_end params bytes (drop i specs) place ≡ Some after → is_some (value_at params x bytes place) ≡ true
next-there params bytes specs x after i place lt is e =
    behind-there (λ n. values_end params bytes (drop (i + 1) specs) n) place (value_at params x bytes place) after
    (next-ends params bytes specs x after i place lt is e)

-- and has been passed
pub values-passed : (g : Ground) (params : Params) (bytes : List ℕ) (number tag : ℕ) (specs : List Spec) (x : Spec) (from after i place to : ℕ) (start : Bool)
    (p q r : Result Marks Refusal) → i < length specs → x ≡ get_or specs i x → ValuesSo g params bytes number tag specs from after i place p q
    → start ≡ is_section_offset number tag x.name → ValuePassed g params x bytes start place to q r
    → ValuesSo g params bytes number tag specs from after (i + 1) to p r
values-passed g params bytes number tag specs x from after i place to start p q r lt is so said h =
    subst (λ (n : ℕ). ValuesSo g params bytes number tag specs from after (i + 1) n p r) (sym h.behind)
    (values-step g params bytes number tag specs x from after i place h.size start p q r lt is so h.value said
    (subst (λ (n : ℕ). Goes g place n (fields_of_kind (kind_in params x.form) params bytes start place) q r) h.behind h.goes))

-- the size that was found of the bytes up to their end
pub size-whole : (params : Params) (x : Spec) (bytes : List ℕ) (place size end : ℕ) → value_size (value_at params x (take end bytes) place) ≡ Some size
    → end ≡ length bytes → value_size (value_at params x bytes place) ≡ Some size
size-whole params x bytes place size end e is =
    ap (λ (bs : List ℕ). value_size (value_at params x bs place)) (sym (take_all end bytes (omega (arith, is)))) ∙ e

pub none-whole : (params : Params) (x : Spec) (bytes : List ℕ) (place end : ℕ) → value_at params x (take end bytes) place ≡ None
    → end ≡ length bytes → value_at params x bytes place ≡ None
none-whole params x bytes place end e is = ap (λ (bs : List ℕ). value_at params x bs place) (sym (take_all end bytes (omega (arith, is)))) ∙ e

pub ruleset values_rules = (values-start, values-stand, values-over)
