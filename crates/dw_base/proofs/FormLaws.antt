-- Laws of values: a refusal says that no value stands there, and where none does there is a refusal.
use Rattle.std.proofs.Common.{◌≡◌, ◌≢◌, ℕ, ◌+◌, List, Some, None, refl, ap, ◌∙◌}
use Rattle.dw_base.specs.FormFails.{KindFails, not_listed, in_other_file, passes_end, FormFails, own, cut, again, implicit, chosen, IsFront}
use Rattle.dw_base.specs.Forms.{ValueKind, in_abbreviation, form_in_front, kind_in}
use Rattle.dw_base.specs.Values.{value_of, value_at, value_by, chosen_value, behind}
use Rattle.dw_base.specs.declared.fault.Refusal.{Refusal}
use Rattle.dw_base.specs.declared.shared.Params.{Params}
use Rattle.dw_base.specs.declared.values.Spec.{Spec}
use Rattle.dw_base.specs.declared.values.Value.{Value}

-- of every other kind than a form in front, the value is that of the kind
pub value_by-own : (k : ValueKind) (params : Params) (x : Spec) (bytes : List ℕ) (place : ℕ) → k ≢ form_in_front
    → value_by k params x bytes place ≡ value_of k params.order bytes place x.implicit
value_by-own form_in_front params x bytes place other = absurd (other refl)
value_by-own k params x bytes place other = refl

-- behind a form in front of it, a value of every kind but the one in the abbreviation is that of the kind
pub chosen_value-own : (k : ValueKind) (params : Params) (x : Spec) (bytes : List ℕ) (place : ℕ) → k ≢ in_abbreviation
    → chosen_value k params.order bytes place x.implicit ≡ value_of k params.order bytes place x.implicit
chosen_value-own in_abbreviation params x bytes place other = absurd (other refl)
chosen_value-own k params x bytes place other = refl

-- and neither of these two stands behind a form
chosen-front : (k : ValueKind) (params : Params) (x : Spec) (bytes : List ℕ) (place : ℕ) → k ≡ form_in_front
    → chosen_value k params.order bytes place x.implicit ≡ None
unfolding value_of
chosen-front k params x bytes place e = rw e refl

chosen-implicit : (k : ValueKind) (params : Params) (x : Spec) (bytes : List ℕ) (place : ℕ) → k ≡ in_abbreviation
    → chosen_value k params.order bytes place x.implicit ≡ None
chosen-implicit k params x bytes place e = rw e refl

-- a refusal of a kind says that it has no value there
kind_fails-none : (params : Params) (x : Spec) (bytes : List ℕ) (section start : ℕ) (k : ValueKind) (place : ℕ) (r : Refusal)
    → KindFails params x bytes section start k place r → value_of k params.order bytes place x.implicit ≡ None
unfolding value_of
kind_fails-none params x bytes section start k place r (not_listed e) = rw e refl
kind_fails-none params x bytes section start k place r (in_other_file e) = rw e refl
kind_fails-none params x bytes section start k place r (passes_end _ _ _ e) = e

-- and is never of a form in front
kind_fails-other : (params : Params) (x : Spec) (bytes : List ℕ) (section start : ℕ) (k : ValueKind) (place : ℕ) (r : Refusal)
    → KindFails params x bytes section start k place r → k ≢ form_in_front
kind_fails-other params x bytes section start k place r (not_listed e) front = cc
kind_fails-other params x bytes section start k place r (in_other_file e) front = cc
kind_fails-other params x bytes section start k place r (passes_end _ _ other _) front = other front

-- the value whose form was read
front_value : (params : Params) (x : Spec) (bytes : List ℕ) (start form size : ℕ) → IsFront params x bytes start form size
    → value_at params x bytes start ≡ behind size (chosen_value (kind_in params form) params.order bytes (start + size) x.implicit)
unfolding value_at
front_value params x bytes start form size f = rw (f.indirect, f.spells) refl

-- where a value is refused, none stands
pub form_fails-none : (params : Params) (x : Spec) (bytes : List ℕ) (section start : ℕ) (r : Refusal)
    → FormFails params x bytes section start r → value_at params x bytes start ≡ None
unfolding value_at
form_fails-none params x bytes section start r (own f) =
    value_by-own (kind_in params x.form) params x bytes start (kind_fails-other params x bytes section start (kind_in params x.form) start r f)
    ∙ kind_fails-none params x bytes section start (kind_in params x.form) start r f
form_fails-none params x bytes section start r (cut e none) = rw (e, none) refl
form_fails-none params x bytes section start r (again form size f e) =
    front_value params x bytes start form size f ∙ ap (behind size) (chosen-front (kind_in params form) params x bytes (start + size) e)
form_fails-none params x bytes section start r (implicit form size f e) =
    front_value params x bytes start form size f ∙ ap (behind size) (chosen-implicit (kind_in params form) params x bytes (start + size) e)
form_fails-none params x bytes section start r (chosen form size f other g) =
    front_value params x bytes start form size f
    ∙ ap (behind size)
    (chosen_value-own (kind_in params form) params x bytes (start + size) other
    ∙ kind_fails-none params x bytes section start (kind_in params form) (start + size) r g)

-- so a value and a refusal exclude one another
pub form_excludes : (params : Params) (x : Spec) (bytes : List ℕ) (section start : ℕ) (v : Value) (r : Refusal)
    → value_at params x bytes start ≡ Some v → FormFails params x bytes section start r → ⊥
form_excludes params x bytes section start v r e f =
    let none : value_at params x bytes start ≡ None = form_fails-none params x bytes section start r f in
    cc
