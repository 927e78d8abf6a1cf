-- A value can be read at a place, or a condition holds; and so the values of an entry (DWARF 5, 7.5.3, 7.5.5 and 7.5.6).
use Rattle.std.proofs.Common.{◌≡◌, ◌≢◌, ◌⊎◌, inl, inr, ℕ, ◌+◌, List, [], ◌∷◌, ◌++◌, Option, Some, None, refl, sym, ap, ◌∙◌, subst, append-nil, append_assoc}
use Rattle.dw_base.specs.EntryScans.{SpellsValues, ValuesFail, more_values, no_values, value}
use Rattle.dw_base.specs.FormFails.{FormFails, IsFront, KindFails, again, chosen, cut, implicit, in_other_file, not_listed, own, passes_end}
use Rattle.dw_base.specs.Forms.{ValueKind, form_in_front, in_abbreviation, kind_in, supplementary, unlisted}
use Rattle.dw_base.specs.Lebs.{uleb_at}
use Rattle.dw_base.specs.Refusals.{at}
use Rattle.dw_base.specs.Values.{behind, chosen_value, value_at, value_of}
use Rattle.dw_base.specs.declared.fault.Kind.TheVariants.{Entry, Form, Supplementary}
use Rattle.dw_base.specs.declared.shared.Params.{Params}
use Rattle.dw_base.specs.declared.values.Spec.{Spec}
use Rattle.dw_base.specs.declared.values.Value.{Value}
use Rattle.dw_base.proofs.FormLaws.{chosen_value-own, value_by-own}
use Rattle.refusal_laws.specs.Decided.{Decided, refused, taken}
use Rattle.refusal_laws.specs.Readable.{HasValueAt, HasValues}
use Rattle.refusal_laws.proofs.Decisions.{decided-among, decided-by}

-- ### A value of a kind

-- what a kind is
data KindIs (k : ValueKind) : Type 0 where
  no_form : k ≡ unlisted → KindIs k
  other_file : k ≡ supplementary → KindIs k
  in_front : k ≡ form_in_front → KindIs k
  stands : k ≢ unlisted → k ≢ supplementary → k ≢ form_in_front → KindIs k

kind-known : (k : ValueKind) → KindIs k
kind-known unlisted = no_form refl
kind-known supplementary = other_file refl
kind-known form_in_front = in_front refl
kind-known k = stands (λ e. absurd cc) (λ e. absurd cc) (λ e. absurd cc)

front-known : (k : ValueKind) → (k ≡ form_in_front) ⊎ (k ≢ form_in_front)
front-known form_in_front = inl refl
front-known k = inr (λ e. absurd cc)

abbreviation-known : (k : ValueKind) → (k ≡ in_abbreviation) ⊎ (k ≢ in_abbreviation)
abbreviation-known in_abbreviation = inl refl
abbreviation-known k = inr (λ e. absurd cc)

record HasKindValue (params : Params) (x : Spec) (bytes : List ℕ) (k : ValueKind) (place : ℕ) : Type 0 where
  value : Value
  is : value_of k params.order bytes place x.implicit ≡ Some value

kind-decided : (params : Params) (x : Spec) (bytes : List ℕ) (section start : ℕ) (k : ValueKind) (place : ℕ) → k ≢ form_in_front
    → Decided (HasKindValue params x bytes k place) (KindFails params x bytes section start k place)
kind-decided params x bytes section start k place own_form = by (kind-known k) (value_of k params.order bytes place x.implicit) refl
  where
    by : KindIs k → (o : Option Value) → value_of k params.order bytes place x.implicit ≡ o
        → Decided (HasKindValue params x bytes k place) (KindFails params x bytes section start k place)
    by (no_form e) o f = refused (at Form section start) (not_listed e)
    by (other_file e) o f = refused (at Supplementary section start) (in_other_file e)
    by (in_front e) o f = absurd (own_form e)
    by (stands a b c) None f = refused (at Entry section start) (passes_end a b c f)
    by (stands a b c) (Some v) f = taken (record { value = v; is = f })

-- ### A value of an attribute

-- one that is of the form of its abbreviation
own-value : (params : Params) (x : Spec) (bytes : List ℕ) (place : ℕ) → kind_in params x.form ≢ form_in_front → HasKindValue params x bytes (kind_in params x.form) place
    → HasValueAt params x bytes place
unfolding value_at
own-value params x bytes place other v = record { value = v.value; is = value_by-own (kind_in params x.form) params x bytes place other ∙ v.is }

-- one whose form stands in front of it
front-value : (params : Params) (x : Spec) (bytes : List ℕ) (place form size : ℕ) → IsFront params x bytes place form size
    → value_at params x bytes place ≡ behind size (chosen_value (kind_in params form) params.order bytes (place + size) x.implicit)
unfolding value_at
front-value params x bytes place form size f = rw (f.indirect, f.spells) refl

chosen-by-front : (params : Params) (x : Spec) (bytes : List ℕ) (place form size : ℕ) → IsFront params x bytes place form size → kind_in params form ≢ in_abbreviation
    → HasKindValue params x bytes (kind_in params form) (place + size) → HasValueAt params x bytes place
chosen-by-front params x bytes place form size f other v =
    let own_value = v.value in
    record {
      value = record own_value { size = size + own_value.size };
      is = front-value params x bytes place form size f ∙ ap (behind size) (chosen_value-own (kind_in params form) params x bytes (place + size) other ∙ v.is);
    }

front-decided : (params : Params) (x : Spec) (bytes : List ℕ) (section place form size : ℕ) → IsFront params x bytes place form size
    → Decided (HasValueAt params x bytes place) (FormFails params x bytes section place)
front-decided params x bytes section place form size f = by (abbreviation-known (kind_in params form)) (front-known (kind_in params form))
  where
    by : (kind_in params form ≡ in_abbreviation) ⊎ (kind_in params form ≢ in_abbreviation) → (kind_in params form ≡ form_in_front) ⊎ (kind_in params form ≢ form_in_front)
        → Decided (HasValueAt params x bytes place) (FormFails params x bytes section place)
    by (inl is) k = refused (at Form section place) (implicit form size f is)
    by (inr other) (inl is) = refused (at Form section place) (again form size f is)
    by (inr other) (inr plain) =
        decided-by (chosen-by-front params x bytes place form size f other)
        (decided-among (λ r g. chosen form size f other g) (kind-decided params x bytes section place (kind_in params form) (place + size) plain))

pub value-decided : (params : Params) (x : Spec) (bytes : List ℕ) (section place : ℕ) → Decided (HasValueAt params x bytes place) (FormFails params x bytes section place)
value-decided params x bytes section place = by (front-known (kind_in params x.form)) (uleb_at bytes place) refl
  where
    by : (kind_in params x.form ≡ form_in_front) ⊎ (kind_in params x.form ≢ form_in_front) → (o : Option (ℕ × ℕ)) → uleb_at bytes place ≡ o
        → Decided (HasValueAt params x bytes place) (FormFails params x bytes section place)
    by (inl front) None e = refused (at Entry section place) (cut front e)
    by (inl front) (Some (form, size)) e = front-decided params x bytes section place form size (record { indirect = front; spells = e })
    by (inr other) o e =
        decided-by (own-value params x bytes place other)
        (decided-among (λ r f. own f) (kind-decided params x bytes section place (kind_in params x.form) place other))

-- ### The values of an entry

values-from : (params : Params) (bytes : List ℕ) (section start : ℕ) (specs before rest : List Spec) (place : ℕ) → specs ≡ before ++ rest
    → SpellsValues params bytes start before place → Decided (HasValues params bytes start specs) (ValuesFail params bytes section start specs)
values-from params bytes section start specs before [] place e s =
    taken (record { end = place; are = subst (λ (l : List Spec). SpellsValues params bytes start l place) (sym (e ∙ append-nil before)) s })
values-from params bytes section start specs before (x ∷ rest) place e s =
    by (value-decided params x bytes section place)
    (λ (v : HasValueAt params x bytes place).
    values-from params bytes section start specs (before ++ x ∷ []) rest (place + v.value.size) (e ∙ sym (append_assoc before (x ∷ []) rest))
    (more_values before x place v.value s v.is))
  where
    by : Decided (HasValueAt params x bytes place) (FormFails params x bytes section place)
        → (HasValueAt params x bytes place → Decided (HasValues params bytes start specs) (ValuesFail params bytes section start specs))
        → Decided (HasValues params bytes start specs) (ValuesFail params bytes section start specs)
    by (refused r f) next = refused r (value before rest x place e s f)
    by (taken v) next = next v

pub values-decided : (params : Params) (bytes : List ℕ) (section start : ℕ) (specs : List Spec)
    → Decided (HasValues params bytes start specs) (ValuesFail params bytes section start specs)
values-decided params bytes section start specs = values-from params bytes section start specs [] specs start refl no_values
