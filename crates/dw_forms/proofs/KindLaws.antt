-- Laws of kinds: as what a value is refused, and what stands for a form.
use Rattle.std.proofs.Common.{◌≡◌, ◌≢◌, ℕ, ◌+◌, List, Option, Some, None, refl, sym, ap, ◌∙◌, subst}
use Rattle.dw_base.specs.FormFails.{FormFails, IsFront, KindFails}
use Rattle.dw_base.specs.FormFails.KindFails.{not_listed, in_other_file, passes_end}
use Rattle.dw_base.specs.FormFails.FormFails.{own, cut, again, implicit, chosen}
use Rattle.dw_base.specs.Forms.{ValueKind, number_of, leb_number, signed_leb, block_of, counted, counted_leb, inline_text, text_offset, present, in_abbreviation, form_in_front, supplementary, unlisted, kind_in}
use Rattle.dw_base.specs.Lebs.{uleb_at}
use Rattle.dw_base.specs.Refusals.{at}
use Rattle.dw_base.specs.Values.{behind, chosen_value, value_at, value_by, value_of, value_size}
use Rattle.dw_base.proofs.FormLaws.{value_by-own, chosen_value-own, form_excludes, form_fails-none}
use Rattle.dw_base.specs.declared.fault.Kind.TheVariants.{Entry, Form}
use Rattle.dw_base.specs.declared.fault.Refusal.{Refusal}
use Rattle.dw_base.specs.declared.shared.Params.{Params}
use Rattle.dw_base.specs.declared.values.Spec.{Spec}
use Rattle.dw_base.specs.declared.values.Value.{Value}
use Rattle.dw_forms.specs.Kinds.{as_kind, refused_as}
use Rattle.dw_forms.specs.declared.kinds.FormKind.{FormKind}
use Rattle.dw_forms.specs.declared.kinds.FormKind.TheVariants.{Number, LebNumber, SignedLeb, Block, Counted, CountedLeb, InlineText, StrOffset, LineStrOffset, Present, InAbbreviation, FormInFront, Supplementary, Unlisted}

-- where no value of a kind stands, it is refused as its kind says
pub kind-refused : (params : Params) (spec : Spec) (bytes : List ℕ) (section start : ℕ) (k : ValueKind) (place : ℕ) → k ≢ form_in_front
    → value_of k params.order bytes place spec.implicit ≡ None → KindFails params spec bytes section start k place (at (refused_as k) section start)
kind-refused params spec bytes section start unlisted place front e = not_listed refl
kind-refused params spec bytes section start supplementary place front e = in_other_file refl
kind-refused params spec bytes section start form_in_front place front e = absurd (front refl)
kind-refused params spec bytes section start (number_of class n) place front e = passes_end (λ q. cc) (λ q. cc) front e
kind-refused params spec bytes section start (leb_number class) place front e = passes_end (λ q. cc) (λ q. cc) front e
kind-refused params spec bytes section start signed_leb place front e = passes_end (λ q. cc) (λ q. cc) front e
kind-refused params spec bytes section start (block_of n) place front e = passes_end (λ q. cc) (λ q. cc) front e
kind-refused params spec bytes section start (counted n) place front e = passes_end (λ q. cc) (λ q. cc) front e
kind-refused params spec bytes section start counted_leb place front e = passes_end (λ q. cc) (λ q. cc) front e
kind-refused params spec bytes section start inline_text place front e = passes_end (λ q. cc) (λ q. cc) front e
kind-refused params spec bytes section start (text_offset table n) place front e = passes_end (λ q. cc) (λ q. cc) front e
kind-refused params spec bytes section start present place front e = passes_end (λ q. cc) (λ q. cc) front e
kind-refused params spec bytes section start in_abbreviation place front e = passes_end (λ q. cc) (λ q. cc) front e

-- the value of a form that stands in no front
pub own-value : (params : Params) (spec : Spec) (bytes : List ℕ) (place : ℕ) (k : ValueKind) → k ≡ kind_in params spec.form → k ≢ form_in_front
    → value_at params spec bytes place ≡ value_of k params.order bytes place spec.implicit
unfolding value_at
own-value params spec bytes place k e other =
    ap (λ (j : ValueKind). value_by j params spec bytes place) (sym e) ∙ value_by-own k params spec bytes place other

pub own-refused : (params : Params) (spec : Spec) (bytes : List ℕ) (section start : ℕ) (k : ValueKind) (r : Refusal) → k ≡ kind_in params spec.form
    → KindFails params spec bytes section start k start r → FormFails params spec bytes section start r
own-refused params spec bytes section start k r e f = own (subst (λ (j : ValueKind). KindFails params spec bytes section start j start r) e f)

-- a form stands in front of the value
pub front-is : (params : Params) (spec : Spec) (bytes : List ℕ) (start form size : ℕ) (front : ValueKind) → front ≡ kind_in params spec.form → front ≡ form_in_front
    → uleb_at bytes start ≡ Some (form, size) → IsFront params spec bytes start form size
front-is params spec bytes start form size front e f s = record { indirect = sym e ∙ f; spells = s }

pub front-cut : (params : Params) (spec : Spec) (bytes : List ℕ) (section start : ℕ) (front : ValueKind) → front ≡ kind_in params spec.form → front ≡ form_in_front
    → uleb_at bytes start ≡ None → FormFails params spec bytes section start (at Entry section start)
front-cut params spec bytes section start front e f s = cut (sym e ∙ f) s

pub front-again : (params : Params) (spec : Spec) (bytes : List ℕ) (section start form size : ℕ) (k : ValueKind) → IsFront params spec bytes start form size
    → k ≡ kind_in params form → k ≡ form_in_front → FormFails params spec bytes section start (at Form section start)
front-again params spec bytes section start form size k i e f = again form size i (sym e ∙ f)

pub front-implicit : (params : Params) (spec : Spec) (bytes : List ℕ) (section start form size : ℕ) (k : ValueKind) → IsFront params spec bytes start form size
    → k ≡ kind_in params form → k ≡ in_abbreviation → FormFails params spec bytes section start (at Form section start)
front-implicit params spec bytes section start form size k i e f = implicit form size i (sym e ∙ f)

pub front-refused : (params : Params) (spec : Spec) (bytes : List ℕ) (section start form size : ℕ) (k : ValueKind) (r : Refusal) → IsFront params spec bytes start form size
    → k ≡ kind_in params form → k ≢ in_abbreviation → KindFails params spec bytes section start k (start + size) r → FormFails params spec bytes section start r
front-refused params spec bytes section start form size k r i e other f =
    chosen form size i (λ q. other (e ∙ q)) (subst (λ (j : ValueKind). KindFails params spec bytes section start j (start + size) r) e f)

-- the value behind the form
pub front-value : (params : Params) (spec : Spec) (bytes : List ℕ) (start form size : ℕ) (k : ValueKind) → IsFront params spec bytes start form size
    → k ≡ kind_in params form → k ≢ in_abbreviation
    → value_at params spec bytes start ≡ behind size (value_of k params.order bytes (start + size) spec.implicit)
unfolding value_at
front-value params spec bytes start form size k i e other =
    rw (i.indirect, i.spells)
    (ap (behind size) (ap (λ (j : ValueKind). chosen_value j params.order bytes (start + size) spec.implicit) (sym e)
    ∙ chosen_value-own k params spec bytes (start + size) other))

-- a kind that isn't that of the abbreviation's numbers
not-implicit : (params : Params) (j : FormKind) → (j ≡ InAbbreviation → ⊥) → as_kind params j ≢ in_abbreviation
not-implicit params InAbbreviation h = absurd (h refl)
not-implicit params (Number class n) h = λ q. cc
not-implicit params (LebNumber class) h = λ q. cc
not-implicit params SignedLeb h = λ q. cc
not-implicit params (Block n) h = λ q. cc
not-implicit params (Counted n) h = λ q. cc
not-implicit params CountedLeb h = λ q. cc
not-implicit params InlineText h = λ q. cc
not-implicit params StrOffset h = λ q. cc
not-implicit params LineStrOffset h = λ q. cc
not-implicit params Present h = λ q. cc
not-implicit params FormInFront h = λ q. cc
not-implicit params Supplementary h = λ q. cc
not-implicit params Unlisted h = λ q. cc

pub front-found : (params : Params) (spec : Spec) (bytes : List ℕ) (start form size : ℕ) (k : FormKind) (v : Value) → kind_in params spec.form ≡ form_in_front
    → uleb_at bytes start ≡ Some (form, size) → as_kind params k ≡ kind_in params form → (k ≡ InAbbreviation → ⊥)
    → value_of (as_kind params k) params.order bytes (start + size) spec.implicit ≡ Some v → value_at params spec bytes start ≡ Some (record v { size = size + v.size })
front-found params spec bytes start form size k v f s e other found =
    front-value params spec bytes start form size (as_kind params k) (record { indirect = f; spells = s }) e (not-implicit params k other)
    ∙ ap (behind size) found

-- the same of the size alone
size-some : (o : Option Value) (n : ℕ) → value_size o ≡ Some n → o ≢ None
size-some None n e = λ q. cc
size-some (Some v) n e = λ q. cc

size-none : (o : Option Value) → None ≡ value_size o → o ≡ None
size-none None e = refl
size-none (Some v) e = cc

pub size-refused : (params : Params) (spec : Spec) (bytes : List ℕ) (section start : ℕ) (k : ValueKind) (place : ℕ) → k ≢ form_in_front
    → None ≡ value_size (value_of k params.order bytes place spec.implicit) → KindFails params spec bytes section start k place (at (refused_as k) section start)
size-refused params spec bytes section start k place front e = kind-refused params spec bytes section start k place front (size-none _ e)

pub own-size : (params : Params) (spec : Spec) (bytes : List ℕ) (place : ℕ) (k : ValueKind) (n : ℕ) → k ≡ kind_in params spec.form → k ≢ form_in_front
    → value_size (value_of k params.order bytes place spec.implicit) ≡ Some n → value_size (value_at params spec bytes place) ≡ Some n
own-size params spec bytes place k n e other found = ap value_size (own-value params spec bytes place k e other) ∙ found

size-behind : (size n : ℕ) (o : Option Value) → value_size o ≡ Some n → value_size (behind size o) ≡ Some (size + n)
size-behind size n None e = cc
size-behind size n (Some v) e = ap (λ (m : ℕ). Some (size + m)) (some-once v.size n e)
  where
    some-once : (x y : ℕ) → Some x ≡ Some y → x ≡ y
    some-once x y f = cc

pub front-size : (params : Params) (spec : Spec) (bytes : List ℕ) (start form size : ℕ) (k : FormKind) (n : ℕ) → kind_in params spec.form ≡ form_in_front
    → uleb_at bytes start ≡ Some (form, size) → as_kind params k ≡ kind_in params form → (k ≡ InAbbreviation → ⊥)
    → value_size (value_of (as_kind params k) params.order bytes (start + size) spec.implicit) ≡ Some n → value_size (value_at params spec bytes start) ≡ Some (size + n)
front-size params spec bytes start form size k n f s e other found =
    ap value_size (front-value params spec bytes start form size (as_kind params k) (record { indirect = f; spells = s }) e (not-implicit params k other))
    ∙ size-behind size n (value_of (as_kind params k) params.order bytes (start + size) spec.implicit) found

-- a value or a size excludes every refusal
pub value-excludes : (params : Params) (spec : Spec) (bytes : List ℕ) (section start : ℕ) (v : Value) → value_at params spec bytes start ≡ Some v
    → (r : Refusal) → FormFails params spec bytes section start r → ⊥
value-excludes params spec bytes section start v e r f = form_excludes params spec bytes section start v r e f

pub size-excludes : (params : Params) (spec : Spec) (bytes : List ℕ) (section start n : ℕ) → value_size (value_at params spec bytes start) ≡ Some n
    → (r : Refusal) → FormFails params spec bytes section start r → ⊥
size-excludes params spec bytes section start n e r f = size-some (value_at params spec bytes start) n e (form_fails-none params spec bytes section start r f)

pub ruleset kind_laws = (kind-refused)

pub ruleset front_laws = (front-is, front-cut, front-again, front-implicit, front-refused, front-value)

pub ruleset own_laws = (own-value, own-refused, own-size)

pub ruleset size_laws = (size-refused)

pub ruleset public_laws = (value-excludes, size-excludes, form_fails-none)
