-- Why no value stands at a place: the refusals of kinds Form, Entry and Supplementary, each at the value's start, behind
-- which the form of an indirect value stands (DWARF 5, 7.5.5 and 7.5.6).
use Rattle.std.specs.Prelude.{◌≡◌, ◌≢◌, ℕ, ◌+◌, List, Some, None}
use Rattle.dw_base.specs.Forms.{ValueKind, in_abbreviation, form_in_front, supplementary, unlisted, kind_in}
use Rattle.dw_base.specs.Lebs.{uleb_at}
use Rattle.dw_base.specs.Refusals.{at}
use Rattle.dw_base.specs.Values.{value_of}
use Rattle.dw_base.specs.declared.fault.Kind.TheVariants.{Form, Entry, Supplementary}
use Rattle.dw_base.specs.declared.fault.Refusal.{Refusal}
use Rattle.dw_base.specs.declared.shared.Params.{Params}
use Rattle.dw_base.specs.declared.values.Spec.{Spec}

-- a value of a kind can't be read at a place: its form isn't listed, it refers to another file, or it passes the end of the
-- bytes. The refusal names the section and the start of the value.
pub data KindFails (params : Params) (spec : Spec) (bytes : List ℕ) (section start : ℕ) (k : ValueKind) (place : ℕ) : Refusal → Type 0 where
  not_listed : k ≡ unlisted → KindFails params spec bytes section start k place (at Form section start)
  in_other_file : k ≡ supplementary → KindFails params spec bytes section start k place (at Supplementary section start)
  passes_end : k ≢ unlisted → k ≢ supplementary → k ≢ form_in_front → value_of k params.order bytes place spec.implicit ≡ None
      → KindFails params spec bytes section start k place (at Entry section start)

-- a form of this number stands in front of the value, in so many bytes
pub record IsFront (params : Params) (spec : Spec) (bytes : List ℕ) (start form size : ℕ) : Type 0 where
  pub indirect : kind_in params spec.form ≡ form_in_front
  pub spells : uleb_at bytes start ≡ Some (form, size)

-- no value of the attribute stands at a place
pub data FormFails (params : Params) (spec : Spec) (bytes : List ℕ) (section start : ℕ) : Refusal → Type 0 where
  own : {r : Refusal} → KindFails params spec bytes section start (kind_in params spec.form) start r
      → FormFails params spec bytes section start r
  cut : kind_in params spec.form ≡ form_in_front → uleb_at bytes start ≡ None
      → FormFails params spec bytes section start (at Entry section start)
  again : (form size : ℕ) → IsFront params spec bytes start form size → kind_in params form ≡ form_in_front
      → FormFails params spec bytes section start (at Form section start)
  implicit : (form size : ℕ) → IsFront params spec bytes start form size → kind_in params form ≡ in_abbreviation
      → FormFails params spec bytes section start (at Form section start)
  chosen : (form size : ℕ) {r : Refusal} → IsFront params spec bytes start form size → kind_in params form ≢ in_abbreviation
      → KindFails params spec bytes section start (kind_in params form) (start + size) r
      → FormFails params spec bytes section start r
