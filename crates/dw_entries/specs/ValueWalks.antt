-- Where a walk over the values of an entry stands (DWARF 5, 7.5.3 to 7.5.6), and what a step of it gives.
use Rattle.std.specs.Prelude.{◌≡◌, ℕ, ◌+◌, ◌≤◌, List, [], ◌∷◌, length, Option, Some, None, Result, Ok, Err, IsTrue}
use Rattle.dw_base.specs.FormFails.{FormFails}
use Rattle.dw_base.specs.UnitHeaders.{is_address_size}
use Rattle.dw_base.specs.Values.{value_at}
use Rattle.dw_base.specs.declared.fault.Refusal.{Refusal}
use Rattle.dw_base.specs.declared.shared.Params.{Params}
use Rattle.dw_base.specs.declared.values.Spec.{Spec}
use Rattle.dw_base.specs.declared.values.Value.{Value}

-- a walk over values in the bytes of a section up to a unit's end: the attributes whose values are left, and where the first
-- of these stands
pub record WalkState : Type 0 where
  pub params : Params
  pub section : ℕ
  pub bytes : List ℕ
  pub left : List Spec
  pub place : ℕ

-- the walk gives the value of the next attribute, which stands at the place that was reached
pub record GivesValue (s : WalkState) (item : Spec × Value) (t : WalkState) : Type 0 where
  pub next : s.left ≡ item.0 ∷ t.left
  pub value : value_at s.params item.0 s.bytes s.place ≡ Some item.1
  pub same : t ≡ record s { left = t.left; place = s.place + item.1.size }

-- the walk gives a refusal, for which a reason holds, and is over
pub record GivesFault (s : WalkState) (r : Refusal) (t : WalkState) : Type 0 where
  pub attribute : Spec
  pub rest : List Spec
  pub next : s.left ≡ attribute ∷ rest
  pub fails : FormFails s.params attribute s.bytes s.section s.place r
  pub same : t ≡ record s { left = [] }

-- no attribute is left
pub record GivesNoMore (s t : WalkState) : Type 0 where
  pub none : s.left ≡ []
  pub same : t ≡ s

-- what a step gives, and where the walk stands then
abbrev pub GivesNext : WalkState → Option (Result (Spec × Value) Refusal) → WalkState → Type 0
GivesNext s None t = GivesNoMore s t
GivesNext s (Some (Ok item)) t = GivesValue s item t
GivesNext s (Some (Err r)) t = GivesFault s r t

-- what holds of every walk
pub record WalkFits (s : WalkState) : Type 0 where
  pub address : IsTrue (is_address_size s.params.address)
  pub inside : s.place ≤ length s.bytes
