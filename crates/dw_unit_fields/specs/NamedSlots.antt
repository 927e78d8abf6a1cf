-- Which slots the values of units name by index, and the first value that names none (DWARF 5, 7.26, and 7.5.5, class string).
use Rattle.std.specs.Prelude.{Bool, false, ◌≡◌, ℕ, ◌≤◌, ◌&&◌, ◌||◌, List, [], ◌∷◌, replicate, ⊤, Option, Some, None}
use Rattle.dw_base.specs.Refusals.{at}
use Rattle.dw_base.specs.declared.fault.Kind.TheVariants.{StringTable}
use Rattle.dw_base.specs.declared.fault.Refusal.{Refusal}
use Rattle.dw_base.specs.declared.string_offsets.Contribution.{Contribution}
use Rattle.dw_offsets.specs.NamedPlaces.{place_by, is_place, is_kind}
use Rattle.dw_offsets.specs.SlotMarks.{marked}
use Rattle.dw_unit_fields.specs.TextPlaces.{AllBasesPlaced, BaseSource, UnitSays, indexes_in, unit_number}
use Rattle.dw_unit_fields.specs.declared.fields.TextIndex.{TextIndex}

-- the contributions, the marks of the slots that were named, and what refuses the first value that named none
pub record Slots : Type 0 where
  pub list : List Contribution
  pub marks : List ℕ
  pub missing : Option Refusal

-- nothing was named, in a section of so many bytes
abbrev pub no_slots : List Contribution → ℕ → Slots
no_slots list n = record { list = list; marks = replicate n 0; missing = None }

-- the contributions lie in so many bytes
abbrev pub LieWithin : List Contribution → ℕ → Type 0
LieWithin [] n = ⊤
LieWithin (c ∷ cs) n = (c.end ≤ n) × LieWithin cs n

-- a value of a unit, a path or not, names the slot at a place
abbrev pub names_slot : Bool → Option ℕ → List Contribution → TextIndex → ℕ → Bool
names_slot path base list x place = is_kind path x.path && is_place (place_by base list x.index) place

-- one of them does
abbrev pub name_slot : Bool → Option ℕ → List Contribution → List TextIndex → ℕ → Bool
name_slot path base list [] place = false
name_slot path base list (x ∷ xs) place = names_slot path base list x place || name_slot path base list xs place

-- the first of two refusals
abbrev pub first_refusal : Option Refusal → Option Refusal → Option Refusal
first_refusal None o = o
first_refusal (Some r) o = Some r

-- what refuses a value whose slot has this place
abbrev pub missing_at : ℕ → ℕ → Option ℕ → Option Refusal
missing_at section at_place None = Some (at StringTable section at_place)
missing_at section at_place (Some place) = None

-- and the first of a unit that names no slot
abbrev pub missing_in : ℕ → Option ℕ → List Contribution → List TextIndex → Option Refusal
missing_in section base list [] = None
missing_in section base list (x ∷ xs) = first_refusal (missing_at section x.place (place_by base list x.index)) (missing_in section base list xs)

-- the slots with the values of a unit of a section more
pub record TakesIndexes (section : ℕ) (base : Option ℕ) (xs : List TextIndex) (old new : Slots) : Type 0 where
  pub list_is : new.list ≡ old.list
  pub marks : (path : Bool) (place : ℕ) → marked path new.marks place ≡ (marked path old.marks place || name_slot path base old.list xs place)
  pub missing : new.missing ≡ first_refusal old.missing (missing_in section base old.list xs)

-- the same of units
abbrev pub units_name : BaseSource → Bool → List Contribution → List UnitSays → ℕ → Bool
units_name g path list [] place = false
units_name g path list (u ∷ us) place = name_slot path (unit_number g u) list (indexes_in u.places) place || units_name g path list us place

abbrev pub units_missing : BaseSource → List Contribution → List UnitSays → Option Refusal
units_missing g list [] = None
units_missing g list (u ∷ us) = first_refusal (missing_in u.section (unit_number g u) list (indexes_in u.places)) (units_missing g list us)

-- each of which says a base that is placed, if it says one
pub record TakesUnits (g : BaseSource) (us : List UnitSays) (old new : Slots) : Type 0 where
  pub placed : AllBasesPlaced g us
  pub list_is : new.list ≡ old.list
  pub marks : (path : Bool) (place : ℕ) → marked path new.marks place ≡ (marked path old.marks place || units_name g path old.list us place)
  pub missing : new.missing ≡ first_refusal old.missing (units_missing g old.list us)
