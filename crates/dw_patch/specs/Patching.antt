-- New places of fields of a section: which fields are set (gABI ch. 4 "Data Representation").
use Rattle.std.specs.Prelude.{ℕ, ◌^◌, ◌<◌, ◌≤◌, List, [], ◌∷◌, ◌++◌, length}
use Rattle.dw_base.specs.Refusals.{at}
use Rattle.dw_base.specs.declared.fault.Kind.TheVariants.{TooWide}
use Rattle.dw_base.specs.declared.fault.Refusal.{Refusal}
use Rattle.dw_base.specs.declared.shared.Order.{Order}
use Rattle.dw_patch.specs.declared.patches.NewPlace.{NewPlace}
use Rattle.dw_patch.specs.declared.patches.NewPlace.TheVariants.{Offset}
use Rattle.elf_layout.specs.Patched.{IsApart, PatchedUpTo, patch_at}
use Rattle.elf_layout.specs.declared.patch.Patch.{Patch}

-- the fields of a section that are set, in order: the byte order, the section's number and its size, in bytes
pub record PatchList : Type 0 where
  pub order : Order
  pub section : ℕ
  pub size : ℕ
  pub list : List Patch

abbrev pub patches_of : Order → ℕ → ℕ → List Patch → PatchList
patches_of order section size list = record { order = order; section = section; size = size; list = list }

abbrev pub no_patches : Order → ℕ → ℕ → PatchList
no_patches order section size = patches_of order section size []

-- one more field, with its new number
abbrev pub with_patch : PatchList → ℕ → ℕ → ℕ → PatchList
with_patch p place size value = record p { list = p.list ++ record { at = place; size = size; value = value } ∷ [] }

-- the number of a new place
abbrev pub number_of : NewPlace → ℕ
number_of (Offset n) = n

-- the bytes at a place are of none of the fields
pub record IsFree (list : List Patch) (place size : ℕ) : Type 0 where
  pub apart : (i : ℕ) → i < length list → IsApart (patch_at list i) place size

-- all of them are put
abbrev pub IsPatched : PatchList → List ℕ → List ℕ → Type 0
IsPatched p old new = PatchedUpTo p.order p.list (length p.list) old new

-- why a field can't be set: its new number doesn't fit
pub data SetFails (section place size n : ℕ) : Refusal → Type 0 where
  too_wide : 256 ^ size ≤ n → SetFails section place size n (at TooWide section place)
