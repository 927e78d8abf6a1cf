-- What a file means whose inline paths that would grow are offsets of their texts (this project's profile): such a path is held by offset, and
-- an attribute with zeros takes what is left of its room.
use Rattle.std.specs.Prelude.{Bool, true, false, ◌≡◌, ℕ, zero, suc, ◌+◌, ◌-◌, if◌then◌else◌, List, [], ◌∷◌, ◌++◌, length, replicate}
use Rattle.dw_base.specs.Cells.{plain_cells}
use Rattle.dw_base.specs.Forests.{AttributeMeaning, Forest, no_entries, entry}
use Rattle.dw_base.specs.Forms.{width_size}
use Rattle.dw_base.specs.InlinePaths.{inline_fits}
use Rattle.dw_base.specs.Paths.{PathMap}
use Rattle.dw_base.specs.UnitMeanings.{UnitMeaning}
use Rattle.dw_base.specs.ValueMeanings.{inline, by_offset, ValueMeaning, string, raw}
use Rattle.dw_base.specs.ViewData.{Meaning, mapped}
use Rattle.dw_base.specs.declared.shared.Width.{Width}
use Rattle.dw_meaning.specs.FileMeanings.{Means}
use Rattle.inline_lift.specs.LiftedTables.{filler_name, is_short}

-- how many zeros are in what is left, so many bytes
abbrev pub filler_zeros : ℕ → ℕ
filler_zeros n = if is_short n then n else n - 3

abbrev pub filler_attributes : ℕ → List AttributeMeaning
filler_attributes zero = []
filler_attributes (suc n) = record { name = filler_name; value = raw (plain_cells (replicate (filler_zeros n) 0)) } ∷ []

-- an attribute whose inline text fits its room, or doesn't
abbrev pub filled_if : Bool → Width → ℕ → List ℕ → List AttributeMeaning
filled_if true width name t = record { name = name; value = string true inline t } ∷ []
filled_if false width name t =
    record { name = name; value = string true by_offset t } ∷ filler_attributes (length t + 1 - width_size width)

-- an attribute with a path in its value, or any other
abbrev pub filled_value : PathMap → Width → ℕ → ValueMeaning → List AttributeMeaning
filled_value m width name (string true inline t) = filled_if (inline_fits m t) width name t
filled_value m width name v = record { name = name; value = v } ∷ []

abbrev pub filled_attributes : PathMap → Width → List AttributeMeaning → List AttributeMeaning
filled_attributes m width [] = []
filled_attributes m width (a ∷ rest) = filled_value m width a.name a.value ++ filled_attributes m width rest

-- paths are attributes of the first entry alone
abbrev pub filled_forest : PathMap → Width → Forest → Forest
filled_forest m width no_entries = no_entries
filled_forest m width (entry tag attributes children siblings) = entry tag (filled_attributes m width attributes) children siblings

abbrev pub filled_unit : PathMap → UnitMeaning → UnitMeaning
filled_unit m u = record u { entries = filled_forest m u.head.width u.entries }

abbrev pub filled_units : PathMap → List UnitMeaning → List UnitMeaning
filled_units m [] = []
filled_units m (u ∷ us) = filled_unit m u ∷ filled_units m us

abbrev pub filled : PathMap → Meaning → Meaning
filled m x = record x { units = filled_units m x.units }

-- what the file `out` means is what the file `b` means, with the paths that would grow filled. Each of the two means one thing.
pub record MeaningFilled (m : PathMap) (b out : List ℕ) : Type 0 where
  pub meaning : Meaning
  pub old : Means b meaning
  pub new : Means out (filled m meaning)
  pub old_one : (x : Meaning) → Means b x → x ≡ meaning
  pub new_one : (x : Meaning) → Means out x → x ≡ filled m meaning

-- what the file `end` means is what the file `b` means, with the paths that would grow filled, and with the map applied. Each of the two means one thing.
pub record MeaningGrown (m : PathMap) (b end : List ℕ) : Type 0 where
  pub meaning : Meaning
  pub old : Means b meaning
  pub new : Means end (mapped m (filled m meaning))
  pub old_one : (x : Meaning) → Means b x → x ≡ meaning
  pub new_one : (x : Meaning) → Means end x → x ≡ mapped m (filled m meaning)
