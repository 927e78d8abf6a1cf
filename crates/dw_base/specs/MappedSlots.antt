-- The texts of slots with a prefix map applied: once to each slot that stands with a path in what units mean, and to no other.
use Rattle.std.specs.Prelude.{true, ℕ, suc, if◌then◌else◌, List, [], ◌∷◌, ◌++◌}
use Rattle.dw_base.specs.Forests.{AttributeMeaning, Forest, no_entries, entry}
use Rattle.dw_base.specs.Paths.{PathMap, mapped_path}
use Rattle.dw_base.specs.TextIndexes.{holds_number}
use Rattle.dw_base.specs.UnitMeanings.{UnitMeaning}
use Rattle.dw_base.specs.ValueMeanings.{by_slot, ValueMeaning, string}

-- the slots that stand with a path, in what units mean
abbrev pub path_slot : ValueMeaning → List ℕ
path_slot (string true (by_slot n) t) = n ∷ []
path_slot v = []

abbrev pub path_slots_of : List AttributeMeaning → List ℕ
path_slots_of [] = []
path_slots_of (a ∷ rest) = path_slot a.value ++ path_slots_of rest

abbrev pub forest_slots : Forest → List ℕ
forest_slots no_entries = []
forest_slots (entry tag attributes children siblings) = path_slots_of attributes ++ (forest_slots children ++ forest_slots siblings)

abbrev pub unit_slots : List UnitMeaning → List ℕ
unit_slots [] = []
unit_slots (u ∷ rest) = forest_slots u.entries ++ unit_slots rest

-- the texts of slots from a number on, mapped: those that stand with a path
abbrev pub mapped_slots : PathMap → List ℕ → ℕ → List (List ℕ) → List (List ℕ)
mapped_slots m paths n [] = []
mapped_slots m paths n (t ∷ ts) = (if holds_number paths n then mapped_path m t else t) ∷ mapped_slots m paths (suc n) ts
