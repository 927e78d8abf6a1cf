-- The places of the slots that values name by index (DWARF 5, 7.26 and 7.5.5, class string).
use Rattle.std.specs.Prelude.{Bool, true, false, not, ℕ, ◌==◌, ◌&&◌, ◌||◌, List, [], ◌∷◌, Option, Some, None}
use Rattle.dw_base.specs.StringOffsets.{slot_place}
use Rattle.dw_base.specs.TextIndexes.{Indexing, IndexUse, base_of}
use Rattle.dw_base.specs.declared.string_offsets.Contribution.{Contribution}

-- the place of the slot of an index in the contribution of a base: none where there is no base or no such slot
abbrev pub place_by : Option ℕ → List Contribution → ℕ → Option ℕ
place_by None list index = None
place_by (Some base) list index = slot_place list base index

-- the place of the slot that a value names
abbrev pub use_place : Indexing → IndexUse → Option ℕ
use_place g u = place_by (base_of g.bases u.unit) g.contributions u.index

abbrev pub is_place : Option ℕ → ℕ → Bool
is_place None place = false
is_place (Some at) place = at == place

-- a value is a path, where paths are asked for, and none, where others are
abbrev pub is_kind : Bool → Bool → Bool
is_kind true path = path
is_kind false path = not path

-- some path, or some other value, names the slot at a place
abbrev pub names_place : Bool → Indexing → List IndexUse → ℕ → Bool
names_place path g [] place = false
names_place path g (u ∷ us) place = (is_kind path u.path && is_place (use_place g u) place) || names_place path g us place
