-- What the functions of this crate ask of what they are given: that each text that units name is in the table, and that no unit has many
-- variables.
use Rattle.std.specs.Prelude.{ℕ, List, true, ◌≡◌, ◌<◌, ◌≤◌, slice_index}
use Rattle.dw_base.specs.Texts.{is_in}
use Rattle.dbg_gen.specs.GeneratedTexts.{directory, unit_name, variable_name}

-- no unit has more variables than 16
pub record AreFew (counts : List ℕ) : Type 0 where
  pub each : (i : ℕ) → slice_index counts i ≤ 16

-- each text that a unit with so many variables names is among these
pub record HasUnit (texts : List (List ℕ)) (unit count : ℕ) : Type 0 where
  pub name : is_in texts (unit_name unit) ≡ true
  pub directory_there : is_in texts directory ≡ true
  pub variables : (i : ℕ) → i < count → is_in texts (variable_name i) ≡ true

-- and so is each that the first units name, which have so many variables each
pub record HasUnits (texts : List (List ℕ)) (counts : List ℕ) (units : ℕ) : Type 0 where
  pub each : (u : ℕ) → u < units → HasUnit texts u (slice_index counts u)
