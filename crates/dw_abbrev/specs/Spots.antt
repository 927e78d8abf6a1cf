-- The attributes of an abbreviation from one of them on are those that stand at its place (DWARF 5, 7.5.3), so abbreviations that end alike can
-- share what they have in common.
use Rattle.std.specs.Prelude.{◌≡◌, ℕ, ◌<◌, ◌≤◌, List, drop, length, slice_get, Option, Some, None}
use Rattle.dw_base.specs.AbbreviationTables.{SpellsSpecs}
use Rattle.dw_base.specs.declared.values.Spec.{Spec}
use Rattle.dw_abbrev.specs.Spelled.{SpecsEnd}
use Rattle.dw_abbrev.specs.declared.spots.Spot.{Spot}

-- the attributes that an abbreviation has for itself, or those that it shares
abbrev pub or_shared : List Spec → Option (List Spec) → List Spec
or_shared own None = own
or_shared own (Some shared) = shared

-- these attributes and the pair that ends them stand at a place, up to another behind it
pub record StandsUpTo (bytes : List ℕ) (at : ℕ) (specs : List Spec) (next : ℕ) : Type 0 where
  pub ends : SpecsEnd bytes at specs next
  pub further : at < next
  pub within : next ≤ length bytes

-- at each of these places stand the attributes from the one of the same number on, up to another place
pub record RestsSpell (bytes : List ℕ) (places : List ℕ) (specs : List Spec) (last : ℕ) : Type 0 where
  pub as_many : length places ≡ length specs
  pub before : (i o : ℕ) → slice_get places i ≡ Some o → o < last
  pub each : (i o : ℕ) → slice_get places i ≡ Some o → SpellsSpecs bytes o (drop i specs) last

-- the same, with the pair that ends them
pub record ArePlaced (bytes : List ℕ) (places : List ℕ) (specs : List Spec) (next : ℕ) : Type 0 where
  pub as_many : length places ≡ length specs
  pub each : (i o : ℕ) → slice_get places i ≡ Some o → StandsUpTo bytes o (drop i specs) next

-- the attributes that are kept by their places are those that stand there
pub record AreSpots (bytes : List ℕ) (spots : ℕ → Option Spot) : Type 0 where
  pub each : (at : ℕ) (s : Spot) → spots at ≡ Some s → StandsUpTo bytes at s.specs s.next
