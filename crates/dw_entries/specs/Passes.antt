-- The parts of a step through a unit's entries (DWARF 5, 7.5.2 and 7.5.3): codes of 0, and the code behind them.
use Rattle.std.specs.Prelude.{false, ◌≡◌, ◌≢◌, ℕ, ◌+◌, ◌-◌, List, [], ◌∷◌, ◌++◌, length, Option, Some, option_and_then}
use Rattle.dw_base.specs.AbbreviationTables.{Abbreviation}
use Rattle.dw_base.specs.EntryScans.{is_split_root, IsEntry, depth_behind, scanned, Scans, AreEntries, EntryFails}
use Rattle.dw_base.specs.Lebs.{uleb_at}
use Rattle.dw_base.specs.Values.{value_at}
use Rattle.dw_base.specs.declared.fault.Refusal.{Refusal}
use Rattle.dw_base.specs.declared.shared.Params.{Params}
use Rattle.dw_base.specs.declared.units.Scanned.{Scanned}
use Rattle.dw_base.specs.declared.units.UnitHeader.{UnitHeader}
use Rattle.dw_base.specs.declared.values.Spec.{Spec}
use Rattle.dw_base.specs.declared.values.Value.{Value}
use Rattle.dw_forms.specs.Fixed.{plain_size}
use Rattle.dw_forms.specs.Reads.{room_size}

-- codes of 0 stand one after another from a place on, where so many lists are open, up to another place: each closes a list,
-- where one is open
pub data Nulls (bytes : List ℕ) (from depth : ℕ) : ℕ → ℕ → Type 0 where
  no_nulls : Nulls bytes from depth from depth
  more_nulls : (place open_lists size : ℕ) → Nulls bytes from depth place open_lists → uleb_at bytes place ≡ Some (0, size)
      → Nulls bytes from depth (place + size) (open_lists - 1)

-- the code of an entry stands at a place, in so many bytes
pub record IsCode (bytes : List ℕ) (place : ℕ) (code : ℕ × ℕ) : Type 0 where
  pub spells : uleb_at bytes place ≡ Some code
  pub some : code.0 ≢ 0

-- a value of the attribute stands at a place, and takes so many bytes
pub record HasSize (params : Params) (spec : Spec) (bytes : List ℕ) (place size : ℕ) : Type 0 where
  pub value : Value
  pub is : value_at params spec bytes place ≡ Some value
  pub size_is : value.size ≡ size

-- how many bytes the value of an attribute takes at a place, where its form is one of most values; none where it is another, and
-- where it would pass the bytes
abbrev pub plain_len : Params → Spec → List ℕ → ℕ → Option ℕ
plain_len params spec bytes place = option_and_then (room_size bytes place) (plain_size params spec.form)

-- an entry stands at a place, with so many lists open there and behind it, and so many entries before it
pub record StandsHere (h : UnitHeader) (table : List Abbreviation) (bytes : List ℕ) (number : ℕ) (e : Scanned) (depth : ℕ) : Type 0 where
  pub abbreviation : Abbreviation
  pub entry : IsEntry h.params table bytes e.offset abbreviation e.after
  pub root : is_split_root number abbreviation ≡ false
  pub item : e ≡ scanned e.offset e.depth abbreviation e.after
  pub behind : depth ≡ depth_behind abbreviation e.depth

-- behind any so many entries up to a place comes this one, up to the place behind its values
pub record ComesNext (h : UnitHeader) (table : List Abbreviation) (bytes : List ℕ) (place depth number : ℕ) (e : Scanned) (behind : ℕ) : Type 0 where
  pub more : (items : List Scanned) → Scans h table bytes items place depth → length items ≡ number
      → Scans h table bytes (items ++ e ∷ []) e.after behind

-- behind any so many entries up to a place the unit can't be read further
pub record StopsHere (h : UnitHeader) (table : List Abbreviation) (bytes : List ℕ) (place depth number : ℕ) (r : Refusal) : Type 0 where
  pub fails : (items : List Scanned) → Scans h table bytes items place depth → length items ≡ number → EntryFails h table bytes r

-- any entries up to a place are those of the whole unit
pub record IsWhole (h : UnitHeader) (table : List Abbreviation) (bytes : List ℕ) (place depth : ℕ) : Type 0 where
  pub whole : (items : List Scanned) → Scans h table bytes items place depth → AreEntries h table bytes items
