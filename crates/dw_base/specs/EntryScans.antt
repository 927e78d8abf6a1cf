-- The entries of a unit in the order of their places, as a pass over the unit meets them (DWARF 5, 7.5.2 and 7.5.3): a code,
-- and the values of its abbreviation's attributes. The code 0 ends a list of children, or is padding where none is open.
-- `bytes` are those of the section up to the unit's end.
use Rattle.std.specs.Prelude.{Bool, true, false, ◌≡◌, ◌≢◌, ℕ, ◌+◌, ◌-◌, ◌==◌, ◌&&◌, ◌||◌, if◌then◌else◌, List, [], ◌∷◌, ◌++◌, length, Some, None}
use Rattle.dw_base.specs.AbbreviationTables.{Abbreviation, abbreviation_of}
use Rattle.dw_base.specs.FormFails.{FormFails}
use Rattle.dw_base.specs.Lebs.{uleb_at}
use Rattle.dw_base.specs.Refusals.{at}
use Rattle.dw_base.specs.Values.{value_at}
use Rattle.dw_base.specs.declared.fault.Kind.TheVariants.{Entry, SplitDwarf}
use Rattle.dw_base.specs.declared.fault.Refusal.{Refusal}
use Rattle.dw_base.specs.declared.shared.Params.{Params}
use Rattle.dw_base.specs.declared.units.Scanned.{Scanned}
use Rattle.dw_base.specs.declared.units.UnitHeader.{UnitHeader}
use Rattle.dw_base.specs.declared.values.Spec.{Spec}
use Rattle.dw_base.specs.declared.values.Value.{Value}
use Rattle.dw_base.specs.declared.dwarf_numbers.TheConstants.{DW_TAG_skeleton_unit, DW_AT_dwo_name, DW_AT_GNU_dwo_name}

-- the values of these attributes stand one after another from a place up to another
pub data SpellsValues (params : Params) (bytes : List ℕ) (start : ℕ) : List Spec → ℕ → Type 0 where
  no_values : SpellsValues params bytes start [] start
  more_values : (specs : List Spec) (x : Spec) (place : ℕ) (v : Value) → SpellsValues params bytes start specs place
      → value_at params x bytes place ≡ Some v → SpellsValues params bytes start (specs ++ x ∷ []) (place + v.size)

-- one of the attributes has this name
abbrev pub has_attribute : List Spec → ℕ → Bool
has_attribute [] name = false
has_attribute (x ∷ xs) name = if x.name == name then true else has_attribute xs name

-- the first entry of a unit that stands for one in another file (DWARF 5, 3.1.2; before version 5 by GNU's attribute)
abbrev pub is_split_entry : Abbreviation → Bool
is_split_entry a = a.tag == DW_TAG_skeleton_unit || has_attribute a.specs DW_AT_dwo_name || has_attribute a.specs DW_AT_GNU_dwo_name

-- entry `number` of a unit is its first, and stands for one in another file
abbrev pub is_split_root : ℕ → Abbreviation → Bool
is_split_root number a = number == 0 && is_split_entry a

-- an entry of an abbreviation stands at a place, and its values end at another
pub record IsEntry (params : Params) (table : List Abbreviation) (bytes : List ℕ) (place : ℕ) (a : Abbreviation) (after : ℕ) : Type 0 where
  pub code : ℕ
  pub size : ℕ
  pub spells : uleb_at bytes place ≡ Some (code, size)
  pub some : code ≢ 0
  pub listed : abbreviation_of table code ≡ Some a
  pub values : SpellsValues params bytes (place + size) a.specs after

-- the depth behind an entry: its children are one list deeper
abbrev pub depth_behind : Abbreviation → ℕ → ℕ
depth_behind a depth = if a.children then depth + 1 else depth

abbrev pub scanned : ℕ → ℕ → Abbreviation → ℕ → Scanned
scanned place depth a after = record { offset = place; depth = depth; code = a.code; after = after }

-- the entries that stand from the first place of a unit up to a place, where so many lists of children are open
pub data Scans (h : UnitHeader) (table : List Abbreviation) (bytes : List ℕ) : List Scanned → ℕ → ℕ → Type 0 where
  starts : Scans h table bytes [] h.first 0
  null : (items : List Scanned) (place depth size : ℕ) → Scans h table bytes items place depth → uleb_at bytes place ≡ Some (0, size)
      → Scans h table bytes items (place + size) (depth - 1)
  entry : (items : List Scanned) (place depth after : ℕ) (a : Abbreviation) → Scans h table bytes items place depth
      → IsEntry h.params table bytes place a after → is_split_root (length items) a ≡ false
      → Scans h table bytes (items ++ scanned place depth a after ∷ []) after (depth_behind a depth)

-- the entries of the whole unit: no list of children is open at its end
abbrev pub AreEntries : UnitHeader → List Abbreviation → List ℕ → List Scanned → Type 0
AreEntries h table bytes items = Scans h table bytes items h.end 0

-- the values of an entry can't be read: that of an attribute fails, and those before it stand from a place on
pub data ValuesFail (params : Params) (bytes : List ℕ) (section start : ℕ) (specs : List Spec) : Refusal → Type 0 where
  value : (before behind : List Spec) (x : Spec) (place : ℕ) {r : Refusal} → specs ≡ before ++ x ∷ behind
      → SpellsValues params bytes start before place → FormFails params x bytes section place r → ValuesFail params bytes section start specs r

-- why the entries of a unit can't be read: the refusals of kinds Entry, Form, Supplementary and SplitDwarf, at the entry or
-- the value, and for a list of children that is open at the unit's end there
pub data EntryFails (h : UnitHeader) (table : List Abbreviation) (bytes : List ℕ) : Refusal → Type 0 where
  code_passes : (items : List Scanned) (place depth : ℕ) → Scans h table bytes items place depth → place ≢ h.end
      → uleb_at bytes place ≡ None → EntryFails h table bytes (at Entry h.section place)
  no_code : (items : List Scanned) (place depth code size : ℕ) → Scans h table bytes items place depth
      → uleb_at bytes place ≡ Some (code, size) → code ≢ 0 → abbreviation_of table code ≡ None
      → EntryFails h table bytes (at Entry h.section place)
  split : (items : List Scanned) (place depth code size : ℕ) (a : Abbreviation) → Scans h table bytes items place depth
      → uleb_at bytes place ≡ Some (code, size) → code ≢ 0 → abbreviation_of table code ≡ Some a → is_split_root (length items) a ≡ true
      → EntryFails h table bytes (at SplitDwarf h.section place)
  values : (items : List Scanned) (place depth code size : ℕ) (a : Abbreviation) {r : Refusal} → Scans h table bytes items place depth
      → uleb_at bytes place ≡ Some (code, size) → code ≢ 0 → abbreviation_of table code ≡ Some a
      → ValuesFail h.params bytes h.section (place + size) a.specs r → EntryFails h table bytes r
  open_list : (items : List Scanned) (depth : ℕ) → Scans h table bytes items h.end depth → depth ≢ 0
      → EntryFails h table bytes (at Entry h.section h.end)
