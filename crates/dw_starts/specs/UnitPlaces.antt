-- Where the macro units of a view start (DWARF 5, 6.3): a section and a place in it as one number, larger in a later section, so that the
-- units of all sections are found in one list of numbers that rise.
use Rattle.std.specs.Prelude.{Bool, false, ◌≡◌, ℕ, ◌+◌, ◌*◌, ◌<◌, nat_lt, if◌then◌else◌, List, [], ◌∷◌, ◌++◌, Option, None, ⊤}
use Rattle.dw_base.specs.DebugData.{start_number, started_unit, DebugData}
use Rattle.dw_base.specs.LineMeanings.{is_there}
use Rattle.dw_base.specs.MacroReadings.{MacroPlaces, MacroReading, ReadsAllMacros, first_macros, macro_starts}
use Rattle.dw_base.specs.declared.macro_units.MacroUnit.{MacroUnit}
use Rattle.dw_base.specs.declared.view_fields.Field.{Field}
use Rattle.dw_base.specs.declared.view_fields.Field.TheVariants.{Num, Into, Sym}
use Rattle.dw_starts.specs.MacroSections.{SectionUnits}
use Rattle.dw_base.specs.declared.debug_sections.DebugSection.TheVariants.{Macro}

-- above every place in a section
abbrev pub place_limit : ℕ
place_limit = 0x100000000

-- one number for a place of a section
abbrev pub place_key : ℕ → ℕ → ℕ
place_key section place = section * 0x100000000 + place

-- the number of the unit that starts at a place of a section, among where units start
abbrev pub unit_number : List ℕ → ℕ → ℕ → Option ℕ
unit_number keys section place = if nat_lt place place_limit then start_number 0 keys (place_key section place) else None

-- where units start, each as one number
abbrev pub unit_keys : List MacroUnit → List ℕ
unit_keys [] = []
unit_keys (u ∷ us) = place_key u.section u.start ∷ unit_keys us

-- the units of all sections
abbrev pub all_units : List SectionUnits → List MacroUnit
all_units [] = []
all_units (s ∷ ss) = s.units ++ all_units ss

-- each unit starts below the limit
abbrev pub AllBelow : List MacroUnit → Type 0
AllBelow [] = ⊤
AllBelow (u ∷ us) = (u.start < place_limit) × AllBelow us

-- the first section of macro units, and where those of all sections start
pub record UnitPlaces : Type 0 where
  pub first : ℕ
  pub keys : List ℕ

-- a unit starts at a place of a section
abbrev pub has_unit : UnitPlaces → ℕ → ℕ → Bool
has_unit g section place = is_there (unit_number g.keys section place)

-- a field names a unit: a number one of the first section, and a relocation one of the section that it leads to
abbrev pub names_place : UnitPlaces → Field → Bool
names_place g (Num n) = has_unit g g.first n
names_place g (Into section n) = has_unit g section n
names_place g (Sym s k a) = false

-- the units of pieces start at these places
pub record PlacesStart (places : UnitPlaces) (g : MacroPlaces) : Type 0 where
  pub first : places.first ≡ g.first
  pub numbered : (section place : ℕ) → started_unit 0 g.starts section place ≡ unit_number places.keys section place

-- the macro units of debug data can be read, and start at these places
pub record UnitsStart (d : DebugData) (places : UnitPlaces) : Type 0 where
  pub readings : List MacroReading
  pub are : ReadsAllMacros d.base.order (d.found Macro) readings
  pub start : PlacesStart places (record { first = first_macros (d.found Macro); starts = macro_starts readings })
