-- That the offsets of macro units name line tables and units that start there; and why one doesn't (DWARF 5, 6.3).
use Rattle.std.specs.Prelude.{false, ◌≡◌, ℕ, List, [], ◌∷◌, ◌++◌, IsTrue, ⊤, Option, Some, None}
use Rattle.dw_base.specs.DebugData.{start_number}
use Rattle.dw_base.specs.FileViews.{View}
use Rattle.dw_base.specs.LineMeanings.{is_there}
use Rattle.dw_base.specs.Refusals.{at}
use Rattle.dw_base.specs.declared.fault.Kind.TheVariants.{Stray}
use Rattle.dw_base.specs.declared.fault.Refusal.{Refusal}
use Rattle.dw_base.specs.declared.macro_units.MacroEvent.{MacroEvent}
use Rattle.dw_base.specs.declared.macro_units.MacroEvent.TheVariants.{Import}
use Rattle.dw_base.specs.declared.macro_units.MacroUnit.{MacroUnit}
use Rattle.dw_macros.specs.MacroEvents.{IsUnitIn, unit_events}
use Rattle.dw_starts.specs.MacroSections.{SectionUnits}
use Rattle.dw_starts.specs.UnitPlaces.{UnitPlaces, has_unit}

-- an event that brings the events of another unit names one of these places
abbrev pub EventNames : UnitPlaces → MacroEvent → Type 0
EventNames places (Import section n field) = IsTrue (has_unit places section n)
EventNames places e = ⊤

abbrev pub EventsName : UnitPlaces → List MacroEvent → Type 0
EventsName places [] = ⊤
EventsName places (e ∷ es) = EventNames places e × EventsName places es

-- what is to be the start of a unit's line table is one of these starts
abbrev pub LineNames : List ℕ → Option ℕ → Type 0
LineNames starts None = ⊤
LineNames starts (Some n) = IsTrue (is_there (start_number 0 starts n))

-- so it is for units of sections
abbrev pub UnitsName : View → List ℕ → UnitPlaces → List MacroUnit → Type 0
UnitsName v starts places [] = ⊤
UnitsName v starts places (u ∷ us) = LineNames starts u.line × EventsName places (unit_events v u) × UnitsName v starts places us

abbrev pub MacrosName : View → List ℕ → UnitPlaces → List SectionUnits → Type 0
MacrosName v starts places [] = ⊤
MacrosName v starts places (s ∷ ss) = UnitsName v starts places s.units × MacrosName v starts places ss

-- the units of these sections can be read in the view
abbrev pub AreUnitsIn : View → List MacroUnit → Type 0
AreUnitsIn v [] = ⊤
AreUnitsIn v (u ∷ us) = IsUnitIn v u × AreUnitsIn v us

abbrev pub AllUnitsIn : View → List SectionUnits → Type 0
AllUnitsIn v [] = ⊤
AllUnitsIn v (s ∷ ss) = AreUnitsIn v s.units × AllUnitsIn v ss

-- why an event of a unit in the section of a number names none, and the offset of a unit's line table
pub data EventStray (section : ℕ) (places : UnitPlaces) (e : MacroEvent) : Refusal → Type 0 where
  import : (in_section n field : ℕ) → e ≡ Import in_section n field → has_unit places in_section n ≡ false → EventStray section places e (at Stray section field)

pub data LineStrays (starts : List ℕ) (u : MacroUnit) : Refusal → Type 0 where
  line : (n : ℕ) → u.line ≡ Some n → start_number 0 starts n ≡ None → LineStrays starts u (at Stray u.section u.line_field)

-- so of events, units and sections
pub data EventStrays (section : ℕ) (places : UnitPlaces) (es : List MacroEvent) : Refusal → Type 0 where
  event : (before behind : List MacroEvent) (e : MacroEvent) {r : Refusal} → es ≡ before ++ e ∷ behind → EventStray section places e r
      → EventStrays section places es r

pub data UnitStrays (v : View) (starts : List ℕ) (places : UnitPlaces) (u : MacroUnit) : Refusal → Type 0 where
  line : {r : Refusal} → LineStrays starts u r → UnitStrays v starts places u r
  events : {r : Refusal} → EventStrays u.section places (unit_events v u) r → UnitStrays v starts places u r

pub data UnitsStray (v : View) (starts : List ℕ) (places : UnitPlaces) (us : List MacroUnit) : Refusal → Type 0 where
  unit : (before behind : List MacroUnit) (u : MacroUnit) {r : Refusal} → us ≡ before ++ u ∷ behind → UnitStrays v starts places u r
      → UnitsStray v starts places us r

pub data MacrosStray (v : View) (starts : List ℕ) (places : UnitPlaces) (ss : List SectionUnits) : Refusal → Type 0 where
  section : (before behind : List SectionUnits) (s : SectionUnits) {r : Refusal} → ss ≡ before ++ s ∷ behind → UnitsStray v starts places s.units r
      → MacrosStray v starts places ss r
