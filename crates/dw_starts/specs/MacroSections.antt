-- The macro units of the sections of a view, as they were read, and why they can't be (DWARF 5, 6.3).
use Rattle.std.specs.Prelude.{◌≡◌, ℕ, List, [], ◌∷◌, ◌++◌, ⊤}
use Rattle.dw_base.specs.Cells.{CellSection}
use Rattle.dw_base.specs.FileViews.{View}
use Rattle.dw_base.specs.MacroFails.{MacroUnitsFail}
use Rattle.dw_base.specs.ViewData.{debug_data}
use Rattle.dw_base.specs.declared.fault.Refusal.{Refusal}
use Rattle.dw_base.specs.declared.macro_units.MacroUnit.{MacroUnit}
use Rattle.dw_base.specs.MacroOffsets.{AreReadUnits, UnitsRefuse}
use Rattle.dw_base.specs.declared.debug_sections.DebugSection.TheVariants.{Macro}

-- a section of macro units: its number, and its units
pub record SectionUnits : Type 0 where
  pub number : ℕ
  pub units : List MacroUnit

-- the sections of a list have these units, with offsets that can be read
abbrev pub HaveUnits : View → List CellSection → List SectionUnits → Type 0
HaveUnits v [] [] = ⊤
HaveUnits v [] (s ∷ ss) = ⊥
HaveUnits v (z ∷ zs) [] = ⊥
HaveUnits v (z ∷ zs) (s ∷ ss) = (s.number ≡ z.number) × AreReadUnits v z.number s.units × HaveUnits v zs ss

-- those of a view do
pub record UnitsFoundIn (v : View) (ss : List SectionUnits) : Type 0 where
  pub units : HaveUnits v ((debug_data v).found Macro) ss

-- where units start
abbrev pub places_of : List MacroUnit → List ℕ
places_of [] = []
places_of (u ∷ us) = u.start ∷ places_of us

-- the number of the first section; 0 where there is none
abbrev pub first_section : List SectionUnits → ℕ
first_section [] = 0
first_section (s ∷ ss) = s.number

-- why there are none: those of one section can't be read, or one of their offsets can't
pub data UnitsFailIn (v : View) : Refusal → Type 0 where
  units : (z : CellSection) (before behind : List CellSection) {r : Refusal} → (debug_data v).found Macro ≡ before ++ z ∷ behind → MacroUnitsFail v z.number r
      → UnitsFailIn v r
  offsets : (z : CellSection) (before behind : List CellSection) {r : Refusal} → (debug_data v).found Macro ≡ before ++ z ∷ behind → UnitsRefuse v z.number r
      → UnitsFailIn v r
