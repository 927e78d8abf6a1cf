-- Why the relocations of a view are refused, or can't be looked at (this project's profile): one of them may not stand where it does, or a
-- section in which some stand can't be read.
use Rattle.std.specs.Prelude.{◌≡◌, ℕ, ⊤, List, [], ◌∷◌, ◌++◌}
use Rattle.dw_base.specs.AbbreviationTables.{Abbreviation}
use Rattle.dw_base.specs.Cells.{CellSection}
use Rattle.dw_base.specs.EntryScans.{EntryFails}
use Rattle.dw_base.specs.EntryValues.{HasTable, bytes_up_to}
use Rattle.dw_base.specs.FileViews.{View, view_cells}
use Rattle.dw_base.specs.MacroOffsets.{UnitsRefuse}
use Rattle.dw_base.specs.RelocationRows.{moving_sections}
use Rattle.dw_base.specs.UnitHeaders.{UnitSection}
use Rattle.dw_base.specs.ViewData.{debug_data}
use Rattle.dw_base.specs.declared.debug_sections.DebugSection.TheVariants.{Macro}
use Rattle.dw_base.specs.declared.fault.Refusal.{Refusal}
use Rattle.dw_base.specs.declared.units.UnitHeader.{UnitHeader}
use Rattle.dw_relocs.specs.MacroFields.{MacrosFail, MacrosHold}
use Rattle.dw_meaning.specs.RelocationFails.{LeftRelocationsFail}

-- a relocation may not stand where it does; or the entries of a unit or the macro units of a section can't be read
pub data FieldsRefuse (v : View) : Refusal → Type 0 where
  left : {r : Refusal} → LeftRelocationsFail (debug_data v) (moving_sections v) r → FieldsRefuse v r
  entries : (z : UnitSection) (h : UnitHeader) (list : List Abbreviation) {r : Refusal} → HasTable (debug_data v) z h list
      → EntryFails h list (bytes_up_to z h) r → FieldsRefuse v r
  macros : (before behind : List CellSection) (z : CellSection) {r : Refusal} → (debug_data v).found Macro ≡ before ++ z ∷ behind → UnitsRefuse v z.number r
      → FieldsRefuse v r

-- what holds of the relocations of macro sections
abbrev pub MacroSectionsHold : View → List CellSection → Type 0
MacroSectionsHold v [] = ⊤
MacroSectionsHold v (z ∷ zs) = MacrosHold v.order z.contents (moving_sections v) × MacroSectionsHold v zs

-- and why one is refused
pub data MacroSectionRefuses (v : View) (section : ℕ) : Refusal → Type 0 where
  unread_macros : {r : Refusal} → UnitsRefuse v section r → MacroSectionRefuses v section r
  left_macros : {r : Refusal} → MacrosFail v.order section (view_cells v section) (moving_sections v) r → MacroSectionRefuses v section r
