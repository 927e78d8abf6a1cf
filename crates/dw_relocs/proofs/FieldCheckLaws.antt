-- All relocations that are left, from what is known of each section.
use Rattle.std.proofs.Common.{◌≡◌, ℕ, List, [], ◌∷◌, ◌++◌, refl, sym, subst}
use Rattle.dw_base.specs.Cells.{CellSection}
use Rattle.dw_base.specs.DebugData.{DebugData}
use Rattle.dw_base.specs.FileViews.{View}
use Rattle.dw_base.specs.Refusals.{Blames}
use Rattle.dw_base.specs.RelocationRows.{moving_sections}
use Rattle.dw_base.specs.UnitHeaders.{UnitSection}
use Rattle.dw_base.specs.ViewData.{debug_data}
use Rattle.dw_base.specs.declared.debug_sections.DebugSection.TheVariants.{Info, Macro}
use Rattle.dw_base.specs.declared.fault.Fault.{Fault}
use Rattle.dw_base.specs.declared.fault.Fault.TheVariants.{NoMemory, Refused}
use Rattle.dw_base.specs.declared.fault.Refusal.{Refusal}
use Rattle.dw_base.specs.declared.shared.Order.{Order}
use Rattle.dw_meaning.specs.RelocationFails.{LeftRelocationsFail, LeftRelocationsRead}
use Rattle.dw_relocs.specs.FieldRefusals.{FieldsRefuse, MacroSectionsHold, left}
use Rattle.dw_relocs.specs.LeftChecks.{LinesHold, NamesHold, SlotsHold, UnitsHold}
use Rattle.dw_relocs.specs.MacroFields.{MacrosHold}
use Rattle.dw_relocs.specs.UnitPasses.{SectionsHold}

-- one of the unit sections, and one of the macro sections
unit-among : (d : DebugData) (moving : List ℕ) (before behind : List UnitSection) (z : UnitSection) → SectionsHold d moving (before ++ z ∷ behind) → UnitsHold d moving z
unit-among d moving [] behind z h = h.0
unit-among d moving (y ∷ ys) behind z h = unit-among d moving ys behind z h.1

macro-among : (v : View) (before behind : List CellSection) (z : CellSection) → MacroSectionsHold v (before ++ z ∷ behind)
    → MacrosHold v.order z.contents (moving_sections v)
macro-among v [] behind z h = h.0
macro-among v (y ∷ ys) behind z h = macro-among v ys behind z h.1

order-is : (v : View) → (debug_data v).base.order ≡ v.order
unfolding debug_data
order-is v = refl

own-macros : (v : View) (z : CellSection) → MacrosHold v.order z.contents (moving_sections v) → MacrosHold (debug_data v).base.order z.contents (moving_sections v)
own-macros v z h = subst (λ (o : Order). MacrosHold o z.contents (moving_sections v)) (sym (order-is v)) h

pub all-read : (v : View) → SlotsHold (debug_data v) (moving_sections v) → NamesHold (debug_data v) (moving_sections v) → MacroSectionsHold v ((debug_data v).found Macro)
    → LinesHold (debug_data v) (moving_sections v) → SectionsHold (debug_data v) (moving_sections v) ((debug_data v).found Info)
    → LeftRelocationsRead (debug_data v) (moving_sections v)
all-read v slots names macros lines units = record {
  units = λ before behind z first xs split reads.
      (unit-among (debug_data v) (moving_sections v) before behind z (subst (SectionsHold (debug_data v) (moving_sections v)) split units)).units first xs reads;
  slots = slots.slots;
  names = names.names;
  macros = λ before behind z xs split reads.
      (own-macros v z (macro-among v before behind z (subst (MacroSectionsHold v) split macros))).macros xs reads;
  lines = lines.lines;
  line_headers = lines.headers;
}

-- a relocation that is left
pub left-row : (v : View) (r : Refusal) → LeftRelocationsFail (debug_data v) (moving_sections v) r → FieldsRefuse v r
left-row v r f = left f

pub left-fault : (v : View) (f : Fault) → Blames (LeftRelocationsFail (debug_data v) (moving_sections v)) f → Blames (FieldsRefuse v) f
left-fault v NoMemory b = tt
left-fault v (Refused r) b = left b

pub ruleset check_rules = (all-read, left-row, left-fault)
