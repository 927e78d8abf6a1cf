-- Units that were read are units of the view, and the offsets of all of them name what they are to name where those of each do.
use Rattle.std.proofs.Common.{◌≡◌, ℕ, ◌<◌, List, [], ◌∷◌, ◌++◌, length, Option, Some, None, sym, ◌∙◌, subst, Bool, false}
use Rattle.dw_base.specs.Cells.{CellSection}
use Rattle.dw_base.specs.DebugData.{start_number}
use Rattle.dw_base.specs.FileViews.{View}
use Rattle.dw_base.specs.Refusals.{at}
use Rattle.dw_base.specs.ViewData.{debug_data}
use Rattle.dw_base.specs.declared.fault.Kind.TheVariants.{Stray}
use Rattle.dw_base.specs.declared.fault.Refusal.{Refusal}
use Rattle.dw_base.specs.declared.macro_units.MacroEvent.{MacroEvent}
use Rattle.dw_base.specs.declared.macro_units.MacroEvent.TheVariants.{Import}
use Rattle.dw_base.specs.declared.macro_units.MacroUnit.{MacroUnit}
use Rattle.dw_macros.specs.MacroEvents.{IsUnitIn}
use Rattle.dw_base.specs.MacroOffsets.{UnitsReadUpTo, more_unit, no_unit}
use Rattle.dw_base.specs.declared.debug_sections.DebugSection.TheVariants.{Macro}
use Rattle.dw_macros.proofs.CallerLaws.{read-unit}
use Rattle.dw_starts.specs.MacroNames.{AllUnitsIn, AreUnitsIn, EventStray, LineStrays}
use Rattle.dw_starts.specs.MacroNames.EventStray.{import}
use Rattle.dw_starts.specs.MacroNames.LineStrays.{line}
use Rattle.dw_starts.specs.MacroSections.{HaveUnits, SectionUnits, UnitsFoundIn}
use Rattle.dw_starts.proofs.MacroNumberLaws.{AllBelow, numbers-below}
use Rattle.dw_starts.specs.UnitPlaces.{UnitPlaces, has_unit}

in-append : (v : View) (us : List MacroUnit) (u : MacroUnit) → AreUnitsIn v us → IsUnitIn v u → AreUnitsIn v (us ++ u ∷ [])
in-append v [] u h k = (k, tt)
in-append v (x ∷ xs) u h k = (h.0, in-append v xs u h.1 k)

pub in-run : (v : View) (section place : ℕ) (us : List MacroUnit) → section < length v.sections → UnitsReadUpTo v section us place → AreUnitsIn v us
in-run v section place us there no_unit = tt
in-run v section place us there (more_unit list u start before is) = in-append v list u (in-run v section start list there before) (read-unit v section start u there is)

all-in : (v : View) (zs : List CellSection) (ss : List SectionUnits) → HaveUnits v zs ss → AllBelow (length v.sections) zs → AllUnitsIn v ss
all-in v [] [] h b = tt
all-in v [] (s ∷ ss) h b = absurd h
all-in v (z ∷ zs) [] h b = absurd h
all-in v (z ∷ zs) (s ∷ ss) h b = (in-run v z.number _ s.units b.0 h.1, all-in v zs ss h.2 b.1)

pub units-in : (v : View) (ss : List SectionUnits) → UnitsFoundIn v ss → AllUnitsIn v ss
units-in v ss found = all-in v ((debug_data v).found Macro) ss found.units (numbers-below v)

-- an offset that names nothing
pub line-stray : (starts : List ℕ) (u : MacroUnit) (n : ℕ) (o : Option ℕ) (r : Refusal) → u.line ≡ Some n → o ≡ start_number 0 starts n → o ≡ None
    → r ≡ at Stray u.section u.line_field → LineStrays starts u r
line-stray starts u n o r some is none same = subst (LineStrays starts u) (sym same) (line n some (sym is ∙ none))

pub event-stray : (section : ℕ) (places : UnitPlaces) (e : MacroEvent) (other n field : ℕ) (b : Bool) (r : Refusal) → e ≡ Import other n field → b ≡ has_unit places other n → b ≡ false
    → r ≡ at Stray section field → EventStray section places e r
event-stray section places e other n field b r event is none same = subst (EventStray section places e) (sym same) (import other n field event (sym is ∙ none))

pub ruleset line_rules = (line-stray)

pub ruleset event_rules = (event-stray)
