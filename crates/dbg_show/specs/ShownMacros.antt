-- What macro units say, as it is printed of those that were read: texts by their places, line tables and units by where they start (DWARF 5,
-- 6.3).
use Rattle.std.specs.Prelude.{◌≡◌, ℕ, ◌+◌, ◌<◌, List, [], ◌∷◌, ◌++◌, length, Option, option_and_then, ⊤}
use Rattle.dw_base.specs.DebugData.{start_number}
use Rattle.dw_base.specs.FileViews.{View}
use Rattle.dw_base.specs.declared.macro_units.MacroEvent.{MacroEvent}
use Rattle.dw_base.specs.declared.macro_units.MacroEvent.TheVariants.{Define, Undef, StartFile, EndFile, Import}
use Rattle.dw_base.specs.declared.macro_units.MacroUnit.{MacroUnit}
use Rattle.dw_starts.specs.LineStarts.{Rises}
use Rattle.dw_starts.specs.MacroNames.{AreUnitsIn}
use Rattle.dw_starts.specs.MacroSections.{SectionUnits}
use Rattle.dw_starts.specs.UnitPlaces.{AllBelow, all_units, unit_keys, unit_number}
use Rattle.dw_macros.specs.EventMeanings.{text_bytes}
use Rattle.dw_macros.specs.MacroEvents.{unit_events}
use Rattle.dbg_show.specs.MacroTexts.{define_front, undef_front, quoted_line, start_line, end_line, import_line, macros_line}

-- the number of the line table of a unit
abbrev pub line_number : List ℕ → Option ℕ → Option ℕ
line_number starts line = option_and_then (start_number 0 starts) line

-- what macro units are printed from: the view, where its line tables start, its macro units, and where these start
pub record MacroSource : Type 0 where
  pub view : View
  pub lines : List ℕ
  pub units : List MacroUnit
  pub keys : List ℕ

unfoldable pub event_shown : MacroSource → MacroEvent → List ℕ
event_shown g (Define line text) = define_front line ++ quoted_line (text_bytes g.view text)
event_shown g (Undef line text) = undef_front line ++ quoted_line (text_bytes g.view text)
event_shown g (StartFile line file) = start_line line file
event_shown g EndFile = end_line
event_shown g (Import section offset field) = import_line (unit_number g.keys section offset)

abbrev pub events_shown : MacroSource → List MacroEvent → List ℕ
events_shown g [] = []
events_shown g (e ∷ es) = event_shown g e ++ events_shown g es

abbrev pub unit_shown : MacroSource → ℕ → MacroUnit → List ℕ
unit_shown g number u = macros_line number u.version (line_number g.lines u.line) ++ events_shown g (unit_events g.view u)

-- units, numbered on
abbrev pub units_shown : MacroSource → ℕ → List MacroUnit → List ℕ
units_shown g number [] = []
units_shown g number (u ∷ us) = unit_shown g number u ++ units_shown g (number + 1) us

-- the text of an event stands in a section of the view
abbrev pub EventThere : View → MacroEvent → Type 0
EventThere v (Define line text) = text.section < length v.sections
EventThere v (Undef line text) = text.section < length v.sections
EventThere v e = ⊤

abbrev pub EventsThere : View → List MacroEvent → Type 0
EventsThere v [] = ⊤
EventsThere v (e ∷ es) = EventThere v e × EventsThere v es

-- the units of a view, and where they start
pub record AreMacros (v : View) (ss : List SectionUnits) (units : List MacroUnit) (keys : List ℕ) : Type 0 where
  pub units_are : units ≡ all_units ss
  pub keys_are : keys ≡ unit_keys units
  pub below : AllBelow units

-- the units can be read, and what is searched in rises
pub record MacrosFit (g : MacroSource) : Type 0 where
  pub units : AreUnitsIn g.view g.units
  pub lines_rise : Rises g.lines
  pub keys_rise : Rises g.keys
