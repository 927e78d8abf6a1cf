-- What macro units of a view say that were read: texts by their places, line tables and units by where they start (DWARF 5, 6.3).
use Rattle.std.specs.Prelude.{◌≡◌, ℕ, List, ◌∷◌, map, option_and_then}
use Rattle.dw_base.specs.DebugData.{start_number}
use Rattle.dw_base.specs.FileViews.{View}
use Rattle.dw_base.specs.MacroMeanings.{EventMeaning, defined, undefined, begun, ended, brought, MacroMeaning}
use Rattle.dw_base.specs.declared.macro_units.MacroEvent.{MacroEvent}
use Rattle.dw_base.specs.declared.macro_units.MacroEvent.TheVariants.{Define, Undef, StartFile, EndFile, Import}
use Rattle.dw_base.specs.declared.macro_units.MacroUnit.{MacroUnit}
use Rattle.dw_macros.specs.EventMeanings.{text_bytes}
use Rattle.dw_macros.specs.MacroEvents.{unit_events}
use Rattle.dw_starts.specs.UnitPlaces.{unit_number}

-- a view, where its line tables start, and where its macro units do, each as one number
pub record MacroSide : Type 0 where
  pub view : View
  pub lines : List ℕ
  pub keys : List ℕ

abbrev pub event_said : MacroSide → MacroEvent → EventMeaning
event_said g (Define line text) = defined line (text_bytes g.view text)
event_said g (Undef line text) = undefined line (text_bytes g.view text)
event_said g (StartFile line file) = begun line file
event_said g EndFile = ended
event_said g (Import section offset field) = brought (unit_number g.keys section offset)

abbrev pub events_said : MacroSide → List MacroEvent → List EventMeaning
events_said g es = map (event_said g) es

abbrev pub unit_said : MacroSide → MacroUnit → MacroMeaning
unit_said g u = record {
  version = u.version;
  line = option_and_then (start_number 0 g.lines) u.line;
  events = events_said g (unit_events g.view u);
}

abbrev pub units_said : MacroSide → List MacroUnit → List MacroMeaning
units_said g us = map (unit_said g) us

-- a list doesn't begin with this event
pub record HasOther (e : EventMeaning) (es : List EventMeaning) : Type 0 where
  pub none : (rest : List EventMeaning) → es ≡ e ∷ rest → ⊥
