-- What the events of a macro unit mean, as they were read (DWARF 5, 6.3): texts in place of their places, and the numbers of line tables
-- and units in place of offsets.
use Rattle.std.specs.Prelude.{ℕ, List, map, take, drop, option_and_then}
use Rattle.dw_base.specs.DebugData.{Around, start_number, started_unit}
use Rattle.dw_base.specs.FileViews.{View, section_bytes}
use Rattle.dw_base.specs.MacroMeanings.{EventMeaning, defined, undefined, begun, ended, brought, MacroMeaning}
use Rattle.dw_base.specs.declared.debug_sections.DebugSection.TheVariants.{Line, Macro}
use Rattle.dw_base.specs.declared.line_tables.TextPlace.{TextPlace}
use Rattle.dw_base.specs.declared.macro_units.MacroEvent.{MacroEvent}
use Rattle.dw_base.specs.declared.macro_units.MacroEvent.TheVariants.{Define, Undef, StartFile, EndFile, Import}
use Rattle.dw_base.specs.declared.macro_units.MacroUnit.{MacroUnit}
use Rattle.dw_macros.specs.MacroEvents.{unit_events}

-- the bytes of a text
abbrev pub text_bytes : View → TextPlace → List ℕ
text_bytes v t = take t.len (drop t.at (section_bytes v t.section))

abbrev pub event_meaning : View → Around → MacroEvent → EventMeaning
event_meaning v g (Define line text) = defined line (text_bytes v text)
event_meaning v g (Undef line text) = undefined line (text_bytes v text)
event_meaning v g (StartFile line file) = begun line file
event_meaning v g EndFile = ended
event_meaning v g (Import section offset field) = brought (started_unit 0 (g.lasting.kept Macro).starts section offset)

-- a unit of the view
abbrev pub unit_meaning : View → Around → MacroUnit → MacroMeaning
unit_meaning v g u = record {
  version = u.version;
  line = option_and_then (start_number 0 (g.stands Line).starts) u.line;
  events = map (event_meaning v g) (unit_events v u);
}
