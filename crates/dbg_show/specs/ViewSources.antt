-- What a view is printed from, once its debug data were read.
use Rattle.std.specs.Prelude.{◌≡◌, ℕ, List, ◌++◌}
use Rattle.dw_base.specs.DebugData.{around_of, line_source}
use Rattle.dw_base.specs.FileViews.{View}
use Rattle.dw_base.specs.LineTables.{LineTable}
use Rattle.dw_base.specs.MacroMeanings.{macro_meanings}
use Rattle.dw_base.specs.UnitMeanings.{units_of}
use Rattle.dw_base.specs.ViewData.{debug_data}
use Rattle.dw_starts.specs.MacroSections.{SectionUnits}
use Rattle.dbg_show.specs.MacroTexts.{macros_text}
use Rattle.dbg_show.specs.ReadTables.{ViewTables, all_read}
use Rattle.dbg_show.specs.ShownMacros.{MacroSource, MacrosFit, units_shown}
use Rattle.dw_attrs.specs.UnitValues.{UnitSource}
use Rattle.dbg_show.specs.ShownUnits.{all_shown}
use Rattle.dw_attrs.specs.UnitReads.{SourceFits}
use Rattle.dbg_show.specs.UnitTexts.{units_text}
use Rattle.dw_base.specs.declared.debug_sections.DebugSection.TheVariants.{Info}

-- the text of units, of line tables and of macro units
abbrev pub all_printed : View → UnitSource → List LineTable → MacroSource → List ℕ
all_printed v g ts m = all_shown g 0 g.units ++ (all_read v (line_source (debug_data v)) 0 ts ++ units_shown m 0 m.units)

-- the debug data of a view were read, and the text of what units and macro units are printed from is that of what they mean
pub record AreSources (v : View) (ts : List LineTable) (g : UnitSource) (m : MacroSource) : Type 0 where
  pub sections : List SectionUnits
  pub tables : ViewTables v ts sections
  pub fits : SourceFits g
  pub macros_fit : MacrosFit m
  pub units : all_shown g 0 g.units ≡ units_text ((debug_data v).found Info) 0 (units_of (debug_data v) tables.read.readings)
  pub macros : units_shown m 0 m.units ≡ macros_text 0 (macro_meanings (around_of (debug_data v) tables.read.readings) tables.read.readings.macros)
