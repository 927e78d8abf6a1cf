-- What the debug data of a view say of texts, kind by kind, in the order in which they are mentioned: units, string offsets, line tables, macro units, and
-- name tables.
use Rattle.std.specs.Prelude.{List, ◌++◌}
use Rattle.dw_base.specs.DebugData.{DataReadings}
use Rattle.dw_base.specs.FileViews.{View}
use Rattle.dw_base.specs.LineTables.{LineTable}
use Rattle.dw_read.specs.MacroFields.{macros_read}
use Rattle.dw_read.specs.NameSections.{names_read}
use Rattle.dw_unit_fields.specs.SectionFields.{SectionFields, paths_of}
use Rattle.dw_read.specs.SlotPaths.{slots_read}
use Rattle.dw_read.specs.ViewLines.{lines_of_view}

pub record Fields : Type 0 where
  pub units : List SectionFields
  pub slots : List SectionFields
  pub lines : List SectionFields
  pub macros : List SectionFields
  pub names : List SectionFields

-- all of it, in that order
abbrev pub all_of : Fields → List SectionFields
all_of f = f.units ++ (f.slots ++ (f.lines ++ (f.macros ++ f.names)))

-- that of the sections whose fields are set where they stand: line tables are written anew
abbrev pub standing : Fields → List SectionFields
standing f = ((f.units ++ f.slots) ++ f.macros) ++ f.names

-- what readings of a view say, and its line tables
abbrev pub fields_read : View → DataReadings → List LineTable → Fields
fields_read v r ts = record { units = paths_of r.units; slots = slots_read v r; lines = lines_of_view v ts; macros = macros_read r.macros; names = names_read v r }
