-- Debug data and what stands around them, put together of what is said of each section.
use Rattle.std.specs.Prelude.{ℕ, List}
use Rattle.dw_base.specs.Cells.{Cell, Located, CellSection}
use Rattle.dw_base.specs.DebugData.{EntryPlace, Found, Kept, Stands}
use Rattle.dw_base.specs.MacroReadings.{MacroPlaces}
use Rattle.dw_base.specs.TextIndexes.{Indexing}
use Rattle.dw_base.specs.UnitHeaders.{UnitSection}
use Rattle.dw_base.specs.declared.debug_sections.DebugSection.{DebugSection}
use Rattle.dw_base.specs.declared.debug_sections.DebugSection.TheVariants.{Info, Types, Abbrev, Str, LineStr, StrOffsets, Line, Macro, Names}

abbrev pub found_with : List UnitSection → Located → Located → CellSection → CellSection → List CellSection → CellSection → (s : DebugSection) → Found s
found_with units str line_str offsets lines macros names Info = units
found_with units str line_str offsets lines macros names Types = tt
found_with units str line_str offsets lines macros names Abbrev = tt
found_with units str line_str offsets lines macros names Str = str
found_with units str line_str offsets lines macros names LineStr = line_str
found_with units str line_str offsets lines macros names StrOffsets = offsets
found_with units str line_str offsets lines macros names Line = lines
found_with units str line_str offsets lines macros names Macro = macros
found_with units str line_str offsets lines macros names Names = names

abbrev pub kept_with : List EntryPlace → List ℕ → Indexing → MacroPlaces → (s : DebugSection) → Kept s
kept_with entries infos indexing macros Info = record { entries = entries; infos = infos }
kept_with entries infos indexing macros Types = tt
kept_with entries infos indexing macros Abbrev = tt
kept_with entries infos indexing macros Str = tt
kept_with entries infos indexing macros LineStr = tt
kept_with entries infos indexing macros StrOffsets = indexing
kept_with entries infos indexing macros Line = tt
kept_with entries infos indexing macros Macro = macros
kept_with entries infos indexing macros Names = tt

abbrev pub stands_with : Located → Located → List (List ℕ) → Located → List Cell → List ℕ → (s : DebugSection) → Stands s
stands_with str line_str slots lines cells starts Info = tt
stands_with str line_str slots lines cells starts Types = tt
stands_with str line_str slots lines cells starts Abbrev = tt
stands_with str line_str slots lines cells starts Str = str
stands_with str line_str slots lines cells starts LineStr = line_str
stands_with str line_str slots lines cells starts StrOffsets = slots
stands_with str line_str slots lines cells starts Line = record { located = lines; cells = cells; starts = starts }
stands_with str line_str slots lines cells starts Macro = tt
stands_with str line_str slots lines cells starts Names = tt
