-- The text of macro units: of each its number, its version and its line table, and its events in their order (DWARF 5, 6.3).
use Rattle.std.specs.Prelude.{ℕ, ◌+◌, List, [], ◌∷◌, ◌++◌, codes, Option, Some, None}
use Rattle.std.specs.Fmt.{decimal}
use Rattle.dw_base.specs.MacroMeanings.{EventMeaning, defined, undefined, begun, ended, brought, MacroMeaning}
use Rattle.dbg_show.specs.Quoting.{quoted}

-- a macro that is defined or undefined at a line, with its text
unfoldable pub define_front : ℕ → List ℕ
define_front line = codes "define " ++ (decimal line ++ codes " ")

unfoldable pub undef_front : ℕ → List ℕ
undef_front line = codes "undef " ++ (decimal line ++ codes " ")

abbrev pub quoted_line : List ℕ → List ℕ
quoted_line text = quoted text ++ codes "\n"

-- a file that begins at a line, by its number in the line table; and the end of a file
unfoldable pub start_line : ℕ → ℕ → List ℕ
start_line line file = codes "start " ++ (decimal line ++ (codes " file " ++ (decimal file ++ codes "\n")))

unfoldable pub end_line : List ℕ
end_line = codes "end\n"

-- a unit that is brought in, by its number; nothing where none is named, which no unit does that can be read
unfoldable pub import_line : Option ℕ → List ℕ
import_line None = []
import_line (Some number) = codes "import " ++ (decimal number ++ codes "\n")

abbrev pub event_text : EventMeaning → List ℕ
event_text (defined line text) = define_front line ++ quoted_line text
event_text (undefined line text) = undef_front line ++ quoted_line text
event_text (begun line file) = start_line line file
event_text ended = end_line
event_text (brought number) = import_line number

abbrev pub events_text : List EventMeaning → List ℕ
events_text [] = []
events_text (e ∷ es) = event_text e ++ events_text es

-- the first line of the unit of a number: with its line table, where it names one
unfoldable pub macros_front : ℕ → ℕ → List ℕ
macros_front number version = codes "macros " ++ (decimal number ++ (codes " version " ++ decimal version))

unfoldable pub table_said : Option ℕ → List ℕ
table_said None = []
table_said (Some number) = codes " lines " ++ decimal number

abbrev pub macros_line : ℕ → ℕ → Option ℕ → List ℕ
macros_line number version line = macros_front number version ++ (table_said line ++ codes "\n")

abbrev pub macro_text : ℕ → MacroMeaning → List ℕ
macro_text number m = macros_line number m.version m.line ++ events_text m.events

-- units, numbered on
abbrev pub macros_text : ℕ → List MacroMeaning → List ℕ
macros_text number [] = []
macros_text number (m ∷ ms) = macro_text number m ++ macros_text (number + 1) ms
