-- The new bytes of the sections that an edit changes, from what the units of debug data say of paths, and of those that hold relocations of them;
-- and why there are none.
use Rattle.std.specs.Prelude.{◌≡◌, ◌≢◌, ℕ, ◌<◌, List, [], ◌∷◌, ◌++◌, length, Option, Some, None}
use Rattle.dw_meaning.specs.DataOutput.{Body, DataReads, DataFits, PathsFit, changes_of, new_bodies, new_lines, table_change}
use Rattle.dw_base.specs.DebugData.{DebugData, DataReadings, around_of, line_source, table_of}
use Rattle.dw_base.specs.DebugSections.{name_of}
use Rattle.dw_base.specs.FileViews.{View, section_named, view_of}
use Rattle.dw_base.specs.Layout.{output_limit}
use Rattle.dw_base.specs.TextLineChanges.{text_place}
use Rattle.dw_base.specs.LineReadings.{LineReading, all_lines, table_read}
use Rattle.dw_base.specs.TextWriteFails.{TextWriteFails}
use Rattle.dw_base.specs.Paths.{PathMap}
use Rattle.dw_base.specs.Refusals.{at}
use Rattle.dw_base.specs.SectionRelocations.{relocation_section}
use Rattle.dw_base.specs.Texts.{laid_texts}
use Rattle.dw_base.specs.declared.debug_sections.DebugSection.TheVariants.{Str, LineStr, Line}
use Rattle.dw_base.specs.declared.fault.Kind.TheVariants.{TooLarge}
use Rattle.dw_base.specs.declared.fault.Refusal.{Refusal}
use Rattle.dw_base.specs.declared.texts.TextSection.{TextSection}
use Rattle.dw_meaning.specs.FileMeanings.{file_data}
use Rattle.dw_meaning.specs.NewAddends.{AddendsFail}
use Rattle.dw_meaning.specs.RelocatedBodies.{CellBody, new_cells, relocated_body}
use Rattle.dw_meaning.specs.RelocationFails.{RelocationsRead}
use Rattle.dw_read.specs.MacroFields.{macros_read}
use Rattle.dw_read.specs.NameSections.{names_read}
use Rattle.dw_read.specs.SlotPaths.{slots_read}
use Rattle.dw_unit_fields.specs.SectionFields.{SectionFields, paths_of}

-- the section that holds relocations of another, if there is one, as it is where these are the new contents
abbrev pub held_body : List ℕ → List CellBody → Option ℕ → List Body
held_body b cells None = []
held_body b cells (Some k) = record { number = k; bytes = relocated_body b cells k } ∷ []

-- those that hold relocations of the sections of these numbers
abbrev pub held_bodies : List ℕ → List CellBody → List ℕ → List Body
held_bodies b cells [] = []
held_bodies b cells (i ∷ is) = held_body b cells (relocation_section b i) ++ held_bodies b cells is

-- the numbers of sections that say something of paths, and of that of line tables, if there is one
abbrev pub numbers_in : List SectionFields → List ℕ
numbers_in [] = []
numbers_in (u ∷ us) = u.number ∷ numbers_in us

abbrev pub lines_numbers : Option ℕ → List ℕ
lines_numbers None = []
lines_numbers (Some i) = i ∷ []

-- the sections of which relocations are written anew: units, string offsets, macro units, name tables, line tables. Those of the others stay.
abbrev pub moved_numbers : View → DataReadings → List ℕ
moved_numbers v r =
    numbers_in (((paths_of r.units ++ slots_read v r) ++ macros_read r.macros) ++ names_read v r) ++ lines_numbers (section_named v (name_of Line))

-- the sections of a file with new bytes: the two tables of texts, string offsets, line tables and name tables, of which one that isn't there has
-- number 0 and no bytes, the sections of macro units, the unit sections, and behind them those that hold relocations of these
pub record FileBodiesMade (m : PathMap) (b : List ℕ) (bodies : List Body) : Type 0 where
  pub readings : DataReadings
  pub reads : DataReads (file_data b) readings
  pub relocations : RelocationsRead b
  pub fits : DataFits m (file_data b) readings
  pub is : bodies ≡ new_bodies m (file_data b) readings ++ held_bodies b (new_cells m (file_data b) readings) (moved_numbers (view_of b) readings)

-- the new bytes of a table of texts
abbrev pub long_table : PathMap → DebugData → DataReadings → TextSection → List ℕ
long_table m d r table = laid_texts (table_change m table (around_of d r) r)

-- why there are no new bytes: a table of texts or the line tables, of a section that is there, would be too long, a line table can't be
-- written, or the addend of a relocation doesn't make the new offset of its field
pub data BodiesRefuse (m : PathMap) (d : DebugData) : Refusal → Type 0 where
  long_table_of : (table : TextSection) (r : DataReadings) → DataReads d r → PathsFit m d r → (table_of (around_of d r) table).number ≢ 0
      → output_limit < length (long_table m d r table) → BodiesRefuse m d (at TooLarge (table_of (around_of d r) table).number 0)
  long_lines_of : (r : DataReadings) → DataReads d r → PathsFit m d r → (d.found Line).number ≢ 0
      → output_limit < length (all_lines (new_lines m (around_of d r) r)) → BodiesRefuse m d (at TooLarge (d.found Line).number 0)
  line_table_of : (r : DataReadings) (before behind : List LineReading) (t : LineReading) {x : Refusal} → DataReads d r → r.lines ≡ before ++ t ∷ behind
      → TextWriteFails (line_source d) m (text_place m ((changes_of m (around_of d r) r).new Str) ((changes_of m (around_of d r) r).new LineStr) (line_source d)) (table_read (line_source d) t) x
      → BodiesRefuse m d x
  addend_of : (r : DataReadings) {x : Refusal} → DataReads d r → PathsFit m d r → AddendsFail (changes_of m (around_of d r) r) d (around_of d r) r x → BodiesRefuse m d x
