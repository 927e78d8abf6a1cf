-- What becomes of the sections that hold relocations of sections that an edit changes (gABI ch. 4 "Relocation"): each record moves with the
-- byte at which its relocation begins, and has the addend that it has in the new contents.
use Rattle.std.specs.Prelude.{ℕ, ◌==◌, if◌then◌else◌, List, [], ◌∷◌, ◌++◌}
use Rattle.dw_base.specs.Cells.{Cell}
use Rattle.dw_base.specs.DebugData.{Around, DataReadings, DebugData, around_of, line_source}
use Rattle.dw_base.specs.Elf.{contents_of, nth_section}
use Rattle.dw_base.specs.TextLineChanges.{text_place}
use Rattle.dw_base.specs.MacroReadings.{MacroReading}
use Rattle.dw_base.specs.Paths.{PathMap}
use Rattle.dw_base.specs.Pieces.{joined}
use Rattle.dw_base.specs.Readings.{Readings}
use Rattle.dw_base.specs.RelocationBodies.{relocation_body}
use Rattle.dw_base.specs.SectionRelocations.{relocation_source, section_cells}
use Rattle.dw_base.specs.TextChanges.{TableChanges, edited_all}
use Rattle.dw_base.specs.declared.debug_sections.DebugSection.TheVariants.{Str, LineStr, StrOffsets, Line, Names}
use Rattle.dw_meaning.specs.DataOutput.{changes_of, macros_after, names_after, offsets_after}
use Rattle.dw_meaning.specs.TextLineCells.{all_cells_by_texts}

-- a section and its new contents
pub record CellBody : Type 0 where
  pub number : ℕ
  pub cells : List Cell

abbrev pub cell_body : ℕ → List Cell → CellBody
cell_body number cells = record { number = number; cells = cells }

abbrev pub unit_cells : TableChanges → Around → Readings → List CellBody
unit_cells changes around [] = []
unit_cells changes around (r ∷ rs) = cell_body r.number (joined (edited_all changes around r.pieces)) ∷ unit_cells changes around rs

abbrev pub macro_cells : List MacroReading → List CellBody
macro_cells [] = []
macro_cells (r ∷ rs) = cell_body r.number (joined r.pieces) ∷ macro_cells rs

-- the sections in which relocations may begin, with their new contents: string offsets, line tables, name tables, macro units and units. Those
-- of abbreviations stay, and tables of texts have none.
abbrev pub cells_by : TableChanges → DebugData → Around → DataReadings → List CellBody
cells_by changes d around r =
    cell_body (d.found StrOffsets).number (joined (offsets_after changes around r))
    ∷ cell_body (d.found Line).number (all_cells_by_texts (line_source d) changes.map
    (text_place changes.map (changes.new Str) (changes.new LineStr) (line_source d)) r.lines)
    ∷ cell_body (d.found Names).number (joined (names_after changes around r))
    ∷ (macro_cells (macros_after changes around r) ++ unit_cells changes around r.units)

unfoldable pub new_cells : PathMap → DebugData → DataReadings → List CellBody
new_cells m d r = cells_by (changes_of m (around_of d r) r) d (around_of d r) r

-- the new contents of the section of a number, or those that it has
abbrev pub cells_of_number : List CellBody → List Cell → ℕ → List Cell
cells_of_number [] old i = old
cells_of_number (x ∷ xs) old i = if x.number == i then x.cells else cells_of_number xs old i

-- the contents of the section of a number in a file, and what becomes of them
abbrev pub old_contents : List ℕ → ℕ → List Cell
old_contents b i = section_cells (contents_of b) b i

abbrev pub new_contents : List ℕ → List CellBody → ℕ → List Cell
new_contents b bodies i = cells_of_number bodies (old_contents b i) i

-- the new bytes of a section that holds relocations of another
unfoldable pub relocated_body : List ℕ → List CellBody → ℕ → List ℕ
relocated_body b bodies k =
    relocation_body (relocation_source (contents_of b) b k) (old_contents b (nth_section b k).info) (new_contents b bodies (nth_section b k).info)
