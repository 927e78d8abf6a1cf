-- What an edit makes of all texts of a line table that offsets name or that stand in it, its paths and those beside them, as cells and as stretches
-- (DWARF 5, 6.2.4; gABI ch. 4 "Relocation"): a path is mapped or follows its text, and another text that an offset names follows its text alone.
use Rattle.std.specs.Prelude.{ℕ, ◌+◌, ◌-◌, ◌==◌, if◌then◌else◌, List, [], ◌∷◌, ◌++◌, length, Option}
use Rattle.dw_base.specs.Cells.{Cell, plain_cells}
use Rattle.dw_base.specs.Forms.{width_size}
use Rattle.dw_base.specs.LineReadings.{LineReading, table_read}
use Rattle.dw_base.specs.LineSources.{LineSource}
use Rattle.dw_base.specs.LineTables.{LineTable}
use Rattle.dw_base.specs.Numbers.{number_bytes}
use Rattle.dw_base.specs.Paths.{PathMap}
use Rattle.dw_base.specs.TextLineChanges.{on_paths}
use Rattle.dw_base.specs.WrittenLines.{behind_lengths, header_length_place, length_bytes, length_size}
use Rattle.dw_base.specs.declared.line_tables.LineText.{LineText}
use Rattle.dw_base.specs.declared.line_tables.TextPlace.{TextPlace}
use Rattle.dw_base.specs.declared.shared.Width.{Width}
use Rattle.dw_meaning.specs.LineCells.{CellChange, changed_cells, offset_cells, path_cells, rest_cells}
use Rattle.dw_meaning.specs.LineStretches.{PlacedStretch, Stretch, kept_stretch, offset_stretches, other_stretch, path_stretches, stretches_between}

-- the cells of a text that isn't a path, by its new place
abbrev pub further_cells : LineSource → Width → TextPlace → Option ℕ → List CellChange
further_cells g width x place = if x.section == g.number then [] else offset_cells g.order width g.cells x.field place

-- those of a text, and of all
abbrev pub text_cells : LineSource → PathMap → (LineText → Option ℕ) → Width → LineText → List CellChange
text_cells g m places width x = if x.path then path_cells g m (on_paths places) width x.place else further_cells g width x.place (places x)

abbrev pub texts_cells : LineSource → PathMap → (LineText → Option ℕ) → Width → List LineText → List CellChange
texts_cells g m places width [] = []
texts_cells g m places width (x ∷ xs) = text_cells g m places width x ++ texts_cells g m places width xs

-- the stretches of one that isn't a path, of a text, and of all
abbrev pub further_stretches : LineSource → Width → TextPlace → Option ℕ → List PlacedStretch
further_stretches g width x place = if x.section == g.number then [] else offset_stretches width x.field place

abbrev pub text_stretches : LineSource → PathMap → (LineText → Option ℕ) → Width → LineText → List PlacedStretch
text_stretches g m places width x =
    if x.path then path_stretches g m (on_paths places) width x.place else further_stretches g width x.place (places x)

abbrev pub texts_stretches : LineSource → PathMap → (LineText → Option ℕ) → Width → List LineText → List PlacedStretch
texts_stretches g m places width [] = []
texts_stretches g m places width (x ∷ xs) = text_stretches g m places width x ++ texts_stretches g m places width xs

-- the new header by all texts, from behind its length up to the program: its cells, its stretches
unfoldable pub cells_by_texts : LineSource → PathMap → (LineText → Option ℕ) → LineTable → List Cell
cells_by_texts g m places t =
    changed_cells g.cells (behind_lengths t.start t.width t.version) t.program (texts_cells g m places t.width t.texts)

abbrev pub stretches_by_texts : LineSource → PathMap → (LineText → Option ℕ) → LineTable → List Stretch
stretches_by_texts g m places t =
    stretches_between (behind_lengths t.start t.width t.version) t.program (texts_stretches g m places t.width t.texts)

-- the new table: its cells, its stretches
unfoldable pub table_cells_by_texts : LineSource → PathMap → (LineText → Option ℕ) → LineTable → List Cell
table_cells_by_texts g m places t =
    plain_cells (length_bytes g.order t.width (length (rest_cells g t (cells_by_texts g m places t)))) ++ rest_cells g t (cells_by_texts g m places t)

unfoldable pub table_stretches_by_texts : LineSource → PathMap → (LineText → Option ℕ) → LineTable → List Stretch
table_stretches_by_texts g m places t =
    other_stretch (length_size t.width) (length_bytes g.order t.width (length (rest_cells g t (cells_by_texts g m places t))))
    ∷ kept_stretch (header_length_place t.start t.width t.version - (t.start + length_size t.width))
    ∷ other_stretch (width_size t.width) (number_bytes g.order (width_size t.width) (length (cells_by_texts g m places t)))
    ∷ (stretches_by_texts g m places t ++ kept_stretch (t.end - t.program) ∷ [])

-- the new tables, one behind another
abbrev pub all_cells_by_texts : LineSource → PathMap → (LineText → Option ℕ) → List LineReading → List Cell
all_cells_by_texts g m places [] = []
all_cells_by_texts g m places (r ∷ rs) = table_cells_by_texts g m places (table_read g r) ++ all_cells_by_texts g m places rs

abbrev pub all_stretches_by_texts : LineSource → PathMap → (LineText → Option ℕ) → List LineReading → List Stretch
all_stretches_by_texts g m places [] = []
all_stretches_by_texts g m places (r ∷ rs) = table_stretches_by_texts g m places (table_read g r) ++ all_stretches_by_texts g m places rs
