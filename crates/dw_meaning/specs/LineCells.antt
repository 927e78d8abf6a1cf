-- The line table that an edit makes of one, as cells (DWARF 5, 6.2.4; gABI ch. 4 "Relocation"): what is copied keeps the relocations that begin
-- in it, an offset of a text becomes another by its bytes or by its relocation, and lengths and paths that stand in the table have none.
use Rattle.std.specs.Prelude.{ℕ, ◌+◌, ◌==◌, if◌then◌else◌, List, [], ◌∷◌, ◌++◌, length, Option, Some, None}
use Rattle.dw_base.specs.Cells.{Cell, bytes_of, cells_at, plain_cells}
use Rattle.dw_base.specs.Forms.{width_size}
use Rattle.dw_base.specs.LineSources.{LineSource}
use Rattle.dw_base.specs.LineTables.{LineTable}
use Rattle.dw_base.specs.Numbers.{number_bytes}
use Rattle.dw_base.specs.Paths.{PathMap, mapped_path}
use Rattle.dw_base.specs.NewOffsets.{with_offset}
use Rattle.dw_base.specs.WrittenLines.{cells_part, header_length_place, length_size}
use Rattle.dw_base.specs.declared.line_tables.TextPlace.{TextPlace}
use Rattle.dw_base.specs.declared.shared.Order.{Order}
use Rattle.dw_base.specs.declared.shared.Width.{Width}

-- so many cells at a place become others
pub record CellChange : Type 0 where
  pub at : ℕ
  pub old : ℕ
  pub new : List Cell

-- the cells from a place up to another, with changes in them in the order of their places
abbrev pub changed_cells : List Cell → ℕ → ℕ → List CellChange → List Cell
changed_cells cells from end [] = cells_part cells from end
changed_cells cells from end (c ∷ cs) = cells_part cells from c.at ++ (c.new ++ changed_cells cells (c.at + c.old) end cs)

-- a path that stands in the table is mapped
abbrev pub inline_cells : PathMap → List Cell → TextPlace → CellChange
inline_cells m cells x = record {
  at = x.at;
  old = length (cells_at cells x.at x.len);
  new = plain_cells (mapped_path m (bytes_of (cells_at cells x.at x.len)));
}

-- the offset of another becomes that of its new text, where it has one
abbrev pub offset_cells : Order → Width → List Cell → ℕ → Option ℕ → List CellChange
offset_cells order width cells field None = []
offset_cells order width cells field (Some place) =
    record {
      at = field;
      old = length (cells_at cells field (width_size width));
      new = with_offset order (cells_at cells field (width_size width)) place;
    }
    ∷ []

-- what becomes of a path: it stands in the table where it is in the section of line tables
abbrev pub path_cells : LineSource → PathMap → (TextPlace → Option ℕ) → Width → TextPlace → List CellChange
path_cells g m places width x =
    if x.section == g.number then inline_cells m g.cells x ∷ [] else offset_cells g.order width g.cells x.field (places x)

abbrev pub all_path_cells : LineSource → PathMap → (TextPlace → Option ℕ) → Width → List TextPlace → List CellChange
all_path_cells g m places width [] = []
all_path_cells g m places width (x ∷ xs) = path_cells g m places width x ++ all_path_cells g m places width xs

-- what stands in the new table behind its length, of a new header
abbrev pub rest_cells : LineSource → LineTable → List Cell → List Cell
rest_cells g t header =
    cells_part g.cells (t.start + length_size t.width) (header_length_place t.start t.width t.version)
    ++ (plain_cells (number_bytes g.order (width_size t.width) (length header)) ++ header) ++ cells_part g.cells t.program t.end
