-- The line table that an edit makes of one, stretch by stretch (DWARF 5, 6.2.4; gABI ch. 4 "Relocation"): cells that stay as they are, cells in
-- whose place others without relocations come, and fields that get another offset. So it is said where each byte of the old table comes to stand,
-- and which of its fields say other offsets.
use Rattle.std.specs.Prelude.{ℕ, ◌+◌, ◌-◌, ◌==◌, if◌then◌else◌, List, [], ◌∷◌, ◌++◌, Option, Some, None}
use Rattle.dw_base.specs.Cells.{Cell, bytes_of, cells_at, plain_cells}
use Rattle.dw_base.specs.Forms.{width_size}
use Rattle.dw_base.specs.LineSources.{LineSource}
use Rattle.dw_base.specs.NewOffsets.{with_offset}
use Rattle.dw_base.specs.Paths.{PathMap, mapped_path}
use Rattle.dw_base.specs.declared.line_tables.TextPlace.{TextPlace}
use Rattle.dw_base.specs.declared.shared.Order.{Order}
use Rattle.dw_base.specs.declared.shared.Width.{Width}

-- so many cells stay; go, and these bytes come; or are a field that gets an offset
pub data Stretch : Type 0 where
  kept_stretch : ℕ → Stretch
  other_stretch : ℕ → List ℕ → Stretch
  offset_stretch : ℕ → ℕ → Stretch

-- how many cells of the old contents it is
abbrev pub stretch_size : Stretch → ℕ
stretch_size (kept_stretch n) = n
stretch_size (other_stretch n bytes) = n
stretch_size (offset_stretch n offset) = n

-- the new cells of one that begins at a place
abbrev pub stretch_after : Order → List Cell → ℕ → Stretch → List Cell
stretch_after order cells place (kept_stretch n) = cells_at cells place n
stretch_after order cells place (other_stretch n bytes) = plain_cells bytes
stretch_after order cells place (offset_stretch n offset) = with_offset order (cells_at cells place n) offset

-- the new cells of stretches one behind another from a place on, and where they end
abbrev pub stretches_after : Order → List Cell → ℕ → List Stretch → List Cell
stretches_after order cells place [] = []
stretches_after order cells place (x ∷ xs) = stretch_after order cells place x ++ stretches_after order cells (place + stretch_size x) xs

abbrev pub stretches_end : ℕ → List Stretch → ℕ
stretches_end place [] = place
stretches_end place (x ∷ xs) = stretches_end (place + stretch_size x) xs

-- a stretch at a place
pub record PlacedStretch : Type 0 where
  pub at : ℕ
  pub stretch : Stretch

-- from a place up to another, with stretches in between in the order of their places
abbrev pub stretches_between : ℕ → ℕ → List PlacedStretch → List Stretch
stretches_between from end [] = kept_stretch (end - from) ∷ []
stretches_between from end (c ∷ cs) = kept_stretch (c.at - from) ∷ c.stretch ∷ stretches_between (c.at + stretch_size c.stretch) end cs

-- a path that stands in the table is mapped
abbrev pub inline_stretch : PathMap → List Cell → TextPlace → PlacedStretch
inline_stretch m cells x = record {
  at = x.at;
  stretch = other_stretch x.len (mapped_path m (bytes_of (cells_at cells x.at x.len)));
}

-- the offset of another becomes that of its new text, where it has one
abbrev pub offset_stretches : Width → ℕ → Option ℕ → List PlacedStretch
offset_stretches width field None = []
offset_stretches width field (Some place) = record { at = field; stretch = offset_stretch (width_size width) place } ∷ []

abbrev pub path_stretches : LineSource → PathMap → (TextPlace → Option ℕ) → Width → TextPlace → List PlacedStretch
path_stretches g m places width x =
    if x.section == g.number then inline_stretch m g.cells x ∷ [] else offset_stretches width x.field (places x)

abbrev pub all_path_stretches : LineSource → PathMap → (TextPlace → Option ℕ) → Width → List TextPlace → List PlacedStretch
all_path_stretches g m places width [] = []
all_path_stretches g m places width (x ∷ xs) = path_stretches g m places width x ++ all_path_stretches g m places width xs
