-- String offsets of a view stand in their section.
use Rattle.std.proofs.Common.{ℕ, List, length, Option, refl, ap, ◌∙◌}
use Rattle.dw_base.specs.Cells.{bytes_of}
use Rattle.dw_base.specs.DebugSections.{name_of}
use Rattle.dw_base.specs.FileViews.{View, section_named}
use Rattle.dw_base.specs.OffsetPieces.{OffsetState, ReadsOffsets, at_contribution, offsets_at}
use Rattle.dw_base.specs.Pieces.{Piece}
use Rattle.dw_base.specs.ViewData.{cells_located, debug_data, located_at}
use Rattle.dw_base.specs.declared.debug_sections.DebugSection.TheVariants.{StrOffsets}
use Rattle.dw_base.proofs.ViewCellLaws.{bytes-cells}
use Rattle.dw_read.proofs.SlotPlaceLaws.{SlotsIn, SlotsPlaced, slots-in, slots-placed}

pub offsets-in : (v : View) (o : Option ℕ) (xs : List (Piece OffsetState)) → ReadsOffsets v.order (cells_located v o).contents xs → SlotsIn (cells_located v o).contents 0 xs
offsets-in v o xs r = slots-in v.order (cells_located v o).contents (offsets_at (length (cells_located v o).contents) 0 0 at_contribution) 0 xs refl r.chain r.cells

pub offsets-placed : (v : View) (o : Option ℕ) (xs : List (Piece OffsetState)) → ReadsOffsets v.order (cells_located v o).contents xs → SlotsPlaced (located_at v o).bytes 0 xs
offsets-placed v o xs r =
    slots-placed v.order (located_at v o).bytes (offsets_at (length (cells_located v o).contents) 0 0 at_contribution) 0 xs refl r.chain (ap bytes_of r.cells ∙ bytes-cells v o)

pub offsets-of : (v : View) (xs : List (Piece OffsetState)) → ReadsOffsets (debug_data v).base.order ((debug_data v).found StrOffsets).contents xs
    → ReadsOffsets v.order (cells_located v (section_named v (name_of StrOffsets))).contents xs
unfolding debug_data
offsets-of v xs r = r
