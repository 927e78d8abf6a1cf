-- String offsets as cells of the view, and addresses by their cells.
use Rattle.std.proofs.Common.{◌≡◌, ℕ, ◌+◌, ◌<◌, ◌≤◌, List, [], length, drop, Option, Some, None, sym, ap, ◌∙◌, arith}
use Rattle.dw_base.specs.Cells.{Relocation, address_by, bytes_of, cells_at}
use Rattle.dw_base.specs.DebugSections.{name_of}
use Rattle.dw_base.specs.FileViews.{View, address_at, section_bytes, section_named, view_cells}
use Rattle.dw_base.specs.Numbers.{spelled}
use Rattle.dw_base.specs.RelocationFields.{relocation_at}
use Rattle.dw_base.specs.ValueMeanings.{address_of}
use Rattle.dw_base.specs.ViewData.{cells_located, debug_data}
use Rattle.dw_base.specs.declared.debug_sections.DebugSection.TheVariants.{StrOffsets}
use Rattle.dw_base.proofs.RelocationFieldLaws.{first-take, number-cells_at}
use Rattle.dw_base.proofs.ViewCellLaws.{address_at-by, bytes_of-view_cells, length-view_cells}

-- the cells of string offsets
pub offsets-there : (v : View) (i : ℕ) → section_named v (name_of StrOffsets) ≡ Some i → ((debug_data v).found StrOffsets).contents ≡ view_cells v i
unfolding debug_data
offsets-there v i e = ap (λ (o : Option ℕ). (cells_located v o).contents) e

pub offsets-none : (v : View) → section_named v (name_of StrOffsets) ≡ None → ((debug_data v).found StrOffsets).contents ≡ []
unfolding debug_data
offsets-none v e = ap (λ (o : Option ℕ). (cells_located v o).contents) e

-- an address by its cells
pub address_at-cells : (v : View) (i place n : ℕ) → 0 < n → place + n ≤ length (section_bytes v i)
    → address_of v.order (cells_at (view_cells v i) place n) ≡ address_at v i place n
unfolding address_of
address_at-cells v i place n some inside =
    let size : length (view_cells v i) ≡ length (section_bytes v i) = length-view_cells v i in
    ap (λ (o : Option Relocation). address_by o (spelled v.order (bytes_of (cells_at (view_cells v i) place n)) 0 (length (cells_at (view_cells v i) place n))))
    (first-take n (drop place (view_cells v i)) some)
    ∙ ap (address_by (relocation_at (view_cells v i) place)) (number-cells_at v.order (view_cells v i) place n (omega (arith, inside, size))
    ∙ ap (λ (bs : List ℕ). spelled v.order bs place n) (bytes_of-view_cells v i))
    ∙ sym (address_at-by v i place n)
