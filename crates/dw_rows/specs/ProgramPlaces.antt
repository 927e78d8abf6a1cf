-- Where the rest of a line program stands in its section, and its operations of addresses (DWARF 5, 6.2.5.3).
use Rattle.std.specs.Prelude.{ℕ, ◌≡◌, ◌+◌, ◌-◌, ◌<◌, ◌≤◌, ◌^◌, if◌then◌else◌, List, length, take, drop, Option, Some, None}
use Rattle.dw_base.specs.Cells.{Cell, bytes_of, cells_at}
use Rattle.dw_base.specs.FileViews.{View, section_bytes, view_cells}
use Rattle.dw_base.specs.UnitHeaders.{is_address_size}
use Rattle.dw_base.specs.ValueMeanings.{address_of}
use Rattle.dw_base.specs.declared.shared.Order.{Order}
use Rattle.dw_base.specs.declared.line_rows.Operation.{Operation}
use Rattle.dw_base.specs.declared.line_rows.Operation.TheVariants.{SetAddress}

-- these bytes stand at a place of the section of a number
pub record StandsIn (v : View) (section place : ℕ) (left : List ℕ) : Type 0 where
  pub there : section < length v.sections
  pub within : place + length left ≤ length (section_bytes v section)
  pub small : place + length left ≤ 2 ^ 31
  pub is : left ≡ take (length left) (drop place (section_bytes v section))

-- the same as cells
abbrev pub cells_left : View → ℕ → ℕ → List ℕ → List Cell
cells_left v section place left = cells_at (view_cells v section) place (length left)

-- the operation that sets the address to the one from a place of cells up to their end; none where that has another size than an address
abbrev pub set_address : Order → List Cell → ℕ → Option Operation
set_address order cells place =
    if is_address_size (length (bytes_of cells) - place) then Some (SetAddress (address_of order (drop place cells))) else None
