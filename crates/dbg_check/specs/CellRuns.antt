-- Runs of cells of two sections that are the same: their bytes are, and the same relocations begin in them (gABI ch. 4 "Relocation").
use Rattle.std.specs.Prelude.{true, ◌≡◌, ℕ, ◌+◌, ◌<◌, ◌≤◌, List, is_some, None}
use Rattle.dw_base.specs.Cells.{Cell, cells_at}
use Rattle.dw_base.specs.FileViews.{View, view_cells}
use Rattle.dw_base.specs.RelocationFields.{relocation_at}
use Rattle.dbg_check.specs.declared.cells.CellPlace.{CellPlace}

-- so many cells of two lists from two places on
abbrev pub CellsAgree : List Cell → List Cell → ℕ → ℕ → ℕ → Type 0
CellsAgree xs ys from at n = cells_at xs from n ≡ cells_at ys at n

-- those of a section of one view, and of one of another
abbrev pub RunsAgree : View → View → CellPlace → CellPlace → ℕ → Type 0
RunsAgree v w x y n = CellsAgree (view_cells v x.section) (view_cells w y.section) x.at y.at n

-- behind two places the same relocations begin, from a number up to another
pub record RelocationsAgree (xs ys : List Cell) (from at k n : ℕ) : Type 0 where
  pub all : (p : ℕ) → k ≤ p → p < n → relocation_at xs (from + p) ≡ relocation_at ys (at + p)

-- behind a place none begins from a number up to another
pub record NoneBegins (xs : List Cell) (from k n : ℕ) : Type 0 where
  pub none : (p : ℕ) → k ≤ p → p < n → relocation_at xs (from + p) ≡ None

-- one begins at this number, and none before it from another on
pub record NextBegins (xs : List Cell) (from k n q : ℕ) : Type 0 where
  pub behind : k ≤ q
  pub within : q < n
  pub begins : is_some (relocation_at xs (from + q)) ≡ true
  pub first : NoneBegins xs from k q
