-- What a field reads as where relocations begin in its section (gABI ch. 4 "Relocation"): a relocation that begins at it counts, and
-- one that lies on it only in part refuses it.
use Rattle.std.specs.Prelude.{Bool, false, ◌≡◌, ◌≢◌, ℕ, ◌+◌, ◌<◌, ◌==◌, ◌&&◌, not, nat_lt, List, drop, Option, Some, None, unwrap_or, Result, Ok, Err}
use Rattle.dw_base.specs.Cells.{Cell, Relocation, first_relocation, cells_at, field_of}
use Rattle.dw_base.specs.Notes.{first_below}
use Rattle.dw_base.specs.Refusals.{at}
use Rattle.dw_base.specs.declared.fault.Kind.TheVariants.{Relocation as RelocationKind}
use Rattle.dw_base.specs.declared.fault.Refusal.{Refusal}
use Rattle.dw_base.specs.declared.shared.Order.{Order}
use Rattle.dw_base.specs.declared.view_fields.Field.{Field}

-- the relocation that begins at a place
abbrev pub relocation_at : List Cell → ℕ → Option Relocation
relocation_at cells place = first_relocation (drop place cells)

-- how many bytes a relocation changes: those of the field of an absolute type; of another type the first is known
abbrev pub reach_of : Relocation → ℕ
reach_of r = unwrap_or r.size 1

-- the relocation at a place `p` has bytes of the field of n bytes at another place
abbrev pub meets_partly : ℕ → ℕ → ℕ → Option Relocation → Bool
meets_partly place n p None = false
meets_partly place n p (Some r) = nat_lt p (place + n) && nat_lt place (p + reach_of r) && not (p == place)

-- the same, as what a refusal says
pub record LiesPartly (cells : List Cell) (place n p : ℕ) : Type 0 where
  pub relocation : Relocation
  pub begins : relocation_at cells p ≡ Some relocation
  pub before : p < place + n
  pub behind : place < p + reach_of relocation
  pub other : p ≢ place

-- the first relocation that lies on the field of n bytes at a place only in part
unfoldable pub partly_at : List Cell → ℕ → ℕ → Option ℕ
partly_at cells place n = first_below (λ p. meets_partly place n p (relocation_at cells p)) (place + n)

-- a field is refused at such a relocation
abbrev pub field_unless : Option ℕ → ℕ → Field → Result Field Refusal
field_unless None section f = Ok f
field_unless (Some p) section f = Err (at RelocationKind section p)

-- what the field of n bytes at a place of a section of a number reads as
unfoldable pub field_in : Order → ℕ → List Cell → ℕ → ℕ → Result Field Refusal
field_in order section cells place n = field_unless (partly_at cells place n) section (field_of order (cells_at cells place n))
