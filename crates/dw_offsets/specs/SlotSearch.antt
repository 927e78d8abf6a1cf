-- How a list of contributions is searched for a base: its bases rise, and a base stands at a number or in a gap.
use Rattle.std.specs.Prelude.{◌≡◌, ℕ, ◌+◌, ◌*◌, ◌<◌, ◌≤◌, nat_le, nat_lt, List, length, slice_index_or}
use Rattle.dw_base.specs.Forms.{width_size}
use Rattle.dw_base.specs.declared.shared.Width.{Width}
use Rattle.dw_base.specs.declared.shared.Width.TheVariants.{W32}
use Rattle.dw_base.specs.declared.string_offsets.Contribution.{Contribution}

-- the base of the contribution of a number
abbrev pub base_at : List Contribution → ℕ → ℕ
base_at list i = let c = slice_index_or list i (record { start = 0; base = 0; end = 0; width = W32 }) in c.base

-- the bases rise, so no base comes twice
pub record BasesRise (list : List Contribution) : Type 0 where
  pub rise : (i j : ℕ) → i < j → j < length list → base_at list i < base_at list j

-- the contribution of a number has the base
pub record HasBase (list : List Contribution) (base i : ℕ) : Type 0 where
  pub inside : i < length list
  pub base_is : base_at list i ≡ base

-- no contribution has the base: those before a number have smaller ones, and the others greater ones
pub record IsBaseGap (list : List Contribution) (base i : ℕ) : Type 0 where
  pub inside : i ≤ length list
  pub before : (k : ℕ) → k < i → base_at list k < base
  pub behind : (k : ℕ) → i ≤ k → k < length list → base < base_at list k

-- so many offsets have room in so many bytes
pub record IsSlotCount (width : Width) (size count : ℕ) : Type 0 where
  pub fit : (i : ℕ) → nat_le ((i + 1) * width_size width) size ≡ nat_lt i count
