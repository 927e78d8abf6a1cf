-- Whether relocations may stand in the header of a line table (DWARF 5, 6.2.4): only offsets of texts have one, and none reaches into it (this
-- project's profile).
use Rattle.std.specs.Prelude.{true, false, ◌≡◌, ℕ, ◌+◌, ◌<◌, ◌≤◌, ⊤, List, [], ◌∷◌, ◌++◌, drop, Some}
use Rattle.dw_base.specs.Cells.{Cell, Relocation}
use Rattle.dw_base.specs.Refusals.{at}
use Rattle.dw_base.specs.RelocationFields.{reach_of, relocation_at}
use Rattle.dw_base.specs.TextIndexes.{holds_number}
use Rattle.dw_base.specs.declared.fault.Kind.TheVariants.{Relocation as RelocationKind}
use Rattle.dw_base.specs.declared.fault.Refusal.{Refusal}

-- no relocation that begins in front of a place has bytes behind it; and one does
pub record IsApart (cells : List Cell) (start : ℕ) : Type 0 where
  pub apart : (p : ℕ) (r : Relocation) → relocation_at cells p ≡ Some r → p < start → p + reach_of r ≤ start

pub data Reaches (section : ℕ) (cells : List Cell) (start : ℕ) : Refusal → Type 0 where
  reaches_over : (p : ℕ) (r : Relocation) → relocation_at cells p ≡ Some r → p < start → start < p + reach_of r
      → Reaches section cells start (at RelocationKind section p)

-- those that begin between two places do so at one of these; and one doesn't
pub record AreOwn (cells : List Cell) (from to : ℕ) (places : List ℕ) : Type 0 where
  pub own : (p : ℕ) (r : Relocation) → relocation_at cells p ≡ Some r → from ≤ p → p < to → holds_number places p ≡ true

pub data IsOther (section : ℕ) (cells : List Cell) (from to : ℕ) (places : List ℕ) : Refusal → Type 0 where
  other : (p : ℕ) (r : Relocation) → relocation_at cells p ≡ Some r → from ≤ p → p < to → holds_number places p ≡ false
      → IsOther section cells from to places (at RelocationKind section p)

-- places rise from one on, and lie in front of another
abbrev pub Climb : ℕ → List ℕ → ℕ → Type 0
Climb from [] to = from ≤ to
Climb from (p ∷ ps) to = (from ≤ p) × Climb (p + 1) ps to

-- places of fields of so many bytes rise from one on, and end in front of another
abbrev pub Rises : ℕ → ℕ → List ℕ → ℕ → Type 0
Rises from n [] to = from ≤ to
Rises from n (p ∷ ps) to = (from ≤ p) × Rises (p + n) n ps to

-- all lie below a place
abbrev pub AllUnder : ℕ → List ℕ → Type 0
AllUnder to [] = ⊤
AllUnder to (p ∷ ps) = (p < to) × AllUnder to ps

-- a part of the places has been passed, up to one
pub record OwnSo (cells : List Cell) (start to : ℕ) (places : List ℕ) (i from : ℕ) : Type 0 where
  pub front : List ℕ
  pub split : places ≡ front ++ drop i places
  pub under : AllUnder from front
  pub climb : Climb from (drop i places) to
  pub above : start ≤ from
  pub own : AreOwn cells start from front
