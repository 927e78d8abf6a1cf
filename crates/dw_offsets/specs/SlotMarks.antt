-- Which slots are named: of each byte of the section of string offsets, whether a path names the slot that begins there, and
-- whether another value does.
use Rattle.std.specs.Prelude.{Bool, true, false, ◌≡◌, ℕ, ◌/◌, ◌%◌, ◌==◌, ◌&&◌, ◌||◌, List, length, slice_index_or}
use Rattle.dw_base.specs.TextIndexes.{Indexing, IndexUse}
use Rattle.dw_offsets.specs.NamedPlaces.{is_kind, names_place}

-- the lowest bit of a mark stands for paths, the next for other values
abbrev pub has_mark : Bool → ℕ → Bool
has_mark true m = m % 2 == 1
has_mark false m = m / 2 % 2 == 1

-- the slot at a place is marked as one that a path names, or that another value does
abbrev pub marked : Bool → List ℕ → ℕ → Bool
marked path marks place = has_mark path (slice_index_or marks place 0)

-- a mark stands for what another stood for, and for one thing more
pub record IsMarkWith (old new : ℕ) (path : Bool) : Type 0 where
  pub each : (kind : Bool) → has_mark kind new ≡ (has_mark kind old || is_kind kind path)

-- what was marked is marked, the slot at one place too, and no other
pub record IsMarked (old new : List ℕ) (path : Bool) (at : ℕ) : Type 0 where
  pub size : length new ≡ length old
  pub each : (kind : Bool) (place : ℕ) → marked kind new place ≡ (marked kind old place || (is_kind kind path && at == place))

-- exactly the slots that these values name are marked
pub record AreMarks (marks : List ℕ) (g : Indexing) (uses : List IndexUse) : Type 0 where
  pub each : (path : Bool) (place : ℕ) → marked path marks place ≡ names_place path g uses place
