-- The contributions of string offsets, and their slots (DWARF 5, 7.26): a length, the version 5, two bytes of padding, and
-- offsets of texts up to the end. What a unit names as its base is the place of the first offset.
use Rattle.std.specs.Prelude.{Bool, ◌≡◌, ℕ, ◌+◌, ◌-◌, ◌*◌, ◌%◌, ◌≤◌, ◌==◌, nat_le, if◌then◌else◌, List, [], ◌∷◌, ◌++◌, length, Option, Some, None}
use Rattle.dw_base.specs.Cells.{Located}
use Rattle.dw_base.specs.Forms.{width_size}
use Rattle.dw_base.specs.Lebs.{initial_length_at}
use Rattle.dw_base.specs.Numbers.{spelled}
use Rattle.dw_base.specs.declared.shared.Order.{Order}
use Rattle.dw_base.specs.declared.shared.Width.{Width}
use Rattle.dw_base.specs.declared.string_offsets.Contribution.{Contribution}

-- the contribution at a place, by its length: width, length, and the size of the length's field
abbrev pub contribution_from : ℕ → Width × ℕ × ℕ → Contribution
contribution_from start l = record { start = start; base = start + l.2 + 4; end = start + l.2 + l.1; width = l.0 }

-- a contribution that can be read starts at a place: it lies in the section, its version is 5, and whole offsets fill it
pub record IsContribution (order : Order) (bytes : List ℕ) (start : ℕ) (c : Contribution) : Type 0 where
  pub lengths : Width × ℕ × ℕ
  pub length_is : initial_length_at order bytes start ≡ Some lengths
  pub is : c ≡ contribution_from start lengths
  pub within : c.end ≤ length bytes
  pub header : c.base ≤ c.end
  pub version : spelled order bytes (start + lengths.2) 2 ≡ 5
  pub whole : (c.end - c.base) % width_size c.width ≡ 0

-- contributions stand one after another from the section's start up to a place
pub data ContributionsUpTo (order : Order) (bytes : List ℕ) : List Contribution → ℕ → Type 0 where
  no_contributions : ContributionsUpTo order bytes [] 0
  more_contributions : (list : List Contribution) (c : Contribution) (start : ℕ) → ContributionsUpTo order bytes list start
      → IsContribution order bytes start c → ContributionsUpTo order bytes (list ++ c ∷ []) c.end

-- the contributions of a section: they fill it
abbrev pub AreContributions : Order → Located → List Contribution → Type 0
AreContributions order z list = ContributionsUpTo order z.bytes list (length z.bytes)

-- a contribution has a slot of an index: it ends where the slot does, or behind it
abbrev pub has_slot : Contribution → ℕ → Bool
has_slot c index = nat_le (c.base + (index + 1) * width_size c.width) c.end

-- the place of a slot of a contribution, where it has the slot
unfoldable pub slot_in : Contribution → ℕ → Option ℕ
slot_in c index = if has_slot c index then Some (c.base + index * width_size c.width) else None

-- the place of a slot of the contribution whose slots begin at a base, the first of those that have it
abbrev pub slot_place : List Contribution → ℕ → ℕ → Option ℕ
slot_place [] base index = None
slot_place (c ∷ cs) base index = if c.base == base then slot_in c index else slot_place cs base index
