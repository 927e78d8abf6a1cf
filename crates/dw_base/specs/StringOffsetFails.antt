-- Why the contributions of string offsets can't be read: the refusal of kind StringTable, at the contribution (DWARF 5,
-- 7.26). The contributions before it can be read.
use Rattle.std.specs.Prelude.{◌≡◌, ◌≢◌, ℕ, ◌+◌, ◌-◌, ◌%◌, ◌<◌, ◌≤◌, List, length, Some, None}
use Rattle.dw_base.specs.Cells.{Located}
use Rattle.dw_base.specs.Forms.{width_size}
use Rattle.dw_base.specs.Lebs.{initial_length_at}
use Rattle.dw_base.specs.Numbers.{spelled}
use Rattle.dw_base.specs.Refusals.{at}
use Rattle.dw_base.specs.declared.fault.Kind.TheVariants.{StringTable}
use Rattle.dw_base.specs.declared.fault.Refusal.{Refusal}
use Rattle.dw_base.specs.declared.shared.Order.{Order}
use Rattle.dw_base.specs.declared.shared.Width.{Width}
use Rattle.dw_base.specs.StringOffsets.{ContributionsUpTo}
use Rattle.dw_base.specs.declared.string_offsets.Contribution.{Contribution}

-- what is wrong with the contribution at a place: no length can be read there, its end passes the section's, it has no room
-- for version and padding, its version isn't 5, or its last slot is cut
pub data ContributionFails (order : Order) (bytes : List ℕ) (section start : ℕ) : Refusal → Type 0 where
  no_length : initial_length_at order bytes start ≡ None → ContributionFails order bytes section start (at StringTable section start)
  passes : (l : Width × ℕ × ℕ) → initial_length_at order bytes start ≡ Some l → length bytes < start + l.2 + l.1
      → ContributionFails order bytes section start (at StringTable section start)
  no_version : (l : Width × ℕ × ℕ) → initial_length_at order bytes start ≡ Some l → l.1 < 4
      → ContributionFails order bytes section start (at StringTable section start)
  other_version : (l : Width × ℕ × ℕ) → initial_length_at order bytes start ≡ Some l → start + l.2 + 2 ≤ length bytes
      → spelled order bytes (start + l.2) 2 ≢ 5 → ContributionFails order bytes section start (at StringTable section start)
  cut_slot : (l : Width × ℕ × ℕ) → initial_length_at order bytes start ≡ Some l → 4 ≤ l.1 → (l.1 - 4) % width_size l.0 ≢ 0
      → ContributionFails order bytes section start (at StringTable section start)

-- some contribution of the bytes of a section can't be read
pub data SectionFails (order : Order) (bytes : List ℕ) (section : ℕ) : Refusal → Type 0 where
  contribution : (list : List Contribution) (start : ℕ) {r : Refusal} → ContributionsUpTo order bytes list start
      → start < length bytes → ContributionFails order bytes section start r → SectionFails order bytes section r

-- some contribution of a section can't be read
abbrev pub ContributionsFail : Order → Located → Refusal → Type 0
ContributionsFail order z r = SectionFails order z.bytes z.number r
