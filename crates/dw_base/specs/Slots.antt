-- The slots of contributions (DWARF 5, 7.26): all of a section have one numbering, in the order of their places. A text by index
-- is said by the number of its slot, so that neither places nor bases are in what it means.
use Rattle.std.specs.Prelude.{ℕ, ◌+◌, ◌-◌, ◌*◌, ◌/◌, ◌==◌, if◌then◌else◌, List, [], ◌∷◌, ◌++◌, Option, Some, None}
use Rattle.dw_base.specs.Forms.{width_size}
use Rattle.dw_base.specs.Lists.{tabulate}
use Rattle.dw_base.specs.StringOffsets.{has_slot}
use Rattle.dw_base.specs.declared.string_offsets.Contribution.{Contribution}

-- a slot: where its field is, and how many bytes that has
pub record Slot : Type 0 where
  pub place : ℕ
  pub size : ℕ

-- how many slots a contribution has
abbrev pub slot_total : Contribution → ℕ
slot_total c = (c.end - c.base) / width_size c.width

abbrev pub slot_at : Contribution → ℕ → Slot
slot_at c i = record { place = c.base + i * width_size c.width; size = width_size c.width }

-- the slots of contributions, in order
abbrev pub slots_of : List Contribution → List Slot
slots_of [] = []
slots_of (c ∷ cs) = tabulate (slot_at c) (slot_total c) ++ slots_of cs

-- the number of the slot of an index, where the contributions' first slot has the number `first`: that of the contribution
-- whose slots begin at the base. None where no contribution has the base, or the one that has it has no such slot.
abbrev pub slot_number : ℕ → List Contribution → ℕ → ℕ → Option ℕ
slot_number first [] base index = None
slot_number first (c ∷ cs) base index =
    if c.base == base then (if has_slot c index then Some (first + index) else None)
    else slot_number (first + slot_total c) cs base index
