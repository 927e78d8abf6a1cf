use Rattle.dw_base.specs.Lists.{tabulate}
use Rattle.dw_base.specs.Slots.{slot_at}
use Rattle.dw_offsets.specs.PathSlots.{SlotsTaken}
use Rattle.dw_offsets.proofs.slot_fields.push_fields.Given as goal

-- the slots so far were taken
abbrev pub invariant-loop-i : goal.invariant-loop-i
invariant-loop-i l = SlotsTaken l.table l.marks (tabulate (slot_at l.contribution) l.i) l.fn.fields.items l.fields.items
