use Rattle.std.proofs.Common.{take, []}
use Rattle.dw_base.specs.Slots.{slots_of}
use Rattle.dw_offsets.specs.PathSlots.{SlotsTaken}
use Rattle.dw_offsets.proofs.slot_fields.all_fields.Given as goal

-- the slots of the contributions so far were taken
abbrev pub invariant-loop-contribution : goal.invariant-loop-contribution
invariant-loop-contribution l = SlotsTaken l.table l.marks (slots_of (take l.contribution-index l.list)) [] l.fields.items
