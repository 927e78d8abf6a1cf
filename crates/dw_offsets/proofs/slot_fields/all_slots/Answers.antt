-- Without a section of string offsets there are no slots.
use Rattle.dw_offsets.proofs.PathSlotLaws.{none-taken}
use Rattle.dw_offsets.proofs.slot_fields.all_slots.Goals as goal

pub returns-in_default-clause-taken : goal.returns-in_default-clause-taken
returns-in_default-clause-taken c =
    none-taken c.args.view.now c.args.marks.now c.args.list.now c.new.result.items c.in_default.ensures.section c.requires.contributions
    c.new.ensures.items
