-- No contribution has the base.
use Rattle.dw_offsets.proofs.SlotLaws.{place-absent}
use Rattle.dw_offsets.proofs.slots.slot_place.Goals as goal

pub returns-in-Err : goal.returns-in-Err
returns-in-Err c =
    record { place = rw (← c.as_slice-list.ensures.value) (place-absent c.as_slice-list.result.now c.args.base c.args.index _ c.in-Err.ensures.absent) }
