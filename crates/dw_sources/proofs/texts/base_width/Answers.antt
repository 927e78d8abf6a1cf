-- No contribution has the base.
use Rattle.dw_sources.proofs.BaseLaws.{width-absent}
use Rattle.dw_sources.proofs.texts.base_width.Goals as goal

pub returns-in-Err : goal.returns-in-Err
returns-in-Err c =
    record { value = rw (← c.as_slice-list.ensures.value) (width-absent c.as_slice-list.result.now c.args.base _ c.in-Err.ensures.absent) }
