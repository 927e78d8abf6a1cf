-- None of what refuses debug data holds.
use Rattle.dbg_exercise.proofs.ReadingLaws.{data-taken}
use Rattle.dbg_exercise.proofs.reading.data_in.Goals as goal

pub unreachable-requires : goal.unreachable-requires
unreachable-requires c = data-taken c.args.view.now _ _ c.in-Err-Refused.ensures.refused c.in-Err-Refused.field-0-is c.requires.countable
