-- None of what refuses an edit holds.
use Rattle.dbg_exercise.proofs.OutputLaws.{edit-taken}
use Rattle.dbg_exercise.proofs.output.mapped_file.Goals as goal

pub unreachable-requires : goal.unreachable-requires
unreachable-requires c = edit-taken c.args.maps.now c.args.bytes.now _ _ c.in-Err-Refused.ensures.refused c.in-Err-Refused.field-0-is c.requires.accepted
