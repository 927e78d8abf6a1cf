-- None of what refuses its records holds.
use Rattle.dbg_exercise.proofs.ReadingLaws.{records-taken}
use Rattle.dbg_exercise.proofs.reading.records_of.Goals as goal

pub unreachable-requires : goal.unreachable-requires
unreachable-requires c = records-taken c.args.bytes.now _ _ c.in-Err-Refused.ensures.refused c.in-Err-Refused.field-0-is c.requires.reads
