-- None of what refuses its sections holds.
use Rattle.dbg_exercise.proofs.ReadingLaws.{sections-taken}
use Rattle.dbg_exercise.proofs.reading.viewed.Goals as goal

pub unreachable-requires : goal.unreachable-requires
unreachable-requires c = sections-taken c.args.elf.now.bytes.now _ _ c.in-Err-Refused.ensures.refused c.in-Err-Refused.field-0-is c.requires.reads
