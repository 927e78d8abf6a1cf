-- A number that names no section, that of one that is dropped, and that of one that is kept.
use Rattle.std.proofs.Common.{arith}
use Rattle.dbg_split.proofs.StrippedLaws.{number-dropped, number-kept, number-past}
use Rattle.dbg_split.proofs.stripping.new_number.Goals as goal

pub returns-then-number-section_count : goal.returns-then-number-section_count
returns-then-number-section_count c = number-past c.args.elf.now.bytes.now c.args.number c.section_count.result c.section_count.ensures c.if-number-section_count.true

pub returns-then-dropped-number : goal.returns-then-dropped-number
returns-then-dropped-number c = number-dropped c.args.elf.now.bytes.now c.args.number c.args.dropped.now _ c.requires.dropped (omega arith) c.if-dropped-number.true

pub returns : goal.returns
returns c =
    number-kept c.args.elf.now.bytes.now c.args.number c.args.dropped.now _ c.args.counts.now _ c.requires.dropped c.requires.counts (omega arith) c.if-dropped-number.false
