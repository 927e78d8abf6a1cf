-- The file header and what stands behind it are the front.
use Rattle.dbg_split.proofs.MeasureLaws.{front-pushed}
use Rattle.dbg_split.proofs.measuring.front_of.Goals as goal

pub returns-clause-front : goal.returns-clause-front
returns-clause-front c =
    front-pushed c.args.elf.now.bytes.now c.in_ok-header.header.items c.new-behind.result c.new.result.items c.push.new.self c.args.elf.now.class
    c.file_header_size-size.result c.args.end c.file_header_size-size.ensures c.requires.header c.in_ok-header.ensures.items c.new-behind.ensures.value
    c.new.ensures.items c.in_ok-push.ensures.pushed
