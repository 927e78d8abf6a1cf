-- Each part is the file's.
use Rattle.dw_view.proofs.SourceLaws.{source-is}
use Rattle.dw_view.proofs.source.source_of.Goals as goal

pub returns : goal.returns
returns c =
    source-is c.args.elf.now.bytes.now c.args.holder c.section-head.result c.args.elf.now.class c.args.elf.now.order c.args.elf.now.machine
    c.contents.result.now c.symbols.result.now c.section_numbers.result.now c.section-head.ensures c.args.elf.now.is_elf.class_is c.args.elf.now.is_elf.order_is
    c.args.elf.now.is_elf.machine_is c.contents.ensures.contents c.symbols.ensures c.section_numbers.ensures
