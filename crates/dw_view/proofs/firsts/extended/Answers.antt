-- The section says it of its link alone.
use Rattle.dw_view.proofs.FirstLaws.{table-is}
use Rattle.dw_view.proofs.firsts.extended.Goals as goal

pub returns-clause-target : goal.returns-clause-target
returns-clause-target c = table-is c.args.elf.now.bytes.now c.args.section c.section-head.result c.section-head.ensures c.if-head-ne-SHT_SYMTAB_SHNDX.false
