-- The section says it of its info alone.
use Rattle.dw_view.proofs.FirstLaws.{target-is}
use Rattle.dw_view.proofs.firsts.relocated.Goals as goal

pub returns-clause-target : goal.returns-clause-target
returns-clause-target c =
    target-is c.args.elf.now.bytes.now c.args.section c.section-head.result c.is_relocation_kind.result c.requires.kind c.section-head.ensures
    c.is_relocation_kind.ensures c.if-not-is_relocation_kind.false
