-- The offset that was read.
use Rattle.dw_relocs.proofs.OffsetLaws.{check-reads}
use Rattle.dw_relocs.proofs.marks.check_offset.Goals as goal

pub returns-in-Ok-clause-reads : goal.returns-in-Ok-clause-reads
returns-in-Ok-clause-reads c =
    check-reads c.args.view.now c.args.section c.args.place c.args.size c.in-Ok.field-0 c.requires.read c.requires.some c.requires.inside c.in-Ok.ensures.read
