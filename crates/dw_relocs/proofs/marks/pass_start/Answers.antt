-- No field is behind the start.
use Rattle.dw_relocs.specs.FieldWalks.{ground_of}
use Rattle.dw_relocs.proofs.WalkLaws.{start-walked}
use Rattle.dw_relocs.proofs.marks.pass_start.Goals as goal

pub returns-clause-walked : goal.returns-clause-walked
returns-clause-walked c =
    start-walked (ground_of c.args.view.now c.args.section) c.marks_from.result c.marks_from.ensures.marks c.marks_from.ensures.place
