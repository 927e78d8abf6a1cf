-- The field behind which the pass is.
use Rattle.std.proofs.Common.{ℕ, ◌+◌, ap, ◌∙◌}
use Rattle.dw_relocs.specs.FieldWalks.{ground_of}
use Rattle.dw_relocs.proofs.MarkLaws.{offset-passed}
use Rattle.dw_relocs.proofs.marks.offset_passed.Goals as goal

pub returns-clause-passed : goal.returns-clause-passed
returns-clause-passed c =
    offset-passed (ground_of c.args.view.now c.args.section) c.args.marks.place c.args.place c.args.size c.in_ok-marks.marks c.behind.result
    c.requires.before c.requires.some c.in_ok-marks.ensures.passed c.in_ok-check_offset.ensures.reads c.behind.ensures.marks
    (c.behind.ensures.place ∙ ap (λ (x : ℕ). c.args.place + x) c.from.ensures) c.behind.ensures.small
