-- The relocation inside.
use Rattle.std.proofs.Common.{sym, subst, ◌∙◌}
use Rattle.dw_base.specs.RelocationRows.{field_place, plain_field}
use Rattle.dw_relocs.specs.FieldWalks.{FieldFails, ground_of}
use Rattle.dw_relocs.proofs.MarkLaws.{number-inside}
use Rattle.dw_relocs.proofs.marks.number_passed.Goals as goal

pub returns-in-Some-clause-refused : goal.returns-in-Some-clause-refused
returns-in-Some-clause-refused c =
    subst (FieldFails (ground_of c.args.view.now c.args.section) c.args.marks.place (field_place c.args.place c.args.size plain_field)) (sym c.at.ensures)
    (number-inside (ground_of c.args.view.now c.args.section) c.args.marks.place c.args.place c.args.size c.in-Some.inside c.in_ok-marks.marks
    c.in_ok-marks.ensures.passed (sym c.in-Some.is ∙ c.place_before.ensures))
