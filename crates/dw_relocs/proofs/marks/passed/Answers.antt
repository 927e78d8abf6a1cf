-- The relocation that moves.
use Rattle.std.proofs.Common.{sym, subst, ◌∙◌}
use Rattle.dw_relocs.specs.FieldWalks.{OneMoves, ground_of}
use Rattle.dw_relocs.proofs.MarkLaws.{pass-fails}
use Rattle.dw_relocs.proofs.marks.passed.Goals as goal

pub returns-then-relocation_moves-clause-refused : goal.returns-then-relocation_moves-clause-refused
returns-then-relocation_moves-clause-refused c =
    subst (OneMoves (ground_of c.args.view.now c.args.section) c.args.marks.place c.args.to) (sym c.at.ensures)
    (pass-fails (ground_of c.args.view.now c.args.section) c.args.to c.in-Some.place c.args.marks c.loop-place.at c.loop-place.invariant
    (sym c.in-Some.is ∙ c.place_before.ensures) (sym c.if-relocation_moves.true ∙ c.relocation_moves.ensures))
