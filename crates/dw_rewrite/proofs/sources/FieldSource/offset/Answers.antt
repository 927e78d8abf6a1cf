-- The field lies in the bytes that are known.
use Rattle.std.proofs.Common.{◌+◌, ◌≤◌, length, subst, sym}
use Rattle.dw_rewrite.specs.Changes.{FieldSource as SourceOf}
use Rattle.dw_unit_fields.specs.PlainSections.{IsPlain}
use Rattle.dw_unit_fields.proofs.PlainLaws.{plain-inside, some-holds}
use Rattle.dw_rewrite.proofs.sources.FieldSource.offset.Goals as goal

pub number_in-requires-clause-inside : goal.number_in-requires-clause-inside
number_in-requires-clause-inside c =
    plain-inside c.self.inside.view.now c.self.inside.section c.args.field.at c.args.field.size c.in-Some.bytes.now
    (some-holds (λ b. IsPlain c.self.inside.view.now c.self.inside.section b.now) c.self.inside.plain c.in-Some.bytes c.in-Some.is c.self.invariant.1)
    (subst (λ (s : SourceOf). c.args.field.at + c.args.field.size ≤ length s.cells) (sym c.self.view_is) c.requires.inside)
