-- One value more.
use Rattle.std.proofs.Common.{arith}
use Rattle.std.proofs.lemmas.List.{get_or_default}
use Rattle.dw_relocs.specs.FieldWalks.{ground_of}
use Rattle.dw_relocs.proofs.ValueFieldLaws.{next-there, values-passed}
use Rattle.dw_relocs.proofs.values.pass_values.Goals as goal

pub pass_next-step-requires-clause-value : goal.pass_next-step-requires-clause-value
pass_next-step-requires-clause-value c =
    next-there c.args.params.now c.args.bytes.now c.args.specs.now _ c.args.after c.loop-spec.spec-index c.loop-spec.place (omega arith)
    (get_or_default c.args.specs.now c.loop-spec.spec-index _ _ (omega arith)) c.loop-spec.invariant.ends

pub loop-spec-preserved : goal.loop-spec-preserved
loop-spec-preserved c =
    values-passed (ground_of c.args.view.now c.args.section) c.args.params.now c.args.bytes.now c.args.number c.args.tag c.args.specs.now _ c.args.from c.args.after c.loop-spec.spec-index
    c.loop-spec.place c.pass_next-step.result.1 c.is_section_offset-start.result c.args.pass c.loop-spec.now c.pass_next-step.result.0 (omega arith)
    (get_or_default c.args.specs.now c.loop-spec.spec-index _ _ (omega arith)) c.loop-spec.invariant c.is_section_offset-start.ensures c.pass_next-step.ensures.passed
