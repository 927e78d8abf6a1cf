use Rattle.dw_relocs.specs.FieldWalks.{ground_of}
use Rattle.dw_relocs.proofs.ValueFieldLaws.{ValuesSo}
use Rattle.dw_relocs.proofs.values.pass_values.Given as goal

abbrev pub invariant-loop-spec : goal.invariant-loop-spec
invariant-loop-spec l =
    ValuesSo (ground_of l.view l.section) l.params l.bytes l.number l.tag l.specs l.from l.after l.spec-index l.place l.fn.pass l.now
