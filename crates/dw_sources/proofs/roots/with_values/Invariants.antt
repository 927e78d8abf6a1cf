use Rattle.dw_sources.proofs.RootLaws.{ValuesPass}
use Rattle.dw_sources.proofs.roots.with_values.Given as goal

abbrev pub invariant-loop-spec : goal.invariant-loop-spec
invariant-loop-spec l = ValuesPass l.params l.bytes l.tag l.specs l.from l.spec-index l.place l.root
