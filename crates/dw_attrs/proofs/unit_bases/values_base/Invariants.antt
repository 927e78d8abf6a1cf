use Rattle.dw_attrs.proofs.BaseLaws.{BaseLeft}
use Rattle.dw_attrs.proofs.unit_bases.values_base.Given as goal

-- the base is among the values that are left
abbrev pub invariant-loop-spec : goal.invariant-loop-spec
invariant-loop-spec l = BaseLeft l.view l.unit l.bytes l.specs l.from l.spec-index l.place
