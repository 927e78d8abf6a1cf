use Rattle.std.proofs.Common.{take}
use Rattle.dw_forms.specs.Fixed.{IsSizeOf}
use Rattle.dw_forms.proofs.fixed.FixedSize.of.Given as goal

-- the size so far is that of the attributes so far
abbrev pub invariant-loop-spec : goal.invariant-loop-spec
invariant-loop-spec l = IsSizeOf (take l.spec-index l.specs) l.size
