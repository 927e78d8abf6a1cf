use Rattle.dw_view.proofs.FrontLaws.{TextFrom}
use Rattle.dw_view.proofs.fronts.front_len.Given as goal

abbrev pub invariant-loop-i : goal.invariant-loop-i
invariant-loop-i l = TextFrom l.bytes l.i
