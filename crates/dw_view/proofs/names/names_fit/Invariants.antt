use Rattle.dw_view.proofs.NameLaws.{FitBelow}
use Rattle.dw_view.proofs.names.names_fit.Given as goal

abbrev pub invariant-loop-index : goal.invariant-loop-index
invariant-loop-index l = FitBelow l.elf.bytes.now l.index
