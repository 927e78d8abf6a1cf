-- Of the sections so far it is known which they are.
use Rattle.std.proofs.Common.{◌≡◌}
use Rattle.dw_base.specs.FileViews.{kind_at}
use Rattle.dw_base.specs.Lists.{tabulate}
use Rattle.dw_view.proofs.kinds.kinds_of.Given as goal

abbrev pub invariant-loop-section : goal.invariant-loop-section
invariant-loop-section l = l.kinds.items ≡ tabulate (kind_at l.sections) l.section
