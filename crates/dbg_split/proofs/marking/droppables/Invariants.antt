-- The sections so far.
use Rattle.std.proofs.Common.{◌≡◌}
use Rattle.dw_base.specs.Lists.{tabulate}
use Rattle.dbg_split.specs.Droppable.{is_droppable}
use Rattle.dbg_split.proofs.marking.droppables.Given as goal

abbrev pub invariant-loop-section : goal.invariant-loop-section
invariant-loop-section l = l.dropped.items ≡ tabulate (is_droppable l.elf.bytes.now) l.section
