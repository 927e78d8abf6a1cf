-- The sections so far.
use Rattle.std.proofs.Common.{◌≡◌}
use Rattle.dw_base.specs.Lists.{tabulate}
use Rattle.dbg_split.specs.Droppable.{drops_itself}
use Rattle.dbg_split.proofs.marking.drop_themselves.Given as goal

abbrev pub invariant-loop-section : goal.invariant-loop-section
invariant-loop-section l = l.own.items ≡ tabulate (drops_itself l.elf.bytes.now) l.section
