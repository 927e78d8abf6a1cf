-- What is left agrees exactly where all does.
use Rattle.std.proofs.Common.{◌≤◌}
use Rattle.dw_base.specs.Elf.{section_count}
use Rattle.dbg_check.specs.Loads.{SameBehind}
use Rattle.dbg_check.proofs.allocs.same_allocs.Given as goal

abbrev pub invariant-loop-number : goal.invariant-loop-number
invariant-loop-number l = record {
  same : SameBehind l.old.bytes.now l.new.bytes.now 0 0 l.number l.from;
  within : l.from ≤ section_count l.new.bytes.now;
}
