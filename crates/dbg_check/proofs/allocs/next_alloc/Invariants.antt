-- No section so far is ALLOC.
use Rattle.dbg_check.proofs.AllocLaws.{NoneBetween}
use Rattle.dbg_check.proofs.allocs.next_alloc.Given as goal

abbrev pub invariant-loop-index : goal.invariant-loop-index
invariant-loop-index l = NoneBetween l.elf.bytes.now l.fn.from l.index
