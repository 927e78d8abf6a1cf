-- The relocations of the sections so far are kept, and are ones that are handled.
use Rattle.dw_view.specs.Relocations.{KeepsUpTo, ReadUpTo}
use Rattle.dw_view.proofs.relocations.keep_all.Given as goal

abbrev pub invariant-loop-section : goal.invariant-loop-section
invariant-loop-section l = record {
  keeps : KeepsUpTo l.elf.bytes.now l.section l.all.items;
  reads : ReadUpTo l.elf.bytes.now l.section;
}
