use Rattle.std.proofs.Common.{◌≡◌, drop}
use Rattle.dw_base.specs.Layout.{alloc_ends, greatest}
use Rattle.elf_file.proofs.elf.ElfFile.allocs_end.Given as goal

-- what is left leads to the end of the whole
abbrev pub invariant-loop-section : goal.invariant-loop-section
invariant-loop-section l = greatest l.end (alloc_ends (drop l.section-index l.self.sections.items)) ≡ greatest l.fn.first (alloc_ends l.self.sections.items)
