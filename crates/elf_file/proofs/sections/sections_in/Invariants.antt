use Rattle.std.proofs.Common.{◌≡◌, ℕ, ◌<◌}
use Rattle.dw_base.specs.Elf.{nth_section}
use Rattle.dw_base.specs.ElfFails.{SectionReads}
use Rattle.dw_base.specs.Lists.{tabulate}
use Rattle.elf_file.proofs.sections.sections_in.Given as goal

-- the sections before this one are read
abbrev pub invariant-loop-index : goal.invariant-loop-index
invariant-loop-index l = record {
  items : l.sections.items ≡ tabulate (nth_section l.bytes) l.index;
  all : (i : ℕ) → i < l.index → SectionReads l.bytes (nth_section l.bytes i);
}
