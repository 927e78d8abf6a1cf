-- The sections so far are noted.
use Rattle.dw_base.specs.Elf.{section_count}
use Rattle.dw_base.specs.SectionRelocations.{relocates}
use Rattle.dw_view.specs.Firsts.{AreFirsts, AreSingle}
use Rattle.dw_view.proofs.firsts.holders_of.Given as goal

abbrev pub invariant-loop-section : goal.invariant-loop-section
invariant-loop-section l = record {
  firsts : AreFirsts (relocates l.elf.bytes.now) (section_count l.elf.bytes.now) l.section l.firsts.items;
  single : AreSingle l.elf.bytes.now l.section;
}
