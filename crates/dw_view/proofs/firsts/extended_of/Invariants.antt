-- The sections so far are noted.
use Rattle.dw_base.specs.Elf.{section_count}
use Rattle.dw_base.specs.SectionRelocations.{extends}
use Rattle.dw_view.specs.Firsts.{AreFirsts}
use Rattle.dw_view.proofs.firsts.extended_of.Given as goal

abbrev pub invariant-loop-section : goal.invariant-loop-section
invariant-loop-section l = AreFirsts (extends l.elf.bytes.now) (section_count l.elf.bytes.now) l.section l.firsts.items
