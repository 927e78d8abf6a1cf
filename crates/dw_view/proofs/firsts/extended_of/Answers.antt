-- No section is noted yet, and all are.
use Rattle.std.proofs.Common.{arith}
use Rattle.dw_base.specs.Elf.{section_count}
use Rattle.dw_base.specs.SectionRelocations.{extends}
use Rattle.dw_view.proofs.FirstLaws.{firsts-done, firsts-none}
use Rattle.dw_view.proofs.firsts.extended_of.Goals as goal

pub loop-section-init : goal.loop-section-init
loop-section-init c =
    firsts-none (extends c.args.elf.now.bytes.now) (section_count c.args.elf.now.bytes.now) c.section_count-count.result c.in_ok-firsts.firsts.items
    c.in_ok-firsts.ensures.next c.section_count-count.ensures

pub returns : goal.returns
returns c = record {
  firsts = firsts-done (extends c.args.elf.now.bytes.now) (section_count c.args.elf.now.bytes.now) c.loop-section.section c.section_count-count.result
      c.loop-section.firsts.items c.loop-section.invariant c.section_count-count.ensures (omega arith);
}
