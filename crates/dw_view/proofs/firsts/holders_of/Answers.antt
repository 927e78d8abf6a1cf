-- No section is noted yet, and all are.
use Rattle.std.proofs.Common.{arith}
use Rattle.dw_base.specs.Elf.{section_count}
use Rattle.dw_base.specs.SectionRelocations.{relocates}
use Rattle.dw_view.proofs.FirstLaws.{firsts-done, firsts-none, single-done, single-none}
use Rattle.dw_view.proofs.firsts.holders_of.Goals as goal

pub loop-section-init : goal.loop-section-init
loop-section-init c = record {
  firsts = firsts-none (relocates c.args.elf.now.bytes.now) (section_count c.args.elf.now.bytes.now) c.section_count-count.result c.in_ok-firsts.firsts.items
      c.in_ok-firsts.ensures.next c.section_count-count.ensures;
  single = single-none c.args.elf.now.bytes.now;
}

pub returns-clause-firsts : goal.returns-clause-firsts
returns-clause-firsts c =
    firsts-done (relocates c.args.elf.now.bytes.now) (section_count c.args.elf.now.bytes.now) c.loop-section.section c.section_count-count.result
    c.loop-section.firsts.items c.loop-section.invariant.firsts c.section_count-count.ensures (omega arith)

pub returns-clause-single : goal.returns-clause-single
returns-clause-single c =
    single-done c.args.elf.now.bytes.now c.loop-section.section c.section_count-count.result c.loop-section.invariant.single c.section_count-count.ensures
    (omega arith)
