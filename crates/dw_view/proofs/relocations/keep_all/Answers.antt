-- Nothing is kept yet, one section more, and all.
use Rattle.dw_view.proofs.RelocationLaws.{read-done, read-more, read-none, upto-done, upto-more, upto-none}
use Rattle.dw_view.proofs.relocations.keep_all.Goals as goal

pub loop-section-init : goal.loop-section-init
loop-section-init c = record {
  keeps = upto-none c.args.elf.now.bytes.now _ c.in_ok-all.ensures.items;
  reads = read-none c.args.elf.now.bytes.now;
}

pub loop-section-preserved : goal.loop-section-preserved
loop-section-preserved c = record {
  keeps = upto-more c.args.elf.now.bytes.now c.loop-section.section c.loop-section.all.items _ _ c.in_ok-keep.ensures.keeps c.in_ok-push.ensures.items
      c.loop-section.invariant.keeps;
  reads = read-more c.args.elf.now.bytes.now c.loop-section.section c.in_ok-keep.ensures.reads c.loop-section.invariant.reads;
}

pub returns-clause-keeps : goal.returns-clause-keeps
returns-clause-keeps c =
    upto-done c.args.elf.now.bytes.now c.loop-section.section c.section_count-count.result c.loop-section.all.items c.loop-section.invariant.keeps
    c.section_count-count.ensures c.loop-section-test.false

pub returns-clause-reads : goal.returns-clause-reads
returns-clause-reads c =
    read-done c.args.elf.now.bytes.now c.loop-section.section c.section_count-count.result c.loop-section.invariant.reads c.section_count-count.ensures
    c.loop-section-test.false
