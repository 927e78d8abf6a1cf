-- No section is counted yet, one more, and all.
use Rattle.std.proofs.Common.{arith, refl}
use Rattle.dbg_split.proofs.StrippedLaws.{counts-done, counts-next, dropped-of, kept-next}
use Rattle.dbg_split.proofs.stripping.kept_before.Goals as goal

pub loop-section-init : goal.loop-section-init
loop-section-init c = record { few = omega arith; kept = refl; counts = c.in_ok-counts.ensures.items }

pub loop-section-preserved : goal.loop-section-preserved
loop-section-preserved c = record {
  few = omega arith;
  kept = kept-next c.args.elf.now.bytes.now c.loop-section.section c.loop-section.kept c.counted-kept.result _ c.loop-section.invariant.kept
      (dropped-of c.args.elf.now.bytes.now c.args.dropped.now c.loop-section.section _ c.requires.dropped (omega arith)) c.counted-kept.ensures.value;
  counts = counts-next c.args.elf.now.bytes.now c.loop-section.section c.loop-section.kept c.loop-section.counts.items _ c.loop-section.invariant.kept
      c.loop-section.invariant.counts c.in_ok-push.ensures.items;
}

pub returns : goal.returns
returns c = record {
  counts = counts-done c.args.elf.now.bytes.now c.loop-section.section c.section_count-section-end.result c.loop-section.counts.items c.loop-section.invariant.counts
      c.section_count-section-end.ensures (omega arith);
}
