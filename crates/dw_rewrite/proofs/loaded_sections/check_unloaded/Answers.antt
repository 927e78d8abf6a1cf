-- No section is tested yet, one more, and all.
use Rattle.std.proofs.Common.{arith}
use Rattle.dw_rewrite.proofs.LoadedSectionLaws.{below_end, below_more, below_start}
use Rattle.dw_rewrite.proofs.loaded_sections.check_unloaded.Goals as goal

pub loop-index-init : goal.loop-index-init
loop-index-init c = below_start c.args.elf.now.bytes.now

pub loop-index-preserved : goal.loop-index-preserved
loop-index-preserved c = below_more c.args.elf.now.bytes.now c.loop-index.index c.loop-index.invariant c.in_ok-check_section.ensures.fits

pub returns-clause-fit : goal.returns-clause-fit
returns-clause-fit c = below_end c.args.elf.now.bytes.now c.loop-index.index (omega arith) c.loop-index.invariant
