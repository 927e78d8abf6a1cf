-- None is given for one section more, and for all.
use Rattle.std.proofs.Common.{arith}
use Rattle.dw_rewrite.proofs.GivenLaws.{none-given, none-more}
use Rattle.dw_rewrite.proofs.file.no_contents.Goals as goal

pub loop-i-preserved : goal.loop-i-preserved
loop-i-preserved c = none-more c.loop-i.items.items _ c.loop-i._i c.loop-i.invariant c.in_ok-push.ensures.items

pub returns : goal.returns
returns c = none-given c.args.elf.now.bytes.now c.loop-i.items.items c.loop-i._i c.loop-i.invariant (omega arith)
