-- One body more is given, and the items are put back.
use Rattle.dw_rewrite.proofs.GivenLaws.{giving-back}
use Rattle.dw_rewrite.proofs.file.contents_of.Goals as goal

pub loop-body-preserved : goal.loop-body-preserved
loop-body-preserved c =
    giving-back c.args.elf.now.bytes.now c.args.bodies.items c.loop-body.bodies.items c.pop.new.self.items c.loop-body.items.items c.deref_mut.result.now c.give.new.items
    c.loop-body.items.len c.in-Some.body c.loop-body.invariant c.in-Some.ensures.items c.deref_mut.ensures.value c.give.ensures.given c.deref_mut.ensures.len
