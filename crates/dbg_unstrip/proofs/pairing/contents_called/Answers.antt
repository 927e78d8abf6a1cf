-- The section is the first of its name.
use Rattle.std.proofs.Common.{arith}
use Rattle.dw_view.proofs.PairingLaws.{called-first}
use Rattle.dbg_unstrip.proofs.pairing.contents_called.Goals as goal

pub returns-then-is_named : goal.returns-then-is_named
returns-then-is_named c =
    called-first c.args.elf.now.bytes.now c.args.name.now c.contents.result.now c.loop-section.section c.is_named.result
    (omega (arith, c.loop-section-test.true, c.section_count-count.ensures)) c.loop-section.invariant c.is_named.ensures.named c.if-is_named.true c.contents.ensures.contents
