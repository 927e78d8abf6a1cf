-- A value that no longer fits with the byte in front is no answer.
use Rattle.std.proofs.Common.{◌-◌, arith}
use Rattle.dw_base.proofs.LebLaws.{sleb-over}
use Rattle.dw_base.proofs.lebs.sleb_to.Goals as goal

pub returns-in-None-clause-value : goal.returns-in-None-clause-value
returns-in-None-clause-value c =
    sleb-over c.args.front.now c.bytes.i (c.bytes.i - 1) c.args.last _ _ c.requires.found (omega arith) c.bytes.invariant.within c.bytes.invariant.value c.in-None.ensures.value
