-- A value of 57 bits or more has no room for the byte in front.
use Rattle.std.proofs.Common.{arith}
use Rattle.dw_base.proofs.LebLaws.{uleb-over}
use Rattle.dw_base.proofs.lebs.uleb_to.Goals as goal

pub returns-then-value-clause-value : goal.returns-then-value-clause-value
returns-then-value-clause-value c =
    uleb-over c.args.front.now c.bytes.i c.args.last c.bytes.value _ c.requires.found (omega arith) c.bytes.invariant.within c.bytes.invariant.value (omega arith)
