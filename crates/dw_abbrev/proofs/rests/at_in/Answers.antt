-- It is one of this rest, or stands behind it.
use Rattle.std.proofs.Common.{arith}
use Rattle.dw_abbrev.proofs.RestsLaws.{at-here, len-more}
use Rattle.dw_abbrev.proofs.rests.at_in.Goals as goal

pub returns-then-index-before : goal.returns-then-index-before
returns-then-index-before c = record {
  value = at-here c.args.rests.now c.loop-rest.rest-index c.loop-rest.before c.args.index c.rest-item.result c.at.result.now c.loop-rest-test.true c.rest-item.is
      c.loop-rest.invariant.before c.loop-rest.invariant.further (omega (arith, c.if-index-before.true, c.len.ensures.value)) c.at.ensures.value;
}

pub loop-rest-preserved : goal.loop-rest-preserved
loop-rest-preserved c = record {
  before = len-more c.args.rests.now c.loop-rest.rest-index c.loop-rest.before c.len-before.result c.rest-item.result c.loop-rest-test.true c.rest-item.is
      c.loop-rest.invariant.before c.len-before.ensures.value;
  further = omega (arith, c.loop-rest.invariant.further, c.if-index-before.false, c.len.ensures.value, c.len-before.ensures.value);
}
