-- This rest has the code, or those behind it may.
use Rattle.std.proofs.Common.{◌+◌}
use Rattle.dw_abbrev.specs.Rests.{all_of}
use Rattle.dw_abbrev.proofs.CodedLaws.{index-within}
use Rattle.dw_abbrev.proofs.RestsLaws.{index-here, index-more, len-more, len-stays}
use Rattle.dw_abbrev.proofs.rests.index_in.Goals as goal

pub returns-in-Some-clause-within : goal.returns-in-Some-clause-within
returns-in-Some-clause-within c =
    index-within (all_of c.args.rests.now) c.args.code (c.loop-rest.before + c.in-Some.index)
    (index-here c.args.rests.now c.loop-rest.rest-index c.loop-rest.before c.args.code c.in-Some.index c.rest-item.result c.loop-rest-test.true c.rest-item.is
    c.loop-rest.invariant.before c.loop-rest.invariant.none c.in-Some.ensures.value)

pub loop-rest-preserved : goal.loop-rest-preserved
loop-rest-preserved c = record {
  before = len-more c.args.rests.now c.loop-rest.rest-index c.loop-rest.before c.len-before.result c.rest-item.result c.loop-rest-test.true c.rest-item.is
      c.loop-rest.invariant.before c.len-before.ensures.value;
  few = len-stays c.args.rests.now c.loop-rest.rest-index c.loop-rest.before c.len-before.result _ c.rest-item.result c.loop-rest-test.true c.rest-item.is
      c.loop-rest.invariant.before c.len-before.ensures.value c.requires.few;
  none = index-more c.args.rests.now c.loop-rest.rest-index c.args.code c.rest-item.result c.loop-rest-test.true c.rest-item.is c.loop-rest.invariant.none
      c.in_default.ensures.value;
}
