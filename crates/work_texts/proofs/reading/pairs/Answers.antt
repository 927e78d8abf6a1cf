use Rattle.std.proofs.Common.{arith}
use Rattle.std.proofs.lemmas.Result.{err_from_is_err_and}
use Rattle.work_texts.specs.Reading.{pairs_at}
use Rattle.work_texts.proofs.PairLoops.{pairs-go, pairs-end, pairs-done, added-long}
use Rattle.work_texts.proofs.reading.pairs.Goals as goal

pub returns-in_err-next : goal.returns-in_err-next
returns-in_err-next c =
    let p = err_from_is_err_and c.from_residual.result c.from_residual.ensures.1 in
    record { value = rw (p.1, p.2) (pairs-end c.in_err-next.field-0.0 c.pairs.so_far c.args.count c.pairs.counter c.pairs.rest.now (pairs_at c.args.count c.args.maps c.args.bytes.now) c.pairs-test.true c.in_err-next.ensures.value c.pairs.invariant.so_far) }

pub pairs-preserved : goal.pairs-preserved
pairs-preserved c =
    let next = c.in_ok-next.next in
    let after = c.in_ok-next.after.now in
    let read = c.in_ok-next.ensures.value in
    record {
      room = omega (arith, c.pairs.invariant.room, c.pairs-test.true, added-long c.pairs.so_far next c.pairs.rest.now after read);
      so_far = pairs-go c.pairs.so_far next c.args.count c.pairs.counter c.pairs.rest.now after (pairs_at c.args.count c.args.maps c.args.bytes.now) c.pairs-test.true read c.pairs.invariant.so_far;
    }

pub returns : goal.returns
returns c = record { value = pairs-done c.pairs.so_far c.args.count c.pairs.counter c.pairs.rest.now (pairs_at c.args.count c.args.maps c.args.bytes.now) c.pairs-test.false c.pairs.invariant.so_far }
