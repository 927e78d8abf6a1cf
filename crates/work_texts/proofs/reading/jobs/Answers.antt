use Rattle.std.proofs.Common.{None}
use Rattle.std.proofs.lemmas.Result.{err_from_is_err_and}
use Rattle.work_texts.specs.Rules.{path_of}
use Rattle.work_texts.specs.Reading.{job_at, many_at}
use Rattle.work_texts.proofs.Loops.{goes_on, ends, is_done}
use Rattle.work_texts.proofs.reading.jobs.Goals as goal

pub returns-in_err-next : goal.returns-in_err-next
returns-in_err-next c =
    let p = err_from_is_err_and c.from_residual.result c.from_residual.ensures.1 in
    let read = rw c.deref.ensures.value at c.in_err-next.ensures.value in
    record { value = rw (p.1, p.2) (ends c.in_err-next.field-0.0 job_at path_of c.jobs.jobs.items c.args.count c.jobs.counter c.jobs.rest.now (many_at job_at path_of c.args.count None c.args.bytes.now) c.jobs-test.true read c.jobs.invariant) }

pub jobs-preserved : goal.jobs-preserved
jobs-preserved c =
    let next = c.in_ok-next.next in
    let read = rw c.deref.ensures.value at c.in_ok-next.ensures.value in
    rw c.in_ok-push.ensures.items (goes_on job_at path_of c.jobs.jobs.items c.args.count c.jobs.counter c.jobs.rest.now next c.in_ok-next.after.now (many_at job_at path_of c.args.count None c.args.bytes.now) c.jobs-test.true read c.jobs.invariant)

pub returns : goal.returns
returns c = record { value = is_done job_at path_of c.jobs.jobs.items c.args.count c.jobs.counter c.jobs.rest.now (many_at job_at path_of c.args.count None c.args.bytes.now) c.jobs-test.false c.jobs.invariant }
