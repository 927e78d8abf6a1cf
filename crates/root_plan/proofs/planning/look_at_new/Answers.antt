-- The looks of a job behind others.
use Rattle.std.proofs.Common.{arith}
use Rattle.std.proofs.lemmas.Result.{err_from_is_err_and}
use Rattle.root_paths.proofs.LookLaws.{looked_then}
use Rattle.root_plan.proofs.MadeLaws.{look_later}
use Rattle.root_plan.proofs.NewLookLaws.{jobs_all, jobs_more, jobs_none}
use Rattle.root_plan.proofs.planning.look_at_new.Goals as goal

pub loop-job-init : goal.loop-job-init
loop-job-init g c = jobs_none _ _ _

pub returns-in_err-look_at_job-clause-ends : goal.returns-in_err-look_at_job-clause-ends
returns-in_err-look_at_job-clause-ends g c =
    let p = err_from_is_err_and c.from_residual.result c.from_residual.ensures.1 in
    rw (p.1, p.2) (look_later _ _ _ _ c.loop-job.invariant.looked c.in_err-look_at_job.ensures.ends)

pub returns-in_err-look_at_job-clause-looked : goal.returns-in_err-look_at_job-clause-looked
returns-in_err-look_at_job-clause-looked g c = looked_then _ _ _ c.loop-job.invariant.looked c.look_at_job.ensures.looked

pub loop-job-preserved : goal.loop-job-preserved
loop-job-preserved g c =
    jobs_more c.args.root.now c.args.jobs.now c.loop-job.job-index c.job-item.result _ _ _ (omega arith) c.job-item.is c.loop-job.invariant c.look_at_job.ensures.looked
    c.in_ok-look_at_job.ensures.each

pub returns-clause-looked : goal.returns-clause-looked
returns-clause-looked g c = c.loop-job.invariant.looked

pub returns-clause-each : goal.returns-clause-each
returns-clause-each g c = jobs_all c.args.root.now c.args.jobs.now c.loop-job.job-index _ _ (omega arith) c.loop-job.invariant
