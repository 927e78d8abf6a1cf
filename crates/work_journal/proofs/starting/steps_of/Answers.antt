use Rattle.std.proofs.Common.{arith}
use Rattle.work_journal.proofs.ShownLaws.{steps_more}
use Rattle.work_journal.proofs.starting.steps_of.Goals as goal

pub loop-job-preserved : goal.loop-job-preserved
loop-job-preserved g c = steps_more (g.M.Maker.view c.args.maker.now).steps _ _ c.loop-job.job _ (omega arith) c.steps.ensures.count c.loop-job.invariant c.in_ok-push.ensures.items
