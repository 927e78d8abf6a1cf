use Rattle.std.proofs.Common.{map, arith}
use Rattle.std.specs.String.{string_bytes}
use Rattle.work_journal.proofs.ShownLaws.{shown_more}
use Rattle.work_journal.proofs.starting.shown_jobs.Goals as goal

pub loop-job-preserved : goal.loop-job-preserved
loop-job-preserved g c = shown_more _ _ _ _ _ _ _ _ _ _ _ (omega arith) c.loop-job.invariant c.steps-count.ensures.count
    (c.in_ok-state.ensures.state (map string_bytes c.args.present.now) c.in_ok-paths.ensures.has)
    c.in_ok-push.ensures.items c.in_ok-push-2.ensures.items
