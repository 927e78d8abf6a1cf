-- One job more, of those that are left.
use Rattle.root_plan.proofs.TargetLaws.{item_more}
use Rattle.root_plan.proofs.ListLaws.{link_text}
use Rattle.root_plan.proofs.lists.link_list.Goals as goal

pub loop-job-preserved : goal.loop-job-preserved
loop-job-preserved c =
    item_more link_text c.args.jobs.now c.loop-job.job-index c.job-item.result c.loop-job.out.items _ _ c.loop-job-test.true c.job-item.is c.in_ok-push_links.ensures.value c.loop-job.invariant
