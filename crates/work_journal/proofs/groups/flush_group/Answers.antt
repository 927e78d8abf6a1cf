use Rattle.std.proofs.Common.{◌∙◌, arith}
use Rattle.file_tree.specs.declared.node.TreeErr.TheVariants.{Failed}
use Rattle.work_journal.proofs.GoesLaws.{came_settles, came_passed, came_well, came_next, came_hits}
use Rattle.work_journal.proofs.SpareLaws.{more_hit}
use Rattle.work_journal.proofs.GroupLaws.{group_settled, flush_next, flush_ends}
use Rattle.work_journal.proofs.PlannedLaws.{later_settled, later_then, later_set}
use Rattle.work_journal.proofs.groups.flush_group.Goals as goal

pub returns-in_err-settle-clause-came : goal.returns-in_err-settle-clause-came
returns-in_err-settle-clause-came g c = came_passed Failed _ _ _ _ _ _ _ _ _ _ (c.in_err-settle.was) c.from_residual.ensures.1
    (came_settles _ _ _ _ _ _ _ c.settle.ensures.core c.settle.ensures.done c.settle.ensures.failed c.settle.ensures.cause c.settle.ensures.tells)

pub loop-job-init : goal.loop-job-init
loop-job-init g c = record {
  same_tree = c.settle.ensures.same_tree;
  flush = group_settled _ _ _ _ _ c.requires.group c.settle.ensures.core;
  later = later_settled _ _ _ _ _ c.requires.group c.settle.ensures.core;
  came = came_well _ _ _ _ _ _ _ _ (c.in_ok-settle.was)
      (came_settles _ _ _ _ _ _ _ c.settle.ensures.core c.settle.ensures.done c.settle.ensures.failed c.settle.ensures.cause c.settle.ensures.tells);
}

pub flush_job-requires-clause-settled : goal.flush_job-requires-clause-settled
flush_job-requires-clause-settled g c = c.loop-job.invariant.flush.ready c.loop-job.job (omega arith) (omega arith)

pub returns-in_err-flush_job-clause-came : goal.returns-in_err-flush_job-clause-came
returns-in_err-flush_job-clause-came g c = came_passed Failed _ _ _ _ _ _ _ _ _ _ (c.in_err-flush_job.was) c.from_residual-in_err-flush_job.ensures.1
    (came_next _ _ _ _ _ _ _ _ _ _ (λ w made. made) c.loop-job.invariant.came (came_hits (more_hit _ _ _ _ (λ j e. omega (arith, e))) c.flush_job.ensures.came))

pub loop-job-preserved : goal.loop-job-preserved
loop-job-preserved g c = record {
  same_tree = c.flush_job.ensures.same_tree ∙ c.loop-job.invariant.same_tree;
  flush = flush_next _ _ _ _ _ _ (omega arith) (omega arith) c.requires.there c.loop-job.invariant.flush c.in_ok-flush_job.ensures.core;
  later = later_then _ _ _ _ _ (omega arith) c.loop-job.invariant.later (later_set _ _ _ _ _ (omega arith) c.in_ok-flush_job.ensures.core);
  came = came_well _ _ _ _ _ _ _ _ (c.in_ok-flush_job.was) (came_next _ _ _ _ _ _ _ _ _ _ (λ w made. made) c.loop-job.invariant.came (came_hits (more_hit _ _ _ _ (λ j e. omega (arith, e))) c.flush_job.ensures.came));
}

pub returns-clause-group : goal.returns-clause-group
returns-clause-group g c = flush_ends _ _ _ _ (omega arith) c.loop-job.invariant.flush

pub returns-clause-came : goal.returns-clause-came
returns-clause-came g c = c.loop-job.invariant.came

pub returns-clause-later : goal.returns-clause-later
returns-clause-later g c = c.loop-job.invariant.later
