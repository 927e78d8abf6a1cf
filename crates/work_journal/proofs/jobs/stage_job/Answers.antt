use Rattle.std.proofs.Common.{◌∙◌, sym, refl, arith}
use Rattle.file_tree.specs.declared.node.TreeErr.TheVariants.{Failed}
use Rattle.work_journal.proofs.GoesLaws.{came_still, came_passed, came_well, came_next}
use Rattle.work_journal.proofs.JobLaws.{staging_begins, staging_allows, staging_near, staging_next, staging_ends}
use Rattle.work_journal.proofs.jobs.stage_job.Goals as goal

pub loop-step-init : goal.loop-step-init
loop-step-init g c = record {
  same_tree = refl;
  core = staging_begins _ _ _ c.requires.may;
  came = came_still Failed _ _ _ _ _ (λ h. cc);
}

pub stage_step-requires-clause-allowed : goal.stage_step-requires-clause-allowed
stage_step-requires-clause-allowed g c = staging_allows _ _ _ _ _ c.requires.may (omega arith) c.loop-step.invariant.core

pub stage_step-requires-clause-near : goal.stage_step-requires-clause-near
stage_step-requires-clause-near g c = staging_near _ _ _ _ _ c.requires.may c.loop-step.invariant.core

pub returns-in_err-stage_step-clause-came : goal.returns-in_err-stage_step-clause-came
returns-in_err-stage_step-clause-came g c = came_passed Failed _ _ _ _ _ _ _ _ _ _ (c.in_err-stage_step.was) c.from_residual.ensures.1
    (came_next _ _ _ _ _ _ _ _ _ _ (λ w are. are c.loop-step.step c.index.result.now (omega arith) ∙ sym c.index.ensures) c.loop-step.invariant.came c.stage_step.ensures.came)

pub loop-step-preserved : goal.loop-step-preserved
loop-step-preserved g c = record {
  same_tree = c.stage_step.ensures.same_tree ∙ c.loop-step.invariant.same_tree;
  core = staging_next _ _ _ _ _ _ _ (omega arith) c.requires.may c.loop-step.invariant.core c.in_ok-stage_step.ensures.core;
  came = came_well _ _ _ _ _ _ _ _ (c.in_ok-stage_step.was)
      (came_next _ _ _ _ _ _ _ _ _ _ (λ w are. are c.loop-step.step c.index.result.now (omega arith) ∙ sym c.index.ensures) c.loop-step.invariant.came c.stage_step.ensures.came);
}

pub returns-clause-core : goal.returns-clause-core
returns-clause-core g c = staging_ends _ _ _ _ _ (omega arith) c.loop-step.invariant.core

pub returns-clause-came : goal.returns-clause-came
returns-clause-came g c = c.loop-step.invariant.came
