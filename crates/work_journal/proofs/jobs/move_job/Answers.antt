use Rattle.std.proofs.Common.{◌∙◌, sym, refl, arith}
use Rattle.file_tree.specs.declared.node.TreeErr.TheVariants.{Failed}
use Rattle.work_journal.proofs.GoesLaws.{came_still, came_passed, came_well, came_next, came_hits, came_no_memory}
use Rattle.work_journal.proofs.SpareLaws.{step_hit}
use Rattle.work_journal.proofs.JobLaws.{moving_begins, moving_allows, moving_next, moving_ends}
use Rattle.work_journal.proofs.jobs.move_job.Goals as goal

pub loop-step-init : goal.loop-step-init
loop-step-init g c = record {
  same_tree = refl;
  core = moving_begins _ _ _ _ c.requires.may;
  came = came_still Failed _ _ _ _ _ (λ h. cc);
}

pub move_step-requires : goal.move_step-requires
move_step-requires g c = record { allowed = moving_allows _ _ _ _ _ _ c.requires.may (omega arith) c.loop-step.invariant.core }

pub returns-in_err-to-clause-came : goal.returns-in_err-to-clause-came
returns-in_err-to-clause-came g c = came_next _ _ _ _ _ _ _ _ _ _ (λ w are. are) c.loop-step.invariant.came (came_no_memory _ _ _ _ _ c.from_residual.ensures.1)

pub returns-in_err-move_step-clause-came : goal.returns-in_err-move_step-clause-came
returns-in_err-move_step-clause-came g c = came_passed Failed _ _ _ _ _ _ _ _ _ _ (c.in_err-move_step.was) c.from_residual-in_err-move_step.ensures.1
    (came_next _ _ _ _ _ _ _ _ _ _ (λ w are. are c.loop-step.step (omega arith) ∙ sym (c.as_str.ensures.value ∙ c.in_ok-to.ensures.path)) c.loop-step.invariant.came (came_hits (step_hit _ _ c.args.job c.loop-step.step _ (record { job_in = c.requires.there; step_in = omega arith }) (sym (c.as_str.ensures.value ∙ c.in_ok-to.ensures.path))) c.move_step.ensures.came))

pub loop-step-preserved : goal.loop-step-preserved
loop-step-preserved g c = record {
  same_tree = c.move_step.ensures.same_tree ∙ c.loop-step.invariant.same_tree;
  core = moving_next _ _ _ _ _ _ _ _ (omega arith) c.requires.may c.loop-step.invariant.core c.in_ok-move_step.ensures.core;
  came = came_well _ _ _ _ _ _ _ _ (c.in_ok-move_step.was)
      (came_next _ _ _ _ _ _ _ _ _ _ (λ w are. are c.loop-step.step (omega arith) ∙ sym (c.as_str.ensures.value ∙ c.in_ok-to.ensures.path)) c.loop-step.invariant.came (came_hits (step_hit _ _ c.args.job c.loop-step.step _ (record { job_in = c.requires.there; step_in = omega arith }) (sym (c.as_str.ensures.value ∙ c.in_ok-to.ensures.path))) c.move_step.ensures.came));
}

pub returns-clause-core : goal.returns-clause-core
returns-clause-core g c = moving_ends _ _ _ _ _ (omega arith) c.loop-step.invariant.core

pub returns-clause-came : goal.returns-clause-came
returns-clause-came g c = c.loop-step.invariant.came
