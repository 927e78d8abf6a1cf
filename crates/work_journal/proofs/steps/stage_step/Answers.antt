use Rattle.std.proofs.Common.{◌∙◌}
use Rattle.journal_core.specs.declared.event.Event.TheVariants.{Stage}
use Rattle.journal_core.specs.Names.{temp}
use Rattle.journal_core.specs.Calls.{puts_step}
use Rattle.work_journal.proofs.GoesLaws.{came_no_memory, came_puts}
use Rattle.work_journal.proofs.steps.stage_step.Goals as goal

pub returns-in_err-path-clause-came : goal.returns-in_err-path-clause-came
returns-in_err-path-clause-came g c = came_no_memory _ _ _ _ _ c.from_residual.ensures.1

pub returns-clause-came : goal.returns-clause-came
returns-clause-came g c = came_puts _ _ _ _ _ _ _ (Stage c.args.job c.args.step) (temp c.args.job c.args.step) _ _ puts_step c.requires.allowed c.requires.near
    (c.as_str.ensures.value ∙ c.in_ok-path.ensures.path) (λ w is. is) c.put.ensures.core c.put.ensures.done c.put.ensures.failed c.put.ensures.cause c.put.ensures.tells
