use Rattle.std.proofs.Common.{◌∙◌}
use Rattle.journal_core.specs.declared.event.Event.TheVariants.{Move}
use Rattle.journal_core.specs.Names.{temp, target}
use Rattle.journal_core.specs.Calls.{moves_step}
use Rattle.work_journal.proofs.GoesLaws.{came_no_memory, came_moves}
use Rattle.work_journal.proofs.steps.move_step.Goals as goal

pub returns-in_err-from-clause-came : goal.returns-in_err-from-clause-came
returns-in_err-from-clause-came g c = came_no_memory _ _ _ _ _ c.from_residual.ensures.1

pub returns-clause-came : goal.returns-clause-came
returns-clause-came g c = came_moves _ _ _ _ _ _ _ (Move c.args.job c.args.step) (temp c.args.job c.args.step) (target c.args.job c.args.step) _ _ moves_step c.requires.allowed
    (c.as_str.ensures.value ∙ c.in_ok-from.ensures.path) (λ w given is. is) c.rename.ensures.core c.rename.ensures.done c.rename.ensures.failed c.rename.ensures.cause c.rename.ensures.tells
