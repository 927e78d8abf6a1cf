use Rattle.std.proofs.Common.{◌∙◌}
use Rattle.journal_core.specs.declared.event.Event.TheVariants.{Renew}
use Rattle.journal_core.specs.Names.{fresh}
use Rattle.journal_core.specs.Calls.{puts_again}
use Rattle.work_journal.proofs.GoesLaws.{came_no_memory, came_puts}
use Rattle.work_journal.proofs.renewing.put_again.Goals as goal

pub returns-in_err-path-clause-came : goal.returns-in_err-path-clause-came
returns-in_err-path-clause-came g c = came_no_memory _ _ _ _ _ c.from_residual.ensures.1

pub returns-clause-came : goal.returns-clause-came
returns-clause-came g c = came_puts _ _ _ _ _ _ _ Renew (fresh 3) _ _ puts_again c.requires.allowed tt
    (c.as_str.ensures.value ∙ c.in_ok-path.ensures.path) (λ w is. is) c.put.ensures.core c.put.ensures.done c.put.ensures.failed c.put.ensures.cause c.put.ensures.tells
