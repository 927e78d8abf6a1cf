use Rattle.std.proofs.Common.{◌∙◌}
use Rattle.journal_core.specs.declared.event.Event.TheVariants.{Finish}
use Rattle.journal_core.specs.Names.{fresh}
use Rattle.journal_core.specs.Calls.{puts_text}
use Rattle.work_journal.proofs.GoesLaws.{came_no_memory, came_puts}
use Rattle.work_journal.proofs.closing.put_text.Goals as goal

pub returns-in_err-path-clause-came : goal.returns-in_err-path-clause-came
returns-in_err-path-clause-came g c = came_no_memory _ _ _ _ _ c.from_residual.ensures.1

pub returns-clause-came : goal.returns-clause-came
returns-clause-came g c = came_puts _ _ _ _ _ _ _ (Finish c.args.part) (fresh c.args.part) _ _ puts_text c.requires.allowed tt
    (c.as_str.ensures.value ∙ c.in_ok-path.ensures.path) (λ w is. is) c.put.ensures.core c.put.ensures.done c.put.ensures.failed c.put.ensures.cause c.put.ensures.tells
