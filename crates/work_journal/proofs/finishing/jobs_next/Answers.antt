use Rattle.work_texts.specs.declared.journal_err.JournalErr.TheVariants as run
use Rattle.work_journal.proofs.GoesLaws.{came_still}
use Rattle.work_journal.proofs.finishing.jobs_next.Goals as goal

pub returns-then-is_over-clause-came : goal.returns-then-is_over-clause-came
returns-then-is_over-clause-came g c = came_still run.Tree _ _ _ _ _ (λ h. cc)
