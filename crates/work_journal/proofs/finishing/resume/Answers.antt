use Rattle.work_texts.specs.declared.journal_err.JournalErr.TheVariants as run
use Rattle.work_journal.proofs.GoesLaws.{came_given}
use Rattle.work_journal.proofs.FinishLaws.{came_no_text, no_text_mild, mild_blames, jobs_by}
use Rattle.work_journal.proofs.finishing.resume.Goals as goal

pub returns-in_err-texts-clause-blame : goal.returns-in_err-texts-clause-blame
returns-in_err-texts-clause-blame g c = mild_blames _ _ _ _ (no_text_mild _ _ _ (c.in_err-texts.was) c.from_residual.ensures.1 c.end_nodes.ensures.memory)

pub returns-in_err-texts-clause-mild : goal.returns-in_err-texts-clause-mild
returns-in_err-texts-clause-mild g c = λ w given wants tells k. no_text_mild _ _ _ (c.in_err-texts.was) c.from_residual.ensures.1 c.end_nodes.ensures.memory

pub returns-in_err-texts-clause-came : goal.returns-in_err-texts-clause-came
returns-in_err-texts-clause-came g c = came_no_text _ _ _ _ _ _ _ (c.in_err-texts.was) c.from_residual.ensures.1 c.end_nodes.ensures.memory

pub returns-clause-mild : goal.returns-clause-mild
returns-clause-mild g c = λ w given wants tells k. c.jobs_and_texts.ensures.mild w given (jobs_by _ _ _ _ _ c.in_ok-texts.ensures.nodes wants) tells k

pub returns-clause-came : goal.returns-clause-came
returns-clause-came g c = came_given run.Tree _ _ _ _ _ _ _ _ (λ w given tells wants k. jobs_by _ _ _ _ _ c.in_ok-texts.ensures.nodes wants) c.jobs_and_texts.ensures.came

pub returns-in_err-texts-clause-stays : goal.returns-in_err-texts-clause-stays
returns-in_err-texts-clause-stays g c = λ apart. mild_blames _ _ _ _ (no_text_mild _ _ _ (c.in_err-texts.was) c.from_residual.ensures.1 c.end_nodes.ensures.memory)
