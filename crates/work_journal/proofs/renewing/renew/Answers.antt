use Rattle.std.proofs.Common.{◌∙◌, sym, IsTrue}
use Rattle.work_texts.specs.declared.journal_err.JournalErr.TheVariants as run
use Rattle.work_journal.specs.Blames.{is_mild_run}
use Rattle.work_journal.proofs.GoesLaws.{came_passed, came_given}
use Rattle.work_journal.proofs.BlameLaws.{err_passed}
use Rattle.work_journal.proofs.FinishLaws.{came_no_text, no_text_mild, came_value}
use Rattle.work_journal.proofs.renewing.renew.Goals as goal

pub returns-in_err-node-clause-mild : goal.returns-in_err-node-clause-mild
returns-in_err-node-clause-mild g c = no_text_mild _ _ _ (c.in_err-node.was) c.from_residual.ensures.1 c.node_of.ensures.memory

pub returns-in_err-node-clause-came : goal.returns-in_err-node-clause-came
returns-in_err-node-clause-came g c = came_no_text _ _ _ _ _ _ _ (c.in_err-node.was) c.from_residual.ensures.1 c.node_of.ensures.memory

pub returns-in_err-put_node_over-clause-mild : goal.returns-in_err-put_node_over-clause-mild
returns-in_err-put_node_over-clause-mild g c = err_passed _ _ _ (λ e. IsTrue (is_mild_run e)) (c.in_err-put_node_over.was) c.from_residual-in_err-put_node_over.ensures.1 c.put_node_over.ensures.mild

pub returns-in_err-put_node_over-clause-came : goal.returns-in_err-put_node_over-clause-came
returns-in_err-put_node_over-clause-came g c = came_passed run.Tree _ _ _ _ _ _ _ _ _ _ (c.in_err-put_node_over.was) c.from_residual-in_err-put_node_over.ensures.1
    (came_given run.Tree _ _ _ _ _ _ _ _ (λ w given tells is k. is ∙ sym c.in_ok-node.ensures.node) c.put_node_over.ensures.came)

pub returns-clause-came : goal.returns-clause-came
returns-clause-came g c = came_value _ _ _ _ _ _ _ _ _ (c.in_ok-put_node_over.was)
    (came_given run.Tree _ _ _ _ _ _ _ _ (λ w given tells is k. is ∙ sym c.in_ok-node.ensures.node) c.put_node_over.ensures.came)
