use Rattle.std.proofs.Common.{◌∙◌, sym, subst, IsTrue}
use Rattle.file_tree.specs.declared.node.Node.{Node}
use Rattle.work_journal.specs.Settling.{HasPlanAlone}
use Rattle.work_texts.specs.declared.journal_err.JournalErr.TheVariants as run
use Rattle.work_journal.specs.Blames.{is_mild_run}
use Rattle.work_journal.proofs.GoesLaws.{came_passed, came_given}
use Rattle.work_journal.proofs.BlameLaws.{err_passed}
use Rattle.work_journal.proofs.FinishLaws.{came_no_text, no_text_mild, came_value}
use Rattle.work_journal.proofs.planning.commit_plan.Goals as goal

pub returns-in_err-node-clause-mild : goal.returns-in_err-node-clause-mild
returns-in_err-node-clause-mild g c = no_text_mild _ _ _ (c.in_err-node.was) c.from_residual.ensures.1 c.node_of.ensures.memory

pub returns-in_err-node-clause-came : goal.returns-in_err-node-clause-came
returns-in_err-node-clause-came g c = came_no_text _ _ _ _ _ _ _ (c.in_err-node.was) c.from_residual.ensures.1 c.node_of.ensures.memory

pub returns-in_err-put_node-clause-mild : goal.returns-in_err-put_node-clause-mild
returns-in_err-put_node-clause-mild g c = err_passed _ _ _ (λ e. IsTrue (is_mild_run e)) (c.in_err-put_node.was) c.from_residual-in_err-put_node.ensures.1 c.put_node.ensures.mild

pub returns-in_err-put_node-clause-came : goal.returns-in_err-put_node-clause-came
returns-in_err-put_node-clause-came g c = came_passed run.Tree _ _ _ _ _ _ _ _ _ _ (c.in_err-put_node.was) c.from_residual-in_err-put_node.ensures.1
    (came_given run.Tree _ _ _ _ _ _ _ _ (λ w given tells is k. is ∙ sym c.in_ok-node.ensures.node) c.put_node.ensures.came)

pub returns-clause-came : goal.returns-clause-came
returns-clause-came g c = came_value _ _ _ _ _ _ _ _ _ (c.in_ok-put_node.was)
    (came_given run.Tree _ _ _ _ _ _ _ _ (λ w given tells is k. is ∙ sym c.in_ok-node.ensures.node) c.put_node.ensures.came)

pub returns-clause-alone : goal.returns-clause-alone
returns-clause-alone g c = λ all. subst (λ (n : Node). HasPlanAlone c.args.work.now n (g.T.Tree.seen c.put_node.new.desk.tree.now)) c.in_ok-node.ensures.node (c.in_ok-put_node.ensures.alone all)
