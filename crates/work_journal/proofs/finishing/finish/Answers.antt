use Rattle.work_journal.proofs.FinishLaws.{finish_no_text, no_text_mild, mild_blames, run_by, finish_given}
use Rattle.work_journal.proofs.ClearLaws.{alone_named}
use Rattle.work_journal.proofs.finishing.finish.Goals as goal

pub returns-in_err-texts-clause-blame : goal.returns-in_err-texts-clause-blame
returns-in_err-texts-clause-blame g c = mild_blames _ _ _ _ (no_text_mild _ _ _ (c.in_err-texts.was) c.from_residual.ensures.1 c.end_nodes.ensures.memory)

pub returns-in_err-texts-clause-mild : goal.returns-in_err-texts-clause-mild
returns-in_err-texts-clause-mild g c = λ w given wants tells k. no_text_mild _ _ _ (c.in_err-texts.was) c.from_residual.ensures.1 c.end_nodes.ensures.memory

pub returns-in_err-texts-clause-ran : goal.returns-in_err-texts-clause-ran
returns-in_err-texts-clause-ran g c = finish_no_text _ _ _ _ _ _ _ (c.in_err-texts.was) c.from_residual.ensures.1 c.end_nodes.ensures.memory

pub returns-clause-mild : goal.returns-clause-mild
returns-clause-mild g c = λ w given wants tells k. c.finish_over.ensures.mild w given (run_by _ _ _ _ _ _ _ c.text_node-plan.ensures.node c.in_ok-texts.ensures.nodes wants) tells k

pub returns-clause-ran : goal.returns-clause-ran
returns-clause-ran g c = finish_given _ _ _ _ _ _ _ (λ w wants. run_by _ _ _ _ _ _ _ c.text_node-plan.ensures.node c.in_ok-texts.ensures.nodes wants) c.finish_over.ensures.ran

pub returns-clause-alone : goal.returns-clause-alone
returns-clause-alone g c = λ phase tells. alone_named _ _ _ _ _ _ _ c.text_node-plan.ensures.node (c.finish_over.ensures.alone phase tells)

pub returns-in_err-texts-clause-stays : goal.returns-in_err-texts-clause-stays
returns-in_err-texts-clause-stays g c = λ apart. mild_blames _ _ _ _ (no_text_mild _ _ _ (c.in_err-texts.was) c.from_residual.ensures.1 c.end_nodes.ensures.memory)
